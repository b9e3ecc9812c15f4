use mathlib.Core.Path.{fun_ext}
use Rattle.std.proofs.lemmas.Map.Text.{btree_map_updates_str}
use Rattle.md_asm.proofs.names.Names.define.Goals as goal

pub returns : goal.returns
returns c =
    fun_ext (λ other. btree_map_updates_str c.args.name.now c.args.self.now.values c.insert.new.self _ c.in_ok-insert.ensures.updates other)
