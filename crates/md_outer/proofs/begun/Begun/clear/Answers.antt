use Rattle.std.proofs.Common.{sym, ◌∙◌, []}
use Rattle.md_outer.proofs.HeldFiles.{over-write}
use Rattle.md_outer.specs.Begun.{begun_names}
use Rattle.md_outer.proofs.begun.Begun.clear.Goals as goal

pub returns-clause-files : goal.returns-clause-files
returns-clause-files c = λ name back at.
    let begun = c.args.self.now in
    over-write (begun_names begun) begun.buffers.items c.args.number c.clear.new.self name [] back begun.names.apart (sym begun.buffers.ok.0 ∙ begun.numbered) at c.clear.ensures.bytes
