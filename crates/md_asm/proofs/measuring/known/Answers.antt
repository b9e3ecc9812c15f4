use Rattle.std.proofs.Common.{◌∙◌, ap, map, sym}
use Rattle.md_asm_text.specs.Shown.{shown}
use Rattle.md_asm.specs.SeenCodes.{settled_seen}
use Rattle.md_asm.proofs.Slots.{settles_without_names}
use Rattle.md_asm.proofs.measuring.known.Goals as goal

pub returns-in-Good : goal.returns-in-Good
returns-in-Good c =
    settles_without_names c.args.z80 c.args.body c.args.long (map shown c.args.tokens.now) c.args.at c.in-Good.bytes.items
    (sym c.has_name.ensures ∙ c.if-has_name.false) (sym c.in_ok-bytes.ensures ∙ ap settled_seen c.in-Good.is)
