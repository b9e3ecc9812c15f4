use Rattle.std.proofs.Common.{rules, string_bytes}
use Rattle.md_disasm.specs.Shown68.{shown68}
use Rattle.md_disasm.proofs.Lengths68.{text_short}
use Rattle.md_disasm.proofs.m68k.text68.Goals as goal

pub returns-clause-short : goal.returns-clause-short
returns-clause-short c =
    text_short (string_bytes c.put_row.new.text) (shown68 c.row_of.result) c.args.op.now.op c.args.at (search rules) c.row_of.ensures
