use Rattle.std.proofs.Common.{rules, string_bytes}
use Rattle.md_disasm.specs.Shown80.{shown80}
use Rattle.md_disasm.proofs.Lengths80.{text_short}
use Rattle.md_disasm.proofs.z80.text80.Goals as goal

pub returns-clause-short : goal.returns-clause-short
returns-clause-short c =
    text_short (string_bytes c.put_row.new.text) (shown80 c.row_of.result) c.args.op.now.op c.args.at (search rules) c.row_of.ensures
