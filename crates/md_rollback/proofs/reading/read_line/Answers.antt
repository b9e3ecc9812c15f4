use Rattle.std.proofs.Common.{sym}
use Rattle.md_rollback.proofs.Numerals.{no-text}
use Rattle.md_rollback.proofs.reading.read_line.Goals as goal

pub returns-in-Err : goal.returns-in-Err
returns-in-Err c = sym (no-text c.args.line.now c.in-Err.ensures.cases.0)
