use Rattle.md_disasm.proofs.Reports.{byte-reported, word-reported, long-reported}
use Rattle.md_disasm.proofs.laws.digits_are_reported.Goals as goal

pub returns-clause-byte : goal.returns-clause-byte
returns-clause-byte c = byte-reported

pub returns-clause-word : goal.returns-clause-word
returns-clause-word c = word-reported

pub returns-clause-long : goal.returns-clause-long
returns-clause-long c = long-reported
