use Rattle.std.proofs.Common.{lit<}
use Rattle.md_debug.proofs.Near.{not_before, within_line}
use Rattle.md_debug.proofs.laws.least_is_near.Goals as goal

pub returns-clause-late : goal.returns-clause-late
returns-clause-late c = not_before

pub returns-clause-near : goal.returns-clause-near
returns-clause-near c = λ start is. within_line start is (c.mover_is_first.ensures start.console 2 (lit< tt))
