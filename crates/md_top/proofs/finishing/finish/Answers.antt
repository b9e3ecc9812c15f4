use Rattle.md_top.proofs.finishing.finish.Goals as goal

pub returns-then-number-gt1-clause-answer : goal.returns-then-number-gt1-clause-answer
returns-then-number-gt1-clause-answer g c = λ command first before prepared. (c.finish_stage.ensures.answered command first before prepared).0

pub returns-then-number-gt1-clause-causes : goal.returns-then-number-gt1-clause-causes
returns-then-number-gt1-clause-causes g c = λ command first before prepared. (c.finish_stage.ensures.answered command first before prepared).1
