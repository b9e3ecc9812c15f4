use Rattle.md_top.proofs.finishing.finish_one.Goals as goal

pub returns-clause-answer : goal.returns-clause-answer
returns-clause-answer g c = λ command first before prepared. (c.finish_stage.ensures.answered command first before prepared).0

pub returns-clause-causes : goal.returns-clause-causes
returns-clause-causes g c = λ command first before prepared. (c.finish_stage.ensures.answered command first before prepared).1
