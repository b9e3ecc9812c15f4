use Rattle.std.proofs.Common.{sym, ◌∙◌}
use Rattle.chip_core.specs.Machines.{key_of, mover}
use Rattle.chip_core.proofs.Keys.{rank-not_lt}
use Rattle.chip_core.proofs.Runs.{chip-at, run-valid}
use Rattle.chip_core.proofs.Stages.{mover-in, mover-least, number-small}
use Rattle.chip_core.proofs.laws.stages.Goals as goal

pub returns-clause-valid : goal.returns-clause-valid
returns-clause-valid g c = λ m t n small ok below. run-valid g.C.ChipSet.rules g.C.ChipSet.chip_ok g.C.ChipSet.shared_ok g.met.C.ChipSet.lawful m ok t small n below

pub returns-clause-mover : goal.returns-clause-mover
returns-clause-mover g c = mover-in g.C.ChipSet.rules g.C.ChipSet.chip_ok g.C.ChipSet.shared_ok g.met.C.ChipSet.lawful

pub returns-clause-least : goal.returns-clause-least
returns-clause-least g c = λ m i ok h.
    rank-not_lt (key_of g.C.ChipSet.rules m i) (key_of g.C.ChipSet.rules m (mover g.C.ChipSet.rules m))
    (number-small g.C.ChipSet.rules g.C.ChipSet.chip_ok g.C.ChipSet.shared_ok g.met.C.ChipSet.lawful m ok i h)
    (number-small g.C.ChipSet.rules g.C.ChipSet.chip_ok g.C.ChipSet.shared_ok g.met.C.ChipSet.lawful m ok (mover g.C.ChipSet.rules m) (mover-in g.C.ChipSet.rules g.C.ChipSet.chip_ok g.C.ChipSet.shared_ok g.met.C.ChipSet.lawful m))
    (mover-least g.C.ChipSet.rules g.C.ChipSet.chip_ok g.C.ChipSet.shared_ok g.met.C.ChipSet.lawful m ok i h)

pub returns-clause-once : goal.returns-clause-once
returns-clause-once g c = λ m t i n x y p q. p.is ∙ chip-at g.C.ChipSet.rules m i q.moves p.moves (p.made ∙ sym q.made) ∙ sym q.is
