use Rattle.std.proofs.Common.{arith}
use Rattle.chip_core.proofs.Works.{moves-spread, moves-few, entries-few, moves-within}
use Rattle.chip_core.proofs.laws.limits.Goals as goal

pub returns-clause-spread : goal.returns-clause-spread
returns-clause-spread g c = λ m t n i small ok below h. moves-spread g.C.ChipSet.rules g.C.ChipSet.chip_ok g.C.ChipSet.shared_ok g.met.C.ChipSet.lawful t small m ok n below i h

pub returns-clause-made : goal.returns-clause-made
returns-clause-made g c = λ m t n i small ok below h.
    let few = moves-few g.C.ChipSet.rules g.C.ChipSet.chip_ok g.C.ChipSet.shared_ok g.met.C.ChipSet.lawful t small m ok n below i h in
    omega arith

pub returns-clause-entered : goal.returns-clause-entered
returns-clause-entered g c = λ m t n small ok below.
    let few = entries-few g.C.ChipSet.rules g.C.ChipSet.chip_ok g.C.ChipSet.shared_ok g.met.C.ChipSet.lawful t small m ok n below in
    omega arith

pub returns-clause-within : goal.returns-clause-within
returns-clause-within g c = λ m from t small quiet. moves-within g.C.ChipSet.rules g.C.ChipSet.chip_ok g.C.ChipSet.shared_ok g.met.C.ChipSet.lawful t small m from quiet
