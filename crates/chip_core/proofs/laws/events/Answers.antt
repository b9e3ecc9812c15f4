use Rattle.std.proofs.Common.{length, ap, arith}
use Rattle.chip_core.proofs.Ends.{is_run_to}
use Rattle.chip_core.proofs.Keeps.{tidy-after, stands_move, stands_first, keys-later}
use Rattle.chip_core.proofs.Works.{entries-few, work-leads, work-within}
use Rattle.chip_core.proofs.laws.events.Goals as goal

pub returns-clause-first : goal.returns-clause-first
returns-clause-first g c = λ base t small ok. stands_first g.C.ChipSet.rules g.C.ChipSet.chip_ok g.C.ChipSet.shared_ok g.met.C.ChipSet.lawful base.machine ok t small base.bound

pub returns-clause-tidy : goal.returns-clause-tidy
returns-clause-tidy g c = λ s e tidy en. tidy-after g.C.ChipSet.rules g.C.ChipSet.chip_ok g.C.ChipSet.shared_ok g.met.C.ChipSet.lawful s tidy e en

pub returns-clause-stands : goal.returns-clause-stands
returns-clause-stands g c = λ base s t count e small ok tidy st en. stands_move g.C.ChipSet.rules g.C.ChipSet.chip_ok g.C.ChipSet.shared_ok g.met.C.ChipSet.lawful base.machine ok t small base.bound s tidy count st e en

pub returns-clause-ended : goal.returns-clause-ended
returns-clause-ended g c = λ base s t small ok tidy st quiet. is_run_to g.C.ChipSet.rules g.C.ChipSet.chip_ok g.C.ChipSet.shared_ok g.met.C.ChipSet.lawful base ok t small s tidy st quiet

pub returns-clause-entered : goal.returns-clause-entered
returns-clause-entered g c = λ base s t small ok st.
    let held = ap length st.1.prefix in
    let few = entries-few g.C.ChipSet.rules g.C.ChipSet.chip_ok g.C.ChipSet.shared_ok g.met.C.ChipSet.lawful t small base.machine ok st.1.accesses st.1.prefix_below in
    omega arith

pub returns-clause-later : goal.returns-clause-later
returns-clause-later g c = λ base s t from small ok st quiet i h.
    let later = keys-later g.C.ChipSet.rules g.C.ChipSet.chip_ok g.C.ChipSet.shared_ok g.met.C.ChipSet.lawful base ok t small s st i h in
    let first = quiet i h in
    omega arith

pub returns-clause-few : goal.returns-clause-few
returns-clause-few g c = λ s z t from list small tidy quiet leads.
    let fall = work-leads g.C.ChipSet.rules g.C.ChipSet.chip_ok g.C.ChipSet.shared_ok g.met.C.ChipSet.lawful t small s tidy list z leads in
    let most = work-within g.C.ChipSet.rules g.C.ChipSet.chip_ok g.C.ChipSet.shared_ok g.met.C.ChipSet.lawful t small s from quiet in
    omega arith
