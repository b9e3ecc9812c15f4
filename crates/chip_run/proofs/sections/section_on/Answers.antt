use Rattle.std.proofs.Common.{ℕ, refl, ap, ◌∙◌, arith, List, [], ◌∷◌}
use Rattle.chip_run.proofs.Answered.{turn-room}
use Rattle.chip_run.proofs.Places.{section-at}
use Rattle.chip_run.proofs.sections.section_on.Goals as goal

pub invariant_of-locked : goal.invariant_of-locked
invariant_of-locked g c = (c.step_held.ensures.locked (c.locked.inside.book0.total ∷ c.locked.inside.book1.total ∷ c.locked.inside.book2.total ∷ c.locked.inside.book3.total ∷ c.locked.inside.book4.total ∷ []) (omega arith) refl c.locked.invariant.0, c.locked.invariant.1, c.locked.invariant.2, turn-room g.C.ChipSet.rules 0 c.locked.inside.parts _ c.step_held.result c.step_held.new.parts c.step_held.new.held c.step_held.ensures.turn ∙ c.locked.invariant.3)

pub returns-in-Some : goal.returns-in-Some
returns-in-Some g c =
    section-at g.C.ChipSet.rules c.args.chip 0 c.in-0.is _ c.args.locked.now c.locked.view_is _ c.args.helds.now c.helds.view_is c.in-Some.held c.step_held.new.held c.in-Some.is c.step_held.result _ _
    c.step_held.ensures.found c.step_held.ensures.turn (ap {B = List ℕ} (λ n. n ∷ c.locked.inside.book1.total ∷ c.locked.inside.book2.total ∷ c.locked.inside.book3.total ∷ c.locked.inside.book4.total ∷ []) c.step_held.ensures.total) refl

pub invariant_of-locked-in-1 : goal.invariant_of-locked-in-1
invariant_of-locked-in-1 g c = (c.step_held-in-1.ensures.locked (c.locked.inside.book0.total ∷ c.locked.inside.book1.total ∷ c.locked.inside.book2.total ∷ c.locked.inside.book3.total ∷ c.locked.inside.book4.total ∷ []) (omega arith) refl c.locked.invariant.0, c.locked.invariant.1, c.locked.invariant.2, turn-room g.C.ChipSet.rules 1 c.locked.inside.parts _ c.step_held-in-1.result c.step_held-in-1.new.parts c.step_held-in-1.new.held c.step_held-in-1.ensures.turn ∙ c.locked.invariant.3)

pub returns-in-Some-place1 : goal.returns-in-Some-place1
returns-in-Some-place1 g c =
    section-at g.C.ChipSet.rules c.args.chip 1 c.in-1.is _ c.args.locked.now c.locked.view_is _ c.args.helds.now c.helds.view_is c.in-Some-place1.held c.step_held-in-1.new.held c.in-Some-place1.is c.step_held-in-1.result _ _
    c.step_held-in-1.ensures.found c.step_held-in-1.ensures.turn (ap {B = List ℕ} (λ n. c.locked.inside.book0.total ∷ n ∷ c.locked.inside.book2.total ∷ c.locked.inside.book3.total ∷ c.locked.inside.book4.total ∷ []) c.step_held-in-1.ensures.total) refl

pub invariant_of-locked-in-2 : goal.invariant_of-locked-in-2
invariant_of-locked-in-2 g c = (c.step_held-in-2.ensures.locked (c.locked.inside.book0.total ∷ c.locked.inside.book1.total ∷ c.locked.inside.book2.total ∷ c.locked.inside.book3.total ∷ c.locked.inside.book4.total ∷ []) (omega arith) refl c.locked.invariant.0, c.locked.invariant.1, c.locked.invariant.2, turn-room g.C.ChipSet.rules 2 c.locked.inside.parts _ c.step_held-in-2.result c.step_held-in-2.new.parts c.step_held-in-2.new.held c.step_held-in-2.ensures.turn ∙ c.locked.invariant.3)

pub returns-in-Some-place2 : goal.returns-in-Some-place2
returns-in-Some-place2 g c =
    section-at g.C.ChipSet.rules c.args.chip 2 c.in-2.is _ c.args.locked.now c.locked.view_is _ c.args.helds.now c.helds.view_is c.in-Some-place2.held c.step_held-in-2.new.held c.in-Some-place2.is c.step_held-in-2.result _ _
    c.step_held-in-2.ensures.found c.step_held-in-2.ensures.turn (ap {B = List ℕ} (λ n. c.locked.inside.book0.total ∷ c.locked.inside.book1.total ∷ n ∷ c.locked.inside.book3.total ∷ c.locked.inside.book4.total ∷ []) c.step_held-in-2.ensures.total) refl

pub invariant_of-locked-in-3 : goal.invariant_of-locked-in-3
invariant_of-locked-in-3 g c = (c.step_held-in-3.ensures.locked (c.locked.inside.book0.total ∷ c.locked.inside.book1.total ∷ c.locked.inside.book2.total ∷ c.locked.inside.book3.total ∷ c.locked.inside.book4.total ∷ []) (omega arith) refl c.locked.invariant.0, c.locked.invariant.1, c.locked.invariant.2, turn-room g.C.ChipSet.rules 3 c.locked.inside.parts _ c.step_held-in-3.result c.step_held-in-3.new.parts c.step_held-in-3.new.held c.step_held-in-3.ensures.turn ∙ c.locked.invariant.3)

pub returns-in-Some-place3 : goal.returns-in-Some-place3
returns-in-Some-place3 g c =
    section-at g.C.ChipSet.rules c.args.chip 3 c.in-3.is _ c.args.locked.now c.locked.view_is _ c.args.helds.now c.helds.view_is c.in-Some-place3.held c.step_held-in-3.new.held c.in-Some-place3.is c.step_held-in-3.result _ _
    c.step_held-in-3.ensures.found c.step_held-in-3.ensures.turn (ap {B = List ℕ} (λ n. c.locked.inside.book0.total ∷ c.locked.inside.book1.total ∷ c.locked.inside.book2.total ∷ n ∷ c.locked.inside.book4.total ∷ []) c.step_held-in-3.ensures.total) refl

pub invariant_of-locked-in-4 : goal.invariant_of-locked-in-4
invariant_of-locked-in-4 g c = (c.step_held-in-4.ensures.locked (c.locked.inside.book0.total ∷ c.locked.inside.book1.total ∷ c.locked.inside.book2.total ∷ c.locked.inside.book3.total ∷ c.locked.inside.book4.total ∷ []) (omega arith) refl c.locked.invariant.0, c.locked.invariant.1, c.locked.invariant.2, turn-room g.C.ChipSet.rules 4 c.locked.inside.parts _ c.step_held-in-4.result c.step_held-in-4.new.parts c.step_held-in-4.new.held c.step_held-in-4.ensures.turn ∙ c.locked.invariant.3)

pub returns-in-Some-place4 : goal.returns-in-Some-place4
returns-in-Some-place4 g c =
    section-at g.C.ChipSet.rules c.args.chip 4 c.in-4.is _ c.args.locked.now c.locked.view_is _ c.args.helds.now c.helds.view_is c.in-Some-place4.held c.step_held-in-4.new.held c.in-Some-place4.is c.step_held-in-4.result _ _
    c.step_held-in-4.ensures.found c.step_held-in-4.ensures.turn (ap {B = List ℕ} (λ n. c.locked.inside.book0.total ∷ c.locked.inside.book1.total ∷ c.locked.inside.book2.total ∷ c.locked.inside.book3.total ∷ n ∷ []) c.step_held-in-4.ensures.total) refl
