use Rattle.std.proofs.Common.{refl, ◌∙◌, arith, [], ◌∷◌}
use Rattle.chip_run.proofs.Leads.{turned-place}
use Rattle.chip_run.proofs.Rounds.{at-free}
use Rattle.chip_run.proofs.leading.turn_on.Goals as goal

pub invariant_of-locked : goal.invariant_of-locked
invariant_of-locked g c = (c.turn_place.ensures.locked (c.locked.inside.book0.total ∷ c.locked.inside.book1.total ∷ c.locked.inside.book2.total ∷ c.locked.inside.book3.total ∷ c.locked.inside.book4.total ∷ []) (omega arith) refl c.locked.invariant.0, c.locked.invariant.1, c.locked.invariant.2, c.turn_place.ensures.room ∙ c.locked.invariant.3)

pub turn_place-requires-clause-free : goal.turn_place-requires-clause-free
turn_place-requires-clause-free g c = at-free _ c.args.helds.now c.helds.view_is c.requires.free 0

pub returns-in-0 : goal.returns-in-0
returns-in-0 g c = turned-place c.args.chip 0 c.in-0.is _ c.args.helds.now c.helds.view_is c.requires.free c.turn_place.result c.turn_place.new.place c.turn_place.ensures.free _ refl

pub invariant_of-locked-in-1 : goal.invariant_of-locked-in-1
invariant_of-locked-in-1 g c = (c.turn_place-in-1.ensures.locked (c.locked.inside.book0.total ∷ c.locked.inside.book1.total ∷ c.locked.inside.book2.total ∷ c.locked.inside.book3.total ∷ c.locked.inside.book4.total ∷ []) (omega arith) refl c.locked.invariant.0, c.locked.invariant.1, c.locked.invariant.2, c.turn_place-in-1.ensures.room ∙ c.locked.invariant.3)

pub turn_place-requires-in-1-clause-free : goal.turn_place-requires-in-1-clause-free
turn_place-requires-in-1-clause-free g c = at-free _ c.args.helds.now c.helds.view_is c.requires.free 1

pub returns-in-1 : goal.returns-in-1
returns-in-1 g c = turned-place c.args.chip 1 c.in-1.is _ c.args.helds.now c.helds.view_is c.requires.free c.turn_place-in-1.result c.turn_place-in-1.new.place c.turn_place-in-1.ensures.free _ refl

pub invariant_of-locked-in-2 : goal.invariant_of-locked-in-2
invariant_of-locked-in-2 g c = (c.turn_place-in-2.ensures.locked (c.locked.inside.book0.total ∷ c.locked.inside.book1.total ∷ c.locked.inside.book2.total ∷ c.locked.inside.book3.total ∷ c.locked.inside.book4.total ∷ []) (omega arith) refl c.locked.invariant.0, c.locked.invariant.1, c.locked.invariant.2, c.turn_place-in-2.ensures.room ∙ c.locked.invariant.3)

pub turn_place-requires-in-2-clause-free : goal.turn_place-requires-in-2-clause-free
turn_place-requires-in-2-clause-free g c = at-free _ c.args.helds.now c.helds.view_is c.requires.free 2

pub returns-in-2 : goal.returns-in-2
returns-in-2 g c = turned-place c.args.chip 2 c.in-2.is _ c.args.helds.now c.helds.view_is c.requires.free c.turn_place-in-2.result c.turn_place-in-2.new.place c.turn_place-in-2.ensures.free _ refl

pub invariant_of-locked-in-3 : goal.invariant_of-locked-in-3
invariant_of-locked-in-3 g c = (c.turn_place-in-3.ensures.locked (c.locked.inside.book0.total ∷ c.locked.inside.book1.total ∷ c.locked.inside.book2.total ∷ c.locked.inside.book3.total ∷ c.locked.inside.book4.total ∷ []) (omega arith) refl c.locked.invariant.0, c.locked.invariant.1, c.locked.invariant.2, c.turn_place-in-3.ensures.room ∙ c.locked.invariant.3)

pub turn_place-requires-in-3-clause-free : goal.turn_place-requires-in-3-clause-free
turn_place-requires-in-3-clause-free g c = at-free _ c.args.helds.now c.helds.view_is c.requires.free 3

pub returns-in-3 : goal.returns-in-3
returns-in-3 g c = turned-place c.args.chip 3 c.in-3.is _ c.args.helds.now c.helds.view_is c.requires.free c.turn_place-in-3.result c.turn_place-in-3.new.place c.turn_place-in-3.ensures.free _ refl

pub invariant_of-locked-in-4 : goal.invariant_of-locked-in-4
invariant_of-locked-in-4 g c = (c.turn_place-in-4.ensures.locked (c.locked.inside.book0.total ∷ c.locked.inside.book1.total ∷ c.locked.inside.book2.total ∷ c.locked.inside.book3.total ∷ c.locked.inside.book4.total ∷ []) (omega arith) refl c.locked.invariant.0, c.locked.invariant.1, c.locked.invariant.2, c.turn_place-in-4.ensures.room ∙ c.locked.invariant.3)

pub turn_place-requires-in-4-clause-free : goal.turn_place-requires-in-4-clause-free
turn_place-requires-in-4-clause-free g c = at-free _ c.args.helds.now c.helds.view_is c.requires.free 4

pub returns-in-4 : goal.returns-in-4
returns-in-4 g c = turned-place c.args.chip 4 c.in-4.is _ c.args.helds.now c.helds.view_is c.requires.free c.turn_place-in-4.result c.turn_place-in-4.new.place c.turn_place-in-4.ensures.free _ refl
