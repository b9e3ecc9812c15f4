use Rattle.std.proofs.Common.{sym, subst, arith, [], ◌∷◌, vec_capacity, ap, ◌∙◌}
use Rattle.chip_core.specs.Chips.{Lawful}
use Rattle.chip_core.specs.Cores.{CoreValue}
use Rattle.chip_run.specs.Locked.{IsLocked, LockedValue}
use Rattle.chip_run.specs.Parts.{PartsValue}
use Rattle.chip_run.proofs.Books.{at-booked}
use Rattle.chip_run.proofs.Gathers.{gathered-first, gathered-room, gathered-run, gathered-shape}
use Rattle.chip_run.proofs.Rounds.{at-ended, at-free, at-some}
use Rattle.chip_run.proofs.gathering.gather.Given.{Over}
use Rattle.chip_run.proofs.gathering.gather.Goals as goal

lawful : (g : Over) → Lawful g.C.ChipSet.rules g.C.ChipSet.chip_ok g.C.ChipSet.shared_ok
lawful g = g.met.C.ChipSet.lawful

pub put_chip-requires-clause-free : goal.put_chip-requires-clause-free
put_chip-requires-clause-free g c = at-free (c.helds.inside.place0 ∷ c.helds.inside.place1 ∷ c.helds.inside.place2 ∷ c.helds.inside.place3 ∷ c.helds.inside.place4 ∷ []) c.args.helds (c.helds.view_is ∙ c.book_all.ensures.same) c.requires.free 0

pub put_chip-requires-clause-ended : goal.put_chip-requires-clause-ended
put_chip-requires-clause-ended g c = at-ended g.C.ChipSet.rules g.N.Named.end (c.helds.inside.place0 ∷ c.helds.inside.place1 ∷ c.helds.inside.place2 ∷ c.helds.inside.place3 ∷ c.helds.inside.place4 ∷ []) c.args.helds (c.helds.view_is ∙ c.book_all.ensures.same) 0 (c.requires.ended 0)

pub put_chip-requires-clause-there : goal.put_chip-requires-clause-there
put_chip-requires-clause-there g c = λ low. at-some (c.helds.inside.place0 ∷ c.helds.inside.place1 ∷ c.helds.inside.place2 ∷ c.helds.inside.place3 ∷ c.helds.inside.place4 ∷ []) c.args.helds (c.helds.view_is ∙ c.book_all.ensures.same) 0 (c.requires.held 0 low)

pub put_chip-requires-2-clause-free : goal.put_chip-requires-2-clause-free
put_chip-requires-2-clause-free g c = at-free (c.helds.inside.place0 ∷ c.helds.inside.place1 ∷ c.helds.inside.place2 ∷ c.helds.inside.place3 ∷ c.helds.inside.place4 ∷ []) c.args.helds (c.helds.view_is ∙ c.book_all.ensures.same) c.requires.free 1

pub put_chip-requires-2-clause-ended : goal.put_chip-requires-2-clause-ended
put_chip-requires-2-clause-ended g c = at-ended g.C.ChipSet.rules g.N.Named.end (c.helds.inside.place0 ∷ c.helds.inside.place1 ∷ c.helds.inside.place2 ∷ c.helds.inside.place3 ∷ c.helds.inside.place4 ∷ []) c.args.helds (c.helds.view_is ∙ c.book_all.ensures.same) 1 (c.requires.ended 1)

pub put_chip-requires-2-clause-there : goal.put_chip-requires-2-clause-there
put_chip-requires-2-clause-there g c = λ low. at-some (c.helds.inside.place0 ∷ c.helds.inside.place1 ∷ c.helds.inside.place2 ∷ c.helds.inside.place3 ∷ c.helds.inside.place4 ∷ []) c.args.helds (c.helds.view_is ∙ c.book_all.ensures.same) 1 (c.requires.held 1 low)

pub put_chip-requires-2-clause-room : goal.put_chip-requires-2-clause-room
put_chip-requires-2-clause-room g c = λ low.
    gathered-room g.C.ChipSet.rules g.C.ChipSet.chip_ok g.C.ChipSet.shared_ok (lawful g) c.locked.invariant.0.machine g.N.Named.end 1 (vec_capacity c.put_chip.new.chips) c.put_chip.new.chips.items (c.put_chip.ensures.gathered c.locked.invariant.0.machine (λ h. c.locked.invariant.0.stands.path 0 h) (gathered-first g.C.ChipSet.rules g.C.ChipSet.chip_ok g.C.ChipSet.shared_ok (lawful g) c.locked.invariant.0.machine g.N.Named.end c.locked.inside.emptied.items c.locked.invariant.1))
    (let enough = c.locked.invariant.2 in let e1 = c.put_chip.ensures.capacity in omega arith) low

pub put_chip-requires-3-clause-free : goal.put_chip-requires-3-clause-free
put_chip-requires-3-clause-free g c = at-free (c.helds.inside.place0 ∷ c.helds.inside.place1 ∷ c.helds.inside.place2 ∷ c.helds.inside.place3 ∷ c.helds.inside.place4 ∷ []) c.args.helds (c.helds.view_is ∙ c.book_all.ensures.same) c.requires.free 2

pub put_chip-requires-3-clause-ended : goal.put_chip-requires-3-clause-ended
put_chip-requires-3-clause-ended g c = at-ended g.C.ChipSet.rules g.N.Named.end (c.helds.inside.place0 ∷ c.helds.inside.place1 ∷ c.helds.inside.place2 ∷ c.helds.inside.place3 ∷ c.helds.inside.place4 ∷ []) c.args.helds (c.helds.view_is ∙ c.book_all.ensures.same) 2 (c.requires.ended 2)

pub put_chip-requires-3-clause-there : goal.put_chip-requires-3-clause-there
put_chip-requires-3-clause-there g c = λ low. at-some (c.helds.inside.place0 ∷ c.helds.inside.place1 ∷ c.helds.inside.place2 ∷ c.helds.inside.place3 ∷ c.helds.inside.place4 ∷ []) c.args.helds (c.helds.view_is ∙ c.book_all.ensures.same) 2 (c.requires.held 2 low)

pub put_chip-requires-3-clause-room : goal.put_chip-requires-3-clause-room
put_chip-requires-3-clause-room g c = λ low.
    gathered-room g.C.ChipSet.rules g.C.ChipSet.chip_ok g.C.ChipSet.shared_ok (lawful g) c.locked.invariant.0.machine g.N.Named.end 2 (vec_capacity c.put_chip-2.new.chips) c.put_chip-2.new.chips.items (c.put_chip-2.ensures.gathered c.locked.invariant.0.machine (λ h. c.locked.invariant.0.stands.path 1 h) (c.put_chip.ensures.gathered c.locked.invariant.0.machine (λ h. c.locked.invariant.0.stands.path 0 h) (gathered-first g.C.ChipSet.rules g.C.ChipSet.chip_ok g.C.ChipSet.shared_ok (lawful g) c.locked.invariant.0.machine g.N.Named.end c.locked.inside.emptied.items c.locked.invariant.1)))
    (let enough = c.locked.invariant.2 in let e1 = c.put_chip.ensures.capacity in let e2 = c.put_chip-2.ensures.capacity in omega arith) low

pub put_chip-requires-4-clause-free : goal.put_chip-requires-4-clause-free
put_chip-requires-4-clause-free g c = at-free (c.helds.inside.place0 ∷ c.helds.inside.place1 ∷ c.helds.inside.place2 ∷ c.helds.inside.place3 ∷ c.helds.inside.place4 ∷ []) c.args.helds (c.helds.view_is ∙ c.book_all.ensures.same) c.requires.free 3

pub put_chip-requires-4-clause-ended : goal.put_chip-requires-4-clause-ended
put_chip-requires-4-clause-ended g c = at-ended g.C.ChipSet.rules g.N.Named.end (c.helds.inside.place0 ∷ c.helds.inside.place1 ∷ c.helds.inside.place2 ∷ c.helds.inside.place3 ∷ c.helds.inside.place4 ∷ []) c.args.helds (c.helds.view_is ∙ c.book_all.ensures.same) 3 (c.requires.ended 3)

pub put_chip-requires-4-clause-there : goal.put_chip-requires-4-clause-there
put_chip-requires-4-clause-there g c = λ low. at-some (c.helds.inside.place0 ∷ c.helds.inside.place1 ∷ c.helds.inside.place2 ∷ c.helds.inside.place3 ∷ c.helds.inside.place4 ∷ []) c.args.helds (c.helds.view_is ∙ c.book_all.ensures.same) 3 (c.requires.held 3 low)

pub put_chip-requires-4-clause-room : goal.put_chip-requires-4-clause-room
put_chip-requires-4-clause-room g c = λ low.
    gathered-room g.C.ChipSet.rules g.C.ChipSet.chip_ok g.C.ChipSet.shared_ok (lawful g) c.locked.invariant.0.machine g.N.Named.end 3 (vec_capacity c.put_chip-3.new.chips) c.put_chip-3.new.chips.items (c.put_chip-3.ensures.gathered c.locked.invariant.0.machine (λ h. c.locked.invariant.0.stands.path 2 h) (c.put_chip-2.ensures.gathered c.locked.invariant.0.machine (λ h. c.locked.invariant.0.stands.path 1 h) (c.put_chip.ensures.gathered c.locked.invariant.0.machine (λ h. c.locked.invariant.0.stands.path 0 h) (gathered-first g.C.ChipSet.rules g.C.ChipSet.chip_ok g.C.ChipSet.shared_ok (lawful g) c.locked.invariant.0.machine g.N.Named.end c.locked.inside.emptied.items c.locked.invariant.1))))
    (let enough = c.locked.invariant.2 in let e1 = c.put_chip.ensures.capacity in let e2 = c.put_chip-2.ensures.capacity in let e3 = c.put_chip-3.ensures.capacity in omega arith) low

pub put_chip-requires-5-clause-free : goal.put_chip-requires-5-clause-free
put_chip-requires-5-clause-free g c = at-free (c.helds.inside.place0 ∷ c.helds.inside.place1 ∷ c.helds.inside.place2 ∷ c.helds.inside.place3 ∷ c.helds.inside.place4 ∷ []) c.args.helds (c.helds.view_is ∙ c.book_all.ensures.same) c.requires.free 4

pub put_chip-requires-5-clause-ended : goal.put_chip-requires-5-clause-ended
put_chip-requires-5-clause-ended g c = at-ended g.C.ChipSet.rules g.N.Named.end (c.helds.inside.place0 ∷ c.helds.inside.place1 ∷ c.helds.inside.place2 ∷ c.helds.inside.place3 ∷ c.helds.inside.place4 ∷ []) c.args.helds (c.helds.view_is ∙ c.book_all.ensures.same) 4 (c.requires.ended 4)

pub put_chip-requires-5-clause-there : goal.put_chip-requires-5-clause-there
put_chip-requires-5-clause-there g c = λ low. at-some (c.helds.inside.place0 ∷ c.helds.inside.place1 ∷ c.helds.inside.place2 ∷ c.helds.inside.place3 ∷ c.helds.inside.place4 ∷ []) c.args.helds (c.helds.view_is ∙ c.book_all.ensures.same) 4 (c.requires.held 4 low)

pub put_chip-requires-5-clause-room : goal.put_chip-requires-5-clause-room
put_chip-requires-5-clause-room g c = λ low.
    gathered-room g.C.ChipSet.rules g.C.ChipSet.chip_ok g.C.ChipSet.shared_ok (lawful g) c.locked.invariant.0.machine g.N.Named.end 4 (vec_capacity c.put_chip-4.new.chips) c.put_chip-4.new.chips.items (c.put_chip-4.ensures.gathered c.locked.invariant.0.machine (λ h. c.locked.invariant.0.stands.path 3 h) (c.put_chip-3.ensures.gathered c.locked.invariant.0.machine (λ h. c.locked.invariant.0.stands.path 2 h) (c.put_chip-2.ensures.gathered c.locked.invariant.0.machine (λ h. c.locked.invariant.0.stands.path 1 h) (c.put_chip.ensures.gathered c.locked.invariant.0.machine (λ h. c.locked.invariant.0.stands.path 0 h) (gathered-first g.C.ChipSet.rules g.C.ChipSet.chip_ok g.C.ChipSet.shared_ok (lawful g) c.locked.invariant.0.machine g.N.Named.end c.locked.inside.emptied.items c.locked.invariant.1)))))
    (let enough = c.locked.invariant.2 in let e1 = c.put_chip.ensures.capacity in let e2 = c.put_chip-2.ensures.capacity in let e3 = c.put_chip-3.ensures.capacity in let e4 = c.put_chip-4.ensures.capacity in omega arith) low

pub make-requires : goal.make-requires
make-requires g c = gathered-shape g.C.ChipSet.rules g.C.ChipSet.chip_ok g.C.ChipSet.shared_ok (lawful g) (g.C.ChipSet.core_of g.N.Named.base) g.N.Named.end (record { end = c.parts.inside.end; shared = c.parts.inside.shared; bounds = c.parts.inside.bounds.items; journal = c.parts.inside.journal.items; room = vec_capacity c.parts.inside.journal }) (c.locked.inside.book0.total ∷ c.locked.inside.book1.total ∷ c.locked.inside.book2.total ∷ c.locked.inside.book3.total ∷ c.locked.inside.book4.total ∷ []) (subst (λ (p : PartsValue g.row.C-Shared.Denot). IsLocked g.C.ChipSet.rules g.C.ChipSet.chip_ok g.C.ChipSet.shared_ok (g.C.ChipSet.core_of g.N.Named.base) g.N.Named.end p (c.locked.inside.book0.total ∷ c.locked.inside.book1.total ∷ c.locked.inside.book2.total ∷ c.locked.inside.book3.total ∷ c.locked.inside.book4.total ∷ [])) (sym c.parts.view_is) c.locked.invariant.0) c.put_chip-5.new.chips.items (c.put_chip-5.ensures.gathered (subst (λ (p : PartsValue g.row.C-Shared.Denot). IsLocked g.C.ChipSet.rules g.C.ChipSet.chip_ok g.C.ChipSet.shared_ok (g.C.ChipSet.core_of g.N.Named.base) g.N.Named.end p (c.locked.inside.book0.total ∷ c.locked.inside.book1.total ∷ c.locked.inside.book2.total ∷ c.locked.inside.book3.total ∷ c.locked.inside.book4.total ∷ [])) (sym c.parts.view_is) c.locked.invariant.0).machine (λ h. (subst (λ (p : PartsValue g.row.C-Shared.Denot). IsLocked g.C.ChipSet.rules g.C.ChipSet.chip_ok g.C.ChipSet.shared_ok (g.C.ChipSet.core_of g.N.Named.base) g.N.Named.end p (c.locked.inside.book0.total ∷ c.locked.inside.book1.total ∷ c.locked.inside.book2.total ∷ c.locked.inside.book3.total ∷ c.locked.inside.book4.total ∷ [])) (sym c.parts.view_is) c.locked.invariant.0).stands.path 4 h) (c.put_chip-4.ensures.gathered (subst (λ (p : PartsValue g.row.C-Shared.Denot). IsLocked g.C.ChipSet.rules g.C.ChipSet.chip_ok g.C.ChipSet.shared_ok (g.C.ChipSet.core_of g.N.Named.base) g.N.Named.end p (c.locked.inside.book0.total ∷ c.locked.inside.book1.total ∷ c.locked.inside.book2.total ∷ c.locked.inside.book3.total ∷ c.locked.inside.book4.total ∷ [])) (sym c.parts.view_is) c.locked.invariant.0).machine (λ h. (subst (λ (p : PartsValue g.row.C-Shared.Denot). IsLocked g.C.ChipSet.rules g.C.ChipSet.chip_ok g.C.ChipSet.shared_ok (g.C.ChipSet.core_of g.N.Named.base) g.N.Named.end p (c.locked.inside.book0.total ∷ c.locked.inside.book1.total ∷ c.locked.inside.book2.total ∷ c.locked.inside.book3.total ∷ c.locked.inside.book4.total ∷ [])) (sym c.parts.view_is) c.locked.invariant.0).stands.path 3 h) (c.put_chip-3.ensures.gathered (subst (λ (p : PartsValue g.row.C-Shared.Denot). IsLocked g.C.ChipSet.rules g.C.ChipSet.chip_ok g.C.ChipSet.shared_ok (g.C.ChipSet.core_of g.N.Named.base) g.N.Named.end p (c.locked.inside.book0.total ∷ c.locked.inside.book1.total ∷ c.locked.inside.book2.total ∷ c.locked.inside.book3.total ∷ c.locked.inside.book4.total ∷ [])) (sym c.parts.view_is) c.locked.invariant.0).machine (λ h. (subst (λ (p : PartsValue g.row.C-Shared.Denot). IsLocked g.C.ChipSet.rules g.C.ChipSet.chip_ok g.C.ChipSet.shared_ok (g.C.ChipSet.core_of g.N.Named.base) g.N.Named.end p (c.locked.inside.book0.total ∷ c.locked.inside.book1.total ∷ c.locked.inside.book2.total ∷ c.locked.inside.book3.total ∷ c.locked.inside.book4.total ∷ [])) (sym c.parts.view_is) c.locked.invariant.0).stands.path 2 h) (c.put_chip-2.ensures.gathered (subst (λ (p : PartsValue g.row.C-Shared.Denot). IsLocked g.C.ChipSet.rules g.C.ChipSet.chip_ok g.C.ChipSet.shared_ok (g.C.ChipSet.core_of g.N.Named.base) g.N.Named.end p (c.locked.inside.book0.total ∷ c.locked.inside.book1.total ∷ c.locked.inside.book2.total ∷ c.locked.inside.book3.total ∷ c.locked.inside.book4.total ∷ [])) (sym c.parts.view_is) c.locked.invariant.0).machine (λ h. (subst (λ (p : PartsValue g.row.C-Shared.Denot). IsLocked g.C.ChipSet.rules g.C.ChipSet.chip_ok g.C.ChipSet.shared_ok (g.C.ChipSet.core_of g.N.Named.base) g.N.Named.end p (c.locked.inside.book0.total ∷ c.locked.inside.book1.total ∷ c.locked.inside.book2.total ∷ c.locked.inside.book3.total ∷ c.locked.inside.book4.total ∷ [])) (sym c.parts.view_is) c.locked.invariant.0).stands.path 1 h) (c.put_chip.ensures.gathered (subst (λ (p : PartsValue g.row.C-Shared.Denot). IsLocked g.C.ChipSet.rules g.C.ChipSet.chip_ok g.C.ChipSet.shared_ok (g.C.ChipSet.core_of g.N.Named.base) g.N.Named.end p (c.locked.inside.book0.total ∷ c.locked.inside.book1.total ∷ c.locked.inside.book2.total ∷ c.locked.inside.book3.total ∷ c.locked.inside.book4.total ∷ [])) (sym c.parts.view_is) c.locked.invariant.0).machine (λ h. (subst (λ (p : PartsValue g.row.C-Shared.Denot). IsLocked g.C.ChipSet.rules g.C.ChipSet.chip_ok g.C.ChipSet.shared_ok (g.C.ChipSet.core_of g.N.Named.base) g.N.Named.end p (c.locked.inside.book0.total ∷ c.locked.inside.book1.total ∷ c.locked.inside.book2.total ∷ c.locked.inside.book3.total ∷ c.locked.inside.book4.total ∷ [])) (sym c.parts.view_is) c.locked.invariant.0).stands.path 0 h) (gathered-first g.C.ChipSet.rules g.C.ChipSet.chip_ok g.C.ChipSet.shared_ok (lawful g) (subst (λ (p : PartsValue g.row.C-Shared.Denot). IsLocked g.C.ChipSet.rules g.C.ChipSet.chip_ok g.C.ChipSet.shared_ok (g.C.ChipSet.core_of g.N.Named.base) g.N.Named.end p (c.locked.inside.book0.total ∷ c.locked.inside.book1.total ∷ c.locked.inside.book2.total ∷ c.locked.inside.book3.total ∷ c.locked.inside.book4.total ∷ [])) (sym c.parts.view_is) c.locked.invariant.0).machine g.N.Named.end c.locked.inside.emptied.items c.locked.invariant.1))))))

pub put_chip-requires-clause-booked : goal.put_chip-requires-clause-booked
put_chip-requires-clause-booked g c = at-booked (c.helds.inside.place0 ∷ c.helds.inside.place1 ∷ c.helds.inside.place2 ∷ c.helds.inside.place3 ∷ c.helds.inside.place4 ∷ []) c.args.helds (c.helds.view_is ∙ c.book_all.ensures.same) c.book_all.new.locked.counts (c.locked.inside.book0.total ∷ c.locked.inside.book1.total ∷ c.locked.inside.book2.total ∷ c.locked.inside.book3.total ∷ c.locked.inside.book4.total ∷ [])
    (ap (λ (l : LockedValue g.row.C-Shared.Denot). l.counts) (sym c.locked.view_is)) c.book_all.ensures.booked 0

pub put_chip-requires-2-clause-booked : goal.put_chip-requires-2-clause-booked
put_chip-requires-2-clause-booked g c = at-booked (c.helds.inside.place0 ∷ c.helds.inside.place1 ∷ c.helds.inside.place2 ∷ c.helds.inside.place3 ∷ c.helds.inside.place4 ∷ []) c.args.helds (c.helds.view_is ∙ c.book_all.ensures.same) c.book_all.new.locked.counts (c.locked.inside.book0.total ∷ c.locked.inside.book1.total ∷ c.locked.inside.book2.total ∷ c.locked.inside.book3.total ∷ c.locked.inside.book4.total ∷ [])
    (ap (λ (l : LockedValue g.row.C-Shared.Denot). l.counts) (sym c.locked.view_is)) c.book_all.ensures.booked 1

pub put_chip-requires-3-clause-booked : goal.put_chip-requires-3-clause-booked
put_chip-requires-3-clause-booked g c = at-booked (c.helds.inside.place0 ∷ c.helds.inside.place1 ∷ c.helds.inside.place2 ∷ c.helds.inside.place3 ∷ c.helds.inside.place4 ∷ []) c.args.helds (c.helds.view_is ∙ c.book_all.ensures.same) c.book_all.new.locked.counts (c.locked.inside.book0.total ∷ c.locked.inside.book1.total ∷ c.locked.inside.book2.total ∷ c.locked.inside.book3.total ∷ c.locked.inside.book4.total ∷ [])
    (ap (λ (l : LockedValue g.row.C-Shared.Denot). l.counts) (sym c.locked.view_is)) c.book_all.ensures.booked 2

pub put_chip-requires-4-clause-booked : goal.put_chip-requires-4-clause-booked
put_chip-requires-4-clause-booked g c = at-booked (c.helds.inside.place0 ∷ c.helds.inside.place1 ∷ c.helds.inside.place2 ∷ c.helds.inside.place3 ∷ c.helds.inside.place4 ∷ []) c.args.helds (c.helds.view_is ∙ c.book_all.ensures.same) c.book_all.new.locked.counts (c.locked.inside.book0.total ∷ c.locked.inside.book1.total ∷ c.locked.inside.book2.total ∷ c.locked.inside.book3.total ∷ c.locked.inside.book4.total ∷ [])
    (ap (λ (l : LockedValue g.row.C-Shared.Denot). l.counts) (sym c.locked.view_is)) c.book_all.ensures.booked 3

pub put_chip-requires-5-clause-booked : goal.put_chip-requires-5-clause-booked
put_chip-requires-5-clause-booked g c = at-booked (c.helds.inside.place0 ∷ c.helds.inside.place1 ∷ c.helds.inside.place2 ∷ c.helds.inside.place3 ∷ c.helds.inside.place4 ∷ []) c.args.helds (c.helds.view_is ∙ c.book_all.ensures.same) c.book_all.new.locked.counts (c.locked.inside.book0.total ∷ c.locked.inside.book1.total ∷ c.locked.inside.book2.total ∷ c.locked.inside.book3.total ∷ c.locked.inside.book4.total ∷ [])
    (ap (λ (l : LockedValue g.row.C-Shared.Denot). l.counts) (sym c.locked.view_is)) c.book_all.ensures.booked 4

pub returns-clause-run : goal.returns-clause-run
returns-clause-run g c = gathered-run g.C.ChipSet.rules g.C.ChipSet.chip_ok g.C.ChipSet.shared_ok (lawful g) (g.C.ChipSet.core_of g.N.Named.base) g.N.Named.end (record { end = c.parts.inside.end; shared = c.parts.inside.shared; bounds = c.parts.inside.bounds.items; journal = c.parts.inside.journal.items; room = vec_capacity c.parts.inside.journal }) (c.locked.inside.book0.total ∷ c.locked.inside.book1.total ∷ c.locked.inside.book2.total ∷ c.locked.inside.book3.total ∷ c.locked.inside.book4.total ∷ []) (subst (λ (p : PartsValue g.row.C-Shared.Denot). IsLocked g.C.ChipSet.rules g.C.ChipSet.chip_ok g.C.ChipSet.shared_ok (g.C.ChipSet.core_of g.N.Named.base) g.N.Named.end p (c.locked.inside.book0.total ∷ c.locked.inside.book1.total ∷ c.locked.inside.book2.total ∷ c.locked.inside.book3.total ∷ c.locked.inside.book4.total ∷ [])) (sym c.parts.view_is) c.locked.invariant.0) c.put_chip-5.new.chips.items (c.put_chip-5.ensures.gathered (subst (λ (p : PartsValue g.row.C-Shared.Denot). IsLocked g.C.ChipSet.rules g.C.ChipSet.chip_ok g.C.ChipSet.shared_ok (g.C.ChipSet.core_of g.N.Named.base) g.N.Named.end p (c.locked.inside.book0.total ∷ c.locked.inside.book1.total ∷ c.locked.inside.book2.total ∷ c.locked.inside.book3.total ∷ c.locked.inside.book4.total ∷ [])) (sym c.parts.view_is) c.locked.invariant.0).machine (λ h. (subst (λ (p : PartsValue g.row.C-Shared.Denot). IsLocked g.C.ChipSet.rules g.C.ChipSet.chip_ok g.C.ChipSet.shared_ok (g.C.ChipSet.core_of g.N.Named.base) g.N.Named.end p (c.locked.inside.book0.total ∷ c.locked.inside.book1.total ∷ c.locked.inside.book2.total ∷ c.locked.inside.book3.total ∷ c.locked.inside.book4.total ∷ [])) (sym c.parts.view_is) c.locked.invariant.0).stands.path 4 h) (c.put_chip-4.ensures.gathered (subst (λ (p : PartsValue g.row.C-Shared.Denot). IsLocked g.C.ChipSet.rules g.C.ChipSet.chip_ok g.C.ChipSet.shared_ok (g.C.ChipSet.core_of g.N.Named.base) g.N.Named.end p (c.locked.inside.book0.total ∷ c.locked.inside.book1.total ∷ c.locked.inside.book2.total ∷ c.locked.inside.book3.total ∷ c.locked.inside.book4.total ∷ [])) (sym c.parts.view_is) c.locked.invariant.0).machine (λ h. (subst (λ (p : PartsValue g.row.C-Shared.Denot). IsLocked g.C.ChipSet.rules g.C.ChipSet.chip_ok g.C.ChipSet.shared_ok (g.C.ChipSet.core_of g.N.Named.base) g.N.Named.end p (c.locked.inside.book0.total ∷ c.locked.inside.book1.total ∷ c.locked.inside.book2.total ∷ c.locked.inside.book3.total ∷ c.locked.inside.book4.total ∷ [])) (sym c.parts.view_is) c.locked.invariant.0).stands.path 3 h) (c.put_chip-3.ensures.gathered (subst (λ (p : PartsValue g.row.C-Shared.Denot). IsLocked g.C.ChipSet.rules g.C.ChipSet.chip_ok g.C.ChipSet.shared_ok (g.C.ChipSet.core_of g.N.Named.base) g.N.Named.end p (c.locked.inside.book0.total ∷ c.locked.inside.book1.total ∷ c.locked.inside.book2.total ∷ c.locked.inside.book3.total ∷ c.locked.inside.book4.total ∷ [])) (sym c.parts.view_is) c.locked.invariant.0).machine (λ h. (subst (λ (p : PartsValue g.row.C-Shared.Denot). IsLocked g.C.ChipSet.rules g.C.ChipSet.chip_ok g.C.ChipSet.shared_ok (g.C.ChipSet.core_of g.N.Named.base) g.N.Named.end p (c.locked.inside.book0.total ∷ c.locked.inside.book1.total ∷ c.locked.inside.book2.total ∷ c.locked.inside.book3.total ∷ c.locked.inside.book4.total ∷ [])) (sym c.parts.view_is) c.locked.invariant.0).stands.path 2 h) (c.put_chip-2.ensures.gathered (subst (λ (p : PartsValue g.row.C-Shared.Denot). IsLocked g.C.ChipSet.rules g.C.ChipSet.chip_ok g.C.ChipSet.shared_ok (g.C.ChipSet.core_of g.N.Named.base) g.N.Named.end p (c.locked.inside.book0.total ∷ c.locked.inside.book1.total ∷ c.locked.inside.book2.total ∷ c.locked.inside.book3.total ∷ c.locked.inside.book4.total ∷ [])) (sym c.parts.view_is) c.locked.invariant.0).machine (λ h. (subst (λ (p : PartsValue g.row.C-Shared.Denot). IsLocked g.C.ChipSet.rules g.C.ChipSet.chip_ok g.C.ChipSet.shared_ok (g.C.ChipSet.core_of g.N.Named.base) g.N.Named.end p (c.locked.inside.book0.total ∷ c.locked.inside.book1.total ∷ c.locked.inside.book2.total ∷ c.locked.inside.book3.total ∷ c.locked.inside.book4.total ∷ [])) (sym c.parts.view_is) c.locked.invariant.0).stands.path 1 h) (c.put_chip.ensures.gathered (subst (λ (p : PartsValue g.row.C-Shared.Denot). IsLocked g.C.ChipSet.rules g.C.ChipSet.chip_ok g.C.ChipSet.shared_ok (g.C.ChipSet.core_of g.N.Named.base) g.N.Named.end p (c.locked.inside.book0.total ∷ c.locked.inside.book1.total ∷ c.locked.inside.book2.total ∷ c.locked.inside.book3.total ∷ c.locked.inside.book4.total ∷ [])) (sym c.parts.view_is) c.locked.invariant.0).machine (λ h. (subst (λ (p : PartsValue g.row.C-Shared.Denot). IsLocked g.C.ChipSet.rules g.C.ChipSet.chip_ok g.C.ChipSet.shared_ok (g.C.ChipSet.core_of g.N.Named.base) g.N.Named.end p (c.locked.inside.book0.total ∷ c.locked.inside.book1.total ∷ c.locked.inside.book2.total ∷ c.locked.inside.book3.total ∷ c.locked.inside.book4.total ∷ [])) (sym c.parts.view_is) c.locked.invariant.0).stands.path 0 h) (gathered-first g.C.ChipSet.rules g.C.ChipSet.chip_ok g.C.ChipSet.shared_ok (lawful g) (subst (λ (p : PartsValue g.row.C-Shared.Denot). IsLocked g.C.ChipSet.rules g.C.ChipSet.chip_ok g.C.ChipSet.shared_ok (g.C.ChipSet.core_of g.N.Named.base) g.N.Named.end p (c.locked.inside.book0.total ∷ c.locked.inside.book1.total ∷ c.locked.inside.book2.total ∷ c.locked.inside.book3.total ∷ c.locked.inside.book4.total ∷ [])) (sym c.parts.view_is) c.locked.invariant.0).machine g.N.Named.end c.locked.inside.emptied.items c.locked.invariant.1)))))) c.make.result c.make.ensures

pub returns-clause-room : goal.returns-clause-room
returns-clause-room g c =
    ap (λ (v : CoreValue g.row.C-Chip.Denot g.row.C-Shared.Denot). v.room) c.make.ensures
    ∙ ap (λ (p : PartsValue g.row.C-Shared.Denot). p.room) c.parts.view_is ∙ c.locked.invariant.3
