use Rattle.std.proofs.Common.{◌≡◌, ◌<◌, slice_set, ap, sym, subst, ◌∙◌, arith, length, vec_capacity, length-set, MatchOption}
use Rattle.std.proofs.lemmas.List.{get_or_read}
use Rattle.chip_core.specs.Cores.{CoreValue, seen}
use Rattle.chip_core.specs.Events.{AreKeys, IsTidy}
use Rattle.chip_core.specs.Staying.{LeavesAll, Staying, StaysOn, StaysTo, Wakes}
use Rattle.chip_core.proofs.Lists.{core-tidy, core_value, tidy-core}
use Rattle.chip_core.proofs.Staying.{stay-seen, stays-on, staying_of, tidy-stayed, with_stay}
use Rattle.chip_core.proofs.scheduler.Core.stay.Given.{Over}
use Rattle.chip_core.proofs.scheduler.Core.stay.Goals as goal

-- the fields as they were, and as the code left them
abbrev before : (g : Over) → goal.After-self-2-1 g → CoreValue g.row.C-Chip.Denot g.row.C-Shared.Denot
before g c = core_value g.C.ChipSet.rules c.self.inside.shared c.self.inside.chips.items c.self.inside.bounds.items c.self.inside.journal.items (vec_capacity c.self.inside.journal)

abbrev came : (g : Over) → goal.After-self-2-1 g → Staying g.row.C-Chip.Denot g.row.C-Shared.Denot
came g c = record { chip = c.access_ahead-stay.new.chip; shared = c.access_ahead-stay.new.shared; journal = c.access_ahead-stay.new.journal.items }

abbrev now : (g : Over) → goal.After-self-2-1 g → CoreValue g.row.C-Chip.Denot g.row.C-Shared.Denot
now g c =
    core_value g.C.ChipSet.rules c.access_ahead-stay.new.shared (slice_set c.self.inside.chips.items c.args.chip c.access_ahead-stay.new.chip)
    (slice_set c.self.inside.bounds.items c.args.chip c.next-next.result.key) c.access_ahead-stay.new.journal.items (vec_capacity c.access_ahead-stay.new.journal)

inside : (g : Over) (c : goal.After-self-2-1 g) → c.args.chip < length c.self.inside.chips.items
inside g c = omega (arith, c.requires.access.inside, c.self.invariant.shape.chip_count)

keys : (g : Over) (c : goal.After-self-2-1 g) → AreKeys g.C.ChipSet.rules (seen g.C.ChipSet.rules (before g c)) g.C.ChipSet.rules.count
keys g c = subst (λ (v : CoreValue g.row.C-Chip.Denot g.row.C-Shared.Denot). AreKeys g.C.ChipSet.rules (seen g.C.ChipSet.rules v) g.C.ChipSet.rules.count) (sym c.self.view_is) c.requires.keys

tidy : (g : Over) (c : goal.After-self-2-1 g) → IsTidy g.C.ChipSet.rules g.C.ChipSet.chip_ok g.C.ChipSet.shared_ok (seen g.C.ChipSet.rules (before g c))
tidy g c = tidy-core g.C.ChipSet.rules g.C.ChipSet.chip_ok g.C.ChipSet.shared_ok (before g c) c.self.invariant

-- the chip that is held is that of the core
module _ (g : Over) (c : goal.After-self-2-1 g) where
  held : (P : Staying g.row.C-Chip.Denot g.row.C-Shared.Denot → Type 0) → P (record { chip = c.index_mut-held.result.now; shared = c.self.inside.shared; journal = c.self.inside.journal.items })
      → P (staying_of g.C.ChipSet.rules (seen g.C.ChipSet.rules (before g c)) c.args.chip)
  held P p =
      subst (λ x. P (record { chip = x; shared = c.self.inside.shared; journal = c.self.inside.journal.items }))
      (get_or_read c.self.inside.chips.items c.args.chip c.index_mut-held.result.now (inside g c) c.index_mut-held.ensures.value g.C.ChipSet.rules.blank) p

  to : StaysTo g.C.ChipSet.rules c.access_ahead-stay.result.events c.args.chip c.args.end.now (staying_of g.C.ChipSet.rules (seen g.C.ChipSet.rules (before g c)) c.args.chip) (came g c)
  to = held (λ a. StaysTo g.C.ChipSet.rules c.access_ahead-stay.result.events c.args.chip c.args.end.now a (came g c)) c.access_ahead-stay.ensures.stays

  left : seen g.C.ChipSet.rules (now g c) ≡ with_stay g.C.ChipSet.rules (seen g.C.ChipSet.rules (before g c)) c.args.chip (came g c)
  left =
      stay-seen g.C.ChipSet.rules c.self.inside.shared c.self.inside.chips.items c.self.inside.bounds.items c.self.inside.journal.items (vec_capacity c.self.inside.journal) c.args.chip (came g c) c.next-next.result.key
      (inside g c) (omega (arith, c.requires.access.inside, c.self.invariant.shape.bound_count)) (ap (λ n. n.key) c.next-next.ensures.value)

  stays : StaysOn g.C.ChipSet.rules c.args.end.now c.args.chip c.args.sleeper (seen g.C.ChipSet.rules (before g c)) (seen g.C.ChipSet.rules (now g c)) c.access_ahead-stay.result.woke
  stays =
      stays-on g.C.ChipSet.rules g.C.ChipSet.chip_ok g.C.ChipSet.shared_ok g.met.C.ChipSet.lawful (seen g.C.ChipSet.rules (before g c)) (tidy g c) c.args.chip c.requires.access.inside (keys g c c.args.chip c.requires.access.inside)
      c.args.end.now c.requires.time c.access_ahead-stay.result.events (came g c) to c.args.sleeper (seen g.C.ChipSet.rules (now g c)) c.access_ahead-stay.result.woke left
      (λ ne. held
      (λ a. MatchOption c.access_ahead-stay.result.woke (LeavesAll g.C.ChipSet.rules g.C.ChipSet.chip_ok g.C.ChipSet.shared_ok c.access_ahead-stay.result.events c.args.chip c.args.sleeper a)
      (Wakes g.C.ChipSet.rules g.C.ChipSet.chip_ok g.C.ChipSet.shared_ok c.access_ahead-stay.result.events c.args.chip c.args.sleeper a)) (c.access_ahead-stay.ensures.pins ne))

pub invariant_of-self : goal.invariant_of-self
invariant_of-self g c =
    core-tidy g.C.ChipSet.rules g.C.ChipSet.chip_ok g.C.ChipSet.shared_ok (now g c)
    (length-set c.self.inside.chips.items c.args.chip c.access_ahead-stay.new.chip ∙ c.self.invariant.shape.chip_count)
    (length-set c.self.inside.bounds.items c.args.chip c.next-next.result.key ∙ c.self.invariant.shape.bound_count)
    (subst (λ s. IsTidy g.C.ChipSet.rules g.C.ChipSet.chip_ok g.C.ChipSet.shared_ok s) (sym (left g c))
    (tidy-stayed g.C.ChipSet.rules g.C.ChipSet.chip_ok g.C.ChipSet.shared_ok g.met.C.ChipSet.lawful (seen g.C.ChipSet.rules (before g c)) (tidy g c) c.args.chip c.requires.access.inside (keys g c c.args.chip c.requires.access.inside)
    c.args.end.now c.requires.time c.access_ahead-stay.result.events (came g c) (to g c)))

pub returns-clause-stays : goal.returns-clause-stays
returns-clause-stays g c =
    subst (λ (v : CoreValue g.row.C-Chip.Denot g.row.C-Shared.Denot). StaysOn g.C.ChipSet.rules c.args.end.now c.args.chip c.args.sleeper (seen g.C.ChipSet.rules v) (seen g.C.ChipSet.rules (now g c)) c.access_ahead-stay.result.woke) c.self.view_is (stays g c)

pub returns-clause-core : goal.returns-clause-core
returns-clause-core g c = invariant_of-self g c
