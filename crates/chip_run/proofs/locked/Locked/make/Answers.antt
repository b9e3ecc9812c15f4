use Rattle.std.proofs.Common.{ap, sym, ◌∙◌, arith, vec_capacity}
use Rattle.chip_core.specs.Chips.{Lawful}
use Rattle.chip_core.specs.Cores.{CoreValue}
use Rattle.chip_run.proofs.Makes.{locked-first, no-amounts, remains-empty}
use Rattle.chip_run.proofs.locked.Locked.make.Given.{Over}
use Rattle.chip_run.proofs.locked.Locked.make.Goals as goal

lawful : (g : Over) → Lawful g.C.ChipSet.rules g.C.ChipSet.chip_ok g.C.ChipSet.shared_ok
lawful g = g.met.C.ChipSet.lawful

pub invariant_of-locked : goal.invariant_of-locked
invariant_of-locked g c = (
  locked-first g.C.ChipSet.rules g.C.ChipSet.chip_ok g.C.ChipSet.shared_ok (lawful g) c.args.core
      (record { shared = c.into_parts-shared.result.0; chips = c.into_parts-shared.result.1.items; bounds = c.into_parts-shared.result.2.items; journal = c.into_parts-shared.result.3.items; room = vec_capacity c.into_parts-shared.result.3 })
      (g.C.ChipSet.core_of g.N.Named.base) c.into_parts-shared.ensures.parts c.into_parts-shared.ensures.core c.args.t g.N.Named.end c.requires.end c.requires.time c.requires.empty c.requires.room c.requires.base _
      (no-amounts c.open-book0.result.0.total c.open-book1.result.0.total c.open-book2.result.0.total c.open-book3.result.0.total c.open-book4.result.0.total c.open-book0.ensures.total c.open-book1.ensures.total c.open-book2.ensures.total c.open-book3.ensures.total c.open-book4.ensures.total),
  remains-empty g.C.ChipSet.rules (g.C.ChipSet.core_of g.N.Named.base) c.hold-place0.new.chips.items c.hold-place0.ensures.left,
  (let a = c.hold-place4.ensures.capacity in let b = c.hold-place3.ensures.capacity in let d = c.hold-place2.ensures.capacity in let e = c.hold-place1.ensures.capacity in let f = c.hold-place0.ensures.capacity in let n = c.into_parts-shared.ensures.shaped.chip_count in omega arith),
  sym (c.requires.places ∙ ap (λ (v : CoreValue g.row.C-Chip.Denot g.row.C-Shared.Denot). v.room) c.into_parts-shared.ensures.parts),
)
