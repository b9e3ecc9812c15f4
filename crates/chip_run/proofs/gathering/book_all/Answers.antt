use Rattle.std.proofs.Common.{sym, subst, List, Option}
use Rattle.chip_run.specs.Held.{HeldValue}
use Rattle.chip_run.specs.Places.{AllFree}
use Rattle.chip_run.proofs.gathering.book_all.Goals as goal

pub book_one-requires-clause-free : goal.book_one-requires-clause-free
book_one-requires-clause-free g c =
    subst (λ (hs : List (Option (HeldValue g.row.C-Chip.Denot g.row.C-Pins.Denot))). AllFree hs) (sym c.loop-chip.invariant.0) c.requires.free
