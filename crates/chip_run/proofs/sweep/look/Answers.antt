use Rattle.std.proofs.Common.{sym, subst, List, Option}
use Rattle.chip_run.specs.Held.{HeldValue}
use Rattle.chip_run.specs.Places.{AllFree}
use Rattle.chip_run.proofs.sweep.look.Goals as goal

pub sweep-requires-in-Blocked-clause-free : goal.sweep-requires-in-Blocked-clause-free
sweep-requires-in-Blocked-clause-free g c =
    subst (λ (hs : List (Option (HeldValue g.row.C-Chip.Denot g.row.C-Pins.Denot))). AllFree hs) (sym c.in-Blocked.ensures.swept.0) c.requires.free

pub sweep-requires-in-Finished-clause-free : goal.sweep-requires-in-Finished-clause-free
sweep-requires-in-Finished-clause-free g c =
    subst (λ (hs : List (Option (HeldValue g.row.C-Chip.Denot g.row.C-Pins.Denot))). AllFree hs) (sym c.in-Finished.ensures.swept.0) c.requires.free
