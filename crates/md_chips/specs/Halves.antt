-- The two halves of an access: what the one under the lock leaves of a chip.
use Rattle.std.specs.Prelude.{◌≡◌, false}
use Rattle.z80_chip.specs.Events.{handed}
use Rattle.md_chips.specs.declared.chips.Chip.{Chip}
use Rattle.md_chips.specs.declared.chips.Chip.TheVariants.{Main, Sub, Renderer, Fm, Psg}

-- each field of a chip stays, but for what its request hands over: the Z80's RAM and bank register, and the view of
-- the drawing half. What it was answered is beside it
abbrev pub LeavesChip : Chip → Chip → Type 0
LeavesChip (Main old) (Main new) = new.chip ≡ old.chip
LeavesChip (Sub old) (Sub new) = new.chip ≡ record old.chip { state = handed old.chip.state }
LeavesChip (Renderer old) (Renderer new) = new.chip ≡ record old.chip { has_view = false }
LeavesChip (Fm old) (Fm new) = (new.synth ≡ old.synth) × (new.cycle ≡ old.cycle) × (new.samples ≡ old.samples)
LeavesChip (Psg old) (Psg new) = (new.synth ≡ old.synth) × (new.cycle ≡ old.cycle) × (new.samples ≡ old.samples)
LeavesChip old new = ⊥
