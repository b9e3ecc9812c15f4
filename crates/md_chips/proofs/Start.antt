-- The machine at power-on.
use Rattle.std.proofs.Common.{◌≡◌, ℕ, Bool, List, [], false, refl, lit≤}
use Rattle.std.specs.Prelude.{slice_index_or}
use Rattle.md_word.specs.Keys.{key_lt}
use Rattle.rom_header.specs.Cartridge.{IsImage}
use Rattle.chip_core.specs.Cores.{IsCore, IsShaped, machine_of, no_key}
use Rattle.m68k_chip.specs.States as states
use Rattle.m68k_chip.specs.States.{next_of}
use Rattle.vdp_chip.proofs.Lined.{renderer_state_begun}
use Rattle.z80_chip.proofs.Laws as laws80
use Rattle.z80_chip.specs.States as states80
use Rattle.z80_chip.specs.States.{next_of as sub_next_of}
use Rattle.m68k_chip.proofs.Laws.{power_on-ok}
use Rattle.md_chips.specs.Console.{power_on}
use Rattle.md_chips.specs.First.{first_bounds, first_chips}
use Rattle.md_chips.specs.Machines.{core_in}
use Rattle.bus_shared.specs.Board.{IsBoard}
use Rattle.bus_shared.proofs.Keeps as keeps
use Rattle.bus_shared.specs.Board as boards
use Rattle.md_pads.specs.Recording.{Recorded}
use Rattle.psg_sound.specs.SynthLaws.{IsSynth-at_power_on}
use Rattle.md_chips.specs.Refinement.{console_of}
use Rattle.md_chips.specs.Rules.{IsChip, five, next}
use Rattle.md_chips.proofs.Moves.{five-each}

pub first-shape : (cart : List ℕ) (pal : Bool) → IsShaped five (first_chips cart pal) first_bounds
unfolding next_of states.power_on sub_next_of states80.power_on
first-shape cart pal = record {
  chip_count = refl;
  bound_count = refl;
  number = five-each (λ i. (next (slice_index_or (first_chips cart pal) i five.blank)).key.chip ≡ i) refl refl refl refl refl;
  bound_number = five-each (λ i. (slice_index_or first_bounds i no_key).chip ≡ i) refl refl refl refl refl;
  under = five-each (λ i. key_lt (next (slice_index_or (first_chips cart pal) i five.blank)).key (slice_index_or first_bounds i no_key) ≡ false) refl refl refl refl refl;
}

pub first-is-core : (cart : List ℕ) (recording : Recorded) (pal : Bool) (room : ℕ) → IsImage cart → IsCore five IsChip IsBoard (core_in (boards.power_on recording pal) (first_chips cart pal) first_bounds [] room)
first-is-core cart recording pal room image = record {
  shape = first-shape cart pal;
  shared = keeps.power_on-ok recording pal;
  chip = five-each (λ i. IsChip (slice_index_or (first_chips cart pal) i five.blank)) (power_on-ok cart image) (laws80.power_on-ok cart image)
      (record { chip = renderer_state_begun pal; view = refl })
      (record { taken = lit≤ tt; samples = lit≤ tt })
      (record { synth = IsSynth-at_power_on; taken = lit≤ tt; samples = lit≤ tt });
}

pub first-console : (cart : List ℕ) (recording : Recorded) (pal : Bool) (room : ℕ) → console_of (machine_of five (core_in (boards.power_on recording pal) (first_chips cart pal) first_bounds [] room)) ≡ power_on cart recording pal
unfolding console_of
first-console cart recording pal room = refl
