-- The parts of the machine at power-on.
use Rattle.std.specs.Prelude.{ℕ, Bool, List, [], ◌∷◌}
use Rattle.md_word.specs.Clock as clock
use Rattle.md_word.specs.declared.key.Key.{Key}
use Rattle.m68k_chip.specs.States.{power_on}
use Rattle.z80_chip.specs.States as states80
use Rattle.vdp_chip.specs.RendererState as renderer_states
use Rattle.fm_chip.specs.Synth as fm_synths
use Rattle.psg_sound.specs.Synth.{at_power_on}
use Rattle.md_chips.specs.Assembled.{Assembly, chips_of}
use Rattle.md_chips.specs.declared.chips.Chip.{Chip}

-- each chip at power-on
abbrev pub first_parts : List ℕ → Bool → Assembly
first_parts cart pal = record {
  at = 0;
  main = record { cart = cart; state = power_on cart };
  sub = record { cart = cart; state = states80.power_on };
  renderer = renderer_states.at_power_on pal;
  fm = fm_synths.at_power_on;
  psg = at_power_on;
}

-- the five chips at power-on
abbrev pub first_chips : List ℕ → Bool → List Chip
first_chips cart pal = chips_of (first_parts cart pal)

-- each chip's bound is its key
abbrev pub first_bounds : List Key
first_bounds =
    record { cycle = 0; chip = 0 } ∷ record { cycle = 0; chip = 1 } ∷ record { cycle = 0; chip = 2 }
    ∷ record { cycle = clock.batch; chip = 3 } ∷ record { cycle = clock.batch; chip = 4 } ∷ []
