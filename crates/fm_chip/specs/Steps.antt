-- The steps of the phases of all channels.
use Rattle.std.specs.Prelude.{◌≡◌, ℕ, ◌^◌, ◌%◌, ◌<◌, List, length, All, slice_index_or}
use Rattle.fm_chip.specs.declared.steps.Steps.{Steps}
use Rattle.fm_chip.specs.Registers.{of_channel}
use Rattle.fm_chip.specs.Operators.{phase_step}

-- the steps of channel c at place q of vibrato's 32
unfoldable pub steps_of : List ℕ → ℕ → ℕ → Steps
steps_of registers q c =
    let depth = of_channel registers c 0xb4 % 8 in
    record {
      one = phase_step registers depth q c 0;
      two = phase_step registers depth q c 1;
      three = phase_step registers depth q c 2;
      four = phase_step registers depth q c 3;
    }

-- the bound of every step
pub record IsSmall (s : Steps) : Type 0 where
  pub one : s.one < 2 ^ 21
  pub two : s.two < 2 ^ 21
  pub three : s.three < 2 ^ 21
  pub four : s.four < 2 ^ 21

-- what stands for the steps of a channel outside the list
abbrev pub no_steps : Steps
no_steps = record { one = 0; two = 0; three = 0; four = 0 }

-- the steps of a channel by its number, 0 to 5
abbrev pub steps_at : List Steps → ℕ → Steps
steps_at channels c = slice_index_or channels c no_steps

-- these are the steps of all channels
pub record AreSteps (registers : List ℕ) (q : ℕ) (channels : List Steps) : Type 0 where
  pub six : length channels ≡ 6
  pub each : (c : ℕ) → c < 6 → steps_at channels c ≡ steps_of registers q c
  pub small : All IsSmall channels
