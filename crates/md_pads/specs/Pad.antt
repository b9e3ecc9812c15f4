-- What a pad's port reads: the Genesis Technical Overview, on the control pads. What a six-button pad
-- reads by the falls of TH that it counts, and the cycles after which it forgets them, are this project's
-- profile.
use Rattle.std.specs.Prelude.{ℕ, ◌+◌, ◌*◌, ◌%◌, ◌==◌, nat_lt, Bool, true, false, not, ◌&&◌, List, [], ◌∷◌, fold, if◌then◌else◌}
use Rattle.std.specs.Int.{bit_at}
use Rattle.md_pads.specs.Buttons.{up, down, left, right, button_b, button_c, button_a, start, button_z, button_y, button_x, mode}

-- whether the bit at a place is 1
abbrev pub is_set : ℕ → ℕ → Bool
is_set number place = bit_at number place == 1

-- the level of a button's line: 0 while it is pressed
abbrev pub released : ℕ → ℕ → Bool
released word place = not (is_set word place)

-- a port: the last byte written to its data and to its control, the falls of TH that its pad counted, and
-- the cycle of the last of them
pub record Port : Type 0 where
  pub value : ℕ
  pub control : ℕ
  pub count : ℕ
  pub fall : ℕ

-- at power-on
abbrev pub cleared : Port
cleared = record { value = 0; control = 0; count = 0; fall = 0 }

-- whether TH is 1: the value's bit 6 where the control makes it an output, else 1
abbrev pub is_th_high : Port → Bool
is_th_high port = if is_set port.control 6 then is_set port.value 6 else true

-- for how many cycles a fall is remembered
abbrev pub memory : ℕ
memory = 80000

-- the count in force at a cycle
abbrev pub in_force : ℕ → Port → ℕ
in_force cycle port = if nat_lt cycle (port.fall + memory) then port.count else 0

-- the port after a write at a cycle, by whether TH was 1 before it: a fall of TH is counted, and the
-- fifth is the first again
abbrev pub counted : ℕ → Bool → Port → Port
counted cycle was_high port =
    if was_high && not (is_th_high port) then record port { count = 1 + in_force cycle port % 4; fall = cycle } else port

-- the port after a write of its value
abbrev pub value_written : ℕ → ℕ → Port → Port
value_written cycle value port = counted cycle (is_th_high port) (record port { value = value })

-- the port after a write of its control
abbrev pub control_written : ℕ → ℕ → Port → Port
control_written cycle value port = counted cycle (is_th_high port) (record port { control = value })

-- bits 6 to 0 of what the port reads, by the level of TH
abbrev pub lines : Bool → ℕ → List Bool
lines true word =
    true ∷ released word button_c ∷ released word button_b ∷ released word right ∷ released word left
    ∷ released word down ∷ released word up ∷ []
lines false word =
    false ∷ released word start ∷ released word button_a ∷ false ∷ false
    ∷ released word down ∷ released word up ∷ []

-- those of a six-button pad that counted three falls
abbrev pub third_lines : Bool → ℕ → List Bool
third_lines true word =
    true ∷ released word button_c ∷ released word button_b ∷ released word mode ∷ released word button_x
    ∷ released word button_y ∷ released word button_z ∷ []
third_lines false word = false ∷ released word start ∷ released word button_a ∷ false ∷ false ∷ false ∷ false ∷ []

-- those of a six-button pad that counted four
abbrev pub fourth_lines : Bool → ℕ → List Bool
fourth_lines true word = lines true word
fourth_lines false word = false ∷ released word start ∷ released word button_a ∷ true ∷ true ∷ true ∷ true ∷ []

-- by whether the pad has six buttons, and the count in force
abbrev pub lines_by : Bool → ℕ → Bool → ℕ → List Bool
lines_by six count high word =
    if six && (count == 3) then third_lines high word
    else (if six && (count == 4) then fourth_lines high word else lines high word)

-- the number whose binary digits these are, the highest first
abbrev pub binary : List Bool → ℕ
binary digits = fold (λ number digit. 2 * number + (if digit then 1 else 0)) 0 digits

-- what the port reads at a cycle: bit 7 is the value latch's
abbrev pub pad_value : ℕ → Bool → Port → ℕ → ℕ
pad_value cycle six port word = binary (is_set port.value 7 ∷ lines_by six (in_force cycle port) (is_th_high port) word)
