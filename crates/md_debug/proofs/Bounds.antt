-- The numbers of a line's command are within bounds.
use Rattle.std.proofs.Common.{◌≡◌, ℕ, ◌%◌, ◌^◌, ◌<◌, ◌≤◌, ◌&&◌, ◌==◌, Bool, true, false, nat_le, if◌then◌else◌, List, Option, Some, None, codes, bytes_eq, option_map, option_and_then, Ok, Err, refl, subst, arith}
use Rattle.std.specs.List.{list_all}
use Rattle.std.proofs.lemmas.Bool.Decides.{nat_tests}
use Rattle.debug_text.specs.Commands.{bare, following, command_of, even_place, is_seven_bit, number_in, numbered, place_in, read_by, within, word_in, word_of}
use Rattle.text_lines.specs.Digits.{decimal_of}
use Rattle.debug_text.specs.Numbers.{address_of}
use Rattle.debug_text.specs.declared.command.Command.{Command}
use Rattle.debug_text.specs.declared.command.Command.TheVariants.{Step, RunTo, Back, Regs, Mem, Dis, Trace, Report}
use Rattle.debug_text.specs.declared.command.Misread.TheVariants.{UnknownWord}
use Rattle.md_debug.specs.Sessions.{IsWithinBounds}
use Rattle.md_word.specs.Clock.{last_cycle}

-- what holds of each command that may be there
abbrev AllIn : Option Command → Type 0
AllIn None = Unit {0}
AllIn (Some command) = IsWithinBounds command

abbrev InRange : ℕ → ℕ → Option ℕ → Type 0
InRange low high None = Unit {0}
InRange low high (Some n) = (low ≤ n) × (n ≤ high)

range_of : (low high n : ℕ) → InRange low high (within low high n)
range_of low high n = by (nat_le low n && nat_le n high) refl where
  by : (b : Bool) → (nat_le low n && nat_le n high) ≡ b → InRange low high (if b then Some n else None)
  by true e = (low_is e, high_is e) where
    low_is : (nat_le low n && nat_le n high) ≡ true → low ≤ n
    low_is e = grind (arith, nat_tests)

    high_is : (nat_le low n && nat_le n high) ≡ true → n ≤ high
    high_is e = grind (arith, nat_tests)
  by false e = tt

range_in : (low high : ℕ) (o : Option ℕ) → InRange low high (option_and_then (within low high) o)
range_in low high None = tt
range_in low high (Some n) = range_of low high n

numbers_in : (low high : ℕ) (text : Option (List ℕ)) → InRange low high (number_in low high text)
numbers_in low high text = range_in low high (option_and_then decimal_of text)

abbrev IsPlace : Option (ℕ × ℕ) → Type 0
IsPlace None = Unit {0}
IsPlace (Some place) = (place.0 < 2 ^ 24) × (place.1 ≤ 256)

place_is : (word : Option ℕ) (count : Option ℕ) → InRange 1 256 count
    → IsPlace (option_and_then (λ at. option_map (λ count. (at, count)) count) (option_map (λ at. at % 16777216) word))
place_is None count range = tt
place_is (Some at) None range = tt
place_is (Some at) (Some count) range = (omega arith, range.1)

places_in : (text : Option (List ℕ)) → IsPlace (option_and_then place_in text)
places_in None = tt
places_in (Some text) = place_is (address_of (word_in text)) (number_in 1 256 (following text)) (numbers_in 1 256 (following text))

abbrev IsEven : Option (ℕ × ℕ) → Type 0
IsEven None = Unit {0}
IsEven (Some place) = (place.0 % 2 ≡ 0) × (place.0 < 2 ^ 24)

even_in : (o : Option (ℕ × ℕ)) → IsPlace o → IsEven (option_and_then even_place o)
even_in None is = tt
even_in (Some place) is = by (place.0 % 2 == 0) refl where
  by : (b : Bool) → (place.0 % 2 == 0) ≡ b → IsEven (if b then Some place else None)
  by true e = (even e, is.0) where
    even : (place.0 % 2 == 0) ≡ true → place.0 % 2 ≡ 0
    even e = grind (arith, nat_tests)
  by false e = tt

step_in : (o : Option ℕ) → AllIn (option_map Step o)
step_in None = tt
step_in (Some n) = tt

run_in : (o : Option ℕ) → InRange 0 last_cycle o → AllIn (option_map RunTo o)
run_in None range = tt
run_in (Some n) range = range.1

back_in : (high : ℕ) (o : Option ℕ) → InRange 1 high o → AllIn (option_map Back o)
back_in high None range = tt
back_in high (Some n) range = range.0

mem_in : (o : Option (ℕ × ℕ)) → IsPlace o → AllIn (option_map (λ place. Mem place.0 place.1) o)
mem_in None is = tt
mem_in (Some place) is = (is.0, omega (arith, is.1))

dis_in : (o : Option (ℕ × ℕ)) → IsEven o → AllIn (option_map (λ place. Dis place.0 place.1) o)
dis_in None is = tt
dis_in (Some place) is = is

trace_in : (o : Option ℕ) → AllIn (option_map Trace o)
trace_in None = tt
trace_in (Some n) = tt

bare_in : (command : Command) (text : Option (List ℕ)) → IsWithinBounds command → AllIn (bare command text)
bare_in command None is = is
bare_in command (Some text) is = tt

numbered_in : (o : Option Command) (command : Command) → AllIn o → numbered o ≡ Ok command → IsWithinBounds command
numbered_in None command is same = absurd cc
numbered_in (Some found) command is same =
    let here : found ≡ command = cc in
    subst IsWithinBounds here is

-- the words of the commands are tried in turn
chosen_in : (step run back regs mem dis trace report : Bool) (text : Option (List ℕ)) (command : Command)
    → read_by
    (if step then word_of (codes "step") else
    (if run then word_of (codes "run") else
    (if back then word_of (codes "back") else
    (if regs then word_of (codes "regs") else
    (if mem then word_of (codes "mem") else
    (if dis then word_of (codes "dis") else
    (if trace then word_of (codes "trace") else
    (if report then word_of (codes "report") else None)))))))) text ≡ Ok command
    → IsWithinBounds command
chosen_in true run back regs mem dis trace report text command same = numbered_in (option_map Step (number_in 1 1000000 text)) command (step_in (number_in 1 1000000 text)) same
chosen_in false true back regs mem dis trace report text command same =
    numbered_in (option_map RunTo (number_in 0 last_cycle text)) command (run_in (number_in 0 last_cycle text) (numbers_in 0 last_cycle text)) same
chosen_in false false true regs mem dis trace report text command same =
    numbered_in (option_map Back (number_in 1 18446744073709551615 text)) command
    (back_in 18446744073709551615 (number_in 1 18446744073709551615 text) (numbers_in 1 18446744073709551615 text)) same
chosen_in false false false true mem dis trace report text command same = numbered_in (bare Regs text) command (bare_in Regs text tt) same
chosen_in false false false false true dis trace report text command same =
    numbered_in (option_map (λ place. Mem place.0 place.1) (option_and_then place_in text)) command (mem_in (option_and_then place_in text) (places_in text)) same
chosen_in false false false false false true trace report text command same =
    numbered_in (option_map (λ place. Dis place.0 place.1) (option_and_then even_place (option_and_then place_in text))) command
    (dis_in (option_and_then even_place (option_and_then place_in text)) (even_in (option_and_then place_in text) (places_in text))) same
chosen_in false false false false false false true report text command same = numbered_in (option_map Trace (number_in 1 256 text)) command (trace_in (number_in 1 256 text)) same
chosen_in false false false false false false false true text command same = numbered_in (bare Report text) command (bare_in Report text tt) same
chosen_in false false false false false false false false text command same = absurd cc

pub bounds_of : (line : List ℕ) (command : Command) → command_of line ≡ Ok command → IsWithinBounds command
bounds_of line command same = by (list_all is_seven_bit line) same where
  by : (b : Bool) → (if b then read_by (word_of (word_in line)) (following line) else Err UnknownWord) ≡ Ok command → IsWithinBounds command
  by true same =
      chosen_in (bytes_eq (word_in line) (codes "step")) (bytes_eq (word_in line) (codes "run")) (bytes_eq (word_in line) (codes "back")) (bytes_eq (word_in line) (codes "regs"))
      (bytes_eq (word_in line) (codes "mem")) (bytes_eq (word_in line) (codes "dis")) (bytes_eq (word_in line) (codes "trace")) (bytes_eq (word_in line) (codes "report")) (following line) command same
  by false same = absurd cc
