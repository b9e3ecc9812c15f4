-- A mode is of the class that its bits were found to be of.
use Rattle.std.proofs.Common.{◌≡◌, ℕ, ◌<◌, true, arith}
use Rattle.std.proofs.lemmas.Bool.Decides.{nat_tests}
use Rattle.md_word.specs.declared.mode.Mode.{Mode}
use Rattle.m68k_decode.specs.Addressing.{control, control_alterable_or_predecrement, control_or_postincrement}
use Rattle.m68k_decode.specs.Operands.{IsOf, number_of}

pub control-below : (n : ℕ) → control n ≡ true → n < 12
control-below n is = grind (arith, nat_tests)

pub control_kept : (mode : Mode) (n : ℕ) → (n < 12 → number_of mode ≡ n) → control n ≡ true → IsOf control mode
control_kept mode n same is = rw (same (control-below n is)) is

pub stores-below : (n : ℕ) → control_alterable_or_predecrement n ≡ true → n < 12
stores-below n is = grind (arith, nat_tests)

pub control_alterable_or_predecrement_kept : (mode : Mode) (n : ℕ) → (n < 12 → number_of mode ≡ n) → control_alterable_or_predecrement n ≡ true
    → IsOf control_alterable_or_predecrement mode
control_alterable_or_predecrement_kept mode n same is = rw (same (stores-below n is)) is

pub loads-below : (n : ℕ) → control_or_postincrement n ≡ true → n < 12
loads-below n is = grind (arith, nat_tests)

pub control_or_postincrement_kept : (mode : Mode) (n : ℕ) → (n < 12 → number_of mode ≡ n) → control_or_postincrement n ≡ true
    → IsOf control_or_postincrement mode
control_or_postincrement_kept mode n same is = rw (same (loads-below n is)) is
