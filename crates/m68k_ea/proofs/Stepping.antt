-- An address register holds what was put into it: so (An)+ and −(An) leave it beside the operand.
use Rattle.std.proofs.Common.{◌≡◌, ℕ, ◌+◌, ◌%◌, ◌^◌, ◌<◌, ◌-ℤ◌, ℤ, pos, ◌∙◌, Bool, true, false, nat_lt, length, refl, arith, get_or-set_same}
use Rattle.std.proofs.lemmas.Bool.Decides.{nat_tests}
use Rattle.std.proofs.lemmas.Int.{ints}
use Rattle.md_word.specs.Fields.{address_of, is_supervisor, with_address}
use Rattle.md_word.specs.declared.mode.Mode.{Mode}
use Rattle.md_word.specs.declared.regs.Regs.{Regs}
use Rattle.md_word.specs.declared.size.Size.{Size}
use Rattle.m68k_ea.specs.Addresses.{address_sum, step_of}
use Rattle.m68k_ea.specs.Steps.{PointsBeside, moved, stepped}

set_by_cases : (regs : Regs) (n v : ℕ) (low supervisor : Bool) → length regs.a ≡ 7 → nat_lt n 7 ≡ low → is_supervisor regs ≡ supervisor → address_of (with_address regs n v) n ≡ v
unfolding address_of with_address
set_by_cases regs n v true supervisor l low s =
    let within : n < length regs.a = grind (arith, nat_tests) in simp low (rw get_or-set_same)
set_by_cases regs n v false true l low s = simp (low, s)
set_by_cases regs n v false false l low s = simp (low, s)

address_set : (regs : Regs) (n v : ℕ) → length regs.a ≡ 7 → address_of (with_address regs n v) n ≡ v
address_set regs n v l = set_by_cases regs n v (nat_lt n 7) (is_supervisor regs) l refl refl

moved_holds : (regs : Regs) (n : ℕ) (by : ℤ) → length regs.a ≡ 7 → address_of (moved regs n by) n ≡ address_sum (pos (address_of regs n)) (pos 0) by
unfolding moved
moved_holds regs n by l = address_set regs n _ l

sum_up : (base by : ℕ) → address_sum (pos base) (pos 0) (pos by) ≡ (address_sum (pos base) (pos 0) (pos 0) + by) % 2 ^ 32
unfolding address_sum
sum_up base by = grind (arith, ints)

pub stepped_beside : (mode : Mode) (size : Size) (old new : Regs) → length old.a ≡ 7 → new ≡ stepped mode size old → PointsBeside mode size old new
stepped_beside mode size old new l e = record {
  past = λ n pc is.
      let this : new ≡ moved old n (pos (step_of size n)) = rw is at e in
      let holds = moved_holds old n (pos (step_of size n)) l in
      rw (this, is) (holds ∙ sum_up (address_of old n) (step_of size n));
  operand = λ n pc is.
      let this : new ≡ moved old n (pos 0 -ℤ pos (step_of size n)) = rw is at e in
      rw (this, is) (moved_holds old n (pos 0 -ℤ pos (step_of size n)) l);
}
