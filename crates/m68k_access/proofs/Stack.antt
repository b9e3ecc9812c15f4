-- The active stack pointer holds what was put into it.
use Rattle.std.proofs.Common.{◌≡◌, ℕ, Bool, true, false, refl}
use Rattle.md_word.specs.Fields.{address_of, is_supervisor, with_address}
use Rattle.md_word.specs.declared.regs.Regs.{Regs}

set_by_cases : (regs : Regs) (v : ℕ) (supervisor : Bool) → is_supervisor regs ≡ supervisor → address_of (with_address regs 7 v) 7 ≡ v
unfolding address_of with_address
set_by_cases regs v true s = simp s
set_by_cases regs v false s = simp s

pub stack_set : (regs : Regs) (v : ℕ) → address_of (with_address regs 7 v) 7 ≡ v
stack_set regs v = set_by_cases regs v (is_supervisor regs) refl
