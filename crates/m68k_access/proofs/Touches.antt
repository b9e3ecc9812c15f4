-- A place costs as many accesses as the mode that names it, and is at its address.
use Rattle.std.proofs.Common.{◌≡◌, ℕ, Bool, true, false, pos, refl, sym}
use Rattle.md_word.specs.declared.mode.Mode.{Mode}
use Rattle.md_word.specs.declared.mode.Mode.TheVariants.{Data, Address, Immediate}
use Rattle.md_word.specs.declared.regs.Regs.{Regs}
use Rattle.md_word.specs.declared.size.Size.{Size}
use Rattle.m68k_decode.specs.Ops.{moves_of, touches_of}
use Rattle.m68k_ea.specs.Addresses.{address_sum, effective_address}
use Rattle.m68k_ea.specs.Places.{is_misaligned, place_of, standing}
use Rattle.m68k_ea.specs.declared.places.Place.{Place}
use Rattle.m68k_ea.specs.declared.places.Place.TheVariants as places
use Rattle.m68k_access.specs.Operands.{touches}

standing-cases : (size : Size) (at : ℕ) (b : Bool) → is_misaligned size at ≡ b → touches size (standing size at) ≡ moves_of size
unfolding standing
standing-cases size at true e = rw e
standing-cases size at false e = rw e

in_memory : (size : Size) (at : ℕ) → touches size (standing size at) ≡ moves_of size
in_memory size at = standing-cases size at (is_misaligned size at) refl

pub touched : (mode : Mode) (size : Size) (regs : Regs) (pc : ℕ) → touches size (place_of mode size regs pc) ≡ touches_of size mode
touched (Data n) size regs pc = refl
touched (Address n) size regs pc = refl
touched (Immediate value) size regs pc = refl
touched mode size regs pc = in_memory size (effective_address mode size regs pc)

-- the address of a place in memory
abbrev pub named_by : Place → ℕ
named_by (places.Memory at) = at
named_by (places.Odd at) = at
named_by _ = 0

standing-named : (size : Size) (at : ℕ) (b : Bool) → is_misaligned size at ≡ b → named_by (standing size at) ≡ at
unfolding standing
standing-named size at true e = rw e
standing-named size at false e = rw e

no_address : address_sum (pos 0) (pos 0) (pos 0) ≡ 0
unfolding address_sum
no_address = refl

pub named : (mode : Mode) (size : Size) (regs : Regs) (pc : ℕ) → named_by (place_of mode size regs pc) ≡ effective_address mode size regs pc
named (Data n) size regs pc = sym no_address
named (Address n) size regs pc = sym no_address
named (Immediate value) size regs pc = sym no_address
named mode size regs pc =
    standing-named size (effective_address mode size regs pc) (is_misaligned size (effective_address mode size regs pc)) refl
