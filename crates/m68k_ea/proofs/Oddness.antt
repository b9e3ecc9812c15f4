-- A place is odd for a word or long whose address is odd, and for no other operand.
use Rattle.std.proofs.Common.{◌≡◌, ◌≢◌, ℕ, ◌%◌, Bool, true, false, IsTrue, refl, arith}
use Rattle.std.proofs.lemmas.Bool.Decides.{nat_tests}
use Rattle.md_word.specs.declared.mode.Mode.{Mode}
use Rattle.md_word.specs.declared.mode.Mode.TheVariants.{Data, Address, Immediate}
use Rattle.md_word.specs.declared.regs.Regs.{Regs}
use Rattle.md_word.specs.declared.size.Size.{Size}
use Rattle.md_word.specs.declared.size.Size.TheVariants.{Byte, Word, Long}
use Rattle.m68k_ea.specs.declared.places.Place.{Place}
use Rattle.m68k_ea.specs.declared.places.Place.TheVariants as places
use Rattle.m68k_ea.specs.Addresses.{effective_address}
use Rattle.m68k_ea.specs.Places.{OddExactly, is_memory, is_misaligned, place_of, standing}

standing_aligned : (size : Size) (a : ℕ) → is_misaligned size a ≡ false → standing size a ≡ places.Memory a
unfolding standing
standing_aligned size a e = rw e

standing_odd : (size : Size) (a : ℕ) → is_misaligned size a ≡ true → standing size a ≡ places.Odd a
unfolding standing
standing_odd size a e = rw e

misaligned_larger : (size : Size) (a : ℕ) → is_misaligned size a ≡ true → size ≢ Byte
misaligned_larger Byte a e = λ s. cc
misaligned_larger Word a e = λ s. cc
misaligned_larger Long a e = λ s. cc

misaligned_odd : (size : Size) (a : ℕ) → is_misaligned size a ≡ true → a % 2 ≡ 1
misaligned_odd Byte a e = absurd (cc)
misaligned_odd Word a e = grind (arith, nat_tests)
misaligned_odd Long a e = grind (arith, nat_tests)

larger_odd_misaligned : (size : Size) (a : ℕ) → size ≢ Byte → a % 2 ≡ 1 → is_misaligned size a ≡ true
larger_odd_misaligned Byte a l o = absurd (l refl)
larger_odd_misaligned Word a l o = grind (arith, nat_tests)
larger_odd_misaligned Long a l o = grind (arith, nat_tests)

-- of an operand in memory
in_memory : (mode : Mode) (size : Size) (regs : Regs) (pc : ℕ) (place : Place) → IsTrue (is_memory mode) → place ≡ standing size (effective_address mode size regs pc) → (m : Bool) → is_misaligned size (effective_address mode size regs pc) ≡ m → OddExactly mode size regs pc place
in_memory mode size regs pc place memory e true m =
    let odd = standing_odd size (effective_address mode size regs pc) m in
    let parity = misaligned_odd size (effective_address mode size regs pc) m in
    record {
      found = λ at h.
          let same : at ≡ effective_address mode size regs pc = cc in
          record {
            memory = memory;
            address = same;
            larger = misaligned_larger size (effective_address mode size regs pc) m;
            odd = rw same parity;
          };
      only = λ at h. let same = h.address in cc;
    }
in_memory mode size regs pc place memory e false m =
    let aligned = standing_aligned size (effective_address mode size regs pc) m in
    record {
      found = λ at h. absurd (cc);
      only = λ at h.
          let parity : effective_address mode size regs pc % 2 ≡ 1 = rw h.address at h.odd in
          let misaligned = larger_odd_misaligned size (effective_address mode size regs pc) h.larger parity in
          absurd (cc);
    }

-- of an operand in a register or in the instruction
elsewhere : (mode : Mode) (size : Size) (regs : Regs) (pc : ℕ) (place : Place) → is_memory mode ≡ false → ((at : ℕ) → place ≢ places.Odd at) → OddExactly mode size regs pc place
elsewhere mode size regs pc place outside other = record {
  found = λ at h. absurd (other at h);
  only = λ at h. let memory : IsTrue (is_memory mode) = h.memory in absurd (cc);
}

pub oddness : (mode : Mode) (size : Size) (regs : Regs) (pc : ℕ) (place : Place) → place ≡ place_of mode size regs pc → OddExactly mode size regs pc place
oddness (Data n) size regs pc place e = elsewhere (Data n) size regs pc place refl (λ at h. cc)
oddness (Address n) size regs pc place e = elsewhere (Address n) size regs pc place refl (λ at h. cc)
oddness (Immediate value) size regs pc place e = elsewhere (Immediate value) size regs pc place refl (λ at h. cc)
oddness mode size regs pc place e = in_memory mode size regs pc place refl e (is_misaligned size (effective_address mode size regs pc)) refl
