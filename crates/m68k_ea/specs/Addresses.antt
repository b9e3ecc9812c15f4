-- Effective addresses: sums of a base, an index and a displacement as whole numbers, modulo 2^32.
-- M68000 Programmer's Reference Manual, sections 2.2.1 to 2.2.18.
use Rattle.std.specs.Prelude.{ℕ, ℤ, pos, ◌%◌, ◌^◌, ◌+ℤ◌, ◌-ℤ◌, ◌==◌, Bool, true, false, if◌then◌else◌}
use Rattle.md_word.specs.Fields.{address_of, register_of}
use Rattle.md_word.specs.Width.{modulus_of, signed_of, word_of}
use Rattle.md_word.specs.declared.mode.Mode.{Mode}
use Rattle.md_word.specs.declared.mode.Mode.TheVariants.{AbsLong, AbsShort, Displaced, Indexed, Indirect, PcDisplaced, PcIndexed, PostInc, PreDec}
use Rattle.md_word.specs.declared.regs.Regs.{Regs}
use Rattle.md_word.specs.declared.size.Size.{Size}
use Rattle.md_word.specs.declared.size.Size.TheVariants.{Byte, Word, Long}

-- where an address begins: an address register, the program counter, or the address in the
-- instruction, of which a short one has its sign extended
abbrev pub base_of : Mode → Regs → ℕ → ℤ
base_of (Indirect n) regs pc = pos (address_of regs n)
base_of (PostInc n) regs pc = pos (address_of regs n)
base_of (PreDec n) regs pc = pos (address_of regs n)
base_of (Displaced n by) regs pc = pos (address_of regs n)
base_of (Indexed n index long by) regs pc = pos (address_of regs n)
base_of (AbsShort at) regs pc = signed_of Word at
base_of (AbsLong at) regs pc = pos at
base_of (PcDisplaced by) regs pc = pos pc
base_of (PcIndexed index long by) regs pc = pos pc
base_of _ regs pc = pos 0

-- how much of an index register counts
abbrev pub index_size : Bool → Size
index_size true = Long
index_size false = Word

-- what an index register adds: its low part of that size, in two's complement
unfoldable pub index_value : Regs → ℕ → Bool → ℤ
index_value regs index long =
    signed_of (index_size long) (register_of regs index % modulus_of (index_size long))

-- (Xn), in the modes that have one
abbrev pub index_of : Mode → Regs → ℤ
index_of (Indexed n index long by) regs = index_value regs index long
index_of (PcIndexed index long by) regs = index_value regs index long
index_of _ regs = pos 0

-- by how many bytes (An)+ and −(An) move their register: those of the operand; the stack pointer
-- stays at a word boundary, so there a byte takes 2
abbrev pub step_of : Size → ℕ → ℕ
step_of Byte n = if n == 7 then 2 else 1
step_of Word n = 2
step_of Long n = 4

-- d16, d8, and for −(An) the step down
abbrev pub displacement_of : Mode → Size → ℤ
displacement_of (PreDec n) size = pos 0 -ℤ pos (step_of size n)
displacement_of (Displaced n by) size = signed_of Word by
displacement_of (Indexed n index long by) size = signed_of Byte by
displacement_of (PcDisplaced by) size = signed_of Word by
displacement_of (PcIndexed index long by) size = signed_of Byte by
displacement_of _ size = pos 0

-- the parts together, as 32 bits
unfoldable pub address_sum : ℤ → ℤ → ℤ → ℕ
address_sum base index displacement = word_of (2 ^ 32) (base +ℤ index +ℤ displacement)

-- the address that a mode names; of registers and immediate data it means nothing
abbrev pub effective_address : Mode → Size → Regs → ℕ → ℕ
effective_address mode size regs pc =
    address_sum (base_of mode regs pc) (index_of mode regs) (displacement_of mode size)
