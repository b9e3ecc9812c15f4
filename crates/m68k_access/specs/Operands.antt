-- The operands of an instruction: reading and writing where an addressing mode names.
-- M68000 Programmer's Reference Manual, section 2.2; the stack: section 2.8.
use Rattle.std.specs.Prelude.{ℕ, ◌+◌, ◌-◌, ◌%◌, ◌^◌, true, false}
use Rattle.md_word.specs.Fields.{address_of, merged, register_of, with_address, with_register}
use Rattle.md_word.specs.Width.{modulus_of}
use Rattle.md_word.specs.declared.mode.Mode.{Mode}
use Rattle.md_word.specs.declared.regs.Regs.{Regs}
use Rattle.md_word.specs.declared.size.Size.{Size}
use Rattle.md_word.specs.declared.size.Size.TheVariants.{Byte, Word, Long}
use Rattle.m68k_decode.specs.Ops.{moves_of}
use Rattle.m68k_ea.specs.Places.{place_of}
use Rattle.m68k_ea.specs.Steps.{stepped}
use Rattle.m68k_ea.specs.declared.places.Place.{Place}
use Rattle.m68k_ea.specs.declared.places.Place.TheVariants as places
use Rattle.m68k_access.specs.Actions.{Act, ◌>>=◌, give, odd, read, write}

-- an operand that was read, and the registers after it
pub record Operand : Type 0 where
  pub value : ℕ
  pub regs : Regs

-- how many accesses read or write a place once, at most
abbrev pub touches : Size → Place → ℕ
touches size (places.Register n) = 0
touches size (places.Memory at) = moves_of size
touches size (places.Immediate value) = 0
touches size (places.Odd at) = moves_of size

-- how many bytes an operand of this size has
abbrev pub bytes_of : Size → ℕ
bytes_of Byte = 1
bytes_of Word = 2
bytes_of Long = 4

-- the operand that is at a place
unfoldable pub fetch : Size → Place → Regs → Act ℕ
fetch size (places.Register n) regs = give (register_of regs n % modulus_of size)
fetch size (places.Memory at) regs = read size at
fetch size (places.Immediate value) regs = give value
fetch size (places.Odd at) regs = odd at true

-- a value of a size in a register, whose upper part stays
abbrev pub with_part : Size → ℕ → ℕ → Regs → Regs
with_part size n value regs = with_register regs n (merged size (register_of regs n) value)

-- a write to memory leaves the registers
unfoldable pub stored : Size → ℕ → ℕ → Regs → Act Regs
stored size at value regs = do
  written ← write size at value
  give regs

-- the registers after a write to a place
unfoldable pub put : Size → Place → ℕ → Regs → Act Regs
put size (places.Register n) value regs = give (with_part size n value regs)
put size (places.Memory at) value regs = stored size at value regs
put size (places.Immediate number) value regs = give regs
put size (places.Odd at) value regs = odd at false

-- the operand that a mode names, and the registers with (An)+ or −(An) moved
unfoldable pub load : Mode → Size → ℕ → Regs → Act Operand
load mode size pc regs = do
  value ← fetch size (place_of mode size regs pc) regs
  give (record { value = value; regs = stepped mode size regs })

-- the registers after a write where a mode names, with (An)+ or −(An) moved
unfoldable pub store : Mode → Size → ℕ → ℕ → Regs → Act Regs
store mode size value pc regs = put size (place_of mode size regs pc) value (stepped mode size regs)

-- the active stack pointer is A7
abbrev pub stack_of : Regs → ℕ
stack_of regs = address_of regs 7

-- the stack grows down: the pointer is lowered by the bytes of a value, which is written there
unfoldable pub push : Size → ℕ → Regs → Act Regs
push size value regs = do
  let to = (stack_of regs + 2 ^ 32 - bytes_of size) % 2 ^ 32
  written ← write size to value
  give (with_address regs 7 to)

-- the value that the pointer points to, and the pointer raised past it
unfoldable pub pull : Size → Regs → Act Operand
pull size regs = do
  value ← read size (stack_of regs)
  give (record { value = value; regs = with_address regs 7 ((stack_of regs + bytes_of size) % 2 ^ 32) })
