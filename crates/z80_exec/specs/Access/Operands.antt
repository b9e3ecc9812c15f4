-- The operands of an instruction: reading and writing where it names, and the stack.
-- Zilog UM0080, "Addressing Modes"; the stack: "8-Bit Load Group" and "16-Bit Load Group".
use Rattle.std.specs.Prelude.{ℕ, ◌+◌, ◌%◌, Option, Some, None}
use Rattle.z80_decode.specs.declared.place8.Place8.{Place8}
use Rattle.z80_decode.specs.declared.place8.Place8.TheVariants as places
use Rattle.z80_exec.specs.declared.regs80.Regs80.{Regs80}
use Rattle.z80_exec.specs.Access.Actions.{Act, ◌>>=◌, give, read, read_word, write}
use Rattle.z80_exec.specs.Access.Parts.{byte_of, displaced, down, high, low, with_byte}

-- the address of a place in memory
unfoldable pub address_of : Place8 → Regs80 → Option ℕ
address_of places.AtBc regs = Some regs.bc
address_of places.AtDe regs = Some regs.de
address_of places.AtHl regs = Some regs.hl
address_of (places.AtIx d) regs = Some (displaced regs.ix d)
address_of (places.AtIy d) regs = Some (displaced regs.iy d)
address_of (places.At nn) regs = Some nn
address_of _ regs = None

-- the byte at the address of a place in memory, else of the register, or the number
abbrev pub fetch_at : Option ℕ → Place8 → Regs80 → Act ℕ
fetch_at (Some at) place regs = read at
fetch_at None place regs = give (byte_of place regs)

-- the operand: the byte in memory, the register or the number
unfoldable pub fetch : Place8 → Regs80 → Act ℕ
fetch place regs = fetch_at (address_of place regs) place regs

-- a byte is written in memory, and the registers stay
unfoldable pub put_memory : ℕ → ℕ → Regs80 → Act Regs80
put_memory at value regs = do
  written ← write at value
  give regs

-- a byte is put at the address of a place in memory, else in the register
abbrev pub put_at : Option ℕ → Place8 → ℕ → Regs80 → Act Regs80
put_at (Some at) place value regs = put_memory at value regs
put_at None place value regs = give (with_byte place value regs)

-- the registers after a byte is put in its place
unfoldable pub put : Place8 → ℕ → Regs80 → Act Regs80
put place value regs = put_at (address_of place regs) place value regs

-- the stack grows down: the high byte is written below the pointer, and the low byte below that
unfoldable pub push : ℕ → Regs80 → Act Regs80
push value regs = do
  first ← write (down regs.sp) (high value)
  second ← write (down (down regs.sp)) (low value)
  give (record regs { sp = down (down regs.sp) })

-- a word from the stack, and the registers after it
pub record Popped : Type 0 where
  pub value : ℕ
  pub regs : Regs80

-- the low byte is read where the pointer points to, and the high byte above it
unfoldable pub pop : Regs80 → Act Popped
pop regs = do
  value ← read_word regs.sp
  give (record { value = value; regs = record regs { sp = (regs.sp + 2) % 0x1_0000 } })
