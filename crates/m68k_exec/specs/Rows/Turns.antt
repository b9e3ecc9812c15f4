-- MOVEM's turns, one for each bit of its list.
use Rattle.std.specs.Prelude.{ℕ, ◌%◌, Bool, true, false}
use Rattle.md_word.specs.Fields.{register_of, with_register}
use Rattle.md_word.specs.Width.{extended, modulus_of}
use Rattle.md_word.specs.declared.regs.Regs.{Regs}
use Rattle.md_word.specs.declared.size.Size.{Size}
use Rattle.m68k_access.specs.Actions.{Act, ◌>>=◌, give, read, write}
use Rattle.m68k_exec.specs.Rows.Movem.{Loaded, named, next_address, place_at}
use Rattle.m68k_exec.specs.declared.rows.movem.Order.{Order}
use Rattle.m68k_exec.specs.declared.rows.movem.Order.TheVariants.{Rising}

-- the register that a bit names is written; gives the next address
unfoldable pub store_one : Order → Size → ℕ → ℕ → Regs → Act ℕ
store_one order size place at regs = do
  written ← write size (place_at order size at) (register_of regs (named order place) % modulus_of size)
  give (next_address order size at)

-- by whether the bit is set: else nothing is written, and the address stays
abbrev pub store_turn : Order → Size → Bool → ℕ → ℕ → Regs → Act ℕ
store_turn order size true place at regs = store_one order size place at regs
store_turn order size false place at regs = give at

-- the register that a bit names is read, a word with its sign extended; with the next address
unfoldable pub load_one : Size → ℕ → ℕ → Regs → Act Loaded
load_one size place at regs = do
  value ← read size at
  give (record { address = next_address Rising size at; regs = with_register regs place (extended size value) })

-- by whether the bit is set: else nothing is read, and the address stays
abbrev pub load_turn : Size → Bool → ℕ → ℕ → Regs → Act Loaded
load_turn size true place at regs = load_one size place at regs
load_turn size false place at regs = give (record { address = at; regs = regs })
