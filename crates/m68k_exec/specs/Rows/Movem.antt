-- MOVEM, of words and longs. M68000 Programmer's Reference Manual, section 4.
use Rattle.std.specs.Prelude.{◌≡◌, ℕ, zero, suc, ◌+◌, ◌-◌, ◌*◌, ◌/◌, ◌%◌, ◌^◌, ◌==◌, Result, Ok, Err, true, false, if◌then◌else◌, List, [], ◌∷◌}
use Rattle.std.specs.Int.RustNames.{count_ones}
use Rattle.md_word.specs.Fields.{address_of, register_of, with_address, with_register}
use Rattle.md_word.specs.Width.{extended, modulus_of}
use Rattle.md_word.specs.declared.mode.Mode.{Mode}
use Rattle.md_word.specs.declared.mode.Mode.TheVariants.{PostInc, PreDec}
use Rattle.md_word.specs.declared.regs.Regs.{Regs}
use Rattle.md_word.specs.declared.size.Size.{Size}
use Rattle.m68k_decode.specs.Ops.{moves_of}
use Rattle.m68k_ea.specs.Addresses.{effective_address}
use Rattle.m68k_access.specs.Actions.{Act, ◌>>=◌, give, is_odd, odd, read, write}
use Rattle.m68k_access.specs.Outcomes.{Outcome, plain}
use Rattle.m68k_access.specs.Shapes.{following}
use Rattle.m68k_access.specs.declared.stop.Stop.{Stop}
use Rattle.md_word.specs.Answers.{Done}
use Rattle.m68k_exec.specs.declared.rows.movem.Order.{Order}
use Rattle.m68k_exec.specs.declared.rows.movem.Order.TheVariants.{Rising, Falling}

-- what was loaded: the address past the last register, and the registers
pub record Loaded : Type 0 where
  pub address : ℕ
  pub regs : Regs

-- what a call means that loads registers in place, and gives the address that is reached: what it left
-- counts where it ends well
abbrev pub Reaches : Result ℕ Stop → Regs → Done → Result (Loaded × Done) Stop → Type 0
Reaches (Ok x) regs after meaning = meaning ≡ Ok (record { address = x; regs = regs }, after)
Reaches (Err stop) regs after meaning = meaning ≡ Err stop

-- the places of the bits that are set among so many, the lowest first; the lowest place is n
abbrev pub places : ℕ → ℕ → ℕ → List ℕ
places zero list n = []
places (suc count) list n =
    if list % 2 == 1 then n ∷ places count (list / 2) (n + 1) else places count (list / 2) (n + 1)

-- a register list has 16 bits
abbrev pub places_in : ℕ → List ℕ
places_in list = places 16 list 0

-- −(An) goes down in memory, every other mode up
abbrev pub order_of : Mode → Order
order_of (PreDec n) = Falling
order_of _ = Rising

-- the register that a bit names: from bit 0 D0 to D7 and A0 to A7, or going down the other way
-- round
abbrev pub named : Order → ℕ → ℕ
named Rising place = place
named Falling place = 15 - place

-- so many bytes lie between two registers in memory
abbrev pub step_of : Size → ℕ
step_of size = 2 * moves_of size

-- the next address, by one register
abbrev pub next_address : Order → Size → ℕ → ℕ
next_address Rising size at = (at + step_of size) % 2 ^ 32
next_address Falling size at = (at + 2 ^ 32 - step_of size) % 2 ^ 32

-- where a register is written: going down, the address is lowered first
abbrev pub place_at : Order → Size → ℕ → ℕ
place_at Rising size at = at
place_at Falling size at = next_address Falling size at

-- the registers are written one after another, each as it was before the instruction; gives the
-- address that is reached
abbrev pub store_each : Order → Size → List ℕ → ℕ → Regs → Act ℕ
store_each order size [] at regs = give at
store_each order size (place ∷ rest) at regs = do
  written ← write size (place_at order size at) (register_of regs (named order place) % modulus_of size)
  store_each order size rest (next_address order size at) regs

-- an empty list accesses nothing; an odd address is an error before any access
unfoldable pub store_list : Order → Size → ℕ → ℕ → Regs → Act ℕ
store_list order size list at regs memory done =
    if list == 0 then Ok (at, done)
    else (if is_odd at then odd (place_at order size at) false memory done
    else store_each order size (places_in list) at regs memory done)

-- the registers are read one after another, a word with its sign extended
abbrev pub load_each : Size → List ℕ → ℕ → Regs → Act Loaded
load_each size [] at regs = give (record { address = at; regs = regs })
load_each size (place ∷ rest) at regs = do
  value ← read size at
  load_each size rest (next_address Rising size at) (with_register regs place (extended size value))

-- an empty list accesses nothing; an odd address is an error before any access
unfoldable pub load_list : Size → ℕ → ℕ → Regs → Act Loaded
load_list size list at regs memory done =
    if list == 0 then Ok (record { address = at; regs = regs }, done)
    else (if is_odd at then odd at true memory done
    else load_each size (places_in list) at regs memory done)

-- where it begins: −(An) at An itself, which is lowered for each register
abbrev pub first_address : Size → Mode → ℕ → Regs → ℕ
first_address size (PreDec n) pc regs = address_of regs n
first_address size mode pc regs = effective_address mode size regs pc

-- (An)+ and −(An) leave An at the address that is reached, also where An is in the list
abbrev pub left_at : Mode → ℕ → Regs → Regs
left_at (PostInc n) at regs = with_address regs n at
left_at (PreDec n) at regs = with_address regs n at
left_at _ at regs = regs

-- so many registers were moved
abbrev pub moved : ℕ → Regs → Outcome
moved list regs = record (plain regs) { count = count_ones list }

-- MOVEM to memory; the mode's words are after the list
unfoldable pub movem_to_memory : Size → ℕ → Mode → ℕ → Regs → Act Outcome
movem_to_memory size list mode start regs = do
  reached ← store_list (order_of mode) size list (first_address size mode (following start 4) regs) regs
  give (moved list (left_at mode reached regs))

-- MOVEM to registers
unfoldable pub movem_to_registers : Size → ℕ → Mode → ℕ → Regs → Act Outcome
movem_to_registers size list mode start regs = do
  last ← load_list size list (effective_address mode size regs (following start 4)) regs
  give (moved list (left_at mode last.address last.regs))
