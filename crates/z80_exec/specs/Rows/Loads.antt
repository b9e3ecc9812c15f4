-- LD, PUSH and POP. Zilog UM0080, "8-Bit Load Group" and "16-Bit Load Group".
use Rattle.std.specs.Prelude.{ℕ}
use Rattle.z80_alu.specs.Transfers.{special_loaded}
use Rattle.z80_decode.specs.declared.index.Index.{Index}
use Rattle.z80_decode.specs.declared.pair.Pair.{Pair}
use Rattle.z80_decode.specs.declared.place8.Place8.{Place8}
use Rattle.z80_decode.specs.declared.special.Special.{Special}
use Rattle.z80_decode.specs.declared.special.Special.TheVariants.{Interrupt, Refresh}
use Rattle.z80_exec.specs.declared.regs80.Regs80.{Regs80}
use Rattle.z80_exec.specs.Access.Actions.{Act, ◌>>=◌, give, read_word, write_word}
use Rattle.z80_exec.specs.Access.Operands.{fetch, pop, push, put}
use Rattle.z80_exec.specs.Access.Outcomes.{Outcome, plain}
use Rattle.z80_exec.specs.Access.Parts.{a_of, f_of, pair_at, pair_of, with_af, with_pair}

-- LD of 8 bits
unfoldable pub load : Place8 → Place8 → Regs80 → Act Outcome
load target source regs = do
  value ← fetch source regs
  after ← put target value regs
  give (plain after)

-- I or R
abbrev pub special_of : Special → Regs80 → ℕ
special_of Interrupt regs = regs.i
special_of Refresh regs = regs.r

-- LD A,I and LD A,R
unfoldable pub load_from_special : Special → Regs80 → Regs80
load_from_special special regs =
    with_af (special_of special regs) (special_loaded (special_of special regs) regs.iff2 (f_of regs)) regs

-- LD I,A and LD R,A
unfoldable pub load_to_special : Special → Regs80 → Regs80
load_to_special Interrupt regs = record regs { i = a_of regs }
load_to_special Refresh regs = record regs { r = a_of regs }

-- LD HL,(nn) and LD dd,(nn)
unfoldable pub load_pair_from : Pair → ℕ → Regs80 → Act Outcome
load_pair_from pair at regs = do
  value ← read_word at
  give (plain (with_pair pair value regs))

-- LD (nn),HL and LD (nn),dd
unfoldable pub store_pair : ℕ → Pair → Regs80 → Act Outcome
store_pair at pair regs = do
  written ← write_word at (pair_of pair regs)
  give (plain regs)

-- LD SP,HL
unfoldable pub load_stack_pointer : Index → Regs80 → Regs80
load_stack_pointer index regs = record regs { sp = pair_of (pair_at index) regs }

-- PUSH
unfoldable pub push_pair : Pair → Regs80 → Act Outcome
push_pair pair regs = do
  after ← push (pair_of pair regs) regs
  give (plain after)

-- POP
unfoldable pub pop_pair : Pair → Regs80 → Act Outcome
pop_pair pair regs = do
  popped ← pop regs
  give (plain (with_pair pair popped.value popped.regs))
