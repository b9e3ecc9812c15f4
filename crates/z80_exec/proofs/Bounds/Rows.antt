-- What holds of each instruction: how many answers it takes at most, what it waits for, and that later
-- answers change nothing.
use Rattle.std.proofs.Common.{ℕ, ◌+◌, ◌≤◌, arith}
use Rattle.md_word.specs.declared.bit.Bit.{Bit}
use Rattle.md_word.specs.declared.task80.Task80.{Task80}
use Rattle.z80_decode.specs.declared.block.Block.{Block}
use Rattle.z80_decode.specs.declared.condition.Condition.{Condition}
use Rattle.z80_decode.specs.declared.index.Index.{Index}
use Rattle.z80_decode.specs.declared.interrupt_mode.InterruptMode.TheVariants.{Mode0, Mode1, Mode2}
use Rattle.z80_decode.specs.declared.interrupt_mode.InterruptMode.{InterruptMode}
use Rattle.z80_decode.specs.declared.op80.Op80.TheVariants as ops
use Rattle.z80_decode.specs.declared.op80.Op80.{Op80}
use Rattle.z80_decode.specs.declared.pair.Pair.{Pair}
use Rattle.z80_decode.specs.declared.place8.Place8.TheVariants as places
use Rattle.z80_decode.specs.declared.place8.Place8.{Place8}
use Rattle.z80_exec.proofs.Bounds.Accesses.{Sound, bind, choice, give, last, more, read, read_word, write, write_word}
use Rattle.z80_exec.specs.Access.Conditions.{holds}
use Rattle.z80_exec.specs.Access.Operands as operands
use Rattle.z80_exec.specs.Access.Parts.{displaced, f_of}
use Rattle.z80_exec.specs.Rows.Arithmetic as arithmetic
use Rattle.z80_exec.specs.Rows.Bits as bits
use Rattle.z80_exec.specs.Rows.Blocks as blocks
use Rattle.z80_exec.specs.Rows.Calls as calls
use Rattle.z80_exec.specs.Rows.Exchanges as exchanges
use Rattle.z80_exec.specs.Rows.Loads as loads
use Rattle.z80_exec.specs.Rows.Ports as ports
use Rattle.z80_exec.specs.Rows.Rotates as rotates
use Rattle.z80_exec.specs.Sample.Entries as entries
use Rattle.z80_exec.specs.Sample.Execution as execution
use Rattle.z80_exec.specs.Sample.Times.{kind_of}
use Rattle.z80_exec.specs.declared.regs80.Regs80.{Regs80}
use Rattle.z80_exec.specs.declared.sample.times.Kind.TheVariants.{Register, Half, Indirect, Displaced, Absolute, Immediate}
use Rattle.z80_exec.specs.declared.sample.times.Kind.{Kind}

-- how many accesses a place takes
abbrev pub touches : Kind → ℕ
touches Register = 0
touches Half = 0
touches Indirect = 1
touches Displaced = 1
touches Absolute = 1
touches Immediate = 0

-- how many accesses an instruction makes at most
abbrev pub accesses_of : Op80 → ℕ
accesses_of (ops.Load target source) = touches (kind_of source) + touches (kind_of target)
accesses_of (ops.LoadIndex index at) = 2
accesses_of (ops.LoadPairExtended pair at) = 2
accesses_of (ops.StoreIndex at index) = 2
accesses_of (ops.StorePairExtended at pair) = 2
accesses_of (ops.Push pair) = 2
accesses_of (ops.Pop pair) = 2
accesses_of (ops.ExchangeStack index) = 4
accesses_of (ops.BlockLoad block) = 2
accesses_of (ops.BlockCompare block) = 1
accesses_of (ops.Arithmetic task place) = touches (kind_of place)
accesses_of (ops.Step task place) = touches (kind_of place) + touches (kind_of place)
accesses_of (ops.Change task place) = touches (kind_of place) + touches (kind_of place)
accesses_of (ops.TestBit bit place) = touches (kind_of place)
accesses_of ops.RotateDigitsLeft = 2
accesses_of ops.RotateDigitsRight = 2
accesses_of (ops.Call target) = 2
accesses_of (ops.CallIf condition target) = 2
accesses_of ops.Return = 2
accesses_of (ops.ReturnIf condition) = 2
accesses_of ops.ReturnFromInterrupt = 2
accesses_of ops.ReturnFromNonMaskable = 2
accesses_of (ops.Restart target) = 2
accesses_of (ops.Input place) = touches (kind_of place)
accesses_of (ops.BlockInput block) = 1
accesses_of (ops.BlockOutput block) = 1
accesses_of op = 0

-- operands
pub fetch : (place : Place8) (regs : Regs80) → Sound (touches (kind_of place)) (operands.fetch place regs)
unfolding operands.fetch operands.address_of
fetch places.AtBc regs = read regs.bc
fetch places.AtDe regs = read regs.de
fetch places.AtHl regs = read regs.hl
fetch (places.AtIx d) regs = read (displaced regs.ix d)
fetch (places.AtIy d) regs = read (displaced regs.iy d)
fetch (places.At nn) regs = read nn
fetch place regs = give _

put_memory : (at value : ℕ) (regs : Regs80) → Sound 1 (operands.put_memory at value regs)
unfolding operands.put_memory
put_memory at value regs = last 1 _ _ (write at value)

put : (place : Place8) (value : ℕ) (regs : Regs80) → Sound (touches (kind_of place)) (operands.put place value regs)
unfolding operands.put operands.address_of
put places.AtBc value regs = put_memory regs.bc value regs
put places.AtDe value regs = put_memory regs.de value regs
put places.AtHl value regs = put_memory regs.hl value regs
put (places.AtIx d) value regs = put_memory (displaced regs.ix d) value regs
put (places.AtIy d) value regs = put_memory (displaced regs.iy d) value regs
put (places.At nn) value regs = put_memory nn value regs
put place value regs = give _

pub push : (value : ℕ) (regs : Regs80) → Sound 2 (operands.push value regs)
unfolding operands.push
push value regs = bind 1 1 _ _ (write _ _) (λ first. last 1 _ _ (write _ _))

pop : (regs : Regs80) → Sound 2 (operands.pop regs)
unfolding operands.pop
pop regs = last 2 _ _ (read_word regs.sp)

-- loads and exchanges
load : (target source : Place8) (regs : Regs80) → Sound (touches (kind_of source) + touches (kind_of target)) (loads.load target source regs)
unfolding loads.load
load target source regs = bind _ _ _ _ (fetch source regs) (λ value. last _ _ _ (put target value regs))

load_pair_from : (pair : Pair) (at : ℕ) (regs : Regs80) → Sound 2 (loads.load_pair_from pair at regs)
unfolding loads.load_pair_from
load_pair_from pair at regs = last 2 _ _ (read_word at)

store_pair : (at : ℕ) (pair : Pair) (regs : Regs80) → Sound 2 (loads.store_pair at pair regs)
unfolding loads.store_pair
store_pair at pair regs = last 2 _ _ (write_word at _)

push_pair : (pair : Pair) (regs : Regs80) → Sound 2 (loads.push_pair pair regs)
unfolding loads.push_pair
push_pair pair regs = last 2 _ _ (push _ regs)

pop_pair : (pair : Pair) (regs : Regs80) → Sound 2 (loads.pop_pair pair regs)
unfolding loads.pop_pair
pop_pair pair regs = last 2 _ _ (pop regs)

exchange_stack : (index : Index) (regs : Regs80) → Sound 4 (exchanges.exchange_stack index regs)
unfolding exchanges.exchange_stack
exchange_stack index regs =
    bind 1 3 _ _ (read _) (λ low. bind 1 2 _ _ (read _) (λ high. bind 1 1 _ _ (write _ _) (λ first. last 1 _ _ (write _ _))))

-- block instructions
block_load : (block : Block) (regs : Regs80) → Sound 2 (blocks.block_load block regs)
unfolding blocks.block_load
block_load block regs = bind 1 1 _ _ (read _) (λ value. last 1 _ _ (write _ _))

block_compare : (block : Block) (regs : Regs80) → Sound 1 (blocks.block_compare block regs)
unfolding blocks.block_compare
block_compare block regs = last 1 _ _ (read _)

block_input : (block : Block) (regs : Regs80) → Sound 1 (ports.block_input block regs)
unfolding ports.block_input
block_input block regs = last 1 _ _ (write _ _)

block_output : (block : Block) (regs : Regs80) → Sound 1 (ports.block_output block regs)
unfolding ports.block_output
block_output block regs = last 1 _ _ (read _)

-- arithmetic, bits and ports
operate : (task : Task80) (place : Place8) (regs : Regs80) → Sound (touches (kind_of place)) (arithmetic.arithmetic task place regs)
unfolding arithmetic.arithmetic
operate task place regs = last _ _ _ (fetch place regs)

change : (task : Task80) (place : Place8) (regs : Regs80) → Sound (touches (kind_of place) + touches (kind_of place)) (arithmetic.change task place regs)
unfolding arithmetic.change
change task place regs = bind _ _ _ _ (fetch place regs) (λ value. last _ _ _ (put place _ regs))

test_bit : (bit : Bit) (place : Place8) (regs : Regs80) → Sound (touches (kind_of place)) (bits.test_bit bit place regs)
unfolding bits.test_bit
test_bit bit place regs = last _ _ _ (fetch place regs)

rotate_digits_left : (regs : Regs80) → Sound 2 (rotates.rotate_digits_left regs)
unfolding rotates.rotate_digits_left
rotate_digits_left regs = bind 1 1 _ _ (read _) (λ value. last 1 _ _ (write _ _))

rotate_digits_right : (regs : Regs80) → Sound 2 (rotates.rotate_digits_right regs)
unfolding rotates.rotate_digits_right
rotate_digits_right regs = bind 1 1 _ _ (read _) (λ value. last 1 _ _ (write _ _))

input : (place : Place8) (regs : Regs80) → Sound (touches (kind_of place)) (ports.input place regs)
unfolding ports.input
input place regs = last _ _ _ (put place _ regs)

-- calls and returns
pub call : (target : ℕ) (regs : Regs80) → Sound 2 (calls.call target regs)
unfolding calls.call
call target regs = last 2 _ _ (push regs.pc regs)

call_if : (condition : Condition) (target : ℕ) (regs : Regs80) → Sound 2 (calls.call_if condition target regs)
unfolding calls.call_if
call_if condition target regs = choice 2 (holds condition (f_of regs)) _ _ (λ e. call target regs) (λ e. more 0 2 _ (omega arith) (give _))

pub return_from : (regs : Regs80) → Sound 2 (calls.return_from regs)
unfolding calls.return_from
return_from regs = last 2 _ _ (pop regs)

return_if : (condition : Condition) (regs : Regs80) → Sound 2 (calls.return_if condition regs)
unfolding calls.return_if
return_if condition regs = choice 2 (holds condition (f_of regs)) _ _ (λ e. return_from regs) (λ e. more 0 2 _ (omega arith) (give _))

return_from_non_maskable : (regs : Regs80) → Sound 2 (calls.return_from_non_maskable regs)
unfolding calls.return_from_non_maskable
return_from_non_maskable regs = return_from _

-- each instruction
pub row : (op : Op80) (regs : Regs80) → Sound (accesses_of op) (execution.row op regs)
row (ops.Load target source) regs = load target source regs
row (ops.LoadIndex index at) regs = load_pair_from _ at regs
row (ops.LoadPairExtended pair at) regs = load_pair_from pair at regs
row (ops.StoreIndex at index) regs = store_pair at _ regs
row (ops.StorePairExtended at pair) regs = store_pair at pair regs
row (ops.Push pair) regs = push_pair pair regs
row (ops.Pop pair) regs = pop_pair pair regs
row (ops.ExchangeStack index) regs = exchange_stack index regs
row (ops.BlockLoad block) regs = block_load block regs
row (ops.BlockCompare block) regs = block_compare block regs
row (ops.Arithmetic task place) regs = operate task place regs
row (ops.Step task place) regs = change task place regs
row (ops.Change task place) regs = change task place regs
row (ops.TestBit bit place) regs = test_bit bit place regs
row ops.RotateDigitsLeft regs = rotate_digits_left regs
row ops.RotateDigitsRight regs = rotate_digits_right regs
row (ops.Call target) regs = call target regs
row (ops.CallIf condition target) regs = call_if condition target regs
row ops.Return regs = return_from regs
row (ops.ReturnIf condition) regs = return_if condition regs
row ops.ReturnFromInterrupt regs = return_from regs
row ops.ReturnFromNonMaskable regs = return_from_non_maskable regs
row (ops.Restart target) regs = call target regs
row (ops.Input place) regs = input place regs
row (ops.BlockInput block) regs = block_input block regs
row (ops.BlockOutput block) regs = block_output block regs
row op regs = give _

-- an interrupt: two pushes, and in mode 2 two reads
abbrev pub reads_of : InterruptMode → ℕ
reads_of Mode0 = 0
reads_of Mode1 = 0
reads_of Mode2 = 2

target_of : (mode : InterruptMode) (page : ℕ) → Sound (reads_of mode) (entries.target_of mode page)
unfolding entries.target_of
target_of Mode0 page = give _
target_of Mode1 page = give _
target_of Mode2 page = read_word _

pub enter : (regs : Regs80) → Sound (2 + reads_of regs.mode) (entries.enter regs)
unfolding entries.enter
enter regs = bind 2 _ _ _ (push _ _) (λ after. last _ _ _ (target_of _ _))

pub touches_few : (kind : Kind) → touches kind ≤ 1
touches_few Register = omega arith
touches_few kind = omega arith

pub few : (op : Op80) → accesses_of op ≤ 4
few (ops.Load target source) = let one = touches_few (kind_of source) in let two = touches_few (kind_of target) in omega (arith, one, two)
few (ops.Arithmetic task place) = let one = touches_few (kind_of place) in omega (arith, one)
few (ops.Step task place) = let one = touches_few (kind_of place) in omega (arith, one)
few (ops.Change task place) = let one = touches_few (kind_of place) in omega (arith, one)
few (ops.TestBit bit place) = let one = touches_few (kind_of place) in omega (arith, one)
few (ops.Input place) = let one = touches_few (kind_of place) in omega (arith, one)
few op = omega arith
