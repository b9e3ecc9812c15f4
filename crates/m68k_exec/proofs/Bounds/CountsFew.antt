-- Where the time of an instruction depends on a count, a sample's count is small: for memory of bytes
-- and answers of words.
use Rattle.std.proofs.Common.{◌≡◌, ℕ, ◌+◌, ◌%◌, ◌<◌, ◌≤◌, ◌==◌, Bool, true, false, nat_lt, length, Result, Ok, Err, subst, sym, arith}
use Rattle.std.specs.Prelude.{count_ones, if◌then◌else◌, slice_index}
use Rattle.std.proofs.lemmas.Nat.{ones-le}
use Rattle.md_word.specs.declared.mode.Mode.{Mode}
use Rattle.md_word.specs.declared.mode.Mode.TheVariants as modes
use Rattle.md_word.specs.declared.regs.Regs.{Regs}
use Rattle.md_word.specs.declared.size.Size.{Size}
use Rattle.md_word.specs.declared.size.Size.TheVariants.{Long, Word}
use Rattle.md_word.specs.declared.task.Task.{Task}
use Rattle.md_word.specs.declared.task.Task.TheVariants as tasks
use Rattle.m68k_decode.specs.Bounds.{FewCounted, HasNumbers}
use Rattle.m68k_decode.proofs.DecodedNumbers.{decoded_numbers}
use Rattle.m68k_decode.specs.declared.op.Op.{Op}
use Rattle.m68k_decode.specs.declared.op.Op.TheVariants as ops
use Rattle.m68k_ea.specs.Addresses.{effective_address}
use Rattle.m68k_ea.specs.Places.{is_misaligned, place_of, standing}
use Rattle.m68k_ea.specs.Steps.{stepped}
use Rattle.m68k_ea.specs.declared.places.Place.TheVariants as places
use Rattle.m68k_exec.proofs.Bounds.Early.{counts_list}
use Rattle.m68k_exec.proofs.Bounds.Spends.{FromRow, sampled_from_row, names}
use Rattle.m68k_exec.specs.Sample.Bounds.{Fits}
use Rattle.m68k_access.specs.Actions as actions
use Rattle.md_word.specs.Answers.{Done}
use Rattle.m68k_access.specs.Actions.{go_on}
use Rattle.m68k_exec.specs.Sample.Execution as execution
use Rattle.md_word.specs.Map.{is_shared}
use Rattle.m68k_access.specs.Memory.{Memory, bus_address, byte_at, instruction_word, instruction_words, is_ram, word_at}
use Rattle.m68k_access.specs.Operands as operands
use Rattle.m68k_access.specs.Operands.{Operand}
use Rattle.m68k_access.specs.Outcomes.{Outcome}
use Rattle.m68k_exec.specs.Rows.Products as products
use Rattle.m68k_exec.specs.Sample.Samples as samples
use Rattle.m68k_exec.specs.Sample.Samples.{Ended, named, nothing}
use Rattle.m68k_access.specs.Shapes as shapes
use Rattle.m68k_exec.specs.Rows.Shifts as shifts
use Rattle.m68k_access.specs.declared.stop.Stop.{Stop}

-- private words
byte_cases : (a b : Bool) (x y : ℕ) → x < 256 → y < 256 → (if a then x else (if b then y else 0xff)) < 256
byte_cases true b x y h k = h
byte_cases false true x y h k = k
byte_cases false false x y h k = omega arith

byte_small : (memory : Memory) (at : ℕ) → Fits memory → byte_at memory.rom memory.ram at < 256
unfolding byte_at
byte_small memory at fits = byte_cases (is_ram at) (nat_lt at (length memory.rom)) _ _ (fits.ram _) (fits.rom at)

word_small : (memory : Memory) (at : ℕ) → Fits memory → word_at memory.rom memory.ram at < 65536
unfolding word_at
word_small memory at fits = omega (arith, byte_small memory at fits, byte_small memory (at + 1) fits)

word_cases : (b : Bool) (x : ℕ) → x < 65536 → (if b then x else 0xffff) < 65536
word_cases true x h = h
word_cases false x h = omega arith

instruction_small : (memory : Memory) (address : ℕ) → Fits memory → instruction_word address memory < 65536
unfolding instruction_word
instruction_small memory address fits = word_cases (address % 2 == 0) _ (word_small memory _ fits)

pub second_small : (memory : Memory) (address : ℕ) → Fits memory → slice_index (instruction_words address memory) 1 < 65536
unfolding instruction_words
second_small memory address fits = instruction_small memory _ fits

-- the first word that is read
abbrev Small : Result (ℕ × Done) Stop → Type 0
Small (Ok x) = x.0 < 65536
Small (Err stop) = Unit {0}

either : (b : Bool) (x y : Result (ℕ × Done) Stop) → Small x → Small y → Small (if b then x else y)
either true x y h k = h
either false x y h k = k

read_small : (memory : Memory) (at : ℕ) → Fits memory → Small (actions.read Word at memory nothing)
unfolding actions.read actions.read_word actions.read_aligned actions.asked actions.word_seen
read_small memory at fits =
    either (actions.is_odd at) _ _ tt (either (is_shared (bus_address at)) _ _ (either (nat_lt 0 (length memory.answers)) _ _ (fits.answers 0) tt) (word_small memory (bus_address at) fits))

standing_small : (memory : Memory) (at : ℕ) (regs : Regs) (b : Bool) → Fits memory → Small (operands.fetch Word (if b then places.Odd at else places.Memory at) regs memory nothing)
unfolding operands.fetch
standing_small memory at regs true fits = tt
standing_small memory at regs false fits = read_small memory at fits

place_small : (memory : Memory) (at : ℕ) (regs : Regs) → Fits memory → Small (operands.fetch Word (standing Word at) regs memory nothing)
unfolding standing
place_small memory at regs fits = standing_small memory at regs (is_misaligned Word at) fits

fetch_small : (memory : Memory) (mode : Mode) (regs others : Regs) (pc : ℕ) → Fits memory → Small (operands.fetch Word (place_of mode Word regs pc) others memory nothing)
unfolding operands.fetch
fetch_small memory (modes.Data n) regs others pc fits = omega arith
fetch_small memory (modes.Address n) regs others pc fits = omega arith
fetch_small memory (modes.Immediate value) regs others pc fits = omega arith
fetch_small memory mode regs others pc fits = place_small memory (effective_address mode Word regs pc) others fits

-- the counts of multiplications and shifts
abbrev HasFewCounts : Result (Outcome × Done) Stop → Type 0
HasFewCounts (Ok x) = x.0.count ≤ 64
HasFewCounts (Err stop) = Unit {0}

few_on : (first : Result (ℕ × Done) Stop) (g : ℕ → Operand) (f : Operand → Outcome) → Small first → ((value : ℕ) → value < 65536 → (f (g value)).count ≤ 64) → HasFewCounts (go_on (go_on first (λ value mid. Ok (g value, mid))) (λ source mid. Ok (f source, mid)))
few_on (Ok x) g f h k = k x.0 h
few_on (Err stop) g f h k = tt

ones_few : (value : ℕ) → value < 65536 → count_ones value ≤ 64
ones_few value h = let n = ones-le 16 value h in omega (arith, n)

unlike_few : (value : ℕ) → products.unlike_neighbours value ≤ 64
unfolding products.unlike_neighbours
unlike_few value = ones_few _ (omega arith)

mulu_few : (memory : Memory) (n : ℕ) (mode : Mode) (start : ℕ) (regs : Regs) → Fits memory → HasFewCounts (products.mulu n mode start regs memory nothing)
unfolding products.mulu operands.load
mulu_few memory n mode start regs fits =
    few_on (operands.fetch Word (place_of mode Word regs (shapes.following start 2)) regs memory nothing) (λ value. record { value = value; regs = stepped mode Word regs }) (λ source. record (shapes.change_data tasks.Mulu Long source.value n source.regs) { count = count_ones source.value })
    (fetch_small memory mode regs regs (shapes.following start 2) fits) ones_few

muls_few : (memory : Memory) (n : ℕ) (mode : Mode) (start : ℕ) (regs : Regs) → Fits memory → HasFewCounts (products.muls n mode start regs memory nothing)
unfolding products.muls operands.load
muls_few memory n mode start regs fits =
    few_on (operands.fetch Word (place_of mode Word regs (shapes.following start 2)) regs memory nothing) (λ value. record { value = value; regs = stepped mode Word regs }) (λ source. record (shapes.change_data tasks.Muls Long source.value n source.regs) { count = products.unlike_neighbours source.value })
    (fetch_small memory mode regs regs (shapes.following start 2) fits) (λ value h. unlike_few value)

shift_few : (operation : Task) (size : Size) (count r : ℕ) (regs : Regs) → count ≤ 64 → (shifts.shift_by_number operation size count r regs).count ≤ 64
unfolding shifts.shift_by_number
shift_few operation size count r regs h = h

shift_register_few : (operation : Task) (size : Size) (n r : ℕ) (regs : Regs) → (shifts.shift_by_register operation size n r regs).count ≤ 64
unfolding shifts.shift_by_register
shift_register_few operation size n r regs = shift_few operation size _ r regs (omega arith)

row_few : (op : Op) (start : ℕ) (regs : Regs) (memory : Memory) (x : Outcome) (after : Done) → Fits memory → HasNumbers op → execution.row op start regs memory nothing ≡ Ok (x, after) → FewCounted op x.count
row_few (ops.MovemToMemory size list mode) start regs memory x after fits has e =
    let c : x.count ≡ count_ones list = counts_list (ops.MovemToMemory size list mode) start regs memory nothing x after e in
    let n = ones_few list has in omega (arith, c, n)
row_few (ops.MovemToRegisters size list mode) start regs memory x after fits has e =
    let c : x.count ≡ count_ones list = counts_list (ops.MovemToRegisters size list mode) start regs memory nothing x after e in
    let n = ones_few list has in omega (arith, c, n)
row_few (ops.Mulu n mode) start regs memory x after fits has e = subst HasFewCounts e (mulu_few memory n mode start regs fits)
row_few (ops.Muls n mode) start regs memory x after fits has e = subst HasFewCounts e (muls_few memory n mode start regs fits)
row_few (ops.ShiftByNumber operation size number r) start regs memory x after fits has e = subst HasFewCounts e (shift_few operation size number r regs (omega (arith, has)))
row_few (ops.ShiftByRegister operation size n r) start regs memory x after fits has e = subst HasFewCounts e (shift_register_few operation size n r regs)
row_few op start regs memory x after fits has e = tt

from : (op : Op) (memory : Memory) (count : ℕ) → Fits memory → HasNumbers op → FromRow op memory count → FewCounted op count
from op memory count fits has r = subst (FewCounted op) (sym r.same) (row_few op r.start r.regs memory r.outcome r.after fits has r.is)

pub row_counted : (cause : ℕ) (regs : Regs) (memory : Memory) (ended : Ended) → Fits memory → samples.sampled cause regs memory ≡ Ok ended → ended.spent.cause ≡ 0 → FewCounted ended.op ended.spent.count
row_counted cause regs memory ended fits e none =
    let numbers = decoded_numbers (instruction_words regs.pc memory) (second_small memory regs.pc fits) in
    let op = names cause regs memory ended e in
    subst (λ o. FewCounted o ended.spent.count) (sym op) (from (named regs memory) memory ended.spent.count fits numbers (sampled_from_row cause regs memory ended e none))
