-- Only LD R,A changes R: each other instruction leaves it as its fetch did.
use Rattle.std.proofs.Common.{◌≡◌, ◌⊎◌, ℕ, ◌+◌, ◌/◌, ◌%◌, ◌==◌, ◌∙◌, Bool, true, false, Option, Some, None, Result, Ok, Err, refl, subst, slice_index}
use Rattle.std.specs.Prelude.{◌≢◌, if◌then◌else◌}
use Rattle.std.proofs.lemmas.Bool.{ne_eqb}
use Rattle.md_word.proofs.Answered as answered
use Rattle.md_word.proofs.Answered.{give}
use Rattle.md_word.specs.Answers.{Done}
use Rattle.md_word.specs.declared.bit.Bit.{Bit}
use Rattle.md_word.specs.declared.sub_bus.Request80.{Request80}
use Rattle.md_word.specs.declared.task80.Task80.{Task80}
use Rattle.z80_alu.specs.declared.out16.Out16.{Out16}
use Rattle.z80_decode.specs.Instructions.{instruction_of}
use Rattle.z80_decode.specs.declared.block.Block.{Block}
use Rattle.z80_decode.specs.declared.condition.Condition.{Condition}
use Rattle.z80_decode.specs.declared.decoded80.Decoded80.{Decoded80}
use Rattle.z80_decode.specs.declared.index.Index.{Index}
use Rattle.z80_decode.specs.declared.interrupt_mode.InterruptMode.{InterruptMode}
use Rattle.z80_decode.specs.declared.op80.Op80.TheVariants as ops
use Rattle.z80_decode.specs.declared.op80.Op80.{Op80}
use Rattle.z80_decode.specs.declared.pair.Pair.TheVariants as pair_names
use Rattle.z80_decode.specs.declared.pair.Pair.{Pair}
use Rattle.z80_decode.specs.declared.place8.Place8.TheVariants as places
use Rattle.z80_decode.specs.declared.place8.Place8.{Place8}
use Rattle.z80_decode.specs.declared.special.Special.TheVariants.{Interrupt, Refresh}
use Rattle.z80_decode.specs.declared.special.Special.{Special}
use Rattle.z80_exec.proofs.Meaning.{high, low}
use Rattle.z80_exec.specs.Access.Actions as actions
use Rattle.z80_exec.specs.Access.Actions.{Act, ◌>>=◌, go_on}
use Rattle.z80_exec.specs.Access.Conditions.{holds}
use Rattle.z80_exec.specs.Access.Memory.{Memory, instruction_bytes}
use Rattle.z80_exec.specs.Access.Operands as operands
use Rattle.z80_exec.specs.Access.Operands.{Popped, address_of}
use Rattle.z80_exec.specs.Access.Outcomes.{Outcome}
use Rattle.z80_exec.specs.Access.Parts as parts
use Rattle.z80_exec.specs.Laws.{loads_r}
use Rattle.z80_exec.specs.Rows.Arithmetic as arithmetic
use Rattle.z80_exec.specs.Rows.Bits as bits
use Rattle.z80_exec.specs.Rows.Blocks as blocks
use Rattle.z80_exec.specs.Rows.Calls as calls
use Rattle.z80_exec.specs.Rows.Control as control
use Rattle.z80_exec.specs.Rows.Exchanges as exchanges
use Rattle.z80_exec.specs.Rows.Jumps as jumps
use Rattle.z80_exec.specs.Rows.Loads as loads
use Rattle.z80_exec.specs.Rows.Pairs as pairs
use Rattle.z80_exec.specs.Rows.Ports as ports
use Rattle.z80_exec.specs.Rows.Rotates as rotates
use Rattle.z80_exec.specs.Sample.Entries as entries
use Rattle.z80_exec.specs.Sample.Execution as execution
use Rattle.z80_exec.specs.Sample.Samples as samples
use Rattle.z80_exec.specs.Sample.Samples.{Ended, entered, fetched, finished_by, nothing}
use Rattle.z80_exec.specs.declared.regs80.Regs80.{Regs80}

-- a request that waits may be any
abbrev pub AnyRequest : Request80 → Type 0
AnyRequest request = Unit {0}

-- where it results in a value, that value keeps this
abbrev pub Fine : {A : Type 0} → (A → Type 0) → Result (A × Done) Request80 → Type 0
Fine ok first = answered.Fine AnyRequest ok first

abbrev pub Keeps : {A : Type 0} → (A → Type 0) → Act A → Type 0
Keeps ok act = answered.Keeps AnyRequest ok act

bind_at : {A B : Type 0} (ok : A → Type 0) (good : B → Type 0) (following : A → Act B) → ((x : A) → ok x → Keeps good (following x)) → (memory : Memory) (first : Result (A × Done) Request80) → Fine ok first → Fine good (go_on first (λ x mid. following x memory mid))
bind_at ok good following k memory (Ok x) h = (k x.0 h).at memory x.1
bind_at ok good following k memory (Err request) h = tt

bind : {A B : Type 0} (ok : A → Type 0) (good : B → Type 0) (act : Act A) (following : A → Act B) → Keeps ok act → ((x : A) → ok x → Keeps good (following x)) → Keeps good (act >>= following)
bind ok good act following h k = record { at = λ memory before. bind_at ok good following k memory (act memory before) (h.at memory before) }

-- whatever an action gives
any_at : {A B : Type 0} (good : B → Type 0) (following : A → Act B) → ((x : A) → Keeps good (following x)) → (memory : Memory) (first : Result (A × Done) Request80) → Fine good (go_on first (λ x mid. following x memory mid))
any_at good following k memory (Ok x) = (k x.0).at memory x.1
any_at good following k memory (Err request) = tt

after : {A B : Type 0} (good : B → Type 0) (act : Act A) (following : A → Act B) → ((x : A) → Keeps good (following x)) → Keeps good (act >>= following)
after good act following k = record { at = λ memory before. any_at good following k memory (act memory before) }

choice : {A : Type 0} (ok : A → Type 0) (test : Bool) (one other : Act A) → Keeps ok one → Keeps ok other → Keeps ok (λ memory done. if test then one memory done else other memory done)
choice ok true one other h k = h
choice ok false one other h k = k

-- registers, a popped word and an outcome with this R
abbrev Has : ℕ → Regs80 → Type 0
Has r regs = regs.r ≡ r

abbrev HasPopped : ℕ → Popped → Type 0
HasPopped r popped = popped.regs.r ≡ r

abbrev pub HasAfter : ℕ → Outcome → Type 0
HasAfter r outcome = outcome.regs.r ≡ r

with_byte : (place : Place8) (value : ℕ) (regs : Regs80) → (parts.with_byte place value regs).r ≡ regs.r
unfolding parts.with_byte
with_byte places.A value regs = refl
with_byte place value regs = refl

with_pair : (pair : Pair) (value : ℕ) (regs : Regs80) → (parts.with_pair pair value regs).r ≡ regs.r
unfolding parts.with_pair
with_pair pair_names.Bc value regs = refl
with_pair pair value regs = refl

with_f : (f : ℕ) (regs : Regs80) → (parts.with_f f regs).r ≡ regs.r
unfolding parts.with_f
with_f f regs = refl

with_af : (a f : ℕ) (regs : Regs80) → (parts.with_af a f regs).r ≡ regs.r
unfolding parts.with_af
with_af a f regs = refl

-- operands and the stack
put_memory : (at value : ℕ) (regs : Regs80) → Keeps (Has regs.r) (operands.put_memory at value regs)
unfolding operands.put_memory
put_memory at value regs = after _ _ _ (λ written. give _ _ _ refl)

put_at : (at : Option ℕ) (place : Place8) (value : ℕ) (regs : Regs80) → Keeps (Has regs.r) (operands.put_at at place value regs)
put_at (Some at) place value regs = put_memory at value regs
put_at None place value regs = give _ _ _ (with_byte place value regs)

put : (place : Place8) (value : ℕ) (regs : Regs80) → Keeps (Has regs.r) (operands.put place value regs)
unfolding operands.put
put place value regs = put_at (address_of place regs) place value regs

push : (value : ℕ) (regs : Regs80) → Keeps (Has regs.r) (operands.push value regs)
unfolding operands.push
push value regs = after _ (actions.write _ _) _ (λ first. after _ (actions.write _ _) _ (λ second. give _ _ _ refl))

pop : (regs : Regs80) → Keeps (HasPopped regs.r) (operands.pop regs)
unfolding operands.pop
pop regs = after _ (actions.read_word _) _ (λ value. give _ _ _ refl)

-- loads and exchanges
load : (target source : Place8) (regs : Regs80) → Keeps (HasAfter regs.r) (loads.load target source regs)
unfolding loads.load
load target source regs = after _ _ _ (λ value. bind _ _ _ _ (put target value regs) (λ x h. give _ _ _ h))

load_from_special : (special : Special) (regs : Regs80) → (loads.load_from_special special regs).r ≡ regs.r
unfolding loads.load_from_special
load_from_special special regs = with_af _ _ regs

load_pair_from : (pair : Pair) (at : ℕ) (regs : Regs80) → Keeps (HasAfter regs.r) (loads.load_pair_from pair at regs)
unfolding loads.load_pair_from
load_pair_from pair at regs = after _ _ _ (λ value. give _ _ _ (with_pair pair value regs))

store_pair : (at : ℕ) (pair : Pair) (regs : Regs80) → Keeps (HasAfter regs.r) (loads.store_pair at pair regs)
unfolding loads.store_pair
store_pair at pair regs = after _ _ _ (λ written. give _ _ _ refl)

push_pair : (pair : Pair) (regs : Regs80) → Keeps (HasAfter regs.r) (loads.push_pair pair regs)
unfolding loads.push_pair
push_pair pair regs = bind _ _ _ _ (push _ regs) (λ x h. give _ _ _ h)

pop_pair : (pair : Pair) (regs : Regs80) → Keeps (HasAfter regs.r) (loads.pop_pair pair regs)
unfolding loads.pop_pair
pop_pair pair regs = bind _ _ _ _ (pop regs) (λ x h. give _ _ _ (with_pair pair x.value x.regs ∙ h))

exchange_stack : (index : Index) (regs : Regs80) → Keeps (HasAfter regs.r) (exchanges.exchange_stack index regs)
unfolding exchanges.exchange_stack
exchange_stack index regs =
    after _ (actions.read _) _ (λ lower. after _ (actions.read _) _ (λ upper. after _ (actions.write _ _) _ (λ first. after _ (actions.write _ _) _ (λ second. give _ _ _ (with_pair (parts.pair_at index) _ regs)))))

-- block instructions
going_on : (again : Bool) (regs : Regs80) → (blocks.going_on again regs).regs.r ≡ regs.r
unfolding blocks.going_on
going_on true regs = refl
going_on false regs = refl

block_load : (block : Block) (regs : Regs80) → Keeps (HasAfter regs.r) (blocks.block_load block regs)
unfolding blocks.block_load
block_load block regs = after _ (actions.read _) _ (λ value. after _ (actions.write _ _) _ (λ written. give _ _ _ (going_on _ (blocks.transferred block regs))))

block_compare : (block : Block) (regs : Regs80) → Keeps (HasAfter regs.r) (blocks.block_compare block regs)
unfolding blocks.block_compare
block_compare block regs = after _ _ _ (λ value. give _ _ _ (going_on _ (blocks.searched block value regs)))

block_input : (block : Block) (regs : Regs80) → Keeps (HasAfter regs.r) (ports.block_input block regs)
unfolding ports.block_input
block_input block regs = after _ _ _ (λ written. give _ _ _ (going_on _ (ports.passed block regs)))

block_output : (block : Block) (regs : Regs80) → Keeps (HasAfter regs.r) (ports.block_output block regs)
unfolding ports.block_output
block_output block regs = after _ _ _ (λ value. give _ _ _ (going_on _ (ports.passed block regs)))

-- arithmetic, bits and ports
operate : (task : Task80) (place : Place8) (regs : Regs80) → Keeps (HasAfter regs.r) (arithmetic.arithmetic task place regs)
unfolding arithmetic.arithmetic
operate task place regs = after _ _ _ (λ value. give _ _ _ (with_af _ _ regs))

change : (task : Task80) (place : Place8) (regs : Regs80) → Keeps (HasAfter regs.r) (arithmetic.change task place regs)
unfolding arithmetic.change
change task place regs = after _ _ _ (λ value. bind _ _ _ _ (put place _ regs) (λ x h. give _ _ _ (with_f _ x ∙ h)))

accumulator : (task : Task80) (regs : Regs80) → (control.accumulator task regs).r ≡ regs.r
unfolding control.accumulator
accumulator task regs = with_af _ _ regs

test_bit : (bit : Bit) (place : Place8) (regs : Regs80) → Keeps (HasAfter regs.r) (bits.test_bit bit place regs)
unfolding bits.test_bit
test_bit bit place regs = after _ _ _ (λ value. give _ _ _ (with_f _ regs))

rotate_digits_left : (regs : Regs80) → Keeps (HasAfter regs.r) (rotates.rotate_digits_left regs)
unfolding rotates.rotate_digits_left
rotate_digits_left regs = after _ (actions.read _) _ (λ value. after _ (actions.write _ _) _ (λ written. give _ _ _ (with_af _ _ regs)))

rotate_digits_right : (regs : Regs80) → Keeps (HasAfter regs.r) (rotates.rotate_digits_right regs)
unfolding rotates.rotate_digits_right
rotate_digits_right regs = after _ (actions.read _) _ (λ value. after _ (actions.write _ _) _ (λ written. give _ _ _ (with_af _ _ regs)))

input : (place : Place8) (regs : Regs80) → Keeps (HasAfter regs.r) (ports.input place regs)
unfolding ports.input
input place regs = bind _ _ _ _ (put place _ regs) (λ x h. give _ _ _ (with_f _ x ∙ h))

input_at_number : (regs : Regs80) → (ports.input_at_number regs).r ≡ regs.r
unfolding ports.input_at_number
input_at_number regs = with_af _ _ regs

-- 16 bits
resulting : (pair : Pair) (out : Out16) (regs : Regs80) → (pairs.resulting pair out regs).r ≡ regs.r
resulting pair out regs = with_f out.f (parts.with_pair pair out.value regs) ∙ with_pair pair out.value regs

add_pair : (index : Index) (pair : Pair) (regs : Regs80) → (pairs.add_pair index pair regs).r ≡ regs.r
unfolding pairs.add_pair
add_pair index pair regs = resulting _ _ regs

add_pair_with_carry : (pair : Pair) (regs : Regs80) → (pairs.add_pair_with_carry pair regs).r ≡ regs.r
unfolding pairs.add_pair_with_carry
add_pair_with_carry pair regs = resulting _ _ regs

subtract_pair_with_carry : (pair : Pair) (regs : Regs80) → (pairs.subtract_pair_with_carry pair regs).r ≡ regs.r
unfolding pairs.subtract_pair_with_carry
subtract_pair_with_carry pair regs = resulting _ _ regs

increment_pair : (pair : Pair) (regs : Regs80) → (pairs.increment_pair pair regs).r ≡ regs.r
unfolding pairs.increment_pair
increment_pair pair regs = with_pair pair _ regs

decrement_pair : (pair : Pair) (regs : Regs80) → (pairs.decrement_pair pair regs).r ≡ regs.r
unfolding pairs.decrement_pair
decrement_pair pair regs = with_pair pair _ regs

-- jumps, calls and returns
of_two : (test : Bool) (r : ℕ) (one other : Outcome) → HasAfter r one → HasAfter r other → HasAfter r (if test then one else other)
of_two true r one other h k = h
of_two false r one other h k = k

jump : (target : ℕ) (regs : Regs80) → (jumps.jump target regs).r ≡ regs.r
unfolding jumps.jump
jump target regs = refl

jump_relative : (distance : ℕ) (regs : Regs80) → (jumps.jump_relative distance regs).r ≡ regs.r
unfolding jumps.jump_relative
jump_relative distance regs = refl

jump_if : (condition : Condition) (target : ℕ) (regs : Regs80) → HasAfter regs.r (jumps.jump_if condition target regs)
unfolding jumps.jump_if
jump_if condition target regs = of_two (holds condition (parts.f_of regs)) regs.r _ _ (jump target regs) refl

jump_relative_if : (condition : Condition) (distance : ℕ) (regs : Regs80) → HasAfter regs.r (jumps.jump_relative_if condition distance regs)
unfolding jumps.jump_relative_if
jump_relative_if condition distance regs = of_two (holds condition (parts.f_of regs)) regs.r _ _ (jump_relative distance regs) refl

decrement_and_jump : (distance : ℕ) (regs : Regs80) → HasAfter regs.r (jumps.decrement_and_jump distance regs)
unfolding jumps.decrement_and_jump
decrement_and_jump distance regs =
    of_two (parts.byte_down (parts.high regs.bc) == 0) regs.r _ _ refl (jump_relative distance (jumps.counted regs))

call : (target : ℕ) (regs : Regs80) → Keeps (HasAfter regs.r) (calls.call target regs)
unfolding calls.call
call target regs = bind _ _ _ _ (push regs.pc regs) (λ x h. give _ _ _ h)

call_if : (condition : Condition) (target : ℕ) (regs : Regs80) → Keeps (HasAfter regs.r) (calls.call_if condition target regs)
unfolding calls.call_if
call_if condition target regs = choice _ (holds condition (parts.f_of regs)) _ _ (call target regs) (give _ _ _ refl)

return_from : (regs : Regs80) → Keeps (HasAfter regs.r) (calls.return_from regs)
unfolding calls.return_from
return_from regs = bind _ _ _ _ (pop regs) (λ x h. give _ _ _ h)

return_if : (condition : Condition) (regs : Regs80) → Keeps (HasAfter regs.r) (calls.return_if condition regs)
unfolding calls.return_if
return_if condition regs = choice _ (holds condition (parts.f_of regs)) _ _ (return_from regs) (give _ _ _ refl)

return_from_non_maskable : (regs : Regs80) → Keeps (HasAfter regs.r) (calls.return_from_non_maskable regs)
unfolding calls.return_from_non_maskable
return_from_non_maskable regs = return_from (record regs { iff1 = regs.iff2 })

-- what is left, by their definitions
exchanged : (regs : Regs80) → ((exchanges.exchange_de_hl regs).r ≡ regs.r) × ((exchanges.exchange_af regs).r ≡ regs.r) × ((exchanges.exchange_all regs).r ≡ regs.r)
unfolding exchanges.exchange_de_hl exchanges.exchange_af exchanges.exchange_all
exchanged regs = (refl, refl, refl)

disabled : (regs : Regs80) → (control.disabled regs).r ≡ regs.r
unfolding control.disabled
disabled regs = refl

enabled : (regs : Regs80) → (control.enabled regs).r ≡ regs.r
unfolding control.enabled
enabled regs = refl

with_mode : (mode : InterruptMode) (regs : Regs80) → (control.with_mode mode regs).r ≡ regs.r
unfolding control.with_mode
with_mode mode regs = refl

load_stack_pointer : (index : Index) (regs : Regs80) → (loads.load_stack_pointer index regs).r ≡ regs.r
unfolding loads.load_stack_pointer
load_stack_pointer index regs = refl

jump_index : (index : Index) (regs : Regs80) → (jumps.jump_index index regs).r ≡ regs.r
unfolding jumps.jump_index
jump_index index regs = refl

load_to_interrupt : (regs : Regs80) → (loads.load_to_special Interrupt regs).r ≡ regs.r
unfolding loads.load_to_special
load_to_interrupt regs = refl

row : (op : Op80) (regs : Regs80) → loads_r op ≡ false → Keeps (HasAfter regs.r) (execution.row op regs)
row (ops.Load target source) regs e = load target source regs
row (ops.LoadFromSpecial special) regs e = give _ _ _ (load_from_special special regs)
row (ops.LoadToSpecial Interrupt) regs e = give _ _ _ (load_to_interrupt regs)
row (ops.LoadToSpecial Refresh) regs e = absurd (cc)
row (ops.LoadPair pair value) regs e = give _ _ _ (with_pair pair value regs)
row (ops.LoadIndex index at) regs e = load_pair_from _ at regs
row (ops.LoadPairExtended pair at) regs e = load_pair_from pair at regs
row (ops.StoreIndex at index) regs e = store_pair at _ regs
row (ops.StorePairExtended at pair) regs e = store_pair at pair regs
row (ops.LoadStackPointer index) regs e = give _ _ _ (load_stack_pointer index regs)
row (ops.Push pair) regs e = push_pair pair regs
row (ops.Pop pair) regs e = pop_pair pair regs
row ops.ExchangeDeHl regs e = give _ _ _ (exchanged regs).0
row ops.ExchangeAf regs e = give _ _ _ (exchanged regs).1
row ops.ExchangeAll regs e = give _ _ _ (exchanged regs).2
row (ops.ExchangeStack index) regs e = exchange_stack index regs
row (ops.BlockLoad block) regs e = block_load block regs
row (ops.BlockCompare block) regs e = block_compare block regs
row (ops.Arithmetic task place) regs e = operate task place regs
row (ops.Step task place) regs e = change task place regs
row (ops.Accumulator task) regs e = give _ _ _ (accumulator task regs)
row ops.Negate regs e = give _ _ _ (accumulator _ regs)
row ops.DisableInterrupts regs e = give _ _ _ (disabled regs)
row ops.EnableInterrupts regs e = give _ _ _ (enabled regs)
row (ops.SetInterruptMode mode) regs e = give _ _ _ (with_mode mode regs)
row (ops.AddPair index pair) regs e = give _ _ _ (add_pair index pair regs)
row (ops.AddPairWithCarry pair) regs e = give _ _ _ (add_pair_with_carry pair regs)
row (ops.SubtractPairWithCarry pair) regs e = give _ _ _ (subtract_pair_with_carry pair regs)
row (ops.IncrementPair pair) regs e = give _ _ _ (increment_pair pair regs)
row (ops.DecrementPair pair) regs e = give _ _ _ (decrement_pair pair regs)
row (ops.Change task place) regs e = change task place regs
row (ops.TestBit bit place) regs e = test_bit bit place regs
row ops.RotateDigitsLeft regs e = rotate_digits_left regs
row ops.RotateDigitsRight regs e = rotate_digits_right regs
row (ops.Jump target) regs e = give _ _ _ (jump target regs)
row (ops.JumpIf condition target) regs e = give _ _ _ (jump_if condition target regs)
row (ops.JumpRelative distance) regs e = give _ _ _ (jump_relative distance regs)
row (ops.JumpRelativeIf condition distance) regs e = give _ _ _ (jump_relative_if condition distance regs)
row (ops.JumpIndex index) regs e = give _ _ _ (jump_index index regs)
row (ops.DecrementAndJump distance) regs e = give _ _ _ (decrement_and_jump distance regs)
row (ops.Call target) regs e = call target regs
row (ops.CallIf condition target) regs e = call_if condition target regs
row ops.Return regs e = return_from regs
row (ops.ReturnIf condition) regs e = return_if condition regs
row ops.ReturnFromInterrupt regs e = return_from regs
row ops.ReturnFromNonMaskable regs e = return_from_non_maskable regs
row (ops.Restart target) regs e = call target regs
row (ops.InputAtNumber port) regs e = give _ _ _ (input_at_number regs)
row (ops.Input place) regs e = input place regs
row (ops.BlockInput block) regs e = block_input block regs
row (ops.BlockOutput block) regs e = block_output block regs
row op regs e = give _ _ _ refl

-- an interrupt
enter : (regs : Regs80) → Keeps (Has regs.r) (entries.enter regs)
unfolding entries.enter
enter regs = bind _ _ _ _ (push regs.pc (control.disabled regs)) (λ x h. after _ _ _ (λ target. give _ _ _ (h ∙ disabled regs)))

-- samples
abbrev EndsWith : ℕ → Result Ended Request80 → Type 0
EndsWith r (Ok ended) = ended.regs.r ≡ r
EndsWith r (Err request) = Unit {0}

finished : (op : Op80) (r : ℕ) (first : Result (Outcome × Done) Request80) → Fine (HasAfter r) first → EndsWith r (finished_by op first)
finished op r (Ok x) h = h
finished op r (Err request) h = tt

instruction : (found : Decoded80) (first : ℕ) (regs : Regs80) (memory : Memory) → loads_r found.op ≡ false → EndsWith (fetched found first regs).r (samples.instruction found first regs memory)
unfolding samples.instruction
instruction found first regs memory e =
    finished found.op (fetched found first regs).r _ ((row found.op (fetched found first regs) e).at memory nothing)

entered_with : (time r : ℕ) (first : Result (Regs80 × Done) Request80) → Fine (Has r) first → EndsWith r (entered time first)
entered_with time r (Ok x) h = h
entered_with time r (Err request) h = tt

interrupt : (regs : Regs80) (memory : Memory) → EndsWith regs.r (samples.interrupt regs memory)
unfolding samples.interrupt
interrupt regs memory = entered_with _ regs.r _ ((enter regs).at memory nothing)

pub after_instruction : (regs : Regs80) (memory : Memory) (ended : Ended) → samples.sampled 0 regs memory ≡ Ok ended → loads_r (instruction_of (instruction_bytes regs.pc memory)).op ≡ false → (ended.regs.r / 0x80 ≡ regs.r / 0x80) × ((ended.regs.r % 0x80 ≡ (regs.r + 1) % 0x80) ⊎ (ended.regs.r % 0x80 ≡ (regs.r + 2) % 0x80))
unfolding samples.sampled
after_instruction regs memory ended e other =
    let bytes = instruction_bytes regs.pc memory in
    let found = instruction_of bytes in
    let first = slice_index bytes 0 in
    let r : ended.regs.r ≡ (fetched found first regs).r = subst (EndsWith (fetched found first regs).r) e (instruction found first regs memory other) in
    rw r (high found first regs, low found first regs)

pub after_interrupt : (cause : ℕ) (regs : Regs80) (memory : Memory) (ended : Ended) → cause ≢ 0 → samples.sampled cause regs memory ≡ Ok ended → ended.regs.r ≡ regs.r
unfolding samples.sampled
after_interrupt cause regs memory ended other e =
    let test = ne_eqb cause 0 other in
    let came : samples.interrupt regs memory ≡ Ok ended = rw test at e in
    subst (EndsWith regs.r) came (interrupt regs memory)
