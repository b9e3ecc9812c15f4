-- The rows of instructions that make no shared access: with operands in registers, in the instruction or in RAM.
use Rattle.std.proofs.Common.{◌≡◌, ℕ, ◌+◌, ◌/◌, ◌%◌, ◌<◌, ◌∙◌, ◌==◌, Bool, true, false, List, [], ◌∷◌, length, Option, Some, None, Ok, Err, refl, sym, ap, slice_index, arith}
use Rattle.std.specs.Prelude.{IsTrue, not, ◌&&◌}
use Rattle.std.proofs.lemmas.Bool.Decides.{nat_tests}
use Rattle.md_word.specs.declared.sub_bus.Request80.TheVariants as requests
use Rattle.md_word.specs.declared.bit.Bit.{Bit}
use Rattle.md_word.specs.declared.task80.Task80.TheVariants.{Test}
use Rattle.md_word.specs.declared.task80.Task80.{Task80}
use Rattle.z80_alu.specs.declared.out80.Out80.{Out80}
use Rattle.z80_alu.specs.Tasks.{computed}
use Rattle.z80_decode.specs.Fields.{word}
use Rattle.z80_decode.specs.declared.block.Block.{Block}
use Rattle.z80_decode.specs.declared.pair.Pair.{Pair}
use Rattle.z80_decode.specs.declared.place8.Place8.{Place8}
use Rattle.z80_parcel.specs.Parcels.{Store, banked, stored, written}
use Rattle.z80_exec.specs.Access.Actions as actions
use Rattle.z80_exec.specs.Access.Memory.{Memory, is_ram, is_shared_write, next, ram_place}
use Rattle.z80_exec.specs.Access.Operands as operands
use Rattle.z80_exec.specs.Access.Operands.{Popped}
use Rattle.z80_exec.specs.Access.Outcomes.{outcome_of, plain, taken}
use Rattle.z80_exec.specs.Access.Parts as parts
use Rattle.z80_exec.specs.Access.Parts.{a_of, down, f_of, with_af, with_f}
use Rattle.z80_exec.specs.Rows.Arithmetic as arithmetic
use Rattle.z80_exec.specs.Rows.Bits as bits
use Rattle.z80_exec.specs.Rows.Blocks as blocks
use Rattle.z80_exec.specs.Rows.Calls as calls
use Rattle.z80_exec.specs.Rows.Loads as loads
use Rattle.z80_exec.specs.Sample.Prediction.{all_answered, answered_with}
use Rattle.z80_exec.specs.Sample.Private.{AsksOnce, Finds, IsPrivate, IsSharedAt, Puts, Reads, Writes, wrote}
use Rattle.z80_exec.specs.Sample.Samples.{nothing}
use Rattle.z80_exec.specs.declared.access.waiting.Waiting.TheVariants as waitings
use Rattle.z80_exec.specs.declared.regs80.Regs80.{Regs80}
use Rattle.z80_exec.proofs.Meaning.{pushed, ram_read, ram_write}
use Rattle.z80_exec.proofs.Prediction.{load-following, write-following}
use Rattle.z80_exec.proofs.Private.{done-nothing}

inside : (at : ℕ) → at < 0x4000 → IsTrue (is_ram at)
inside at low = grind (arith, nat_tests)

-- ---- a byte

pub reads-ram : (at value : ℕ) (store : Store) → at < 0x4000 → value ≡ slice_index store.ram (ram_place at) → Reads (actions.read at) value store
reads-ram at value store low found memory same =
    ram_read at memory nothing (inside at low) ∙ ap (λ (n : ℕ). Ok (n, nothing)) (ap (λ (l : List ℕ). slice_index l (ram_place at)) same ∙ sym found)

pub stored-one : (at value : ℕ) (before after : Store) → after.ram ≡ stored before.ram (at, value) → after.bank ≡ banked before.bank (at, value) → after ≡ written ((at, value) ∷ []) before
stored-one at value before after ram bank =
    ap (λ (l : List ℕ). record { ram = l; bank = after.bank }) ram ∙ ap (λ (n : ℕ). record { ram = stored before.ram (at, value); bank = n }) bank

pub writes-ram : (at value : ℕ) (before after : Store) → at < 0x4000 → after.ram ≡ stored before.ram (at, value) → after.bank ≡ banked before.bank (at, value) → IsPrivate (actions.write at value) tt before after
writes-ram at value before after low ram bank = record {
  writes = (at, value) ∷ [];
  gives = λ memory same. ram_write at value memory nothing (inside at low);
  left = stored-one at value before after ram bank;
}

-- ---- a word

pub reads-word : (at value low high : ℕ) (store : Store) → at < 0x4000 → next at < 0x4000 → low ≡ slice_index store.ram (ram_place at) → high ≡ slice_index store.ram (ram_place (next at)) → value ≡ word low high
    → Reads (actions.read_word at) value store
unfolding actions.read_word
reads-word at value low high store first second lower upper is = λ memory same.
    rw (reads-ram at low store first lower memory same) (rw (reads-ram (next at) high store second upper memory same, is) refl)

pub writes-word : (at value lower upper : ℕ) (before mid after : Store) → at < 0x4000 → next at < 0x4000 → lower ≡ value % 0x100 → upper ≡ value / 0x100
    → mid ≡ written ((at, lower) ∷ []) before → after ≡ written ((next at, upper) ∷ []) mid → IsPrivate (actions.write_word at value) tt before after
unfolding actions.write_word
writes-word at value lower upper before mid after first second low high one two = record {
  writes = (at, value % 0x100) ∷ (next at, value / 0x100) ∷ [];
  gives = λ memory same. rw (ram_write at (value % 0x100) memory nothing (inside at first)) (rw (ram_write (next at) (value / 0x100) memory (wrote ((at, value % 0x100) ∷ [])) (inside (next at) second)) refl);
  left = two ∙ ap (λ (s : Store). written ((next at, upper) ∷ []) s) one ∙ rw (low, high) refl;
}

-- ---- an operand

pub finds-ram : (result : Option ℕ) (place : Place8) (at : ℕ) (regs : Regs80) (store : Store) → operands.address_of place regs ≡ Some at → Finds result (actions.read at) store → Finds result (operands.fetch place regs) store
unfolding operands.fetch
finds-ram (Some value) place at regs store e reads = λ memory same. rw e (reads memory same)
finds-ram None place at regs store e reads = tt

pub reads-register : (value : ℕ) (place : Place8) (regs : Regs80) (store : Store) → operands.address_of place regs ≡ None → value ≡ parts.byte_of place regs → Reads (operands.fetch place regs) value store
unfolding operands.fetch
reads-register value place regs store e is = λ memory same. rw (e, is) refl

pub puts-ram : (result : Bool) (place : Place8) (at value : ℕ) (regs : Regs80) (before after : Store) → operands.address_of place regs ≡ Some at → Writes result (actions.write at value) before after → Puts result (operands.put place value regs) regs regs before after
unfolding operands.put operands.put_memory
puts-ram true place at value regs before after e write = record {
  writes = write.writes;
  gives = λ memory same. rw e (rw (write.gives memory same) refl);
  left = write.left;
}
puts-ram false place at value regs before after e stays = (refl, stays)

pub puts-register : (place : Place8) (value : ℕ) (regs new : Regs80) (store : Store) → operands.address_of place regs ≡ None → new ≡ parts.with_byte place value regs → IsPrivate (operands.put place value regs) new store store
unfolding operands.put
puts-register place value regs new store e is = done-nothing (operands.put place value regs) new store (λ memory same. rw (e, is) refl)

-- ---- LD of 8 bits, operations of A, INC and DEC

pub load-row : (target source : Place8) (value : ℕ) (regs new : Regs80) (before after : Store) → Reads (operands.fetch source regs) value before → IsPrivate (operands.put target value regs) new before after
    → IsPrivate (loads.load target source regs) (plain new) before after
unfolding loads.load
load-row target source value regs new before after reads put = record {
  writes = put.writes;
  gives = λ memory same. rw (reads memory same) (rw (put.gives memory same) refl);
  left = put.left;
}

-- an LD to a shared address waits for its write
asks-write : (at value : ℕ) (memory : Memory) → is_shared_write at ≡ true → memory.answers ≡ [] → actions.write at value memory nothing ≡ Err (requests.Write at value)
unfolding actions.write actions.reported actions.asked
asks-write at value memory shared none = rw (shared, none) refl

puts-answered : (target : Place8) (at value : ℕ) (regs : Regs80) (memory : Memory) (answer : ℕ) → IsSharedAt target at regs → memory.answers ≡ [] → operands.put target value regs (answered_with answer memory) nothing ≡ Ok (regs, all_answered memory)
unfolding operands.put operands.put_memory
puts-answered target at value regs memory answer shared none =
    rw (shared.0) (rw (write-following at value memory nothing (requests.Write at value) (asks-write at value memory shared.1 none) (sym (ap length none)) refl answer) refl)

pub load-asks : (target source : Place8) (at value : ℕ) (regs : Regs80) (store : Store) → IsSharedAt target at regs → Reads (operands.fetch source regs) value store → AsksOnce (loads.load target source regs) (waitings.Write at value) regs store
unfolding loads.load operands.put operands.put_memory
load-asks target source at value regs store shared reads = record {
  asks = λ memory same none. rw (reads memory same) (rw (shared.0) (rw (asks-write at value memory shared.1 none) refl));
  ends = λ memory same none answer. load-following target source regs memory nothing value nothing answer (reads memory same) (omega arith) (puts-answered target at value regs memory answer shared none);
}

-- what the operation gives, by what the code took
comes-out : (task : Task80) (a value f : ℕ) (regs : Regs80) (out : Out80) → a ≡ a_of regs → f ≡ f_of regs → out ≡ computed task a value f → out ≡ computed task (a_of regs) value (f_of regs)
comes-out task a value f regs out accumulator flags is = rw (sym accumulator, sym flags) is

pub arithmetic-row : (task : Task80) (place : Place8) (a value f : ℕ) (regs new : Regs80) (out : Out80) (store : Store) → Reads (operands.fetch place regs) value store
    → a ≡ a_of regs → f ≡ f_of regs → out ≡ computed task a value f → new ≡ with_af out.value out.f regs → IsPrivate (arithmetic.arithmetic task place regs) (plain new) store store
unfolding arithmetic.arithmetic
arithmetic-row task place a value f regs new out store reads accumulator flags is after =
    let comes = comes-out task a value f regs out accumulator flags is in
    done-nothing (arithmetic.arithmetic task place regs) (plain new) store (λ memory same. rw (reads memory same) (rw (after, comes) refl))

pub change-row : (task : Task80) (place : Place8) (a value f : ℕ) (regs mid new : Regs80) (out : Out80) (before after : Store) → Reads (operands.fetch place regs) value before
    → a ≡ a_of regs → f ≡ f_of regs → out ≡ computed task a value f → IsPrivate (operands.put place out.value regs) mid before after → new ≡ with_f out.f mid
    → IsPrivate (arithmetic.change task place regs) (plain new) before after
unfolding arithmetic.change
change-row task place a value f regs mid new out before after reads accumulator flags is put left =
    let comes = comes-out task a value f regs out accumulator flags is in
    record {
      writes = put.writes;
      gives = λ memory same. rw (reads memory same, sym comes) (rw (put.gives memory same, left) refl);
      left = put.left;
    }

pub test-row : (bit : Bit) (place : Place8) (a value f : ℕ) (regs new : Regs80) (out : Out80) (store : Store) → Reads (operands.fetch place regs) value store
    → a ≡ a_of regs → f ≡ f_of regs → out ≡ computed (Test bit) a value f → new ≡ with_f out.f regs → IsPrivate (bits.test_bit bit place regs) (plain new) store store
unfolding bits.test_bit
test-row bit place a value f regs new out store reads accumulator flags is after =
    let comes = comes-out (Test bit) a value f regs out accumulator flags is in
    done-nothing (bits.test_bit bit place regs) (plain new) store (λ memory same. rw (reads memory same) (rw (after, comes) refl))

-- ---- LD of 16 bits, and of blocks

pub load-pair-row : (pair : Pair) (at value : ℕ) (regs new : Regs80) (store : Store) → Reads (actions.read_word at) value store → new ≡ parts.with_pair pair value regs → IsPrivate (loads.load_pair_from pair at regs) (plain new) store store
unfolding loads.load_pair_from
load-pair-row pair at value regs new store reads is = done-nothing (loads.load_pair_from pair at regs) (plain new) store (λ memory same. rw (reads memory same, is) refl)

pub store-pair-row : (at value : ℕ) (pair : Pair) (regs : Regs80) (before after : Store) → value ≡ parts.pair_of pair regs → IsPrivate (actions.write_word at value) tt before after → IsPrivate (loads.store_pair at pair regs) (plain regs) before after
unfolding loads.store_pair
store-pair-row at value pair regs before after is write = record { writes = write.writes; gives = λ memory same. rw (sym is) (rw (write.gives memory same) refl); left = write.left }

pub block-row : (block : Block) (value : ℕ) (again ended : Bool) (regs mid new : Regs80) (before after : Store) → Reads (actions.read regs.hl) value before → IsPrivate (actions.write regs.de value) tt before after
    → again ≡ (blocks.repeats block && not (down regs.bc == 0)) → mid ≡ blocks.transferred block regs → outcome_of ended new ≡ blocks.going_on again mid → IsPrivate (blocks.block_load block regs) (outcome_of ended new) before after
unfolding blocks.block_load
block-row block value again ended regs mid new before after reads write repeats moved outcome = record {
  writes = write.writes;
  gives = λ memory same. rw (reads memory same) (rw (write.gives memory same) (rw (outcome, moved, repeats) refl));
  left = write.left;
}

-- ---- the stack

pub pushes : (value upper lower : ℕ) (regs : Regs80) (before mid after : Store) → down regs.sp < 0x4000 → down (down regs.sp) < 0x4000 → upper ≡ parts.high value → lower ≡ parts.low value
    → mid ≡ written ((down regs.sp, upper) ∷ []) before → after ≡ written ((down (down regs.sp), lower) ∷ []) mid
    → IsPrivate (operands.push value regs) (record regs { sp = down (down regs.sp) }) before after
pushes value upper lower regs before mid after above below high low first second = record {
  writes = (down regs.sp, parts.high value) ∷ (down (down regs.sp), parts.low value) ∷ [];
  gives = λ memory same. pushed value regs memory nothing (inside (down regs.sp) above) (inside (down (down regs.sp)) below);
  left = second ∙ ap (λ (s : Store). written ((down (down regs.sp), lower) ∷ []) s) first ∙ rw (high, low) refl;
}

pub pops : (value : ℕ) (regs : Regs80) (store : Store) → Reads (actions.read_word regs.sp) value store
    → Reads (operands.pop regs) (record { value = value; regs = record regs { sp = (regs.sp + 2) % 0x1_0000 } }) store
unfolding operands.pop
pops value regs store reads = λ memory same. rw (reads memory same) refl

pub push-row : (pair : Pair) (value : ℕ) (regs new : Regs80) (before after : Store) → value ≡ parts.pair_of pair regs → IsPrivate (operands.push value regs) new before after → IsPrivate (loads.push_pair pair regs) (plain new) before after
unfolding loads.push_pair
push-row pair value regs new before after is push = record { writes = push.writes; gives = λ memory same. rw (sym is) (rw (push.gives memory same) refl); left = push.left }

pub pop-row : (pair : Pair) (value : ℕ) (regs mid new : Regs80) (store : Store) → Reads (operands.pop regs) (record { value = value; regs = mid }) store → new ≡ parts.with_pair pair value mid
    → IsPrivate (loads.pop_pair pair regs) (plain new) store store
unfolding loads.pop_pair
pop-row pair value regs mid new store reads is = done-nothing (loads.pop_pair pair regs) (plain new) store (λ memory same. rw (reads memory same, is) refl)

pub call-row : (target : ℕ) (regs mid : Regs80) (before after : Store) → IsPrivate (operands.push regs.pc regs) mid before after → IsPrivate (calls.call target regs) (taken (record mid { pc = target })) before after
unfolding calls.call
call-row target regs mid before after push = record { writes = push.writes; gives = λ memory same. rw (push.gives memory same) refl; left = push.left }

pub return-row : (target : ℕ) (regs mid : Regs80) (store : Store) → Reads (operands.pop regs) (record { value = target; regs = mid }) store → IsPrivate (calls.return_from regs) (taken (record mid { pc = target })) store store
unfolding calls.return_from
return-row target regs mid store reads = done-nothing (calls.return_from regs) (taken (record mid { pc = target })) store (λ memory same. rw (reads memory same) refl)
