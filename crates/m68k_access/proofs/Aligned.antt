-- Of an operand that is read and then written only the read can be an address error.
use Rattle.std.proofs.Common.{◌≡◌, ℕ, ◌+◌, ◌%◌, ◌/◌, ◌^◌, ◌<◌, ◌≤◌, Bool, true, false, Ok, Err, Result, refl, arith}
use Rattle.std.specs.Prelude.{if◌then◌else◌, length, nat_lt}
use Rattle.md_word.specs.declared.main_bus.Request68.{Request68}
use Rattle.md_word.specs.declared.main_bus.Request68.TheVariants.{Read8}
use Rattle.md_word.specs.declared.mode.Mode.{Mode}
use Rattle.md_word.specs.declared.mode.Mode.TheVariants.{Address, Data, Immediate}
use Rattle.md_word.specs.declared.regs.Regs.{Regs}
use Rattle.md_word.specs.declared.size.Size.{Size}
use Rattle.md_word.specs.declared.size.Size.TheVariants.{Byte, Long, Word}
use Rattle.md_word.specs.declared.task.Task.{Task}
use Rattle.m68k_decode.specs.Ops.{moves_of, touches_of}
use Rattle.m68k_ea.specs.Addresses.{effective_address}
use Rattle.m68k_ea.specs.Places.{is_misaligned, place_of, standing}
use Rattle.m68k_ea.specs.declared.places.Place.{Place}
use Rattle.m68k_ea.specs.declared.places.Place.TheVariants as places
use Rattle.md_word.specs.Answers.{Done}
use Rattle.m68k_access.specs.Actions.{asked, asked_byte, go_on, is_odd, read, read_aligned, read_byte, read_long, read_word, reported, write, write_aligned, write_byte, write_long, write_word}
use Rattle.m68k_access.specs.Clauses.{NotOdd}
use Rattle.md_word.specs.Map.{is_shared}
use Rattle.m68k_access.specs.Memory.{Memory, bus_address}
use Rattle.m68k_access.specs.Operands.{fetch, put, stored}
use Rattle.m68k_access.specs.Shapes.{change_operand}
use Rattle.m68k_access.specs.declared.stop.Stop.{Stop}
use Rattle.m68k_access.specs.declared.stop.Stop.TheVariants.{Ask, Odd}

-- an address error comes before so many answers
abbrev pub OddBelow : {A : Type 0} → Result A Stop → ℕ → Type 0
OddBelow (Ok x) limit = Unit {0}
OddBelow (Err (Ask request)) limit = Unit {0}
OddBelow (Err (Odd address read used)) limit = used < limit

-- a choice, and one action after another
either : {A : Type 0} (b : Bool) (x y : Result (A × Done) Stop) → (b ≡ true → NotOdd x) → (b ≡ false → NotOdd y) → NotOdd (if b then x else y)
either true x y h k = h refl
either false x y h k = k refl

pub both : {A B : Type 0} (first : Result (A × Done) Stop) (f : A → Done → Result (B × Done) Stop) → NotOdd first → ((x : A) (after : Done) → NotOdd (f x after)) → NotOdd (go_on first f)
both (Ok x) f h k = k x.0 x.1
both (Err (Ask request)) f h k = tt
both (Err (Odd at read used)) f h k = h

-- accesses at even addresses, and those of bytes
pub asked_even : (request : Request68) (memory : Memory) (done : Done) → NotOdd (asked request memory done)
unfolding asked
asked_even request memory done = either (nat_lt done.used (length memory.answers)) _ _ (λ h. tt) (λ h. tt)

asked_byte_even : (at : ℕ) (memory : Memory) (done : Done) → NotOdd (asked_byte at memory done)
unfolding asked_byte
asked_byte_even at memory done = both (asked (Read8 at) memory done) _ (asked_even _ memory done) (λ x after. tt)

reported_even : (request : Request68) (memory : Memory) (done : Done) → NotOdd (reported request memory done)
unfolding reported
reported_even request memory done = both (asked request memory done) _ (asked_even request memory done) (λ x after. tt)

read_byte_even : (at : ℕ) (memory : Memory) (done : Done) → NotOdd (read_byte at memory done)
unfolding read_byte
read_byte_even at memory done = either (is_shared (bus_address at)) _ _ (λ h. asked_byte_even _ memory done) (λ h. tt)

read_aligned_even : (at : ℕ) (memory : Memory) (done : Done) → NotOdd (read_aligned at memory done)
unfolding read_aligned
read_aligned_even at memory done = either (is_shared at) _ _ (λ h. asked_even _ memory done) (λ h. tt)

read_word_even : (at : ℕ) → is_odd at ≡ false → (memory : Memory) (done : Done) → NotOdd (read_word at memory done)
unfolding read_word
read_word_even at e memory done = rw e (read_aligned_even _ memory done)

write_byte_even : (at value : ℕ) (memory : Memory) (done : Done) → NotOdd (write_byte at value memory done)
unfolding write_byte
write_byte_even at value memory done = either (is_shared (bus_address at)) _ _ (λ h. reported_even _ memory done) (λ h. tt)

write_aligned_even : (at value : ℕ) (memory : Memory) (done : Done) → NotOdd (write_aligned at value memory done)
unfolding write_aligned
write_aligned_even at value memory done = either (is_shared at) _ _ (λ h. reported_even _ memory done) (λ h. tt)

pub write_word_even : (at value : ℕ) → is_odd at ≡ false → (memory : Memory) (done : Done) → NotOdd (write_word at value memory done)
unfolding write_word
write_word_even at value e memory done = rw e (write_aligned_even _ value memory done)

-- the second word of a long
next_even : (at : ℕ) → is_odd at ≡ false → is_odd ((at + 2) % 2 ^ 32) ≡ false
next_even at e = grind arith

pub read_even : (size : Size) (at : ℕ) → is_misaligned size at ≡ false → (memory : Memory) (done : Done) → NotOdd (read size at memory done)
unfolding read read_long
read_even Byte at e memory done = read_byte_even at memory done
read_even Word at e memory done = read_word_even at e memory done
read_even Long at e memory done =
    both (read_word at memory done) _ (read_word_even at e memory done) (λ high after. both (read_word ((at + 2) % 2 ^ 32) memory after) _ (read_word_even _ (next_even at e) memory after) (λ low last. tt))

pub write_even : (size : Size) (at value : ℕ) → is_misaligned size at ≡ false → (memory : Memory) (done : Done) → NotOdd (write size at value memory done)
unfolding write write_long
write_even Byte at value e memory done = write_byte_even at value memory done
write_even Word at value e memory done = write_word_even at value e memory done
write_even Long at value e memory done =
    both (write_word at (value / 0x1_0000) memory done) _ (write_word_even at _ e memory done) (λ first after. write_word_even _ _ (next_even at e) memory after)

-- an operand in memory is at an aligned address
abbrev StandsAligned : Size → Place → Type 0
StandsAligned size (places.Memory at) = is_misaligned size at ≡ false
StandsAligned size _ = Unit {0}

stands-cases : (size : Size) (at : ℕ) (b : Bool) → is_misaligned size at ≡ b → StandsAligned size (if b then places.Odd at else places.Memory at)
stands-cases size at true e = tt
stands-cases size at false e = e

in_memory : (size : Size) (at : ℕ) → StandsAligned size (standing size at)
unfolding standing
in_memory size at = stands-cases size at _ refl

stands : (mode : Mode) (size : Size) (regs : Regs) (pc : ℕ) → StandsAligned size (place_of mode size regs pc)
stands (Data n) size regs pc = tt
stands (Address n) size regs pc = tt
stands (Immediate value) size regs pc = tt
stands mode size regs pc = in_memory size (effective_address mode size regs pc)

not_below : {A : Type 0} (result : Result A Stop) (limit : ℕ) → NotOdd result → OddBelow result limit
not_below (Ok x) limit h = tt
not_below (Err (Ask request)) limit h = tt
not_below (Err (Odd at read used)) limit h = absurd h

one_more : (used : ℕ) → used < used + 1
one_more used = omega arith

stored_even : (size : Size) (at value : ℕ) (regs : Regs) → is_misaligned size at ≡ false → (memory : Memory) (done : Done) → NotOdd (stored size at value regs memory done)
unfolding stored
stored_even size at value regs e memory done = both (write size at value memory done) _ (write_even size at value e memory done) (λ x after. tt)

changed : {A : Type 0} (size : Size) (place : Place) (regs : Regs) (f : ℕ → ℕ) (g : ℕ → Regs → A) (memory : Memory) (done : Done) → StandsAligned size place → OddBelow (go_on (fetch size place regs memory done) (λ old mid. go_on (put size place (f old) regs memory mid) (λ after last. Ok (g old after, last)))) (done.used + 1)
unfolding fetch put
changed size (places.Register n) regs f g memory done h = tt
changed size (places.Immediate value) regs f g memory done h = tt
changed size (places.Odd at) regs f g memory done h = one_more done.used
changed size (places.Memory at) regs f g memory done h =
    not_below _ _ (both (read size at memory done) _ (read_even size at h memory done) (λ old mid. both (stored size at (f old) regs memory mid) _ (stored_even size at (f old) regs h memory mid) (λ after last. tt)))

pub change_first : (operation : Task) (size : Size) (number : ℕ) (mode : Mode) (pc : ℕ) (regs : Regs) (memory : Memory) (done : Done) → OddBelow (change_operand operation size number mode pc regs memory done) (done.used + 1)
unfolding change_operand
change_first operation size number mode pc regs memory done =
    changed size (place_of mode size regs pc) _ _ _ memory done (stands mode size regs pc)

pub moves_most : (size : Size) → moves_of size ≤ 2
moves_most Byte = omega arith
moves_most Word = omega arith
moves_most Long = omega arith

pub touches_most : (size : Size) (mode : Mode) → touches_of size mode ≤ 2
touches_most size (Data n) = omega arith
touches_most size (Address n) = omega arith
touches_most size (Immediate value) = omega arith
touches_most size mode = moves_most size
