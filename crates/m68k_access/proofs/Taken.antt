-- How many answers an action has taken.
use Rattle.std.proofs.Common.{◌≡◌, ℕ, ◌+◌, ◌∙◌, Bool, true, false, nat_lt, length, Result, Ok, Err, ◌%◌, ◌/◌, slice_index}
use Rattle.md_word.specs.declared.main_bus.Request68.{Request68}
use Rattle.m68k_access.specs.Actions as actions
use Rattle.md_word.specs.Answers.{Done}
use Rattle.md_word.proofs.Answered.{written-used}
use Rattle.m68k_access.specs.Memory.{Memory, is_ram}
use Rattle.m68k_access.specs.declared.stop.Stop.{Stop}
use Rattle.m68k_access.specs.declared.stop.Stop.TheVariants.{Ask, Odd}

-- how many answers were taken at the end, or before an address error
unfoldable pub used_of : {A : Type 0} → Result (A × Done) Stop → ℕ
used_of (Ok x) = x.1.used
used_of (Err (Ask request)) = 0
used_of (Err (Odd address read used)) = used

pub answered : (request : Request68) (memory : Memory) (before : Done) → nat_lt before.used (length memory.answers) ≡ true → actions.asked request memory before ≡ Ok (slice_index memory.answers before.used, record before { used = before.used + 1 })
unfolding actions.asked
answered request memory before e = rw e

pub unanswered : (request : Request68) (memory : Memory) (before : Done) → nat_lt before.used (length memory.answers) ≡ false → actions.asked request memory before ≡ Err (Ask request)
unfolding actions.asked
unanswered request memory before e = rw e

-- an access is answered or waits: its address is never odd
pub never_odd : (request : Request68) (memory : Memory) (before : Done) (address : ℕ) (read : Bool) (used : ℕ) (test : Bool) → nat_lt before.used (length memory.answers) ≡ test → actions.asked request memory before ≡ Err (Odd address read used) → ⊥
never_odd request memory before address read used true t e = let first = answered request memory before t in cc
never_odd request memory before address read used false t e = let first = unanswered request memory before t in cc

-- private writes take none
pub with_byte-used : (at value : ℕ) (done : Done) → (actions.with_byte at value done).used ≡ done.used
unfolding actions.with_byte
with_byte-used at value done = written-used (is_ram at) at value done

pub with_word-used : (at value : ℕ) (done : Done) → (actions.with_word at value done).used ≡ done.used
unfolding actions.with_word
with_word-used at value done =
    with_byte-used (at + 1) (value % 0x100) (actions.with_byte at (value / 0x100) done) ∙ with_byte-used at (value / 0x100) done
