-- An exception follows its frame.
use Rattle.std.proofs.Common.{◌≡◌, ℕ, zero, suc, ◌+◌, ◌≤◌, Bool, true, false, List, [], ◌++◌, length, Some, None, refl, ap, subst, arith}
use Rattle.std.specs.Prelude.{if◌then◌else◌, slice_index}
use Rattle.md_word.specs.declared.regs.Regs.{Regs}
use Rattle.md_word.specs.declared.size.Size.TheVariants.{Word}
use Rattle.m68k_except.specs.Frames.{address_frame, frame_of, halts, is_address_error}
use Rattle.m68k_except.specs.Frames as frames
use Rattle.md_word.specs.Answers.{Done}
use Rattle.m68k_access.specs.Actions.{Act}
use Rattle.m68k_access.specs.Memory.{Memory}
use Rattle.m68k_exec.specs.Sample.Entries as entries
use Rattle.m68k_exec.specs.Sample.Entries.{number_of, vector_at}
use Rattle.m68k_exec.specs.declared.sample.exception.Exception.{Exception}
use Rattle.m68k_exec.specs.declared.sample.exception.Exception.TheVariants.{AddressError, Interrupt, Numbered}
use Rattle.m68k_laws.proofs.Follows.{Follows, GoesAlong, bind, give, last}
use Rattle.m68k_laws.proofs.Single.{write_word}
use Rattle.m68k_laws.specs.Accesses.{Access, Write, one, words}
use Rattle.m68k_laws.specs.Footprints.{above, below}
use Rattle.m68k_laws.specs.Frames.{frame, long_frame, short_frame}

-- the words in the order in which they are pushed
abbrev pushes : ℕ → ℕ → ℕ → List Access
pushes zero k stack = []
pushes (suc left) k stack = one Write Word (below stack (slice_index entries.places k)) ++ pushes left (k + 1) stack

pushed : (left k : ℕ) (list : List ℕ) (stack : ℕ) → Follows (pushes left k stack) (entries.pushed left k list stack)
pushed zero k list stack = give tt
pushed (suc left) k list stack =
    bind (one Write Word (below stack (slice_index entries.places k))) (pushes left (k + 1) stack) _ _ (write_word _ _) (λ written. pushed left (k + 1) list stack)

-- the low word of a long
low_word : (stack : ℕ) → below stack 2 ≡ above (below stack 4) 2
low_word stack = grind arith

low_address : (stack : ℕ) → below stack 10 ≡ above (below stack 12) 2
low_address stack = grind arith

short_words : (stack : ℕ) → words (pushes 3 0 stack) ≡ words (short_frame stack)
short_words stack =
    ap (λ low. one Write Word (below stack 4) ++ one Write Word low ++ one Write Word (below stack 6)) (low_word stack)

long_words : (stack : ℕ) → words (pushes 7 0 stack) ≡ words (long_frame stack)
long_words stack = rw (low_word stack, low_address stack) refl

same_words : {A : Type 0} (u v : List Access) (act : Act A) → words u ≡ words v → Follows u act → Follows v act
same_words u v act e h = record {
  along = λ memory before within. subst (λ list. GoesAlong list (length memory.answers) before.used (act memory before)) e (h.along memory before within);
}

-- a frame of three words, or of seven
entered_short : (exception : Exception) (vector pc : ℕ) (regs : Regs) → Follows (short_frame regs.ssp) (entries.enter_with exception vector (frames.short_frame pc regs) regs)
unfolding entries.enter_with
entered_short exception vector pc regs =
    last _ _ _ (same_words (pushes 3 0 regs.ssp) _ _ (short_words regs.ssp) (pushed 3 0 (frames.short_frame pc regs) regs.ssp)) (λ finished. give _)

entered_long : (exception : Exception) (vector opcode address : ℕ) (read : Bool) (regs : Regs) → Follows (long_frame regs.ssp) (entries.enter_with exception vector (address_frame regs opcode address read) regs)
unfolding entries.enter_with
entered_long exception vector opcode address read regs =
    last _ _ _ (same_words (pushes 7 0 regs.ssp) _ _ (long_words regs.ssp) (pushed 7 0 (address_frame regs opcode address read) regs.ssp)) (λ finished. give _)

entered_by : (exception : Exception) (vector opcode address : ℕ) (read : Bool) (regs : Regs) (halted long : Bool) → Follows (if halted then [] else (if long then long_frame regs.ssp else short_frame regs.ssp)) (entries.enter_by exception vector (if halted then None else Some (if long then address_frame regs opcode address read else frames.short_frame regs.pc regs)) regs)
entered_by exception vector opcode address read regs true long = give None
entered_by exception vector opcode address read regs false true = entered_long exception vector opcode address read regs
entered_by exception vector opcode address read regs false false = entered_short exception vector regs.pc regs

by_number : (exception : Exception) (number vector opcode address : ℕ) (read : Bool) (regs : Regs) → Follows (if halts number vector regs then [] else (if is_address_error number then long_frame regs.ssp else short_frame regs.ssp)) (entries.enter_by exception vector (frame_of number vector regs opcode address read) regs)
by_number exception number vector opcode address read regs =
    entered_by exception vector opcode address read regs (halts number vector regs) (is_address_error number)

by_kind : (exception : Exception) (vector : ℕ) (regs : Regs) → Follows (if halts (number_of exception) vector regs then [] else (if is_address_error (number_of exception) then long_frame regs.ssp else short_frame regs.ssp)) (entries.enter_by exception vector (entries.frame_for exception vector regs) regs)
by_kind (AddressError opcode address read) vector regs = by_number (AddressError opcode address read) 3 vector opcode address read regs
by_kind (Interrupt level) vector regs = by_number (Interrupt level) (24 + level) vector 0 0 false regs
by_kind (Numbered number) vector regs = by_number (Numbered number) number vector 0 0 false regs

pub entered : (exception : Exception) (regs : Regs) (memory : Memory) (before : Done) → before.used ≤ length memory.answers → GoesAlong (words (frame (number_of exception) regs memory)) (length memory.answers) before.used (entries.enter exception regs memory before)
unfolding entries.enter
entered exception regs memory before within = (by_kind exception (vector_at (number_of exception) memory) regs).along memory before within
