-- How many answers an exception takes at most: as many as it pushes words.
use Rattle.std.proofs.Common.{ℕ, zero, suc, ◌+◌, ◌≤◌, Bool, true, false, List, length, Option, Some, None, arith}
use Rattle.std.specs.Prelude.{if◌then◌else◌}
use Rattle.md_word.specs.declared.regs.Regs.{Regs}
use Rattle.m68k_except.specs.Frames.{address_frame, halts, is_address_error, short_frame}
use Rattle.m68k_exec.proofs.Bounds.Takes.{Takes, bind, give, last, look, more, write_word}
use Rattle.m68k_exec.specs.Sample.Entries as entries
use Rattle.m68k_exec.specs.Sample.Entries.{frame_for, number_of, pushes_of, vector_at}
use Rattle.m68k_exec.specs.declared.sample.exception.Exception.{Exception}
use Rattle.m68k_exec.specs.declared.sample.exception.Exception.TheVariants.{AddressError, Interrupt, Numbered}

-- so many words at most
abbrev IsAtMost : ℕ → Option (List ℕ) → Type 0
IsAtMost most (Some words) = length words ≤ most
IsAtMost most None = Unit {0}

within : (halted long : Bool) (seven three : List ℕ) → length seven ≤ 7 → length three ≤ 3 → IsAtMost (if long then 7 else 3) (if halted then None else Some (if long then seven else three))
within true long seven three a b = tt
within false true seven three a b = a
within false false seven three a b = b

framed : (exception : Exception) (vector : ℕ) (regs : Regs) → IsAtMost (pushes_of exception) (frame_for exception vector regs)
framed (AddressError opcode address read) vector regs = within (halts 3 vector regs) true (address_frame regs opcode address read) (short_frame regs.pc regs) (omega arith) (omega arith)
framed (Interrupt level) vector regs = within (halts (24 + level) vector regs) (is_address_error (24 + level)) (address_frame regs 0 0 false) (short_frame regs.pc regs) (omega arith) (omega arith)
framed (Numbered number) vector regs = within (halts number vector regs) (is_address_error number) (address_frame regs 0 0 false) (short_frame regs.pc regs) (omega arith) (omega arith)

pushed : (left k : ℕ) (words : List ℕ) (stack : ℕ) → Takes left (entries.pushed left k words stack)
pushed zero k words stack = give _
pushed (suc left) k words stack = more _ _ _ (omega arith) (bind 1 left _ _ (write_word _ _) (λ written. pushed left (k + 1) words stack))

enter_with : (exception : Exception) (vector : ℕ) (words : List ℕ) (regs : Regs) → Takes (length words) (entries.enter_with exception vector words regs)
unfolding entries.enter_with
enter_with exception vector words regs = last _ _ _ (pushed (length words) 0 words regs.ssp) (λ finished. give _)

enter_by : (most : ℕ) (exception : Exception) (vector : ℕ) (words : Option (List ℕ)) (regs : Regs) → IsAtMost most words → Takes most (entries.enter_by exception vector words regs)
enter_by most exception vector (Some words) regs h = more _ _ _ h (enter_with exception vector words regs)
enter_by most exception vector None regs h = more 0 _ _ (omega arith) (give _)

-- each pushed word takes one answer at most
pub enter : (exception : Exception) (regs : Regs) → Takes (pushes_of exception) (entries.enter exception regs)
unfolding entries.enter
enter exception regs =
    look (pushes_of exception) (vector_at (number_of exception)) (λ vector. entries.enter_by exception vector (frame_for exception vector regs) regs) (λ memory. enter_by _ exception _ _ regs (framed exception _ regs))
