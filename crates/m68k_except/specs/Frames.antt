-- What an exception pushes, and when it halts the processor. M68000 User's Manual, section 6; the
-- halt and the word of an instruction at an odd address: this project's profile.
use Rattle.std.specs.Prelude.{ℕ, ◌+◌, ◌/◌, ◌%◌, ◌^◌, ◌==◌, ◌&&◌, ◌||◌, Bool, if◌then◌else◌, List, [], ◌∷◌, ◌++◌, Option, Some, None}
use Rattle.md_word.specs.Fields.{is_supervisor}
use Rattle.md_word.specs.declared.regs.Regs.{Regs}
use Rattle.m68k_except.specs.declared.answer.Frame.{Frame}
use Rattle.m68k_except.specs.declared.answer.Frame.TheVariants.{Words, Halted}

-- whether an address is odd
abbrev pub is_odd : ℕ → Bool
is_odd n = n % 2 == 1

-- the vector number of the address error
abbrev pub is_address_error : ℕ → Bool
is_address_error cause = cause == 3

-- there is no place to push: the supervisor's stack pointer is odd. An address error halts also
-- where its handler is at an odd address.
abbrev pub halts : ℕ → ℕ → Regs → Bool
halts cause vector regs = is_odd regs.ssp || (is_address_error cause && is_odd vector)

-- a long is pushed as two words, the one at the lower address first
abbrev pub words_of : ℕ → List ℕ
words_of long = long / 0x1_0000 ∷ long % 0x1_0000 ∷ []

-- the program counter and the status register
abbrev pub short_frame : ℕ → Regs → List ℕ
short_frame pc regs = words_of pc ++ regs.sr ∷ []

-- bit 4 is set for a read; bits 2 to 0 are the function code: 1 the user's data, 2 the user's program, 5
-- and 6 the supervisor's. It is the program where the instruction itself is at an odd address.
abbrev pub access_word : Regs → Bool → ℕ
access_word regs read =
    (if read then 16 else 0) + (if is_supervisor regs then 4 else 0) + (if is_odd regs.pc then 2 else 1)

-- the first word of the instruction: at an odd address it reads as all ones
abbrev pub first_word : Regs → ℕ → ℕ
first_word regs opcode = if is_odd regs.pc then 0xffff else opcode

-- after the short frame the first word of the instruction, the address, and the access. The saved
-- program counter is the instruction's and two more.
abbrev pub address_frame : Regs → ℕ → ℕ → Bool → List ℕ
address_frame regs opcode address read =
    short_frame ((regs.pc + 2) % 2 ^ 32) regs ++ first_word regs opcode ∷ words_of address ++ access_word regs read ∷ []

-- the words in the order in which they are pushed; none where the processor halts
abbrev pub frame_of : ℕ → ℕ → Regs → ℕ → ℕ → Bool → Option (List ℕ)
frame_of cause vector regs opcode address read =
    if halts cause vector regs then None
    else Some (if is_address_error cause then address_frame regs opcode address read else short_frame regs.pc regs)

-- what an answer holds
abbrev pub words_in : Frame → Option (List ℕ)
words_in (Words words) = Some words.items
words_in Halted = None
