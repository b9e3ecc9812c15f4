-- How an exception begins: what is pushed, the status register, and the handler's address.
-- M68000 User's Manual, section 6; the halt: this project's profile.
use Rattle.std.specs.Prelude.{ℕ, zero, suc, ◌+◌, ◌-◌, ◌*◌, ◌%◌, ◌^◌, ◌<◌, bit_and, bit_or, ◌≡◌, ◌≤◌, if◌then◌else◌, false, List, [], ◌∷◌, length, slice_index, Option, Some, None}
use Rattle.arrayvec.specs.ArrayVec.{array_vec_len}
use Rattle.md_word.specs.declared.regs.Regs.{Regs}
use Rattle.m68k_except.specs.Frames.{frame_of, is_address_error}
use Rattle.m68k_except.specs.declared.answer.Frame.{Frame}
use Rattle.m68k_except.specs.declared.answer.Frame.TheVariants.{Words, Halted}
use Rattle.m68k_access.specs.Actions.{Act, ◌>>=◌, give, write_word}
use Rattle.m68k_access.specs.Memory.{Memory, word_at}
use Rattle.m68k_exec.specs.declared.sample.exception.Exception.{Exception}
use Rattle.m68k_exec.specs.declared.sample.exception.Exception.TheVariants.{AddressError, Interrupt, Numbered}

-- an interrupt has one of seven levels
abbrev pub IsException : Exception → Type 0
IsException (Interrupt level) = level < 8
IsException _ = Unit {0}

-- the number of its vector
abbrev pub number_of : Exception → ℕ
number_of (AddressError opcode address read) = 3
number_of (Interrupt level) = 24 + level
number_of (Numbered number) = number

-- the long at a vector: they are all in the cartridge
unfoldable pub vector_at : ℕ → Memory → ℕ
vector_at number memory =
    word_at memory.rom memory.ram (4 * number) * 0x1_0000 + word_at memory.rom memory.ram (4 * number + 2)

-- its words in the order in which they are pushed; none where the processor halts
abbrev pub frame_for : Exception → ℕ → Regs → Option (List ℕ)
frame_for (AddressError opcode address read) vector regs = frame_of 3 vector regs opcode address read
frame_for (Interrupt level) vector regs = frame_of (24 + level) vector regs 0 0 false
frame_for (Numbered number) vector regs = frame_of number vector regs 0 0 false

-- an address error pushes seven words, each other exception three
abbrev pub pushes_of : Exception → ℕ
pushes_of exception = if is_address_error (number_of exception) then 7 else 3

-- a frame is pushed where the stack pointer is even
abbrev pub Fits : Exception → Regs → Frame → Type 0
Fits exception regs (Words words) = (array_vec_len words ≤ pushes_of exception) × (regs.ssp % 2 ≡ 0)
Fits exception regs Halted = Unit {0}

-- so far below the stack pointer each word is written: the two words of the program counter, the
-- status register, the instruction's first word, the two words of the address, and the access
abbrev pub places : List ℕ
places = 4 ∷ 2 ∷ 6 ∷ 8 ∷ 12 ∷ 10 ∷ 14 ∷ []

-- so many words from word k on
abbrev pub pushed : ℕ → ℕ → List ℕ → ℕ → Act (Unit {0})
pushed zero k words stack = give tt
pushed (suc left) k words stack = do
  written ← write_word ((stack + 2 ^ 32 - slice_index places k) % 2 ^ 32) (slice_index words k)
  pushed left (k + 1) words stack

-- S is set and T cleared, and an interrupt sets the mask to its level
abbrev pub status_in : Exception → ℕ → ℕ
status_in (Interrupt level) sr = bit_or (bit_or (bit_and sr 0x78ff) 0x2000) (level * 0x100)
status_in _ sr = bit_or (bit_and sr 0x7fff) 0x2000

-- the registers as the handler finds them
abbrev pub handled : Exception → ℕ → List ℕ → Regs → Regs
handled exception vector words regs = record regs {
  ssp = (regs.ssp + 2 ^ 32 - 2 * length words) % 2 ^ 32;
  pc = vector;
  sr = status_in exception regs.sr;
}

-- the words are pushed on the supervisor's stack, and the handler at the vector's address begins
unfoldable pub enter_with : Exception → ℕ → List ℕ → Regs → Act (Option Regs)
enter_with exception vector words regs = do
  finished ← pushed (length words) 0 words regs.ssp
  give (Some (handled exception vector words regs))

-- where it halts, nothing is pushed
abbrev pub enter_by : Exception → ℕ → Option (List ℕ) → Regs → Act (Option Regs)
enter_by exception vector (Some words) regs = enter_with exception vector words regs
enter_by exception vector None regs = give None

-- an exception, from the registers with the program counter that it saves: those that its handler
-- finds, or none where the processor halts
unfoldable pub enter : Exception → Regs → Act (Option Regs)
enter exception regs memory done =
    enter_by exception (vector_at (number_of exception) memory) (frame_for exception (vector_at (number_of exception) memory) regs) regs memory done
