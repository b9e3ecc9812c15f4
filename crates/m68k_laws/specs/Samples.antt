-- The requests of a sample are the shared words of its instruction's footprint in order, and after
-- them those of the frame of an exception.
use Rattle.std.specs.Prelude.{ℕ, ◌≡◌, ◌≢◌, ◌⊎◌, ◌+◌, ◌%◌, ◌^◌, ◌<◌, ◌≤◌, Bool, List, All, length, IsFalse, Ok, Err}
use Rattle.md_word.specs.declared.main_bus.Request68.{Request68}
use Rattle.md_word.specs.declared.main_bus.Request68.TheVariants.{Ack}
use Rattle.md_word.specs.declared.regs.Regs.{Regs}
use Rattle.m68k_decode.specs.Instructions.{instruction_of}
use Rattle.m68k_access.specs.Memory.{Memory, instruction_words}
use Rattle.m68k_exec.specs.Sample.Bounds.{Fits}
use Rattle.m68k_exec.specs.Sample.Samples.{Ended, named, sampled}
use Rattle.m68k_access.specs.declared.stop.Stop.TheVariants.{Ask}
use Rattle.m68k_laws.specs.Accesses.{Access, IsEven, shared, words}
use Rattle.m68k_laws.specs.Footprints.{footprint}
use Rattle.m68k_laws.specs.Frames.{frame, left_by}
use Rattle.m68k_laws.specs.Laws.{FaultsAt, IsComplete, WaitsAt}

-- the registers as the instruction at the program counter finds them: that points after it
abbrev pub started : Regs → Memory → Regs
started regs memory =
    record regs { pc = (regs.pc + (instruction_of (instruction_words regs.pc memory)).length) % 2 ^ 32 }

-- the words of its footprint
abbrev pub words_at : Regs → Memory → List Access
words_at regs memory = words (footprint (named regs memory) regs.pc (started regs memory))

-- an address error, with so many answers taken before it: its frame is pushed from the stack pointer
-- that the sample found
pub record AfterFault (regs : Regs) (memory : Memory) (taken number : ℕ) (list : List Access) : Type 0 where
  pub address : ℕ
  pub read : Bool
  pub faults : FaultsAt (words_at regs memory) taken address read
  pub error : number ≡ 3
  pub pushes : list ≡ words (frame 3 regs memory)

-- another exception, after all words of the instruction: its frame is pushed from the stack pointer
-- that the instruction leaves
pub record AfterAll (regs : Regs) (memory : Memory) (taken number : ℕ) (list : List Access) : Type 0 where
  pub completes : IsComplete (words_at regs memory) taken
  pub pushes : list ≡ words (frame number (left_by (named regs memory) (started regs memory)) memory)

-- so many answers are those of the instruction's words and some of the frame of the exception in which
-- it ends, of which this holds
pub record ReachesFrame (regs : Regs) (memory : Memory) (count number : ℕ) (Holds : List Access → ℕ → Type 0) : Type 0 where
  pub taken : ℕ
  pub pushed : ℕ
  pub list : List Access
  pub counted : count ≡ taken + pushed
  pub reaches : AfterFault regs memory taken number list ⊎ AfterAll regs memory taken number list
  pub holds : Holds list pushed

-- A sample of the instruction at an even program counter, of any registers and answers, where memory
-- holds bytes. While there are fewer answers than shared words, and no word is odd, it waits for the
-- next shared word. Where it waits at all, it waits for that, or for the next shared word of the frame
-- after. Where it ends in no exception, each shared word took an answer; where it ends in one, so did
-- each shared word of the frame, which is that of its cause unless the processor halts.
pub record SamplesFollowFootprints : Type 0 where
  pub waits : (regs : Regs) (memory : Memory) → Fits memory → regs.pc % 2 ≡ 0 → All IsEven (words_at regs memory) → length memory.answers < length (shared (words_at regs memory)) → (request : Request68) × (sampled 0 regs memory ≡ Err (Ask request)) × WaitsAt (words_at regs memory) (length memory.answers) request
  pub asks : (regs : Regs) (memory : Memory) (request : Request68) → Fits memory → regs.pc % 2 ≡ 0 → sampled 0 regs memory ≡ Err (Ask request) → WaitsAt (words_at regs memory) (length memory.answers) request ⊎ ((number : ℕ) × ReachesFrame regs memory (length memory.answers) number (λ list pushed. WaitsAt list pushed request))
  pub completes : (regs : Regs) (memory : Memory) (ended : Ended) → Fits memory → regs.pc % 2 ≡ 0 → sampled 0 regs memory ≡ Ok ended → ended.spent.cause ≡ 0 → IsComplete (words_at regs memory) ended.spent.accesses
  pub ends : (regs : Regs) (memory : Memory) (ended : Ended) → Fits memory → regs.pc % 2 ≡ 0 → sampled 0 regs memory ≡ Ok ended → ended.spent.cause ≢ 0 → (number : ℕ) × ReachesFrame regs memory ended.spent.accesses number IsComplete × (IsFalse ended.halted → ended.spent.cause ≡ number)

-- A sample of an interrupt, of a trace, or of an instruction at an odd address: an interrupt is
-- acknowledged first, and then the requests are the shared words of the frame in order.
pub record ExceptionsFollowFrames : Type 0 where
  pub acknowledged : (level : ℕ) (regs : Regs) (memory : Memory) → 0 < level → level < 8 → length memory.answers ≡ 0 → sampled level regs memory ≡ Err (Ask (Ack level))
  pub interrupt_waits : (level : ℕ) (regs : Regs) (memory : Memory) (pushed : ℕ) (request : Request68) → 0 < level → level < 8 → length memory.answers ≡ 1 + pushed → sampled level regs memory ≡ Err (Ask request) → WaitsAt (words (frame (24 + level) regs memory)) pushed request
  pub interrupt_completes : (level : ℕ) (regs : Regs) (memory : Memory) (ended : Ended) → 0 < level → level < 8 → sampled level regs memory ≡ Ok ended → (pushed : ℕ) × (ended.spent.accesses ≡ 1 + pushed) × IsComplete (words (frame (24 + level) regs memory)) pushed
  pub trace_waits : (cause : ℕ) (regs : Regs) (memory : Memory) (request : Request68) → 8 ≤ cause → sampled cause regs memory ≡ Err (Ask request) → WaitsAt (words (frame 9 regs memory)) (length memory.answers) request
  pub trace_completes : (cause : ℕ) (regs : Regs) (memory : Memory) (ended : Ended) → 8 ≤ cause → sampled cause regs memory ≡ Ok ended → IsComplete (words (frame 9 regs memory)) ended.spent.accesses
  pub odd_waits : (regs : Regs) (memory : Memory) (request : Request68) → regs.pc % 2 ≡ 1 → sampled 0 regs memory ≡ Err (Ask request) → WaitsAt (words (frame 3 regs memory)) (length memory.answers) request
  pub odd_completes : (regs : Regs) (memory : Memory) (ended : Ended) → regs.pc % 2 ≡ 1 → sampled 0 regs memory ≡ Ok ended → IsComplete (words (frame 3 regs memory)) ended.spent.accesses
