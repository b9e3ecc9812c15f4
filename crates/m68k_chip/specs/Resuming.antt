-- Whether what is carried out waits for one more answer, and its answers are those to its accesses.
use Rattle.std.specs.Prelude.{ℕ, zero, suc, ◌==◌, ◌&&◌, Bool, true, false, nat_lt, List, length, take, slice_index, Option, Some, None, is_some, Result, Ok, Err}
use Rattle.md_word.specs.declared.main_bus.Request68.{Request68}
use Rattle.md_word.specs.declared.main_bus.Request68.TheVariants.{Read8, Read16, Write8, Write16, Ack, Word as TransferWord}
use Rattle.m68k_exec.specs.Sample.Samples.{Ended}
use Rattle.m68k_access.specs.declared.stop.Stop.{Stop}
use Rattle.m68k_access.specs.declared.stop.Stop.TheVariants.{Ask, Odd}
use Rattle.m68k_chip.specs.Events.{carried_out}
use Rattle.m68k_chip.specs.States.{State68}
use Rattle.m68k_chip.specs.declared.stage.Stage.{Stage}
use Rattle.m68k_chip.specs.declared.stage.Stage.TheVariants.{Sample, Access, Word}

-- the request that waits, where one does
abbrev pub asked_in : Result Ended Stop → Option Request68
asked_in (Ok ended) = None
asked_in (Err (Ask request)) = Some request
asked_in (Err (Odd address read used)) = None

-- the same once what is carried out has its first answers
abbrev pub asked_after : List ℕ → State68 → ℕ → Option Request68
asked_after cart state count = asked_in (carried_out cart state state.cause (take count state.answers))

-- a byte and a word are answered by a value of theirs, a write and an acknowledge by 0
abbrev pub is_answer_to : Request68 → ℕ → Bool
is_answer_to (Read8 at) value = nat_lt value 0x100
is_answer_to (Read16 at) value = nat_lt value 0x1_0000
is_answer_to (Write8 at written) value = value == 0
is_answer_to (Write16 at written) value = value == 0
is_answer_to (Ack level) value = value == 0
is_answer_to (TransferWord word) value = value == 0

-- a request waits, and the value can answer it
abbrev pub is_answer : Option Request68 → ℕ → Bool
is_answer None value = false
is_answer (Some request) value = is_answer_to request value

-- each of the first answers is one to the access that waited for it
unfoldable pub are_answered : List ℕ → State68 → ℕ → Bool
are_answered cart state zero = true
are_answered cart state (suc count) =
    are_answered cart state count && is_answer (asked_after cart state count) (slice_index state.answers count)

-- what is carried out with the answers waits for one more, and these are answers to its accesses
abbrev pub is_waiting : List ℕ → State68 → Bool
is_waiting cart state =
    is_some (asked_after cart state (length state.answers)) && are_answered cart state (length state.answers)

-- the same by the stage: only at an access is there something to hold
abbrev pub asks_at : Stage → List ℕ → State68 → Bool
asks_at Sample cart state = true
asks_at Access cart state = is_waiting cart state
asks_at Word cart state = true

-- so at an access; at other events nothing is carried out
abbrev pub asks_more : List ℕ → State68 → Bool
asks_more cart state = asks_at state.stage cart state
