-- The two rounds of an assembler: where each line is and how long it is, then its bytes.
use Rattle.std.specs.Prelude.{ℕ, ◌+◌, ◌%◌, Bool, true, false, not, ◌&&◌, ◌==◌, if◌then◌else◌, List, [], ◌∷◌, ◌++◌, Option, Some, None, is_some, max}
use Rattle.std.specs.Map.{update}
use Rattle.std.specs.Str.{bytes_eq}
use Rattle.md_asm_text.specs.Tokens.{tokens}
use Rattle.md_asm_text.specs.Lines.{Line, line_of}
use Rattle.md_asm_text.specs.declared.body.Body.{Body}
use Rattle.md_asm_text.specs.declared.body.Body.TheVariants as bodies
use Rattle.md_asm.specs.Contents.{Settled, Good, Unknown, Unfit, Far, is_unfit, settled_line, size}
use Rattle.md_asm.specs.Numbers.{Names, resolved}
use Rattle.md_asm.specs.Places.{WrittenPlaces, address, any_written, is_sub, is_too_large, put, with_written}
use Rattle.md_asm.specs.declared.kind.Kind.{Kind}
use Rattle.md_asm.specs.declared.kind.Kind.TheVariants as kinds
use Rattle.md_asm.specs.declared.processor.Processor.{Processor}
use Rattle.md_asm.specs.declared.processor.Processor.TheVariants as processors

-- a line that has bytes: its number, where it is, how long it is, and its text
pub record Slot : Type 0 where
  pub line : ℕ
  pub place : ℕ
  pub address : ℕ
  pub long : ℕ
  pub sub : Bool
  pub body : Body
  pub text : List ℕ

-- the state after the lines so far
pub record Round : Type 0 where
  pub place : ℕ
  pub processor : Processor
  pub names : Names
  pub written : WrittenPlaces
  pub slots : List Slot
  pub end : ℕ

abbrev pub start : Round
start = record {
  place = 0;
  processor = processors.Main;
  names = λ name. None;
  written = λ place. false;
  slots = [];
  end = 0;
}

-- ---- round one

abbrev pub has_bytes : Body → Bool
has_bytes bodies.Words = true
has_bytes bodies.Bytes = true
has_bytes bodies.Instruction = true
has_bytes bodies.Nothing = false
has_bytes (bodies.Org place) = false
has_bytes bodies.Main = false
has_bytes (bodies.Sub at) = false
has_bytes bodies.Bad = false

-- an instruction of the 68000 and words are at even places
abbrev pub wants_even : Bool → Body → Bool
wants_even sub bodies.Words = true
wants_even sub bodies.Instruction = not sub
wants_even sub bodies.Bytes = false
wants_even sub bodies.Nothing = false
wants_even sub (bodies.Org place) = false
wants_even sub bodies.Main = false
wants_even sub (bodies.Sub at) = false
wants_even sub bodies.Bad = false

-- a label that was defined before
abbrev pub is_twice : Names → Option (List ℕ) → Bool
is_twice names None = false
is_twice names (Some name) = is_some (names name)

-- the least kind of a line that has a form, of this length
abbrev pub fault_of : Round → Line → ℕ → Option Kind
fault_of round line long =
    if is_unfit (is_sub round.processor) line.body (tokens line.text) then Some kinds.BadNumber
    else (if is_twice round.names line.label then Some kinds.Twice
    else (if wants_even (is_sub round.processor) line.body && round.place % 2 == 1 then Some kinds.Odd
    else (if any_written round.written round.place long then Some kinds.Overlap
    else (if has_bytes line.body && is_too_large round.place long then Some kinds.TooLarge else None))))

abbrev pub place_after : ℕ → Body → ℕ → ℕ
place_after place (bodies.Org at) long = at
place_after place bodies.Words long = place + long
place_after place bodies.Bytes long = place + long
place_after place bodies.Instruction long = place + long
place_after place bodies.Nothing long = place
place_after place bodies.Main long = place
place_after place (bodies.Sub at) long = place
place_after place bodies.Bad long = place

abbrev pub processor_after : Processor → ℕ → Body → Processor
processor_after processor place bodies.Main = processors.Main
processor_after processor place (bodies.Sub at) = processors.Sub at place
processor_after processor place (bodies.Org at) = processor
processor_after processor place bodies.Words = processor
processor_after processor place bodies.Bytes = processor
processor_after processor place bodies.Instruction = processor
processor_after processor place bodies.Nothing = processor
processor_after processor place bodies.Bad = processor

-- a label has the address before its own line's directive
abbrev pub names_after : Names → Option (List ℕ) → ℕ → Names
names_after names None at = names
names_after names (Some name) at = update bytes_eq names name (Some at)

abbrev pub slot_of : Round → ℕ → Line → ℕ → Slot
slot_of round number line long = record {
  line = number;
  place = round.place;
  address = address round.processor round.place;
  long = long;
  sub = is_sub round.processor;
  body = line.body;
  text = line.text;
}

-- a label has its value
abbrev pub labelled : Round → Option (List ℕ) → Round
labelled round label = record round { names = names_after round.names label (address round.processor round.place) }

-- a line that has bytes is kept
abbrev pub kept : Round → ℕ → Line → ℕ → Round
kept round number line long = record round {
  written = with_written round.written round.place long;
  slots = round.slots ++ slot_of round number line long ∷ [];
  end = max round.end (round.place + long);
}

-- where it has any
abbrev pub kept_if : Bool → Round → ℕ → Line → ℕ → Round
kept_if true round number line long = kept round number line long
kept_if false round number line long = round

-- the place and the processor after a line
abbrev pub moved : Round → Body → ℕ → Round
moved round body long = record round {
  place = place_after round.place body long;
  processor = processor_after round.processor round.place body;
}

-- after a line of this number and length
abbrev pub following : Round → ℕ → Line → ℕ → Round
following round number line long = moved (kept_if (has_bytes line.body) (labelled round line.label) number line long) line.body long

pub data Step : Type 0 where
  On : Round → Step
  Stop : Kind → Step

abbrev pub unless : Option Kind → Round → Step
unless (Some kind) next = Stop kind
unless None next = On next

abbrev pub sized_step : Round → ℕ → Line → Option ℕ → Step
sized_step round number line None = Stop kinds.BadLine
sized_step round number line (Some long) = unless (fault_of round line long) (following round number line long)

abbrev pub line_step : Round → ℕ → Line → Step
line_step round number line = sized_step round number line (size (is_sub round.processor) line.body (tokens line.text))

pub data Outcome : Type 0 where
  Read : Round → Outcome
  Refused : ℕ → Kind → Outcome

abbrev pub go_on : ℕ → Step → (Round → Outcome) → Outcome
go_on number (On next) go = go next
go_on number (Stop kind) go = Refused number kind

-- the lines from a number on
unfoldable pub round_one : Round → ℕ → List (List ℕ) → Outcome
round_one round number [] = Read round
round_one round number (text ∷ more) = go_on number (line_step round number (line_of text)) (λ next. round_one next (number + 1) more)

-- ---- round two

-- the outcome of a line, with all names known
abbrev pub settled_slot : Names → Slot → Settled
settled_slot names slot = settled_line slot.sub slot.body slot.long (resolved names (tokens slot.text)) slot.address

pub data Patched : Type 0 where
  Onto : List ℕ → Patched
  Hit : Kind → Patched

abbrev pub put_settled : List ℕ → ℕ → Settled → Patched
put_settled memory place (Good bytes) = Onto (put memory place bytes)
put_settled memory place Unknown = Hit kinds.UnknownName
put_settled memory place Unfit = Hit kinds.DoesNotFit
put_settled memory place Far = Hit kinds.Far

-- a memory with a line's bytes at its place
abbrev pub with_slot : Names → List ℕ → Slot → Patched
with_slot names memory slot = put_settled memory slot.place (settled_slot names slot)

pub data Filled : Type 0 where
  Whole : List ℕ → Filled
  Faulty : ℕ → Kind → Filled

abbrev pub fill_on : ℕ → Patched → (List ℕ → Filled) → Filled
fill_on number (Onto memory) go = go memory
fill_on number (Hit kind) go = Faulty number kind

-- a memory with the bytes of all lines
unfoldable pub round_two : Names → List ℕ → List Slot → Filled
round_two names memory [] = Whole memory
round_two names memory (slot ∷ more) = fill_on slot.line (with_slot names memory slot) (λ next. round_two names next more)
