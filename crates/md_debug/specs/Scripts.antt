-- The outcome of a script. This project's profile.
use Rattle.std.specs.Prelude.{◌≡◌, ℕ, ◌<◌, List, [], ◌∷◌, ◌++◌, length, Ok, Err}
use Rattle.debug_text.specs.Commands.{command_of}
use Rattle.debug_text.specs.Scripts.{ObeysAll, ObeysFirst, ObeysSome, RefusesLine}
use Rattle.debug_text.specs.declared.command.Command.{Command}
use Rattle.debug_text.specs.declared.command.Command.TheVariants.{Back}
use Rattle.debug_text.specs.declared.command.Misread.TheVariants as misread
use Rattle.md_chips.specs.Machines.{MachineValue}
use Rattle.md_outer.specs.Outside.{PutsText, SinkState}
use Rattle.md_debug.specs.Sessions.{Obeys, SessionValue, oldest_of, reply_to}
use Rattle.md_debug.specs.declared.fault.DebugFault.{DebugFault}
use Rattle.md_debug.specs.declared.fault.DebugFault.TheVariants as faults
use Rattle.debug_text.specs.declared.outcome.ScriptOutcome.{ScriptOutcome}
use Rattle.debug_text.specs.declared.outcome.ScriptOutcome.TheVariants.{Obeyed, Refused, OutOfMemory}

-- a session, and the replies to the lines so far
pub record Replied (Images : Type 0) : Type 0 where
  pub session : SessionValue Images
  pub replies : List ℕ

abbrev pub replied : {Images : Type 0} → SessionValue Images → List ℕ → Replied Images
replied session replies = record { session = session; replies = replies }

-- why a line is refused by a session: it begins with no command's word, a number is wrong, or fewer states are
-- kept than it goes back
abbrev pub IsRefused : {Images : Type 0} → SessionValue Images → List ℕ → DebugFault → Type 0
IsRefused session line faults.UnknownWord = command_of line ≡ Err misread.UnknownWord
IsRefused session line faults.BadNumber = command_of line ≡ Err misread.BadNumber
IsRefused session line (faults.NotKept oldest) = (n : ℕ) × ((command_of line ≡ Ok (Back n)) × ((length session.states < n) × (oldest ≡ oldest_of session)))
IsRefused session line faults.NoMemory = ⊥

-- the text was written whole
abbrev pub PutsWhole : Type 0 → List ℕ → SinkState → SinkState → Type 0
PutsWhole observable text old new = PutsText {E = Unit {0}} observable text old new (Ok tt)

-- the sink failed within the text
abbrev pub FailsWithin : Type 0 → List ℕ → SinkState → SinkState → Type 0
FailsWithin observable text old new = PutsText {E = Unit {0}} observable text old new (Err tt)

-- .. as a fact on a session and the replies so far
abbrev pub RefusesFor : {Images : Type 0} → DebugFault → Replied Images → List ℕ → Type 0
RefusesFor fault state line = IsRefused state.session line fault

module _ {Images : Type 0} (size : Images → ℕ) (spelling : Images → MachineValue → List ℕ) (keeps : Images → List ℕ → MachineValue → Type 0) where
  -- a line was obeyed, and its reply follows those before it
  pub record ObeysLine (line : List ℕ) (old new : Replied Images) : Type 0 where
    pub command : Command
    pub asks : command_of line ≡ Ok command
    pub obeys : Obeys size spelling keeps old.session command new.session
    pub replies : new.replies ≡ old.replies ++ reply_to command new.session

  -- how a script ends: each line was obeyed; or the line of a number, from 1 on, is the first that is refused, and
  -- those before it were obeyed; or memory ran out after lines that were obeyed
  abbrev pub Plays : List (List ℕ) → SessionValue Images → SessionValue Images → List ℕ → ScriptOutcome DebugFault → Type 0
  Plays lines old new replies Obeyed = ObeysAll ObeysLine lines (replied old []) (replied new replies)
  Plays lines old new replies (Refused number fault) = RefusesLine ObeysLine (RefusesFor fault) lines (replied old []) (replied new replies) number
  Plays lines old new replies OutOfMemory = (mid : SessionValue Images) × ObeysSome ObeysLine lines (replied old []) (replied mid replies)

  -- a script ended so, and the replies to the lines that were obeyed were written
  pub record PutsReplies (observable : Type 0) (lines : List (List ℕ)) (old new : SessionValue Images) (out out' : SinkState) (script_outcome : ScriptOutcome DebugFault) : Type 0 where
    pub replies : List ℕ
    pub plays : Plays lines old new replies script_outcome
    pub puts : PutsWhole observable replies out out'

  -- a reply could not be written: the lines before its own were obeyed and their replies written. Then its line
  -- was obeyed, the last one, and a prefix of its reply was written
  pub record StopsAtReply (observable : Type 0) (lines : List (List ℕ)) (old new : SessionValue Images) (out out' : SinkState) : Type 0 where
    pub before : List (List ℕ)
    pub line : List ℕ
    pub after : List (List ℕ)
    pub replies : List ℕ
    pub command : Command
    pub mid : SessionValue Images
    pub between : SinkState
    pub first : ObeysFirst ObeysLine lines before (line ∷ after) (replied old []) (replied mid replies)
    pub puts : PutsWhole observable replies out between
    pub asks : command_of line ≡ Ok command
    pub obeys : Obeys size spelling keeps mid command new
    pub fails : FailsWithin observable (reply_to command new) between out'
