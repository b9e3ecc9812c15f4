-- How a session of the debugger ends: its causes and what is put.
use Rattle.std.specs.Prelude.{◌≡◌, ◌≢◌, ℕ, ◌≤◌, List, ◌++◌, length, codes, decimal, Option, Some, None, IsSomeAnd}
use Rattle.md_outer.specs.Outside.{DepotState, Files, SinkState, bytes_of}
use Rattle.md_args.specs.Words.{Debugging}
use Rattle.md_args.specs.declared.files.Input.TheVariants.{Script}
use Rattle.md_debug.specs.declared.fault.DebugFault.{DebugFault}
use Rattle.md_debug.specs.declared.fault.DebugFault.TheVariants.{BadNumber, NoMemory, NotKept, UnknownWord}
use Rattle.debug_text.specs.declared.outcome.ScriptOutcome.{ScriptOutcome}
use Rattle.debug_text.specs.declared.outcome.ScriptOutcome.TheVariants.{Obeyed, OutOfMemory, Refused}
use Rattle.md_debug.specs.Scripts.{FailsWithin, PutsWhole}
use Rattle.md_debug.specs.Opened.{PlaysScript, StopsScript}
use Rattle.md_top.specs.Inputs.{CartCause, IsAccepted, IsTooLong, IsUnread, cart_of}
use Rattle.md_top.specs.declared.command_outcome.CommandOutcome.{CommandOutcome}
use Rattle.md_top.specs.declared.command_outcome.CommandOutcome.TheVariants.{Played, ReadFault, ReplyFault, ScriptMemory, ScriptRefused, TooLong}

-- the greatest length of a script
abbrev pub script_limit : ℕ
script_limit = 65536

-- the end of the line of a script that is refused
abbrev pub fault_text : DebugFault → List ℕ
fault_text UnknownWord = codes ": unknown word\n"
fault_text BadNumber = codes ": bad number\n"
fault_text (NotKept oldest) = codes ": not kept, oldest " ++ decimal oldest ++ codes "\n"
fault_text NoMemory = codes ": memory\n"

-- the line of a script that is refused
abbrev pub script_line : ℕ → DebugFault → List ℕ
script_line line fault = (codes "refused: script line " ++ decimal line) ++ fault_text fault

-- what a script results in, as an outcome
abbrev pub played_outcome : ScriptOutcome DebugFault → CommandOutcome
played_outcome Obeyed = Played
played_outcome (Refused line fault) = ScriptRefused line fault
played_outcome OutOfMemory = ScriptMemory

-- the cartridge is accepted and the script held, within its limit; its lines result in these replies and this outcome
abbrev pub IsPlayed : Debugging → Files → List ℕ → ScriptOutcome DebugFault → Type 0
IsPlayed words held replies command_outcome =
    IsAccepted (held words.rom) × IsSomeAnd (held words.script) (λ script. (length script ≤ script_limit) × PlaysScript (cart_of words.rom held) script replies command_outcome)

-- a reply to a line of the script could not be put
abbrev pub IsStopped : Type 0 → Debugging → Files → SinkState → SinkState → Type 0
IsStopped observable words held out out' =
    IsAccepted (held words.rom) × IsSomeAnd (held words.script) (λ script. (length script ≤ script_limit) × StopsScript observable (cart_of words.rom held) script out out')

-- What was put when a session ends so: the replies to the lines that were obeyed, each when its line was; where one
-- of them could not be put, those before it and a prefix of it.
abbrev pub ShowsReplies : Type 0 → Type 0 → Debugging → Files → CommandOutcome → SinkState → SinkState → Type 0
ShowsReplies observable sink words held Played out out' = (replies : List ℕ) × (observable → IsPlayed words held replies Obeyed) × PutsWhole sink replies out out'
ShowsReplies observable sink words held (ScriptRefused line fault) out out' =
    (replies : List ℕ) × (observable → IsPlayed words held replies (Refused line fault)) × PutsWhole sink replies out out'
ShowsReplies observable sink words held ScriptMemory out out' = (replies : List ℕ) × (observable → IsPlayed words held replies OutOfMemory) × PutsWhole sink replies out out'
ShowsReplies observable sink words held ReplyFault out out' = (replies : List ℕ) × (observable → IsStopped sink words held out out') × FailsWithin sink replies out out'
ShowsReplies observable sink words held command_outcome out out' = out' ≡ out

-- Why a session ends. Each cause says that none of the earlier ones holds.
abbrev pub DebugEnds : Type 0 → Debugging → DepotState → DepotState → CommandOutcome → Type 0
DebugEnds observable words old new Played = (replies : List ℕ) × (observable → IsPlayed words old.files replies Obeyed)
DebugEnds observable words old new (ScriptRefused line fault) = (replies : List ℕ) × (observable → IsPlayed words old.files replies (Refused line fault))
DebugEnds observable words old new ScriptMemory = (replies : List ℕ) × (observable → IsPlayed words old.files replies OutOfMemory)
DebugEnds observable words old new ReplyFault =
    observable → IsAccepted (old.files words.rom) × IsSomeAnd (old.files words.script) (λ script. length script ≤ script_limit)
DebugEnds observable words old new (ReadFault Script) = (observable → IsAccepted (old.files words.rom)) × IsUnread observable words.script old new
DebugEnds observable words old new (TooLong Script) = (observable → IsAccepted (old.files words.rom)) × IsTooLong observable script_limit words.script old
DebugEnds observable words old new command_outcome = CartCause observable words.rom old new command_outcome

-- the cartridge is accepted, the script is held, and each of its lines is obeyed
abbrev pub CanDebug : Debugging → Files → Type 0
CanDebug words held = (replies : List ℕ) × IsPlayed words held replies Obeyed

-- a line of the script is the first that is refused
abbrev pub IsRefusedScript : Type 0 → Debugging → Files → Type 0
IsRefusedScript observable words held = (replies : List ℕ) × (line : ℕ) × (fault : DebugFault) × (observable → IsPlayed words held replies (Refused line fault))

-- what the lines of a script result in: the replies and the outcome
pub record Scripted : Type 0 where
  pub replies : List ℕ
  pub command_outcome : ScriptOutcome DebugFault

-- the lines of the script of a session result in this, if one is asked for, with memory for all of them
abbrev pub IsScripted : Option Debugging → Files → Scripted → Type 0
IsScripted None held script = Unit {0}
IsScripted (Some words) held script =
    PlaysScript (cart_of words.rom held) (bytes_of held words.script) script.replies script.command_outcome × (script.command_outcome ≢ OutOfMemory)
