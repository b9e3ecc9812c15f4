-- How the debugger's machine continues, and the instructions that are begun on the way.
use Rattle.std.specs.Prelude.{◌≡◌, ℕ, zero, suc, ◌+◌, ◌<◌, ◌≤◌, List, [], ◌++◌, option_to_list}
use Rattle.circular_buffer.specs.Buffer.{keep_last}
use Rattle.md_word.specs.Clock.{last_cycle}
use Rattle.md_chips.specs.Console.{AllBelow, Console, IsQuiet, begins_in, key_in, mover, ran}
use Rattle.md_chips.specs.Machines.{MachineValue}
use Rattle.md_chips.specs.Media.{no_media}
use Rattle.md_chips.specs.Starts.{Start}

-- the cycle of the next event
abbrev pub least_of : Console → ℕ
least_of m = (key_in m (mover m)).cycle

-- a machine at its cycle
abbrev pub start_of : MachineValue → Start
start_of m = record { at = m.at; console = m.console }

-- a machine that holds no output
abbrev pub drained : Start → MachineValue
drained start = record { at = start.at; console = start.console; entries = []; media = no_media }

-- the addresses of the instructions that the first n moves begin
unfoldable pub begun_by : Console → ℕ → List ℕ
begun_by m zero = []
begun_by m (suc n) = begun_by m n ++ option_to_list (begins_in (ran m n))

-- all events below a cycle and no other: the machine, and the instructions that they begin
pub record GoesTo (m : Console) (end : ℕ) (after : Console) (begun : List ℕ) : Type 0 where
  pub moves : ℕ
  pub below : AllBelow m end moves
  pub quiet : IsQuiet end after
  pub console : after ≡ ran m moves
  pub begins : begun ≡ begun_by m moves

-- all events of the least cycle, where that is below the last one
pub data StepsOnce (m after : Start) (begun : List ℕ) : Type 0 where
  goes_on : least_of m.console < last_cycle → after.at ≡ least_of m.console + 1 → GoesTo m.console after.at after.console begun → StepsOnce m after begun
  ends : last_cycle ≤ least_of m.console → after ≡ m → begun ≡ [] → StepsOnce m after begun

-- the same n times
unfoldable pub Steps : ℕ → Start → Start → List ℕ → Type 0
Steps zero m after begun = (after ≡ m) × (begun ≡ [])
Steps (suc n) m after begun =
    (mid : Start) × ((first : List ℕ) × ((later : List ℕ) × (Steps n m mid first × (StepsOnce mid after later × (begun ≡ first ++ later)))))

-- all events below a cycle, where the machine is not there yet
pub data RunsTo (end : ℕ) (m after : Start) (begun : List ℕ) : Type 0 where
  arrives : m.at < end → after.at ≡ end → GoesTo m.console end after.console begun → RunsTo end m after begun
  stays : end ≤ m.at → after ≡ m → begun ≡ [] → RunsTo end m after begun

-- how many instructions are remembered
abbrev pub most_begun : ℕ
most_begun = 256

-- the last of the instructions that were begun
abbrev pub latest : List ℕ → List ℕ
latest begun = keep_last most_begun begun
