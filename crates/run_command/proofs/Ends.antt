-- How a run ends: what the outputs hold on the way, and why it stops.
use Rattle.std.proofs.Common.{◌≡◌, ◌≢◌, ℕ, ◌≤◌, List, [], Result, Ok, Err, Option, Some, None, append-nil, refl, subst, ◌∙◌, arith}
use Rattle.std.specs.Prelude.{IfErr, IsSome, OnOk, OnErr}
use Rattle.md_outer.specs.Outside.{DepotState, Files, GoesOn, Rose}
use Rattle.md_word.specs.Clock.{cycle_limit}
use Rattle.md_chips.specs.Starts.{IsStart, Start}
use Rattle.md_args.specs.Files.{run_output}
use Rattle.md_args.specs.Words.{Run}
use Rattle.md_args.specs.declared.files.Output.TheVariants.{Frames, Journal, Listing, Save, Sound, Target}
use Rattle.run_command.specs.Outputs.{Adds, AddsParts, AreBegun, Holds, IsBegun, LeavesParts, Parts, Pieces, all_of, lengthened, nothing, number_in}
use Rattle.run_command.specs.RunOutcomes.{HoldsUntil, IsUnwritten, IsWriteFault, RunCause, RunLeaves}
use Rattle.run_command.specs.Runs.{RunLaws, frames_to, journal_to, pieces_of, pieces_until, sound_until, state_to}
use Rattle.run_command.specs.declared.outputs.Outputs.{Outputs}
use Rattle.run_command.specs.declared.run_outcome.RunOutcome.{RunOutcome}
use Rattle.run_command.specs.declared.run_outcome.RunOutcome.TheVariants.{Done, Memory, WriteFault}
use Rattle.run_command.proofs.Segments.{pieces-first, pieces-front}
use Rattle.run_command.proofs.Writes.{nothing-front, parts-longer}

-- RESULTS

pub on-ok : {A E P Q : Type 0} (r : Result A E) → (P → Q) → OnOk r P → OnOk r Q
on-ok (Ok x) f p = f p
on-ok (Err e) f p = tt

pub on-err : {A E P Q : Type 0} (r : Result A E) → (P → Q) → OnErr r P → OnErr r Q
on-err (Ok x) f p = tt
on-err (Err e) f p = f p

pub both-err : {A E Q : Type 0} {P R : E → Type 0} (r : Result A E) → ((e : E) → P e → Q → R e) → IfErr r P → OnErr r Q → IfErr r R
both-err (Ok x) f p q = tt
both-err (Err e) f p q = f e p q

-- WHAT THE OUTPUTS HOLD

pub head-held : (run : Run) (start : Start) (first files : Files) (head : List ℕ) → IsStart start → RunLaws start → start.at ≤ cycle_limit
    → head ≡ sound_until start run.cycles start.at
    → Holds run first files (record nothing { sound = head }) → HoldsUntil start run first files start.at
head-held run start first files head is laws small same holds =
    subst (Holds run first files) (pieces-first start run.cycles head is laws small same) holds

pub head-parts : (run : Run) (start : Start) (first files : Files) (head : List ℕ) → IsStart start → RunLaws start → start.at ≤ run.cycles → run.cycles ≤ cycle_limit
    → head ≡ sound_until start run.cycles start.at
    → LeavesParts run first files (record nothing { sound = head }) → LeavesParts run first files (pieces_of start run.cycles)
head-parts run start first files head is laws within small same leaves =
    parts-longer run first files (pieces_until start run.cycles start.at) (pieces_of start run.cycles)
    (subst (LeavesParts run first files) (pieces-first start run.cycles head is laws (omega (arith, within, small)) same) leaves)
    (pieces-front start run.cycles start.at is laws small within)

pub segment-held : (run : Run) (start : Start) (first old new : Files) (at to : ℕ) (more : Pieces)
    → lengthened (pieces_until start run.cycles at) more ≡ pieces_until start run.cycles to
    → Adds run old new more → HoldsUntil start run first old at → HoldsUntil start run first new to
segment-held run start first old new at to more is adds holds =
    subst (Holds run first new) is (adds first (pieces_until start run.cycles at) holds)

pub segment-parts : (run : Run) (start : Start) (first old new : Files) (at to : ℕ) (more : Pieces) → IsStart start → RunLaws start → to ≤ run.cycles → run.cycles ≤ cycle_limit
    → lengthened (pieces_until start run.cycles at) more ≡ pieces_until start run.cycles to
    → AddsParts run old new more → HoldsUntil start run first old at → LeavesParts run first new (pieces_of start run.cycles)
segment-parts run start first old new at to more from laws within small is adds holds =
    parts-longer run first new (pieces_until start run.cycles to) (pieces_of start run.cycles)
    (subst (LeavesParts run first new) is (adds first (pieces_until start run.cycles at) holds))
    (pieces-front start run.cycles to from laws small within)

-- the state after the last segment
with-state : (start : Start) (end : ℕ) (state : List ℕ) → state ≡ state_to start end → lengthened (pieces_until start end end) (record nothing { state = state }) ≡ pieces_of start end
with-state start end state is = λ i. record {
  frames = append-nil (frames_to start end) i;
  sound = append-nil (sound_until start end end) i;
  journal = append-nil (journal_to start end) i;
  state = is i;
}

pub state-held : (run : Run) (start : Start) (first old new : Files) (state : List ℕ) → state ≡ state_to start run.cycles
    → Adds run old new (record nothing { state = state }) → HoldsUntil start run first old run.cycles → Holds run first new (pieces_of start run.cycles)
state-held run start first old new state is adds holds =
    subst (Holds run first new) (with-state start run.cycles state is) (adds first (pieces_until start run.cycles run.cycles) holds)

pub state-parts : (run : Run) (start : Start) (first old new : Files) (state : List ℕ) → state ≡ state_to start run.cycles
    → AddsParts run old new (record nothing { state = state }) → HoldsUntil start run first old run.cycles → LeavesParts run first new (pieces_of start run.cycles)
state-parts run start first old new state is adds holds =
    subst (LeavesParts run first new) (with-state start run.cycles state is) (adds first (pieces_until start run.cycles run.cycles) holds)

-- WHY IT STOPS

pub rose_later : (before mid now : ℕ) → before ≤ mid → Rose mid now → Rose before now
rose_later before mid now later rose = omega arith

pub unwritten-cause : (start : Start) (run : Run) (old new : DepotState) (outcome : RunOutcome) → IsUnwritten run old new outcome → RunCause start run old new outcome
unwritten-cause start run old new (WriteFault which) fault = fault
unwritten-cause start run old new Memory fault = tt
unwritten-cause start run old new (Done from frames accesses halted) fault = absurd fault

-- a cause from later on is one from before
pub cause-before : (start : Start) (run : Run) (old mid new : DepotState) (outcome : RunOutcome) → GoesOn old mid → RunCause start run mid new outcome → RunCause start run old new outcome
cause-before start run old mid new (Done from frames accesses halted) on cause = cause
cause-before start run old mid new Memory on cause = tt
cause-before start run old mid new (WriteFault which) on cause = (cause.0, rose_later old.write_faults mid.write_faults new.write_faults on.writes cause.1)

pub unwritten-before : (run : Run) (old mid new : DepotState) (outcome : RunOutcome) → GoesOn old mid → IsUnwritten run mid new outcome → IsUnwritten run old new outcome
unwritten-before run old mid new Memory on cause = tt
unwritten-before run old mid new (WriteFault which) on cause = (cause.0, rose_later old.write_faults mid.write_faults new.write_faults on.writes cause.1)
unwritten-before run old mid new (Done from frames accesses halted) on cause = absurd cause

-- it is not out of memory
pub fault-not_memory : (run : Run) (old new : DepotState) (outcome : RunOutcome) → IsWriteFault run old new outcome → outcome ≢ Memory
fault-not_memory run old new outcome fault is = subst (IsWriteFault run old new) is fault

pub fault-leaves : (start : Start) (run : Run) (first files : Files) (old new : DepotState) (outcome : RunOutcome) → IsWriteFault run old new outcome
    → LeavesParts run first files (pieces_of start run.cycles) → RunLeaves start run first files outcome
fault-leaves start run first files old new (WriteFault which) fault leaves = leaves
fault-leaves start run first files old new _ fault leaves = absurd fault

pub unwritten-leaves : (start : Start) (run : Run) (first files : Files) (old new : DepotState) (outcome : RunOutcome) → IsUnwritten run old new outcome
    → LeavesParts run first files nothing → RunLeaves start run first files outcome
unwritten-leaves start run first files old new (WriteFault which) fault leaves = parts-longer run first files nothing (pieces_of start run.cycles) leaves (nothing-front (pieces_of start run.cycles))
unwritten-leaves start run first files old new Memory fault leaves = leaves
unwritten-leaves start run first files old new (Done from frames accesses halted) fault leaves = absurd fault

-- no output is begun
abbrev pub no_part : Parts
no_part = record { frames = None; sound = None; journal = None; state = None }

pub untouched : (run : Run) (old new : Files) → new ≡ old → LeavesParts run old new nothing
untouched run old new same = record {
  parts = no_part;
  frames = tt;
  sound = tt;
  journal = tt;
  state = tt;
  files = same;
}

-- an output that is begun and empty
pub empty-parts : (run : Run) (old new : Files) → Holds run old new nothing → LeavesParts run old new nothing
empty-parts run old new holds = record {
  parts = all_of nothing;
  frames = ([], refl);
  sound = ([], refl);
  journal = ([], refl);
  state = ([], refl);
  files = holds;
}

-- NUMBERS OF BEGUN OUTPUTS

held : (name : Option (List ℕ)) (found : Option (List ℕ)) → IsSome name → found ≡ name → IsSome found
held name found some is = rw is some

pub begun-one : (old new : DepotState) (number : Option ℕ) (name : Option (List ℕ)) → GoesOn old new → IsBegun old.begun number name → IsBegun new.begun number name
begun-one old new None name on begun = begun
begun-one old new (Some file) name on (some, is) = (some, on.names file (held name (old.begun file) some is) ∙ is)

pub begun-on : (run : Run) (old new : DepotState) (outputs : Outputs) → GoesOn old new → AreBegun run old.begun outputs → AreBegun run new.begun outputs
begun-on run old new outputs on begun = λ which. begun-one old new (number_in outputs which) (run_output run which) on (begun which)

-- those of a run are all
pub all-begun : (run : Run) (begun : ℕ → Option (List ℕ)) (outputs : Outputs) → IsBegun begun outputs.frames run.frames → IsBegun begun outputs.sound run.sound
    → IsBegun begun outputs.journal run.journal → IsBegun begun outputs.save run.save → AreBegun run begun outputs
all-begun run begun outputs frames sound journal save Frames = frames
all-begun run begun outputs frames sound journal save Sound = sound
all-begun run begun outputs frames sound journal save Journal = journal
all-begun run begun outputs frames sound journal save Save = save
all-begun run begun outputs frames sound journal save Target = refl
all-begun run begun outputs frames sound journal save Listing = refl

pub goes-far : (old mid new : DepotState) → GoesOn old mid → GoesOn mid new → GoesOn old new
goes-far old mid new first second = record {
  names = λ file some. second.names file (held (old.begun file) (mid.begun file) some (first.names file some)) ∙ first.names file some;
  reads = omega (arith, first.reads, second.reads);
  writes = omega (arith, first.writes, second.writes);
}
