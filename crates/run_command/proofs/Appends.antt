-- What the outputs hold after appends.
use Rattle.std.proofs.Common.{◌≡◌, ℕ, List, [], ◌++◌, Option, Some, None, refl, sym, subst, ◌∙◌, append-nil, append_assoc}
use Rattle.std.specs.Prelude.{IsSome}
use Rattle.md_outer.specs.Outside.{Files, IsPrefix, bytes_of, with_file}
use Rattle.run_command.specs.Outputs.{Adds, AddsParts, Holds, LeavesParts, Pieces, lengthened, nothing, only}
use Rattle.md_args.specs.Files.{run_output}
use Rattle.md_args.specs.Words.{Run}
use Rattle.md_args.specs.declared.files.Output.{Output}
use Rattle.run_command.proofs.Writes.{Apart, ArePrefixes, front-following, named, no-longer, only-front, output-longer, output-unasked, parts_left, parts-longer, prefix-front}

-- APPENDS

-- the file of an output's number was lengthened by a piece, or by a part of one
abbrev Appended : (ℕ → Option (List ℕ)) → ℕ → Files → Files → List ℕ → Type 0
Appended begun file old new piece = (name : List ℕ) → begun file ≡ Some name → new ≡ with_file old name (bytes_of old name ++ piece)

abbrev AppendedPart : (ℕ → Option (List ℕ)) → ℕ → Files → Files → List ℕ → Type 0
AppendedPart begun file old new piece =
    (name : List ℕ) → begun file ≡ Some name → (part : List ℕ) × IsPrefix part piece × (new ≡ with_file old name (bytes_of old name ++ part))

pub adds-piece : (run : Run) → Apart run → (which : Output) (begun : ℕ → Option (List ℕ)) (file : ℕ) (old new : Files) (piece : List ℕ)
    → IsSome (run_output run which) × (begun file ≡ run_output run which) → Appended begun file old new piece → Adds run old new (only which piece)
adds-piece run apart which begun file old new piece (some, is) appended first held holds =
    let name = named (run_output run which) some in
    output-longer run apart which first old new held name.0 piece name.1 holds (appended name.0 (is ∙ name.1))

pub parts-piece : (run : Run) → Apart run → (which : Output) (begun : ℕ → Option (List ℕ)) (file : ℕ) (old new : Files) (piece : List ℕ)
    → IsSome (run_output run which) × (begun file ≡ run_output run which) → AppendedPart begun file old new piece → AddsParts run old new (only which piece)
parts-piece run apart which begun file old new piece (some, is) appended first held holds =
    let name = named (run_output run which) some in
    let part = appended name.0 (is ∙ name.1) in
    parts_left run first new (lengthened held (only which part.0)) (lengthened held (only which piece))
    (output-longer run apart which first old new held name.0 part.0 name.1 holds part.2)
    (front-following held (only which part.0) (only which piece) (only-front which part.0 piece part.1))

-- to an output that is not asked for
pub adds-none : (run : Run) → Apart run → (which : Output) (files : Files) (piece : List ℕ) → run_output run which ≡ None → Adds run files files (only which piece)
adds-none run apart which files piece is first held holds = output-unasked run apart which first files held piece is holds

-- PIECES BEHIND PIECES

lengthened-assoc : (held more rest : Pieces) → lengthened (lengthened held more) rest ≡ lengthened held (lengthened more rest)
lengthened-assoc held more rest = λ i. record {
  frames = append_assoc held.frames more.frames rest.frames i;
  sound = append_assoc held.sound more.sound rest.sound i;
  journal = append_assoc held.journal more.journal rest.journal i;
  state = append_assoc held.state more.state rest.state i;
}

-- a second piece after one that was appended
pub adds-on : (run : Run) (old mid new : Files) (more rest : Pieces) → Adds run old mid more → Adds run mid new rest → Adds run old new (lengthened more rest)
adds-on run old mid new more rest one two first held holds =
    subst (Holds run first new) (lengthened-assoc held more rest) (two first (lengthened held more) (one first held holds))

pub parts-on : (run : Run) (old mid new : Files) (more rest : Pieces) → Adds run old mid more → AddsParts run mid new rest → AddsParts run old new (lengthened more rest)
parts-on run old mid new more rest one two first held holds =
    subst (LeavesParts run first new) (lengthened-assoc held more rest) (two first (lengthened held more) (one first held holds))

front-longer : (more rest : Pieces) → ArePrefixes more (lengthened more rest)
front-longer more rest = record { frames = prefix-front more.frames rest.frames; sound = prefix-front more.sound rest.sound; journal = prefix-front more.journal rest.journal; state = prefix-front more.state rest.state }

-- no second piece after a part of one
pub parts-stop : (run : Run) (old new : Files) (more rest : Pieces) → AddsParts run old new more → AddsParts run old new (lengthened more rest)
parts-stop run old new more rest one first held holds =
    subst (LeavesParts run first new) (lengthened-assoc held more rest)
    (parts-longer run first new (lengthened held more) (lengthened (lengthened held more) rest) (one first held holds) (front-longer (lengthened held more) rest))

-- the pieces of a segment
sound-and-journal : (sound journal : List ℕ) → lengthened (record nothing { sound = sound }) (record nothing { journal = journal }) ≡ record nothing { sound = sound; journal = journal }
sound-and-journal sound journal = λ i. record { frames = []; sound = append-nil sound i; journal = journal; state = [] }

frames-and-records : (frames sound journal : List ℕ)
    → lengthened (record nothing { frames = frames }) (record nothing { sound = sound; journal = journal }) ≡ record nothing { frames = frames; sound = sound; journal = journal }
frames-and-records frames sound journal = λ i. record { frames = append-nil frames i; sound = sound; journal = journal; state = [] }

pub adds-records : (run : Run) (old mid new : Files) (sound journal : List ℕ) → Adds run old mid (record nothing { sound = sound })
    → Adds run mid new (record nothing { journal = journal }) → Adds run old new (record nothing { sound = sound; journal = journal })
adds-records run old mid new sound journal one two =
    subst (Adds run old new) (sound-and-journal sound journal) (adds-on run old mid new (record nothing { sound = sound }) (record nothing { journal = journal }) one two)

pub parts-records : (run : Run) (old mid new : Files) (sound journal : List ℕ) → Adds run old mid (record nothing { sound = sound })
    → AddsParts run mid new (record nothing { journal = journal }) → AddsParts run old new (record nothing { sound = sound; journal = journal })
parts-records run old mid new sound journal one two =
    subst (AddsParts run old new) (sound-and-journal sound journal) (parts-on run old mid new (record nothing { sound = sound }) (record nothing { journal = journal }) one two)

pub stop-records : (run : Run) (old new : Files) (sound journal : List ℕ) → AddsParts run old new (record nothing { sound = sound })
    → AddsParts run old new (record nothing { sound = sound; journal = journal })
stop-records run old new sound journal one =
    subst (AddsParts run old new) (sound-and-journal sound journal) (parts-stop run old new (record nothing { sound = sound }) (record nothing { journal = journal }) one)

pub adds-all : (run : Run) (old mid new : Files) (frames sound journal : List ℕ) → Adds run old mid (record nothing { frames = frames })
    → Adds run mid new (record nothing { sound = sound; journal = journal }) → Adds run old new (record nothing { frames = frames; sound = sound; journal = journal })
adds-all run old mid new frames sound journal one two =
    subst (Adds run old new) (frames-and-records frames sound journal)
    (adds-on run old mid new (record nothing { frames = frames }) (record nothing { sound = sound; journal = journal }) one two)

pub parts-all : (run : Run) (old mid new : Files) (frames sound journal : List ℕ) → Adds run old mid (record nothing { frames = frames })
    → AddsParts run mid new (record nothing { sound = sound; journal = journal }) → AddsParts run old new (record nothing { frames = frames; sound = sound; journal = journal })
parts-all run old mid new frames sound journal one two =
    subst (AddsParts run old new) (frames-and-records frames sound journal)
    (parts-on run old mid new (record nothing { frames = frames }) (record nothing { sound = sound; journal = journal }) one two)

pub stop-all : (run : Run) (old new : Files) (frames sound journal : List ℕ) → AddsParts run old new (record nothing { frames = frames })
    → AddsParts run old new (record nothing { frames = frames; sound = sound; journal = journal })
stop-all run old new frames sound journal one =
    subst (AddsParts run old new) (frames-and-records frames sound journal)
    (parts-stop run old new (record nothing { frames = frames }) (record nothing { sound = sound; journal = journal }) one)

-- pieces of a state
state-pieces : (front piece : List ℕ) → lengthened (record nothing { state = front }) (record nothing { state = piece }) ≡ record nothing { state = front ++ piece }
state-pieces front piece = refl

pub adds-state_on : (run : Run) (old mid new : Files) (front piece : List ℕ) → Adds run old mid (record nothing { state = front })
    → Adds run mid new (record nothing { state = piece }) → Adds run old new (record nothing { state = front ++ piece })
adds-state_on run old mid new front piece one two =
    subst (Adds run old new) (state-pieces front piece) (adds-on run old mid new (record nothing { state = front }) (record nothing { state = piece }) one two)

pub parts-state_on : (run : Run) (old mid new : Files) (front piece : List ℕ) → Adds run old mid (record nothing { state = front })
    → AddsParts run mid new (record nothing { state = piece }) → AddsParts run old new (record nothing { state = front ++ piece })
parts-state_on run old mid new front piece one two =
    subst (AddsParts run old new) (state-pieces front piece) (parts-on run old mid new (record nothing { state = front }) (record nothing { state = piece }) one two)

-- a part of the first of two pieces is a part of both
pub parts-state_front : (run : Run) (old new : Files) (front rest : List ℕ) → AddsParts run old new (record nothing { state = front })
    → AddsParts run old new (record nothing { state = front ++ rest })
parts-state_front run old new front rest one =
    subst (AddsParts run old new) (state-pieces front rest) (parts-stop run old new (record nothing { state = front }) (record nothing { state = rest }) one)

-- nothing was appended
pub adds-nothing : (run : Run) (files : Files) → Adds run files files nothing
adds-nothing run files first held holds = subst (Holds run first files) (sym (no-longer held)) holds
