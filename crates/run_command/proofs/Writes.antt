-- What the outputs hold after a begin and an append.
use Rattle.std.proofs.Common.{◌≡◌, ℕ, true, false, List, [], ◌++◌, Option, Some, None, refl, sym, ap, subst, ◌∙◌, append-nil, append_assoc}
use Rattle.std.specs.Prelude.{IsSome}
use Rattle.std.specs.Str.{bytes_eq}
use Rattle.std.proofs.lemmas.Bool.{true≢false, not-true}
use Rattle.md_outer.specs.Outside.{Files, IsPrefix, bytes_of, with_file}
use Rattle.md_outer.proofs.WrittenFiles.{file-longer, with_file-comm}
use Rattle.run_command.specs.Outputs.{Holds, IsPartOf, LeavesParts, Pieces, all_of, lengthened, nothing, only, with_part, written}
use Rattle.md_args.specs.Files.{run_output}
use Rattle.md_args.specs.Commands.{differ}
use Rattle.md_args.specs.Words.{Run}
use Rattle.md_args.specs.declared.files.Output.{Output}
use Rattle.md_args.specs.declared.files.Output.TheVariants.{Frames, Journal, Listing, Save, Sound, Target}

-- OUTPUTS

-- outputs of two names change places
part-comm : (files : Files) (a b x y : Option (List ℕ)) → differ a b ≡ true → with_part (with_part files a x) b y ≡ with_part (with_part files b y) a x
part-comm files a b None y apart = refl
part-comm files None b (Some x) y apart = refl
part-comm files (Some a) b (Some x) None apart = refl
part-comm files (Some a) None (Some x) (Some y) apart = refl
part-comm files (Some a) (Some b) (Some x) (Some y) apart = with_file-comm files a b x y (not-true (bytes_eq a b) apart)

-- an output that is written last is lengthened
part-longer : (base files new : Files) (output : Option (List ℕ)) (name held piece : List ℕ) → output ≡ Some name
    → files ≡ with_part base output (Some held) → new ≡ with_file files name (bytes_of files name ++ piece) → new ≡ with_part base output (Some (held ++ piece))
part-longer base files new output name held piece is holds appended =
    let held' : files ≡ with_file base name held = subst (λ (o : Option (List ℕ)). files ≡ with_part base o (Some held)) is holds in
    subst (λ (o : Option (List ℕ)). new ≡ with_part base o (Some (held ++ piece))) (sym is) (file-longer base files new name held piece held' appended)

-- an output that is not asked for holds what one likes
part-unasked : (base : Files) (output : Option (List ℕ)) (x y : List ℕ) → output ≡ None → with_part base output (Some x) ≡ with_part base output (Some y)
part-unasked base output x y is =
    ap (λ (o : Option (List ℕ)). with_part base o (Some x)) is ∙ sym (ap (λ (o : Option (List ℕ)). with_part base o (Some y)) is)

pub named : (output : Option (List ℕ)) → IsSome output → (name : List ℕ) × (output ≡ Some name)
named None some = absurd (true≢false (sym some))
named (Some name) some = (name, refl)

-- the outputs of a run have names that differ
pub record Apart (run : Run) : Type 0 where
  pub frames_sound : differ run.frames run.sound ≡ true
  pub frames_journal : differ run.frames run.journal ≡ true
  pub sound_journal : differ run.sound run.journal ≡ true
  pub frames_save : differ run.frames run.save ≡ true
  pub sound_save : differ run.sound run.save ≡ true
  pub journal_save : differ run.journal run.save ≡ true

-- no bytes after bytes
pub no-longer : (held : Pieces) → lengthened held nothing ≡ held
no-longer held = λ i. record {
  frames = append-nil held.frames i;
  sound = append-nil held.sound i;
  journal = append-nil held.journal i;
  state = append-nil held.state i;
}

-- the bytes of one output, and the same outputs with other bytes in it
abbrev pub held_in : Output → Pieces → List ℕ
held_in Frames held = held.frames
held_in Sound held = held.sound
held_in Journal held = held.journal
held_in Save held = held.state
held_in Target held = []
held_in Listing held = []

abbrev pub with_held : Output → Pieces → List ℕ → Pieces
with_held Frames held bytes = record held { frames = bytes }
with_held Sound held bytes = record held { sound = bytes }
with_held Journal held bytes = record held { journal = bytes }
with_held Save held bytes = record held { state = bytes }
with_held Target held bytes = held
with_held Listing held bytes = held

-- each output may be written last: these are the others
abbrev but : Output → Run → Files → Pieces → Files
but Frames run first held =
    with_part (with_part (with_part first run.sound (Some held.sound)) run.journal (Some held.journal)) run.save (Some held.state)
but Sound run first held =
    with_part (with_part (with_part first run.frames (Some held.frames)) run.journal (Some held.journal)) run.save (Some held.state)
but Journal run first held =
    with_part (with_part (with_part first run.frames (Some held.frames)) run.sound (Some held.sound)) run.save (Some held.state)
but Save run first held =
    with_part (with_part (with_part first run.frames (Some held.frames)) run.sound (Some held.sound)) run.journal (Some held.journal)
but Target run first held = written run first (all_of held)
but Listing run first held = written run first (all_of held)

written-last : (run : Run) → Apart run → (which : Output) (first : Files) (held : Pieces) (bytes : List ℕ)
    → written run first (all_of (with_held which held bytes)) ≡ with_part (but which run first held) (run_output run which) (Some bytes)
written-last run apart Frames first held bytes =
    ap (λ (files : Files). with_part (with_part files run.journal (Some held.journal)) run.save (Some held.state))
    (part-comm first run.frames run.sound (Some bytes) (Some held.sound) apart.frames_sound)
    ∙ ap (λ (files : Files). with_part files run.save (Some held.state))
    (part-comm (with_part first run.sound (Some held.sound)) run.frames run.journal (Some bytes) (Some held.journal) apart.frames_journal)
    ∙ part-comm (with_part (with_part first run.sound (Some held.sound)) run.journal (Some held.journal)) run.frames run.save (Some bytes) (Some held.state) apart.frames_save
written-last run apart Sound first held bytes =
    ap (λ (files : Files). with_part files run.save (Some held.state))
    (part-comm (with_part first run.frames (Some held.frames)) run.sound run.journal (Some bytes) (Some held.journal) apart.sound_journal)
    ∙ part-comm (with_part (with_part first run.frames (Some held.frames)) run.journal (Some held.journal)) run.sound run.save (Some bytes) (Some held.state) apart.sound_save
written-last run apart Journal first held bytes =
    part-comm (with_part (with_part first run.frames (Some held.frames)) run.sound (Some held.sound)) run.journal run.save (Some bytes) (Some held.state) apart.journal_save
written-last run apart Save first held bytes = refl
written-last run apart Target first held bytes = refl
written-last run apart Listing first held bytes = refl

with-own : (which : Output) (held : Pieces) → with_held which held (held_in which held) ≡ held
with-own Frames held = refl
with-own Sound held = refl
with-own Journal held = refl
with-own Save held = refl
with-own Target held = refl
with-own Listing held = refl

own-last : (run : Run) → Apart run → (which : Output) (first : Files) (held : Pieces)
    → written run first (all_of held) ≡ with_part (but which run first held) (run_output run which) (Some (held_in which held))
own-last run apart which first held =
    sym (ap (λ (same : Pieces). written run first (all_of same)) (with-own which held)) ∙ written-last run apart which first held (held_in which held)

-- a piece of one output alone
only-one : (which : Output) (held : Pieces) (piece : List ℕ) → with_held which held (held_in which held ++ piece) ≡ lengthened held (only which piece)
only-one Frames held piece = λ i. record { frames = held.frames ++ piece; sound = sym (append-nil held.sound) i; journal = sym (append-nil held.journal) i; state = sym (append-nil held.state) i }
only-one Sound held piece = λ i. record { frames = sym (append-nil held.frames) i; sound = held.sound ++ piece; journal = sym (append-nil held.journal) i; state = sym (append-nil held.state) i }
only-one Journal held piece = λ i. record { frames = sym (append-nil held.frames) i; sound = sym (append-nil held.sound) i; journal = held.journal ++ piece; state = sym (append-nil held.state) i }
only-one Save held piece = λ i. record { frames = sym (append-nil held.frames) i; sound = sym (append-nil held.sound) i; journal = sym (append-nil held.journal) i; state = held.state ++ piece }
only-one Target held piece = sym (no-longer held)
only-one Listing held piece = sym (no-longer held)

-- an output that was begun is lengthened by it
pub output-longer : (run : Run) → Apart run → (which : Output) (first files new : Files) (held : Pieces) (name piece : List ℕ) → run_output run which ≡ Some name → Holds run first files held
    → new ≡ with_file files name (bytes_of files name ++ piece) → Holds run first new (lengthened held (only which piece))
output-longer run apart which first files new held name piece is holds appended =
    subst (Holds run first new) (only-one which held piece)
    (part-longer (but which run first held) files new (run_output run which) name (held_in which held) piece is (holds ∙ own-last run apart which first held) appended
    ∙ sym (written-last run apart which first held (held_in which held ++ piece)))

-- and one that is not asked for holds what one likes
pub output-unasked : (run : Run) → Apart run → (which : Output) (first files : Files) (held : Pieces) (piece : List ℕ) → run_output run which ≡ None → Holds run first files held
    → Holds run first files (lengthened held (only which piece))
output-unasked run apart which first files held piece is holds =
    subst (Holds run first files) (only-one which held piece)
    (holds ∙ own-last run apart which first held
    ∙ part-unasked (but which run first held) (run_output run which) (held_in which held) (held_in which held ++ piece) is
    ∙ sym (written-last run apart which first held (held_in which held ++ piece)))

-- PARTS

pub prefix-append : (front l more : List ℕ) → IsPrefix l more → IsPrefix (front ++ l) (front ++ more)
prefix-append front l more is = (is.0, append_assoc front l is.0 ∙ ap (λ (x : List ℕ). front ++ x) is.1)

pub prefix-front : (l more : List ℕ) → IsPrefix l (l ++ more)
prefix-front l more = (more, refl)

pub prefix-trans : (a b c : List ℕ) → IsPrefix a b → IsPrefix b c → IsPrefix a c
prefix-trans a b c first second =
    (first.0 ++ second.0, sym (append_assoc a first.0 second.0) ∙ ap (λ (l : List ℕ). l ++ second.0) first.1 ∙ second.1)

-- each is a prefix
pub record ArePrefixes (front whole : Pieces) : Type 0 where
  pub frames : IsPrefix front.frames whole.frames
  pub sound : IsPrefix front.sound whole.sound
  pub journal : IsPrefix front.journal whole.journal
  pub state : IsPrefix front.state whole.state

pub nothing-front : (whole : Pieces) → ArePrefixes nothing whole
nothing-front whole =
    record { frames = (whole.frames, refl); sound = (whole.sound, refl); journal = (whole.journal, refl); state = (whole.state, refl) }

pub only-front : (which : Output) (part piece : List ℕ) → IsPrefix part piece → ArePrefixes (only which part) (only which piece)
only-front Frames part piece is = record { frames = is; sound = ([], refl); journal = ([], refl); state = ([], refl) }
only-front Sound part piece is = record { frames = ([], refl); sound = is; journal = ([], refl); state = ([], refl) }
only-front Journal part piece is = record { frames = ([], refl); sound = ([], refl); journal = is; state = ([], refl) }
only-front Save part piece is = record { frames = ([], refl); sound = ([], refl); journal = ([], refl); state = is }
only-front Target part piece is = nothing-front nothing
only-front Listing part piece is = nothing-front nothing

-- after the same bytes
pub front-following : (held part whole : Pieces) → ArePrefixes part whole → ArePrefixes (lengthened held part) (lengthened held whole)
front-following held part whole front = record {
  frames = prefix-append held.frames part.frames whole.frames front.frames;
  sound = prefix-append held.sound part.sound whole.sound front.sound;
  journal = prefix-append held.journal part.journal whole.journal front.journal;
  state = prefix-append held.state part.state whole.state front.state;
}

-- the outputs hold their bytes, and so parts of longer ones
pub parts_left : (run : Run) (first files : Files) (held whole : Pieces) → Holds run first files held → ArePrefixes held whole → LeavesParts run first files whole
parts_left run first files held whole holds front = record {
  parts = all_of held;
  frames = front.frames;
  sound = front.sound;
  journal = front.journal;
  state = front.state;
  files = holds;
}

part-of : (part : Option (List ℕ)) (whole longer : List ℕ) → IsPrefix whole longer → IsPartOf part whole → IsPartOf part longer
part-of None whole longer more is = tt
part-of (Some part) whole longer more is = prefix-trans part whole longer is more

-- parts of bytes are parts of longer ones
pub parts-longer : (run : Run) (first files : Files) (whole longer : Pieces) → LeavesParts run first files whole → ArePrefixes whole longer → LeavesParts run first files longer
parts-longer run first files whole longer leaves front = record {
  parts = leaves.parts;
  frames = part-of leaves.parts.frames whole.frames longer.frames front.frames leaves.frames;
  sound = part-of leaves.parts.sound whole.sound longer.sound front.sound leaves.sound;
  journal = part-of leaves.parts.journal whole.journal longer.journal front.journal leaves.journal;
  state = part-of leaves.parts.state whole.state longer.state front.state leaves.state;
  files = leaves.files;
}
