-- Two files that are begun and then written.
use Rattle.std.proofs.Common.{◌≡◌, ◌∙◌, ◌≤◌, List, ℕ, [], ◌++◌, ◌⊎◌, inl, inr, true, false, Option, Some, None, ap, refl, sym, subst, length, append_assoc}
use Rattle.std.specs.Prelude.{IsSome}
use Rattle.std.specs.Str.{bytes_eq}
use Rattle.std.proofs.lemmas.Bool.{not-true}
use Rattle.md_outer.specs.Outside.{DepotState, Files, GoesOn, IsPrefix, bytes_of, with_file}
use Rattle.md_outer.proofs.WrittenFiles.{bytes_of-with_file, file-longer, with_file-comm, with_file-with_file}
use Rattle.md_args.specs.Commands.{differ}
use Rattle.md_args.specs.Words.{Assembling}
use Rattle.md_asm.specs.Assembly.{AssemblyOutcome, Done, assembly}
use Rattle.md_asm.specs.declared.placed.Placed.{Placed}
use Rattle.asm_laws.specs.Lines.{SaysLines}
use Rattle.asm_laws.specs.Fitting.{FitsLines}
use Rattle.asm_laws.specs.Sources.{KeepsInstruction}
use Rattle.file_commands.specs.Assemblies.{HoldsParts, IsFound, KeepsSource, LeavesEmpty, LeavesFiles, LeavesParts, SaysSource, WriteCause, WritesFiles, limit, with_both, with_list}
use Rattle.file_commands.specs.Begun.{IsBegun, with_more}
use Rattle.file_commands.specs.Lists.{list_of}
use Rattle.file_commands.specs.declared.completion.Completion.{Completion}
use Rattle.file_commands.specs.declared.completion.Completion.TheVariants.{Made, Unread, TooLong, Refused, Unwritten, Unlisted, NoMemory}

-- ---- two files

-- the output holds what was begun, whatever list was begun after it
output_kept : (files : Files) (a b x y : List ℕ) → bytes_eq a b ≡ false → bytes_of (with_file (with_file files a x) b y) a ≡ x
output_kept files a b x y differ = ap (λ (f : Files). bytes_of f a) (with_file-comm files a b x y differ) ∙ bytes_of-with_file (with_file files b y) a x

-- bytes are appended to the output, after which the list was begun
pub output_more : (files begun new : Files) (output : List ℕ) (list : Option (List ℕ)) (piece : List ℕ) → differ (Some output) list ≡ true
    → begun ≡ with_list list (with_file files output []) [] → new ≡ with_file begun output (bytes_of begun output ++ piece)
    → new ≡ with_list list (with_file files output piece) []
output_more files begun new output None piece differ is more = file-longer files begun new output [] piece is more
output_more files begun new output (Some name) piece differ is more =
    let apart = not-true (bytes_eq output name) differ in
    more ∙ ap (λ (f : Files). with_file f output (bytes_of f output ++ piece)) is
    ∙ ap (λ (l : List ℕ). with_file (with_file (with_file files output []) name []) output (l ++ piece)) (output_kept files output name [] [] apart)
    ∙ ap (λ (f : Files). with_file f output piece) (with_file-comm files output name [] [] apart)
    ∙ with_file-with_file (with_file files name []) output [] piece ∙ sym (with_file-comm files output name piece [] apart)

-- bytes are appended to the list
pub list_more : (files written new : Files) (list : Option (List ℕ)) (piece : List ℕ)
    → written ≡ with_list list files [] → new ≡ with_more list written piece → new ≡ with_list list files piece
list_more files written new None piece is more = more ∙ is
list_more files written new (Some name) piece is more = file-longer files written new name [] piece is more

pub front : (whole : List ℕ) → IsPrefix [] whole
front whole = (whole, refl)

-- ---- what is begun

pub begun_on : (old new : DepotState) (file : Option ℕ) (name : Option (List ℕ)) → GoesOn old new → IsBegun old file name → IsBegun new file name
begun_on old new (Some file) (Some name) goes is = goes.names file (subst IsSome (sym is) refl) ∙ is
begun_on old new (Some file) None goes is = absurd is
begun_on old new None (Some name) goes is = absurd is
begun_on old new None None goes is = tt

-- the first file is begun still
pub first_on : (old new : DepotState) (file : ℕ) (name : List ℕ) → GoesOn old new → old.begun file ≡ Some name → new.begun file ≡ Some name
first_on old new file name goes is = begun_on old new (Some file) (Some name) goes is

-- ---- what is left

-- a part of the image was appended
pub image_part : (words : Assembling) (old first begun new : Files) (image list part : List ℕ) → differ (Some words.output) words.list ≡ true
    → first ≡ with_file old words.output [] → begun ≡ with_list words.list first [] → IsPrefix part image
    → new ≡ with_file begun words.output (bytes_of begun words.output ++ part) → HoldsParts words old new image list
image_part words old first begun new image list part differ is then_is prefix more =
    inr (
      part,
      [],
      prefix,
      front list,
      output_more old begun new words.output words.list part differ (then_is ∙ ap (λ (f : Files). with_list words.list f []) is) more,
    )

-- the image was, and a part of the list
pub list_piece : (words : Assembling) (old first begun written new : Files) (image piece : List ℕ) → differ (Some words.output) words.list ≡ true
    → first ≡ with_file old words.output [] → begun ≡ with_list words.list first []
    → written ≡ with_file begun words.output (bytes_of begun words.output ++ image) → new ≡ with_more words.list written piece
    → new ≡ with_both words old image piece
list_piece words old first begun written new image piece differ is then_is more last =
    list_more (with_file old words.output image) written new words.list piece
    (output_more old begun written words.output words.list image differ (then_is ∙ ap (λ (f : Files). with_list words.list f []) is) more) last

-- that what a source of one instruction is assembled to keeps it
abbrev pub AllKeep : Type 0
AllKeep = (source : List ℕ) (outcome : AssemblyOutcome) → assembly source ≡ outcome → KeepsInstruction source outcome

kept_of : (source : Option (List ℕ)) (outcome : AssemblyOutcome) → AllKeep → IsFound source outcome → KeepsSource source outcome
kept_of None outcome keeps found = absurd found
kept_of (Some bytes) outcome keeps found = keeps bytes outcome found.1

round_trips_of : (source : Option (List ℕ)) (image : List ℕ) (lines : List Placed) → ((bytes : List ℕ) (placed : List Placed) → assembly bytes ≡ Done image placed → SaysLines bytes image placed)
    → ((bytes : List ℕ) (placed : List Placed) → assembly bytes ≡ Done image placed → FitsLines bytes) → AllKeep → IsFound source (Done image lines) → SaysSource source image lines
round_trips_of None image lines says fits keeps found = absurd found
round_trips_of (Some bytes) image lines says fits keeps found = (says bytes lines found.1, fits bytes lines found.1, kept_of (Some bytes) (Done image lines) keeps found)

-- what an assembly leaves, by what its writing leaves
pub leaves : (words : Assembling) (old before new : Files) (first last : DepotState) (image list : List ℕ) (lines : List Placed) (completion : Completion)
    → ((bytes : List ℕ) (placed : List Placed) → assembly bytes ≡ Done image placed → SaysLines bytes image placed)
    → ((bytes : List ℕ) (placed : List Placed) → assembly bytes ≡ Done image placed → FitsLines bytes) → AllKeep
    → before ≡ old → IsFound (old words.source) (Done image lines) → list ≡ list_of image lines
    → WriteCause (length image) first last completion → WritesFiles words before new image list completion → LeavesFiles words old new completion
leaves words old before new first last image list lines completion says fits keeps same found is cause left =
    go completion cause (subst (λ (f : Files). WritesFiles words f new image (list_of image lines) completion) same (subst (λ (l : List ℕ). WritesFiles words before new image l completion) is left))
  where
    parts : (new ≡ old) ⊎ HoldsParts words old new image (list_of image lines) → LeavesParts words old new
    parts (inl same) = inl same
    parts (inr holds) = inr (image, lines, found, holds)

    emptied : (new ≡ old) ⊎ (new ≡ with_file old words.output []) → LeavesEmpty words old new
    emptied (inl same) = inl same
    emptied (inr is) = inr (image, lines, found, is)

    go : (completion : Completion) → WriteCause (length image) first last completion → WritesFiles words old new image (list_of image lines) completion → LeavesFiles words old new completion
    go (Made size) cause left = (image, lines, found, cause, left, round_trips_of (old words.source) image lines says fits keeps found)
    go Unwritten cause left = parts left
    go Unlisted cause left = parts left
    go NoMemory cause left = emptied left
    go Unread cause left = absurd cause
    go TooLong cause left = absurd cause
    go (Refused line kind) cause left = absurd cause

-- ---- a line of the list

pub line_more : (old place text following first second new : List ℕ) → first ≡ old ++ place → second ≡ first ++ text → new ≡ second ++ following
    → new ≡ old ++ ((place ++ text) ++ following)
line_more old place text following first second new is is' is'' =
    is'' ∙ ap (λ (l : List ℕ). l ++ following) (is' ∙ ap (λ (l : List ℕ). l ++ text) is)
    ∙ simp append_assoc

-- the source that was fetched is assembled so
pub found_in : (files : Files) (words : Assembling) (items bytes image : List ℕ) (lines : List Placed) → files words.source ≡ Some items
    → length items ≤ limit → bytes ≡ items → assembly bytes ≡ Done image lines → IsFound (files words.source) (Done image lines)
found_in files words items bytes image lines held within is done =
    subst (λ (source : Option (List ℕ)). IsFound source (Done image lines)) (sym held) (within, ap assembly (sym is) ∙ done)

pub left_by : {seen : List ℕ} {placed : List Placed} (first : List ℕ) (second : List Placed) → first ≡ seen → second ≡ placed
    → list_of first second ≡ list_of seen placed
left_by {seen} {placed} first second is is' =
    ap (λ (l : List ℕ). list_of l second) is ∙ ap (λ (l : List Placed). list_of seen l) is'
