-- What begun files hold, where one is written, emptied or begun.
use Rattle.std.proofs.Common.{◌≡◌, ◌≢◌, ℕ, ◌<◌, Bool, true, false, get_or, IsSome, is_some, append-nil, List, [], ◌∷◌, ◌++◌, length, Option, Some, None, ◌⊎◌, inl, inr, refl, sym, ap, ◌∙◌, arith, length-set}
use Rattle.std.proofs.lemmas.Bool.{cases_Bool}
use Rattle.std.proofs.Math.ListN.{set}
use Rattle.std.proofs.Math.Seq.{map-set_same}
use mathlib.Core.Path.{fun_ext}
use Rattle.std.specs.Bool.{OnTrue, OnFalse}
use Rattle.std.specs.List.{slice_get}
use Rattle.std.specs.Str.{bytes_eq}
use Rattle.std.proofs.lemmas.List.{get_or-set_same, get_or-set_other, map-set, map_push, length-map}
use Rattle.std.proofs.lemmas.Option.{slice_get_within, slice_get-get_or, slice_get_cases, slice_get_past, slice_get-map, slice_get_read}
use Rattle.md_outer.proofs.Places.{position-push-Some, position-push-None, slice_get-push-within, slice_get-push-end, bytes_eq-same, bytes_eq-true, name_at_number}
use Rattle.md_outer.specs.Numbers.{number_of, AreApart, begun_files, over}
use Rattle.md_outer.specs.Rooms.{bytes_in}
use Rattle.md_outer.specs.declared.buffer.Buffer.{Buffer}
use Rattle.md_outer.specs.Outside.{Files, IsPrefix, with_file, bytes_of}

slice_get-set_same : {X : Type 0} (xs : List X) (i : ℕ) (y : X) → i < length xs → slice_get (set xs i y) i ≡ Some y
slice_get-set_same xs i y within = slice_get-get_or (set xs i y) i y (omega (arith, length-set xs i y)) ∙ ap Some (get_or-set_same xs i y y within)

slice_get-set_other : {X : Type 0} (xs : List X) (i k : ℕ) (y : X) → k ≢ i → slice_get (set xs i y) k ≡ slice_get xs k
slice_get-set_other xs i k y other = elim ((slice_get_cases xs k).1) [
  | inl here ↦
      slice_get-get_or (set xs i y) k y (omega (arith, length-set xs i y, here.1)) ∙ ap Some (get_or-set_other xs i k y y other) ∙ sym (slice_get-get_or xs k y here.1)
  | inr past ↦ slice_get_past (set xs i y) k (omega (arith, length-set xs i y, past.0)) ∙ sym past.1
]

option_cases : {X : Type 0} (o : Option X) → (o ≡ None) ⊎ ((x : X) × (o ≡ Some x))
option_cases None = inl refl
option_cases (Some x) = inr (x, refl)

-- a file of another name keeps its bytes
other_number : (names : List (List ℕ)) (name other : List ℕ) (number k : ℕ) → slice_get names number ≡ Some name → bytes_eq name other ≡ false → number_of names other ≡ Some k → k ≢ number
other_number names name other number k at differ found same =
    let there : slice_get names number ≡ Some other = rw (← same) (name_at_number names other k found) in
    let equal : name ≡ other = cc in
    let passes = bytes_eq-same name other equal in
    cc

begun_files-set_at : (names bytes : List (List ℕ)) (number : ℕ) (name b other : List ℕ) → AreApart names → length bytes ≡ length names → slice_get names number ≡ Some name
    → begun_files names (set bytes number b) other ≡ with_file (begun_files names bytes) name b other
begun_files-set_at names bytes number name b other apart same at = elim (cases_Bool (bytes_eq name other)) [
  | inl equal ↦
      let found : number_of names other ≡ Some number = rw (← bytes_eq-true name other equal) (apart number name at) in
      let within : number < length bytes = omega (arith, slice_get_within names number name at) in
      rw (found, equal) (slice_get-set_same bytes number b within)
  | inr differ ↦ elim (option_cases (number_of names other)) [
    | inl none ↦ rw (none, differ) refl
    | inr some ↦ rw (some.1, differ) (slice_get-set_other bytes number some.0 b (other_number names name other number some.0 at differ some.1))
  ]
]

-- a begun file that is written holds what it is given
pub begun_files-set : (names bytes : List (List ℕ)) (number : ℕ) (name b : List ℕ) → AreApart names → length bytes ≡ length names → slice_get names number ≡ Some name
    → begun_files names (set bytes number b) ≡ with_file (begun_files names bytes) name b
begun_files-set names bytes number name b apart same at = fun_ext (λ other. begun_files-set_at names bytes number name b other apart same at)

begun_files-push_at : (names bytes : List (List ℕ)) (name b other : List ℕ) → number_of names name ≡ None → length bytes ≡ length names
    → begun_files (names ++ name ∷ []) (bytes ++ b ∷ []) other ≡ with_file (begun_files names bytes) name b other
begun_files-push_at names bytes name b other new same = elim (cases_Bool (bytes_eq name other)) [
  | inl equal ↦
      let none : number_of names other ≡ None = rw (← bytes_eq-true name other equal) new in
      let found : number_of (names ++ name ∷ []) other ≡ Some (length names) = position-push-None (λ held. bytes_eq held other) names name none ∙ rw equal refl in
      rw (found, equal) (rw (← same) (slice_get-push-end bytes b))
  | inr differ ↦ elim (option_cases (number_of names other)) [
    | inl none ↦
        let none' : number_of (names ++ name ∷ []) other ≡ None = position-push-None (λ held. bytes_eq held other) names name none ∙ rw differ refl in
        rw (none', none, differ) refl
    | inr some ↦
        let found : number_of (names ++ name ∷ []) other ≡ Some some.0 = position-push-Some (λ held. bytes_eq held other) names name some.0 some.1 in
        let within : some.0 < length bytes = omega (arith, slice_get_within names some.0 other (name_at_number names other some.0 some.1)) in
        rw (found, some.1, differ) (slice_get-push-within bytes b some.0 within)
  ]
]

-- a file that is begun for the first time holds what it is given
pub begun_files-push : (names bytes : List (List ℕ)) (name b : List ℕ) → number_of names name ≡ None → length bytes ≡ length names
    → begun_files (names ++ name ∷ []) (bytes ++ b ∷ []) ≡ with_file (begun_files names bytes) name b
begun_files-push names bytes name b new same = fun_ext (λ other. begun_files-push_at names bytes name b other new same)

-- the same, where the files are in buffers
pub held-write : (names : List (List ℕ)) (buffers : List Buffer) (number : ℕ) (buffer : Buffer) (name b : List ℕ) → AreApart names → length buffers ≡ length names → slice_get names number ≡ Some name
    → buffer.bytes.items ≡ b → begun_files names (bytes_in (set buffers number buffer)) ≡ with_file (begun_files names (bytes_in buffers)) name b
held-write names buffers number buffer name b apart same at is =
    ap (begun_files names) (map-set (λ held. held.bytes.items) buffers number buffer)
    ∙ begun_files-set names (bytes_in buffers) number name _ apart (length-map buffers (λ held. held.bytes.items) ∙ same) at
    ∙ ap (with_file (begun_files names (bytes_in buffers)) name) is

pub held-add : (names : List (List ℕ)) (buffers : List Buffer) (buffer : Buffer) (name b : List ℕ) → number_of names name ≡ None → length buffers ≡ length names
    → buffer.bytes.items ≡ b → begun_files (names ++ name ∷ []) (bytes_in (buffers ++ buffer ∷ [])) ≡ with_file (begun_files names (bytes_in buffers)) name b
held-add names buffers buffer name b new same is =
    ap (begun_files (names ++ name ∷ [])) (map_push (λ held. held.bytes.items) buffers buffer)
    ∙ begun_files-push names (bytes_in buffers) name _ new (length-map buffers (λ held. held.bytes.items) ∙ same)
    ∙ ap (with_file (begun_files names (bytes_in buffers)) name) is

-- what a begun file holds is what its buffer holds
pub held-bytes : (names : List (List ℕ)) (buffers : List Buffer) (number : ℕ) (buffer : Buffer) (name : List ℕ) → AreApart names → slice_get names number ≡ Some name → slice_get buffers number ≡ Some buffer
    → begun_files names (bytes_in buffers) name ≡ Some buffer.bytes.items
held-bytes names buffers number buffer name apart at is =
    rw (apart number name at) (slice_get-map (λ held. held.bytes.items) buffers number ∙ rw is refl)

with_file-same_at : (files : Files) (name b other : List ℕ) → files name ≡ Some b → with_file files name b other ≡ files other
with_file-same_at files name b other held = elim (cases_Bool (bytes_eq name other)) [
  | inl equal ↦ rw equal (sym held ∙ ap files (bytes_eq-true name other equal))
  | inr differ ↦ rw differ refl
]

-- a file that gets the bytes that it holds leaves all as they are
pub with_file-same : (files : Files) (name b : List ℕ) → files name ≡ Some b → with_file files name b ≡ files
with_file-same files name b held = fun_ext (λ other. with_file-same_at files name b other held)

over-with_file_at : (front back : Files) (name b other : List ℕ) → over (with_file front name b) back other ≡ with_file (over front back) name b other
over-with_file_at front back name b other = elim (cases_Bool (bytes_eq name other)) [
  | inl equal ↦ rw equal refl
  | inr differ ↦ rw differ refl
]

-- a front file that is written is written for all
pub over-with_file : (front back : Files) (name b : List ℕ) → over (with_file front name b) back ≡ with_file (over front back) name b
over-with_file front back name b = fun_ext (over-with_file_at front back name b)

-- what all files hold of a name is what the front ones hold
pub bytes_of-over : (front back : Files) (name b : List ℕ) → front name ≡ Some b → bytes_of (over front back) name ≡ b
bytes_of-over front back name b held = rw held refl

-- after all others, a begun file that is emptied or written
pub over-write : (names : List (List ℕ)) (buffers : List Buffer) (number : ℕ) (buffer : Buffer) (name b : List ℕ) (back : Files) → AreApart names → length buffers ≡ length names → slice_get names number ≡ Some name
    → buffer.bytes.items ≡ b → over (begun_files names (bytes_in (set buffers number buffer))) back ≡ with_file (over (begun_files names (bytes_in buffers)) back) name b
over-write names buffers number buffer name b back apart same at is =
    ap (λ files. over files back) (held-write names buffers number buffer name b apart same at is) ∙ over-with_file (begun_files names (bytes_in buffers)) back name b

-- the buffer of a begun file holds its bytes
pub held-read : (names : List (List ℕ)) (buffers : List Buffer) (number : ℕ) (buffer : Buffer) (name : List ℕ) → AreApart names → length buffers ≡ length names → slice_get names number ≡ Some name
    → buffer ≡ get_or buffers number buffer → begun_files names (bytes_in buffers) name ≡ Some buffer.bytes.items
held-read names buffers number buffer name apart same at read =
    held-bytes names buffers number buffer name apart at (slice_get_read buffers (length names) number buffer (sym same) (slice_get_within names number name at) read)

-- a begun file gets a piece at its end
pub over-append : (names : List (List ℕ)) (buffers : List Buffer) (number : ℕ) (old new : Buffer) (name piece : List ℕ) (back : Files) → AreApart names → length buffers ≡ length names → slice_get names number ≡ Some name
    → old ≡ get_or buffers number old → new.bytes.items ≡ old.bytes.items ++ piece
    → over (begun_files names (bytes_in (set buffers number new))) back ≡ with_file (over (begun_files names (bytes_in buffers)) back) name (bytes_of (over (begun_files names (bytes_in buffers)) back) name ++ piece)
over-append names buffers number old new name piece back apart same at read is =
    rw (held-read names buffers number old name apart same at read) (over-write names buffers number new name (old.bytes.items ++ piece) back apart same at is)

-- a buffer that keeps its bytes leaves all files as they are
pub held-left : (names : List (List ℕ)) (buffers : List Buffer) (number : ℕ) (old new : Buffer) → old ≡ get_or buffers number old → new.bytes.items ≡ old.bytes.items
    → begun_files names (bytes_in (set buffers number new)) ≡ begun_files names (bytes_in buffers)
held-left names buffers number old new read is =
    ap (begun_files names) (map-set_same (λ buffer. buffer.bytes.items) buffers number new old (is ∙ ap (λ buffer. buffer.bytes.items) read))

-- where a begun file stays, the empty part of the piece was added to it
pub left-part : (front back new : Files) (name piece : List ℕ) → IsSome (front name) → new ≡ over front back
    → (part : List ℕ) × IsPrefix part piece × (new ≡ with_file (over front back) name (bytes_of (over front back) name ++ part))
left-part front back new name piece some is = elim (option_cases (front name)) [
  | inl none ↦ (let empty : is_some (front name) ≡ false = ap is_some none in cc)
  | inr held ↦ ([], (piece, refl), rw (bytes_of-over front back name held.0 held.1, append-nil held.0) (is ∙ sym (with_file-same (over front back) name held.0 (rw held.1 refl))))
]

-- a begun file is held
pub held-some : (names : List (List ℕ)) (buffers : List Buffer) (number : ℕ) (name : List ℕ) → AreApart names → length buffers ≡ length names → slice_get names number ≡ Some name
    → IsSome (begun_files names (bytes_in buffers) name)
held-some names buffers number name apart same at = elim ((slice_get_cases buffers number).1) [
  | inl here ↦ ap is_some (held-bytes names buffers number here.0 name apart at here.2)
  | inr past ↦ absurd (omega (arith, past.0, same, slice_get_within names number name at))
]

-- a fact that holds for one answer, and what follows from it
pub on_true : {P Q : Type 0} (b : Bool) → (P → Q) → OnTrue b P → OnTrue b Q
on_true true f p = f p
on_true false f p = tt

pub on_false : {P Q : Type 0} (b : Bool) → (P → Q) → OnFalse b P → OnFalse b Q
on_false true f p = tt
on_false false f p = f p
