-- Entries in bytes are those that are spelled there.
use Rattle.std.proofs.Common.{◌≡◌, ℕ, zero, suc, ◌+◌, ◌*◌, ◌-◌, ◌<◌, ◌≤◌, true, List, [], ◌∷◌, ◌++◌, length, take, drop, refl, sym, ap, subst, ◌∙◌, append_assoc, arith}
use Rattle.std.proofs.lemmas.List.{take_at, length-append, append-nil, length-drop}
use Rattle.md_fields.specs.Fields.{AreWithin, Field, block, sizes, spelling}
use Rattle.md_fields.specs.Places.{IsBytes, Stand}
use Rattle.md_fields.proofs.Items.{within_there}
use Rattle.md_fields.proofs.Standing.{spelled_from, stand_after}
use Rattle.sound_writes.specs.Entries.{AreFit, entries_bytes, entries_from}
use Rattle.md_fields.proofs.Tables.{spelling_append, within_append, within_both}

-- what is left as one field
abbrev left : List ℕ → List Field
left rest = block (length rest) rest true ∷ []

left_bytes : (rest : List ℕ) → spelling (left rest) ≡ rest
unfolding spelling
left_bytes rest = append-nil rest

left_within : (rest : List ℕ) → AreWithin (left rest)
unfolding AreWithin
left_within rest = (refl, tt)

left_stands : (place : ℕ) (bytes : List ℕ) → place ≤ length bytes → Stand place (left (drop place bytes)) bytes
unfolding Stand
left_stands place bytes le =
    (sym (take_at (drop place bytes) [] (length (drop place bytes)) refl) ∙ ap (take (length (drop place bytes))) (append-nil (drop place bytes)), omega (arith, length-drop place bytes))

-- one entry more
entries_more : {E : Type 0} (size : ℕ) (entry : ℕ → List ℕ → E) (count index place : ℕ) (bytes : List ℕ) → index < count
    → entries_from size entry (count - index) place bytes ≡ entry place bytes ∷ entries_from size entry (count - (index + 1)) (place + size) bytes
entries_more size entry count index place bytes below =
    let more : count - index ≡ suc (count - (index + 1)) = omega (arith, below) in
    ap (λ (n : ℕ). entries_from size entry n place bytes) more

-- the entries from an index on: one, and those from the next on; or none
pub entries_next : {E : Type 0} (size : ℕ) (entry : ℕ → List ℕ → E) (count index : ℕ) (bytes : List ℕ) → index < count
    → entries_from size entry (count - index) (size * index) bytes ≡ entry (size * index) bytes ∷ entries_from size entry (count - (index + 1)) (size * (index + 1)) bytes
entries_next size entry count index bytes below =
    let place : size * index + size ≡ size * (index + 1) = omega arith in
    entries_more size entry count index (size * index) bytes below
    ∙ ap (λ (n : ℕ). entry (size * index) bytes ∷ entries_from size entry (count - (index + 1)) n bytes) place

pub entries_none : {E : Type 0} (size : ℕ) (entry : ℕ → List ℕ → E) (count index : ℕ) (bytes : List ℕ) → count ≤ index → entries_from size entry (count - index) (size * index) bytes ≡ []
entries_none size entry count index bytes past =
    let none : count - index ≡ 0 = omega (arith, past) in ap (λ (n : ℕ). entries_from size entry n (size * index) bytes) none

-- the layout of entries of one size: the fields of one are where it is read, and what is there is read
pub record Layout {E : Type 0} (size : ℕ) (fields : E → List Field) (entry : ℕ → List ℕ → E) : Type 0 where
  pub sized : (e : E) → sizes (fields e) ≡ size
  pub long : (e : E) → length (spelling (fields e)) ≡ size
  pub stands : (place : ℕ) (bytes : List ℕ) (rest : List Field) → Stand (place + size) rest bytes → Stand place (fields (entry place bytes) ++ rest) bytes
  pub only : (place : ℕ) (bytes : List ℕ) (e : E) (rest : List Field) → Stand place (fields e ++ rest) bytes → e ≡ entry place bytes

module _ {E : Type 0} {size : ℕ} {fields : E → List Field} {entry : ℕ → List ℕ → E} (layout : Layout size fields entry) where
  there : (place : ℕ) (bytes : List ℕ) → place + size ≤ length bytes → Stand place (fields (entry place bytes) ++ left (drop (place + size) bytes)) bytes
  there place bytes room = layout.stands place bytes (left (drop (place + size) bytes)) (left_stands (place + size) bytes room)

  fit_one : (place : ℕ) (bytes : List ℕ) → IsBytes bytes → place + size ≤ length bytes → AreWithin (fields (entry place bytes))
  fit_one place bytes fits room =
      (within_both (fields (entry place bytes)) (left (drop (place + size) bytes)) (within_there place _ bytes fits (there place bytes room))).0

  spelled_one : (place : ℕ) (bytes : List ℕ) → IsBytes bytes → place + size ≤ length bytes → spelling (fields (entry place bytes)) ++ drop (place + size) bytes ≡ drop place bytes
  spelled_one place bytes fits room =
      ap (λ (l : List ℕ). spelling (fields (entry place bytes)) ++ l) (sym (left_bytes (drop (place + size) bytes)))
      ∙ sym (spelling_append (fields (entry place bytes)) (left (drop (place + size) bytes)))
      ∙ spelled_from place _ bytes fits (there place bytes room)

  -- the numbers of what is read fit their bytes
  pub all_fit_there : (count place : ℕ) (bytes : List ℕ) → IsBytes bytes → place + size * count ≤ length bytes → AreFit fields (entries_from size entry count place bytes)
  all_fit_there zero place bytes fits room = tt
  all_fit_there (suc count) place bytes fits room =
      (fit_one place bytes fits (omega (arith, room)), all_fit_there count (place + size) bytes fits (omega (arith, room)))

  -- what is read is spelled so
  pub entries_spelled : (count place : ℕ) (bytes : List ℕ) → IsBytes bytes → place + size * count ≤ length bytes
      → entries_bytes fields (entries_from size entry count place bytes) ++ drop (place + size * count) bytes ≡ drop place bytes
  entries_spelled zero place bytes fits room = ap (λ (n : ℕ). drop n bytes) (omega arith)
  entries_spelled (suc count) place bytes fits room =
      append_assoc (spelling (fields (entry place bytes))) (entries_bytes fields (entries_from size entry count (place + size) bytes)) (drop (place + size * suc count) bytes)
      ∙ ap (λ (l : List ℕ). spelling (fields (entry place bytes)) ++ l)
      (ap (λ (n : ℕ). entries_bytes fields (entries_from size entry count (place + size) bytes) ++ drop n bytes) (omega arith)
      ∙ entries_spelled count (place + size) bytes fits (omega (arith, room)))
      ∙ spelled_one place bytes fits (omega (arith, room))

  pub entries_count : (count place : ℕ) (bytes : List ℕ) → length (entries_from size entry count place bytes) ≡ count
  entries_count zero place bytes = refl
  entries_count (suc count) place bytes = omega (arith, entries_count count (place + size) bytes)

  pub entries_length : (es : List E) → length (entries_bytes fields es) ≡ size * length es
  entries_length [] = omega arith
  entries_length (e ∷ es) = omega (arith, length-append (spelling (fields e)) (entries_bytes fields es), layout.long e, entries_length es)

  read_one : (front rest : List ℕ) (e : E) → AreWithin (fields e) → entry (length front) (front ++ (spelling (fields e) ++ rest)) ≡ e
  read_one front rest e fit =
      let whole : spelling (fields e ++ left rest) ≡ spelling (fields e) ++ rest =
      spelling_append (fields e) (left rest) ∙ ap (λ (l : List ℕ). spelling (fields e) ++ l) (left_bytes rest) in
      sym (layout.only (length front) (front ++ (spelling (fields e) ++ rest)) e (left rest)
      (subst (λ (l : List ℕ). Stand (length front) (fields e ++ left rest) (front ++ l)) whole
      (stand_after front (fields e ++ left rest) (within_append (fields e) (left rest) fit (left_within rest)))))

  -- what is spelled is read so
  pub entries_read : (es : List E) (front rest : List ℕ) → AreFit fields es
      → entries_from size entry (length es) (length front) (front ++ (entries_bytes fields es ++ rest)) ≡ es
  entries_read [] front rest fit = refl
  entries_read (e ∷ es) front rest fit =
      let bytes = front ++ (entries_bytes fields (e ∷ es) ++ rest) in
      let parts : entries_bytes fields (e ∷ es) ++ rest ≡ spelling (fields e) ++ (entries_bytes fields es ++ rest) =
      append_assoc (spelling (fields e)) (entries_bytes fields es) rest in
      let one : entry (length front) bytes ≡ e =
      ap (λ (l : List ℕ). entry (length front) (front ++ l)) parts ∙ read_one front (entries_bytes fields es ++ rest) e fit.0 in
      let next : length (front ++ spelling (fields e)) ≡ length front + size =
      omega (arith, length-append front (spelling (fields e)), layout.long e) in
      let others : entries_from size entry (length es) (length front + size) bytes ≡ es =
      ap (λ (n : ℕ). entries_from size entry (length es) n bytes) (sym next)
      ∙ ap (λ (l : List ℕ). entries_from size entry (length es) (length (front ++ spelling (fields e))) l)
      (ap (λ (l : List ℕ). front ++ l) parts ∙ sym (append_assoc front (spelling (fields e)) (entries_bytes fields es ++ rest)))
      ∙ entries_read es (front ++ spelling (fields e)) rest fit.1 in
      λ i. one i ∷ others i
