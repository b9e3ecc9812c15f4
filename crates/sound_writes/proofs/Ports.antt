-- Laws of the writes of a port as a saved state keeps them.
use Rattle.std.proofs.Common.{◌≡◌, ℕ, ◌+◌, ◌*◌, ◌-◌, ◌<◌, ◌≤◌, Bool, true, false, List, [], ◌∷◌, ◌++◌, length, map, take, drop, replicate, None, Some, refl, sym, ap, ◌∙◌, arith}
use Rattle.std.specs.Prelude.{All, ◌&&◌, nat_le}
use Rattle.std.specs.Int.{w16, to_be_bytes}
use Rattle.std.specs.List.{list_all}
use Rattle.std.proofs.lemmas.Bool.{and_parts, le-leb, leb-true, lt-leb, ltb-true}
use Rattle.std.proofs.lemmas.List.{append-nil, take_at}
use Rattle.std.proofs.lemmas.List.Elements.{All-cons, All-nil}
use Rattle.md_word.specs.declared.key.Key.{Key}
use Rattle.md_fields.specs.Fields.{AreWithin, Field, first_invalid, spelling}
use Rattle.md_fields.specs.Padding.{are_zeros, padded}
use Rattle.md_fields.specs.Places.{IsBytes}
use Rattle.md_fields.proofs.Padding.{padded_back, padded_length, padded_zeros}
use Rattle.sound_writes.specs.Entries.{AreFit, entries_bytes, entries_from}
use Rattle.sound_writes.specs.Held.{limit}
use Rattle.sound_writes.specs.Keys.{is_kept}
use Rattle.sound_writes.specs.Ports.{are_writes, list_fields}
use Rattle.sound_writes.proofs.Entries.{Layout, all_fit_there, entries_count, entries_length, entries_read, entries_spelled}

-- keys that a port holds are those of the two processors
pub chips_kept : {W : Type 0} (key_of : W → Key) (at : ℕ) (ws : List W) → list_all (is_kept at) (map key_of ws) ≡ true → All (λ w. (key_of w).chip < 2) ws
chips_kept {W = W} key_of at [] e = All-nil (λ (w : W). (key_of w).chip < 2)
chips_kept {W = W} key_of at (w ∷ ws) e =
    let p = and_parts _ _ e in
    All-cons (λ (v : W). (key_of v).chip < 2) w ws (ltb-true (key_of w).chip 2 (and_parts _ _ p.0).0) (chips_kept key_of at ws p.1)

-- ---- the rule of count and writes

second_fails : (a b : Bool) → (a && (false && b)) ≡ false
second_fails true b = refl
second_fails false b = refl

third_fails : (a b : Bool) → (a && (b && false)) ≡ false
third_fails true true = refl
third_fails true false = refl
third_fails false b = refl

module _ {E : Type 0} (size : ℕ) (entry : ℕ → List ℕ → E) (right : List E → Bool) (count : ℕ) (entries : List ℕ) where
  -- a part of the rule fails
  pub too_many : limit < count → are_writes size entry right count entries ≡ false
  too_many more = let none : nat_le count limit ≡ false = lt-leb count limit more in rw none refl

  pub not_right : right (entries_from size entry count 0 entries) ≡ false → are_writes size entry right count entries ≡ false
  not_right e = rw e (second_fails (nat_le count limit) (are_zeros (drop (size * count) entries)))

  pub not_zeros : are_zeros (drop (size * count) entries) ≡ false → are_writes size entry right count entries ≡ false
  not_zeros e = rw e (third_fails (nat_le count limit) (right (entries_from size entry count 0 entries)))

  -- and all hold
  pub all_right : count ≤ limit → right (entries_from size entry count 0 entries) ≡ true → are_zeros (drop (size * count) entries) ≡ true
      → are_writes size entry right count entries ≡ true
  all_right few e zeros = rw (le-leb count limit few, e, zeros) refl

  -- what the rule says
  pub few_writes : are_writes size entry right count entries ≡ true → count ≤ limit
  few_writes e = leb-true count limit (and_parts _ _ e).0

  pub right_writes : are_writes size entry right count entries ≡ true → right (entries_from size entry count 0 entries) ≡ true
  right_writes e = (and_parts _ _ (and_parts _ _ e).1).0

  pub zeros_after : are_writes size entry right count entries ≡ true → are_zeros (drop (size * count) entries) ≡ true
  zeros_after e = (and_parts _ _ (and_parts _ _ e).1).1

-- that rule as the fields' one
pub list_invalid : (place total : ℕ) (holds : Bool) (count : ℕ) (entries : List ℕ) → holds ≡ false → first_invalid place (list_fields total holds count entries) ≡ Some place
unfolding first_invalid
list_invalid place total holds count entries e = rw e refl

pub list_right : (place total : ℕ) (holds : Bool) (count : ℕ) (entries : List ℕ) → holds ≡ true → first_invalid place (list_fields total holds count entries) ≡ None
unfolding first_invalid
list_right place total holds count entries e = rw e refl

-- ---- the bytes

-- the bytes of as many entries as a port holds
pub record Room (size total : ℕ) : Type 0 where
  pub few : (count : ℕ) → count ≤ limit → size * count ≤ total
  pub unused : (count : ℕ) → size * (limit - count) ≡ total - size * count

module _ {E : Type 0} {size total : ℕ} {fields : E → List Field} {entry : ℕ → List ℕ → E} (layout : Layout size fields entry) (room : Room size total) where
  -- the entries that are read, where there are few and zeros after them, are kept so
  pub entries_back : (count : ℕ) (entries : List ℕ) → length entries ≡ total → IsBytes entries → count ≤ limit → are_zeros (drop (size * count) entries) ≡ true
      → padded total (entries_bytes fields (entries_from size entry count 0 entries)) ≡ entries
  entries_back count entries long fits few zeros =
      let within : size * count ≤ total = room.few count few in
      let es : List E = entries_from size entry count 0 entries in
      let same : 0 + size * count ≡ size * count = omega arith in
      let whole : entries_bytes fields es ++ drop (size * count) entries ≡ entries =
      ap (λ (n : ℕ). entries_bytes fields es ++ drop n entries) (sym same) ∙ entries_spelled layout count 0 entries fits (omega (arith, within, long)) in
      let sized : length (entries_bytes fields es) ≡ size * count =
      entries_length layout es ∙ ap (λ (n : ℕ). size * n) (entries_count layout count 0 entries) in
      let front : entries_bytes fields es ≡ take (size * count) entries =
      sym (take_at (entries_bytes fields es) (drop (size * count) entries) (size * count) sized) ∙ ap (take (size * count)) whole in
      ap (padded total) front ∙ padded_back total (size * count) entries long within zeros

  -- their numbers fit
  pub entries_fit : (count : ℕ) (entries : List ℕ) → length entries ≡ total → IsBytes entries → count ≤ limit → AreFit fields (entries_from size entry count 0 entries)
  entries_fit count entries long fits few = let within : size * count ≤ total = room.few count few in all_fit_there layout count 0 entries fits (omega (arith, within, long))

  -- entries are those of what is kept of them
  pub entries_again : (es : List E) → AreFit fields es → entries_from size entry (length es) 0 (padded total (entries_bytes fields es)) ≡ es
  entries_again es fit = entries_read layout es [] (replicate (total - length (entries_bytes fields es)) 0) fit

  -- with zeros after them
  pub zeros_kept : (es : List E) → are_zeros (drop (size * length es) (padded total (entries_bytes fields es))) ≡ true
  zeros_kept es = ap (λ (n : ℕ). are_zeros (drop n (padded total (entries_bytes fields es)))) (sym (entries_length layout es)) ∙ padded_zeros total (entries_bytes fields es)

  -- few are as long as the field
  pub entries_whole : (es : List E) → length es ≤ limit → length (padded total (entries_bytes fields es)) ≡ total
  entries_whole es few = let within : size * length es ≤ total = room.few (length es) few in padded_length total (entries_bytes fields es) (omega (arith, within, entries_length layout es))

  pub list_within : (holds : Bool) (es : List E) → length es ≤ limit → AreWithin (list_fields total holds (length es) (padded total (entries_bytes fields es)))
  unfolding AreWithin
  list_within holds es few = (omega (arith, few), (entries_whole es few, tt))

  -- count, entries and zeros are the bytes
  pub list_bytes : (holds : Bool) (es : List E)
      → to_be_bytes w16 (length es) ++ (entries_bytes fields es ++ replicate (size * (limit - length es)) 0) ≡ spelling (list_fields total holds (length es) (padded total (entries_bytes fields es)))
  unfolding spelling
  list_bytes holds es =
      ap (λ (l : List ℕ). to_be_bytes w16 (length es) ++ l)
      (ap (λ (n : ℕ). entries_bytes fields es ++ replicate n 0) (room.unused (length es) ∙ ap (λ (n : ℕ). total - n) (sym (entries_length layout es)))
      ∙ sym (append-nil (padded total (entries_bytes fields es))))
