-- The entries from an index on, looked at one by one.
use Rattle.std.proofs.Common.{◌≡◌, ℕ, ◌+◌, ◌*◌, ◌-◌, ◌<◌, ◌≤◌, Bool, true, false, List, [], ◌∷◌, ◌++◌, length, get_or, map, take, drop, take_all, sym, ap, ◌∙◌, append_assoc, arith}
use Rattle.std.specs.Prelude.{◌&&◌}
use Rattle.std.specs.List.{list_all}
use Rattle.std.proofs.lemmas.List.{length-drop, length-take}
use Rattle.md_fields.specs.Fields.{Field, spelling}
use Rattle.md_word.specs.declared.key.Key.{Key}
use Rattle.sound_writes.specs.Entries.{entries_bytes, entries_from}
use Rattle.sound_writes.specs.Keys.{after, all_fit, fits}
use Rattle.sound_writes.specs.declared.earliest.Earliest.{Earliest}
use Rattle.sound_writes.proofs.Entries.{entries_next, entries_none}

-- the entries from an index on
abbrev rest : {E : Type 0} → ℕ → (ℕ → List ℕ → E) → ℕ → ℕ → List ℕ → List E
rest size entry count index bytes = entries_from size entry (count - index) (size * index) bytes

module _ {E : Type 0} (size : ℕ) (entry : ℕ → List ℕ → E) (test : E → Bool) (count index : ℕ) (bytes : List ℕ) where
  -- a test of all: one passes, one fails, and there is none
  pub all_more : index < count → test (entry (size * index) bytes) ≡ true → list_all test (rest size entry count index bytes) ≡ list_all test (rest size entry count (index + 1) bytes)
  all_more below e = ap (list_all test) (entries_next size entry count index bytes below) ∙ ap (λ (b : Bool). b && list_all test (rest size entry count (index + 1) bytes)) e

  pub all_not : index < count → test (entry (size * index) bytes) ≡ false → list_all test (rest size entry count index bytes) ≡ false
  all_not below e = ap (list_all test) (entries_next size entry count index bytes below) ∙ ap (λ (b : Bool). b && list_all test (rest size entry count (index + 1) bytes)) e

  pub all_none : count ≤ index → list_all test (rest size entry count index bytes) ≡ true
  all_none past = ap (list_all test) (entries_none size entry count index bytes past)

-- the keys of the entries after one
abbrev pub rest_keys : {E : Type 0} → ℕ → (ℕ → List ℕ → E) → (E → Key) → ℕ → ℕ → List ℕ → List Key
rest_keys size entry key_of count index bytes = map key_of (rest size entry count (index + 1) bytes)

module _ {E : Type 0} (size : ℕ) (entry : ℕ → List ℕ → E) (key_of : E → Key) (at : ℕ) (e : Earliest) (count index : ℕ) (bytes : List ℕ) where
  -- whether the keys fit: one does, one does not, and there is none
  pub fit_more : index < count → fits at e (key_of (entry (size * index) bytes)) ≡ true
      → all_fit at (after (key_of (entry (size * index) bytes)) e) (rest_keys size entry key_of count index bytes) ≡ all_fit at e (map key_of (rest size entry count index bytes))
  unfolding all_fit
  fit_more below fit =
      let key : Key = key_of (entry (size * index) bytes) in
      sym (ap (λ (l : List E). all_fit at e (map key_of l)) (entries_next size entry count index bytes below)
      ∙ ap (λ (b : Bool). b && all_fit at (after key e) (rest_keys size entry key_of count index bytes)) fit)

  pub fit_not : index < count → fits at e (key_of (entry (size * index) bytes)) ≡ false → all_fit at e (map key_of (rest size entry count index bytes)) ≡ false
  unfolding all_fit
  fit_not below fit =
      let key : Key = key_of (entry (size * index) bytes) in
      ap (λ (l : List E). all_fit at e (map key_of l)) (entries_next size entry count index bytes below)
      ∙ ap (λ (b : Bool). b && all_fit at (after key e) (rest_keys size entry key_of count index bytes)) fit

  pub fit_none : count ≤ index → all_fit at e (map key_of (rest size entry count index bytes)) ≡ true
  unfolding all_fit
  fit_none past = ap (λ (l : List E). all_fit at e (map key_of l)) (entries_none size entry count index bytes past)

-- ---- a list of writes that grows by one, and bytes by those of one

-- the writes read so far and those of the entries from an index on
pub read_more : {E W : Type 0} (size : ℕ) (entry : ℕ → List ℕ → E) (write_of : E → W) (count index : ℕ) (bytes : List ℕ) (old new : List W) (w : W) → index < count
    → w ≡ write_of (entry (size * index) bytes) → new ≡ old ++ w ∷ [] → new ++ map write_of (rest size entry count (index + 1) bytes) ≡ old ++ map write_of (rest size entry count index bytes)
read_more {E} {W} size entry write_of count index bytes old new w below is more =
    let after : List W = map write_of (rest size entry count (index + 1) bytes) in
    ap (λ (l : List W). l ++ after) more ∙ append_assoc old (w ∷ []) after
    ∙ ap (λ (l : List W). old ++ l) (ap (λ (v : W). v ∷ after) is ∙ ap (map write_of) (sym (entries_next size entry count index bytes below)))

-- the bytes put so far and those of the writes that are left
pub put_more : {E W : Type 0} (fields : E → List Field) (saved_of : W → E) (ws : List W) (d : W) (n : ℕ) (e : E) (old new : List ℕ) → 1 ≤ length ws → n ≡ length ws - 1
    → e ≡ saved_of (get_or ws 0 d) → new ≡ old ++ spelling (fields e)
    → new ++ entries_bytes fields (map saved_of (take n (drop 1 ws))) ≡ old ++ entries_bytes fields (map saved_of ws)
put_more fields saved_of [] d n e old new some same is more = absurd (omega (arith, some))
put_more {E} {W} fields saved_of (w ∷ ws) d n e old new some same is more =
    let whole : take n ws ≡ ws = take_all n ws (omega (arith, same)) in
    ap (λ (l : List W). new ++ entries_bytes fields (map saved_of l)) whole
    ∙ ap (λ (l : List ℕ). l ++ entries_bytes fields (map saved_of ws)) more ∙ append_assoc old (spelling (fields e)) (entries_bytes fields (map saved_of ws))
    ∙ ap (λ (x : E). old ++ (spelling (fields x) ++ entries_bytes fields (map saved_of ws))) is

-- so many writes are left
pub one_less : {W : Type 0} (ws : List W) (n : ℕ) → 1 ≤ length ws → n ≡ length ws - 1 → length (take n (drop 1 ws)) + 1 ≡ length ws
one_less ws n some same = omega (arith, some, same, length-take n (drop 1 ws), length-drop 1 ws)
