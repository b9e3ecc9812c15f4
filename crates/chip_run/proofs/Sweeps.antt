-- What a sweep over the held chips finds.
use Rattle.std.proofs.Common.{◌≡◌, ◌≢◌, ℕ, ◌+◌, ◌<◌, ◌≤◌, Bool, true, false, refl, sym, ◌∙◌, ap, subst, arith, ◌⊎◌, inl, inr, Option, Some, None, IfSome, IsSome, List, length, slice_set, slice_get, get_or-set_other, length-set}
use Rattle.std.proofs.lemmas.Bool.{cases_lt}
use Rattle.std.proofs.lemmas.Bool.Decides.{nat_tests}
use Rattle.std.proofs.lemmas.List.{get_or_past}
use Rattle.std.proofs.lemmas.Option.{none-some, same_Some, slice_get-get_or, slice_get_past, unwrap_or-slice_get}
use Rattle.std.specs.Option.{option_map, unwrap_or}
use Rattle.md_word.specs.declared.key.Key.{Key}
use Rattle.md_word.specs.Keys.{key_lt}
use Rattle.chip_core.specs.Chips.{Rules}
use Rattle.chip_core.specs.Cores.{bound_in, no_key}
use Rattle.chip_core.specs.Looks.{LooksAt}
use Rattle.chip_core.specs.Equations.{by_test, same_or}
use Rattle.chip_run.specs.Held.{HeldValue}
use Rattle.chip_run.specs.Parts.{PartsValue}
use Rattle.chip_run.specs.Places.{Places, place}
use Rattle.chip_run.specs.Rounds.{AreUnchanged, IsChanged, IsEndedAt, IsNoted, KeepsOthers, LeastWaits, Waits}
use Rattle.chip_run.specs.Sections.{IsTurn}
use Rattle.chip_run.specs.Steps.{announced, raised}
use Rattle.chip_run.specs.declared.sweep.Waiting.{Waiting}
use Rattle.chip_run.specs.declared.turn.Turn.{Turn}
use Rattle.chip_run.specs.declared.turn.Turn.TheVariants.{Moved, Blocked, Finished}

-- ---- bounds

set-others : (i : ℕ) (k : Key) (bs cs : List Key) → cs ≡ slice_set bs i k → KeepsOthers i bs cs
set-others i k bs cs is = record {
  count = ap length is ∙ length-set bs i k;
  others = λ j ne. ap (λ xs. bound_in xs j) is ∙ get_or-set_other bs i j k no_key ne;
}

others-twice : (i : ℕ) (bs cs ds : List Key) → KeepsOthers i bs cs → KeepsOthers i cs ds → KeepsOthers i bs ds
others-twice i bs cs ds a b = record { count = b.count ∙ a.count; others = λ j ne. b.others j ne ∙ a.others j ne }

module _ {Chip Shared Pins : Type 0} (rules : Rules Chip Shared Pins) where
  announced-others : (i : ℕ) (c : Chip) (bs cs : List Key) → cs ≡ announced rules i c bs → KeepsOthers i bs cs
  announced-others i c bs cs is = set-others i _ bs cs is

  raised-others : (i : ℕ) (c : Chip) (bs cs : List Key) → cs ≡ raised rules i c bs → KeepsOthers i bs cs
  raised-others i c bs cs is = others-twice i bs (announced rules i c bs) cs (announced-others i c bs _ refl) (set-others i _ (announced rules i c bs) cs is)

  -- a section changes no bound but its chip's
  pub turn-others : (i : ℕ) (p : PartsValue Shared) (h : HeldValue Chip Pins) (answer : Turn) (q : PartsValue Shared) (k : HeldValue Chip Pins) → IsTurn rules i p h answer q k
      → KeepsOthers i p.bounds q.bounds
  turn-others i p h Moved q k is =
      by_test (rules.next h.chip).sample
      (λ e. raised-others i h.chip p.bounds q.bounds (ap (λ (x : PartsValue Shared). x.bounds) ((is.sample e).0)))
      (λ e. raised-others i h.chip p.bounds q.bounds (ap (λ (x : PartsValue Shared). x.bounds) ((is.access e).0)))
  turn-others i p h (Blocked other bound) q k is = announced-others i h.chip p.bounds q.bounds (ap (λ (x : PartsValue Shared). x.bounds) is.1.parts)
  turn-others i p h Finished q k is = announced-others i h.chip p.bounds q.bounds (ap (λ (x : PartsValue Shared). x.bounds) is.1.parts)

-- the same bound at a place is the same element there
got-same : (cs ds : List Key) (n : ℕ) → length ds ≡ length cs → bound_in ds n ≡ bound_in cs n → slice_get ds n ≡ slice_get cs n
got-same cs ds n long e = go (cases_lt n (length cs))
  where
    go : (n < length cs) ⊎ (length cs ≤ n) → slice_get ds n ≡ slice_get cs n
    go (inl less) = slice_get-get_or ds n no_key (omega (arith, long)) ∙ ap Some e ∙ sym (slice_get-get_or cs n no_key less)
    go (inr past) = slice_get_past ds n (omega (arith, long)) ∙ sym (slice_get_past cs n past)

got-bound : (cs ds : List Key) (n : ℕ) → slice_get ds n ≡ slice_get cs n → bound_in ds n ≡ bound_in cs n
got-bound cs ds n e = sym (unwrap_or-slice_get ds n no_key) ∙ ap (λ (o : Option Key). unwrap_or o no_key) e ∙ unwrap_or-slice_get cs n no_key

-- what was reported of the bounds once the chips below a number had their sections
pub record Reported (n : ℕ) (first : Bool) (bs : List Key) (reported : Bool) (cs : List Key) : Type 0 where
  pub count : length cs ≡ length bs
  pub later : (j : ℕ) → n ≤ j → bound_in cs j ≡ bound_in bs j
  pub unchanged : reported ≡ false → (first ≡ false) × AreUnchanged bs cs
  pub changed : reported ≡ true → (first ≡ true) ⊎ IsChanged bs cs

pub reported-past : (n : ℕ) (first : Bool) (bs : List Key) (reported : Bool) (cs : List Key) → Reported n first bs reported cs → Reported (n + 1) first bs reported cs
reported-past n first bs reported cs t = record { count = t.count; later = λ j le. t.later j (omega arith); unchanged = t.unchanged; changed = t.changed }

pub reported-next : (n : ℕ) (first : Bool) (bs : List Key) (reported : Bool) (cs : List Key) (reported2 : Bool) (ds : List Key) → Reported n first bs reported cs → KeepsOthers n cs ds
    → (reported2 ≡ false → (reported ≡ false) × (slice_get ds n ≡ slice_get cs n)) → (reported2 ≡ true → (reported ≡ true) ⊎ (slice_get ds n ≢ slice_get cs n))
    → Reported (n + 1) first bs reported2 ds
reported-next n first bs reported cs reported2 ds t keeps same differs = record {
  count = keeps.count ∙ t.count;
  later = λ j le. keeps.others j (λ e. omega (arith, e)) ∙ t.later j (omega arith);
  unchanged = λ e. (let s = same e in let u = t.unchanged s.0 in (u.0, λ j. each s.1 j (same_or j n) ∙ u.1 j));
  changed = λ e. reported-by (differs e);
}
  where
    each : slice_get ds n ≡ slice_get cs n → (j : ℕ) → (j ≡ n) ⊎ (j ≢ n) → bound_in ds j ≡ bound_in cs j
    each got j (inl e) = ap (bound_in ds) e ∙ got-bound cs ds n got ∙ ap (bound_in cs) (sym e)
    each got j (inr ne) = keeps.others j ne

    before : (first ≡ true) ⊎ IsChanged bs cs → (first ≡ true) ⊎ IsChanged bs ds
    before (inl e) = inl e
    before (inr c) = inr (c.0, λ e. c.1 (sym (keeps.others c.0 (λ at. c.1 (ap (bound_in cs) at ∙ t.later n (omega arith) ∙ ap (bound_in bs) (sym at)))) ∙ e))

    reported-by : (reported ≡ true) ⊎ (slice_get ds n ≢ slice_get cs n) → (first ≡ true) ⊎ IsChanged bs ds
    reported-by (inl old) = before (t.changed old)
    reported-by (inr ne) = inr (n, λ e. ne (got-same cs ds n keeps.count (e ∙ sym (t.later n (omega arith)))))

-- a section and what it noted
pub reported-noted : (n : ℕ) (first : Bool) (bs : List Key) (reported : Bool) (cs : List Key) (reported2 : Bool) (ds : List Key) → Reported n first bs reported cs → IsNoted n reported cs reported2 ds
    → Reported (n + 1) first bs reported2 ds
reported-noted n first bs reported cs reported2 ds t is = reported-next n first bs reported cs reported2 ds t is.keeps is.unchanged is.changed

-- the same by the bounds that the code compares
pub noted : (n : ℕ) (reported : Bool) (cs : List Key) (reported2 : Bool) (ds : List Key) (before after : Option Key) → KeepsOthers n cs ds → before ≡ slice_get cs n
    → after ≡ slice_get ds n → (reported2 ≡ false → (reported ≡ false) × (after ≡ before)) → (reported2 ≡ true → (reported ≡ true) ⊎ (after ≢ before)) → IsNoted n reported cs reported2 ds
noted n reported cs reported2 ds before after keeps before_is after_is same differs = record {
  keeps = keeps;
  unchanged = λ e. ((same e).0, sym after_is ∙ (same e).1 ∙ before_is);
  changed = λ e. go (differs e);
}
  where
    go : (reported ≡ true) ⊎ (after ≢ before) → (reported ≡ true) ⊎ (slice_get ds n ≢ slice_get cs n)
    go (inl e) = inl e
    go (inr ne) = inr (λ e. ne (after_is ∙ e ∙ sym before_is))

-- ---- who waits

not-lt-through : (a b c : Key) → key_lt a b ≡ false → key_lt b c ≡ false → key_lt a c ≡ false
not-lt-through a b c p q = grind (arith, nat_tests)

module _ {Chip Shared Pins : Type 0} (rules : Rules Chip Shared Pins) where
  -- the key of the chip held at a number
  abbrev pub key_at : HeldValue Chip Pins → Key
  key_at h = (rules.next h.chip).key

  -- a key that is looked up is that of the chip which was held there before
  pub key-held : (n : ℕ) (hs hs2 : Places Chip Pins) {key : Option Key} → key ≡ option_map key_at (place hs n) → hs ≡ hs2 → key ≡ option_map key_at (place hs2 n)
  key-held n hs hs2 e same = e ∙ ap (λ (l : Places Chip Pins). option_map key_at (place l n)) same

  -- of the chips below a number the one of this key, which waits for the other, is the least that is not finished
  pub record Found (t n : ℕ) (hs : Places Chip Pins) (key : Key) (other : ℕ) : Type 0 where
    pub chip : ℕ
    pub waits : Waits rules t chip hs other
    pub key_is : key_at waits.held ≡ key
    pub least : (i : ℕ) → i < n → IfSome (place hs i) (λ h. (key_at h).cycle < t → key_lt (key_at h) key ≡ false)

  -- what a sweep has found below a number
  abbrev pub HasFound : ℕ → ℕ → Places Chip Pins → Option Waiting → Type 0
  HasFound t n hs None = (i : ℕ) → i < n → IsEndedAt rules t hs i
  HasFound t n hs (Some w) = Found t n hs w.key w.other

  abbrev IsNotLess : ℕ → Key → Option (HeldValue Chip Pins) → Type 0
  IsNotLess t key o = IfSome o (λ h. (key_at h).cycle < t → key_lt (key_at h) key ≡ false)

  late-not-less : (t : ℕ) (key : Key) (o : Option (HeldValue Chip Pins)) → IfSome o (λ h. t ≤ (key_at h).cycle) → IsNotLess t key o
  late-not-less t key None late = tt
  late-not-less t key (Some h) late = λ early. absurd (omega arith)

  past-less : (t : ℕ) (key key2 : Key) (o : Option (HeldValue Chip Pins)) → key_lt key key2 ≡ false → IsNotLess t key o → IsNotLess t key2 o
  past-less t key key2 None later is = tt
  past-less t key key2 (Some h) later is = λ early. not-lt-through (key_at h) key key2 (is early) later

  found-more : (t n : ℕ) (hs : Places Chip Pins) (w : Waiting) → Found t n hs w.key w.other → IsNotLess t w.key (place hs n) → Found t (n + 1) hs w.key w.other
  found-more t n hs w f last = record {
    chip = f.chip;
    waits = f.waits;
    key_is = f.key_is;
    least = λ i less. go i (same_or i n) less;
  }
    where
      go : (i : ℕ) → (i ≡ n) ⊎ (i ≢ n) → i < n + 1 → IsNotLess t w.key (place hs i)
      go i (inl e) less = subst (λ j. IsNotLess t w.key (place hs j)) (sym e) last
      go i (inr ne) less = f.least i (omega arith)

  ended-more : (t n : ℕ) (hs : Places Chip Pins) → ((i : ℕ) → i < n → IsEndedAt rules t hs i) → IsEndedAt rules t hs n → (i : ℕ) → i < n + 1 → IsEndedAt rules t hs i
  ended-more t n hs each last i less = go (same_or i n)
    where
      go : (i ≡ n) ⊎ (i ≢ n) → IsEndedAt rules t hs i
      go (inl e) = subst (λ j. IsEndedAt rules t hs j) (sym e) last
      go (inr ne) = each i (omega arith)

  -- a chip that is finished, or a place without one
  pub found-ended : (t n : ℕ) (hs : Places Chip Pins) (w : Option Waiting) → HasFound t n hs w → IsEndedAt rules t hs n → HasFound t (n + 1) hs w
  found-ended t n hs None each last = ended-more t n hs each last
  found-ended t n hs (Some w) f last = found-more t n hs w f (late-not-less t w.key (place hs n) last)

  pub none-ended : (t n : ℕ) (hs : Places Chip Pins) → None ≡ option_map key_at (place hs n) → IsEndedAt rules t hs n
  none-ended t n hs e = go (place hs n) e
    where
      go : (o : Option (HeldValue Chip Pins)) → None ≡ option_map key_at o → IfSome o (λ h. t ≤ (key_at h).cycle)
      go None e = tt
      go (Some h) e = absurd (none-some (key_at h) e)

  pub some-there : (n : ℕ) (hs : Places Chip Pins) (key : Key) → Some key ≡ option_map key_at (place hs n) → IsSome (place hs n)
  some-there n hs key e = go (place hs n) e
    where
      go : (o : Option (HeldValue Chip Pins)) → Some key ≡ option_map key_at o → IsSome o
      go None e = absurd (none-some key (sym e))
      go (Some h) e = refl

  -- a chip that waits, and the lesser of it and of what was found
  pub found-blocked : (t n : ℕ) (hs : Places Chip Pins) (w : Option Waiting) (key : Key) (other : ℕ) (result : Waiting) → HasFound t n hs w → Some key ≡ option_map key_at (place hs n)
      → Waits rules t n hs other → (result ≡ record { key = key; other = other }) ⊎ (w ≡ Some result) → key_lt key result.key ≡ false
      → IfSome w (λ first. key_lt first.key result.key ≡ false) → HasFound t (n + 1) hs (Some result)
  found-blocked t n hs w key other result found at waits one next first = go one
    where
      key_is : key_at waits.held ≡ key
      key_is = sym (same_Some key (key_at waits.held) (at ∙ ap (option_map key_at) waits.there))

      self : IsNotLess t result.key (place hs n)
      self = subst (IsNotLess t result.key) (sym waits.there) (λ early. ap (λ k. key_lt k result.key) key_is ∙ next)

      older : (v : Option Waiting) → HasFound t n hs v → IfSome v (λ first. key_lt first.key result.key ≡ false) → (i : ℕ) → i < n → IsNotLess t result.key (place hs i)
      older None each later i less = late-not-less t result.key (place hs i) (each i less)
      older (Some v) f later i less = past-less t v.key result.key (place hs i) later (f.least i less)

      each : (i : ℕ) → (i ≡ n) ⊎ (i ≢ n) → i < n + 1 → IsNotLess t result.key (place hs i)
      each i (inl e) less = subst (λ j. IsNotLess t result.key (place hs j)) (sym e) self
      each i (inr ne) less = older w found first i (omega arith)

      go : (result ≡ record { key = key; other = other }) ⊎ (w ≡ Some result) → HasFound t (n + 1) hs (Some result)
      go (inl is) = record {
        chip = n;
        waits = record {
          held = waits.held;
          there = waits.there;
          early = waits.early;
          looks = subst (λ other2. LooksAt rules (rules.next waits.held.chip) n other2) (sym (ap (λ (x : Waiting). x.other) is)) waits.looks;
        };
        key_is = key_is ∙ sym (ap (λ (x : Waiting). x.key) is);
        least = λ i less. each i (same_or i n) less;
      }
      go (inr is) = found-more t n hs result (subst (HasFound t n hs) is found) self

  -- the least of all that wait
  pub found-least : (t n : ℕ) (hs : Places Chip Pins) (w : Waiting) → length hs ≤ n → Found t n hs w.key w.other → LeastWaits rules t hs w.other
  found-least t n hs w len f = record {
    chip = f.chip;
    waits = f.waits;
    least = λ i. subst (λ key. IsNotLess t key (place hs i)) (sym f.key_is) (go i (cases_lt i n));
  }
    where
      go : (i : ℕ) → (i < n) ⊎ (n ≤ i) → IsNotLess t w.key (place hs i)
      go i (inl less) = f.least i less
      go i (inr past) = subst (IsNotLess t w.key) (sym (get_or_past hs i None (omega arith))) tt
