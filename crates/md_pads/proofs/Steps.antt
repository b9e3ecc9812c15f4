-- One step of the walk over bytes: whether a recording of a version continues with the byte at a place.
use Rattle.std.proofs.Common.{◌≡◌, ℕ, ◌+◌, ◌-◌, ◌/◌, ◌<◌, ◌≤◌, ◌↔◌, true, eqb, leb, List, [], ◌∷◌, ◌++◌, length, get_or, take, drop, sym, ap, subst, ◌∙◌, inl, inr, arith}
use Rattle.std.proofs.lemmas.Bool.{cases_lt, eqb-true, eq-eqb, leb-true, le-leb}
use Rattle.std.proofs.lemmas.List.{take_more, take-take, take-append-drop, length-take, get_or-take, get_or_past}
use Rattle.md_pads.specs.Recording.{lead}
use Rattle.md_pads.specs.Reading.{BeginsIn, HasByte, IsLongestIn, least_count, whole_len}
use Rattle.md_pads.specs.declared.version.Version.{Version}
use Rattle.md_pads.proofs.Opening.{Keeps, HasBytes, opening, opening-push, keeps_from, same_count, begins, begins-part, start}

abbrev pub AreBytes : List ℕ → Type 0
AreBytes bytes = (i : ℕ) → get_or bytes i 0 < 256

prefix_bytes : (version : Version) (n : ℕ) (bytes : List ℕ) → AreBytes bytes → HasBytes version (take n bytes)
prefix_bytes version n bytes small i far =
    elim (cases_lt i n) [
      | inl lt ↦ rw (get_or-take n bytes i 0 lt) (small i)
      | inr le ↦ let cut = length-take n bytes in rw (get_or_past (take n bytes) i 0 (omega arith)) (omega arith)
    ]

-- a place in bytes whose prefix begins a recording
pub record At (version : Version) (bytes : List ℕ) (place : ℕ) : Type 0 where
  pub small : AreBytes bytes
  pub within : place < length bytes
  pub begun : BeginsIn version (take place bytes)

abbrev byte : List ℕ → ℕ → ℕ
byte bytes place = get_or bytes place 0

goes : (version : Version) (bytes : List ℕ) (place : ℕ) → At version bytes place → Keeps version (take place bytes) (byte bytes place) → BeginsIn version (take (place + 1) bytes)
goes version bytes place at keeps =
    let pushed = take_more bytes place 0 at.within in
    let opened = opening-push version (take place bytes) (byte bytes place) (opening version (take place bytes) at.begun) keeps in
    begins version (take (place + 1) bytes) (prefix_bytes version (place + 1) bytes at.small) (rw pushed opened)

kept : (version : Version) (bytes : List ℕ) (place : ℕ) → At version bytes place → BeginsIn version (take (place + 1) bytes) → Keeps version (take place bytes) (byte bytes place)
kept version bytes place at more =
    keeps_from version (take place bytes) (byte bytes place) (opening version (take place bytes ++ byte bytes place ∷ []) (subst (BeginsIn version) (take_more bytes place 0 at.within) more))

len : (version : Version) (bytes : List ℕ) (place : ℕ) → At version bytes place → length (take place bytes) ≡ place
len version bytes place at = let cut = length-take place bytes in let inside = at.within in omega arith

pub magic_step : (version : Version) (bytes : List ℕ) (place : ℕ) → At version bytes place → place < start version → (eqb (byte bytes place) (get_or (lead version) place 0) ≡ true) ↔ BeginsIn version (take (place + 1) bytes)
magic_step version bytes place at early =
    let l = len version bytes place at in
    let opened = opening version (take place bytes) at.begun in
    let count = same_count (start version) (take place bytes) (byte bytes place) (λ i far near same. omega arith) in (
      λ test. goes version bytes place at (record {
        marked = λ _. rw l (eqb-true _ _ test);
        few = rw count opened.few;
        first = λ k last. absurd (omega arith);
        second = λ k last. absurd (omega arith);
        within = omega arith;
      }),
      λ more. eq-eqb _ _ ((kept version bytes place at more).marked (omega arith) ∙ ap (λ (n : ℕ). get_or (lead version) n 0) l),
    )

pub count_step : (version : Version) (bytes : List ℕ) (place : ℕ) → At version bytes place → start version ≤ place → place < start version + 4 → (leb (least_count (start version) (take (place + 1) bytes)) 1048576 ≡ true) ↔ BeginsIn version (take (place + 1) bytes)
count_step version bytes place at late early =
    let l = len version bytes place at in
    let pushed = take_more bytes place 0 at.within in (
      λ test. goes version bytes place at (record {
        marked = λ first. absurd (omega arith);
        few = rw pushed at (leb-true _ _ test);
        first = λ k last. absurd (omega arith);
        second = λ k last. absurd (omega arith);
        within = omega arith;
      }),
      λ more. le-leb _ _ (rw pushed ((kept version bytes place at more).few)),
    )

-- a place in the words of the frames
pub word_goes : (version : Version) (bytes : List ℕ) (place : ℕ) → At version bytes place → start version + 4 ≤ place → place < whole_len (start version) (take (place + 1) bytes)
    → HasByte version (place - start version - 4) (byte bytes place) → BeginsIn version (take (place + 1) bytes)
word_goes version bytes place at late inside upper =
    let l = len version bytes place at in
    let pushed = take_more bytes place 0 at.within in
    let opened = opening version (take place bytes) at.begun in
    let count = same_count (start version) (take place bytes) (byte bytes place) (λ i far near same. omega arith) in
    goes version bytes place at (record {
      marked = λ first. absurd (omega arith);
      few = rw count opened.few;
      first = λ k last. upper.0 (omega arith);
      second = λ k last. upper.1 (omega arith);
      within = let lies = rw pushed at inside in omega arith;
    })

pub word_kept : (version : Version) (bytes : List ℕ) (place : ℕ) → At version bytes place → start version + 4 ≤ place → BeginsIn version (take (place + 1) bytes)
    → (place < whole_len (start version) (take (place + 1) bytes)) × HasByte version (place - start version - 4) (byte bytes place)
word_kept version bytes place at late more =
    let l = len version bytes place at in
    let pushed = take_more bytes place 0 at.within in
    let keeps = kept version bytes place at more in
    let k = (place - start version - 4) / 4 in (
      rw pushed (let lies = keeps.within in omega arith),
      (λ even. keeps.first k (omega arith), λ half. keeps.second k (omega arith)),
    )

cut : (bytes : List ℕ) (place n : ℕ) → place < n → take n bytes ≡ take (place + 1) bytes ++ drop (place + 1) (take n bytes)
cut bytes place n past = sym (ap (λ (xs : List ℕ). xs ++ drop (place + 1) (take n bytes)) (sym (take-take (place + 1) n bytes (omega arith))) ∙ take-append-drop (place + 1) (take n bytes))

-- where a recording begins with the bytes before a place, and not with the one there, the walk ends
pub longest : (version : Version) (bytes : List ℕ) (place : ℕ) → place < length bytes → BeginsIn version (take place bytes) → ¬ BeginsIn version (take (place + 1) bytes) → IsLongestIn version bytes place
longest version bytes place within begun stops =
    record {
      within = omega arith;
      begins = begun;
      longest = λ n long begins_n.
          elim (cases_lt place n) [
            | inl past ↦ absurd (stops (begins-part version (take (place + 1) bytes) (drop (place + 1) (take n bytes)) (subst (BeginsIn version) (cut bytes place n past) begins_n)))
            | inr le ↦ le
          ];
    }
