-- What both processors' instructions have in common: one answer more changes nothing of what was taken,
-- private writes take none, and what is kept by a value.
use Rattle.std.proofs.Common.{◌≡◌, ℕ, ◌+◌, ◌<◌, ◌≤◌, ◌∙◌, Bool, true, false, List, [], ◌∷◌, ◌++◌, length, length-append, slice_index, Result, Ok, Err, refl, ap, arith, if◌then◌else◌}
use Rattle.std.proofs.lemmas.List.{get_or_append_left}
use Rattle.md_word.specs.Answers.{Done, SameBelow, taken_alone}

-- ---- answers

pub one-longer : (value : ℕ) (answers : List ℕ) → length (answers ++ value ∷ []) ≡ length answers + 1
one-longer value answers = length-append answers (value ∷ [])

-- what was taken is the same
pub answered-same : {M P : Type 0} (own : M → P) (given : M → List ℕ) (count value : ℕ) (one other : M) → own other ≡ own one → given other ≡ given one ++ value ∷ [] → count ≤ length (given one) → SameBelow own given count one other
answered-same own given count value one other same more few = record {
  same = same;
  enough = (let e : length (given other) ≡ length (given one) + 1 = ap (λ (l : List ℕ). length l) more ∙ one-longer value (given one) in omega (arith, e, few));
  answers = λ k below. ap (λ (l : List ℕ). slice_index l k) more ∙ get_or_append_left (given one) (value ∷ []) 0 k (omega (arith, below, few));
}

pub lower : {M P : Type 0} (own : M → P) (given : M → List ℕ) (fewer count : ℕ) (one other : M) → fewer ≤ count → SameBelow own given count one other → SameBelow own given fewer one other
lower own given fewer count one other h same = record {
  same = same.same;
  enough = omega (arith, h, same.enough);
  answers = λ k below. same.answers k (omega (arith, h, below));
}

-- ---- what was done

pub as-last : (count : ℕ) (done : Done) → done.writes ≡ [] → record done { used = count } ≡ taken_alone count
as-last count done empty = ap (λ (w : List (ℕ × ℕ)). record { used = count; writes = w }) empty

-- a private write takes no answer
pub written-used : (kept : Bool) (at value : ℕ) (done : Done) → (if kept then record done { writes = done.writes ++ (at, value) ∷ [] } else done).used ≡ done.used
written-used true at value done = refl
written-used false at value done = refl

-- ---- what a value keeps

-- its value keeps this, or it stops like that
abbrev pub Fine : {A S : Type 0} → (S → Type 0) → (A → Type 0) → Result (A × Done) S → Type 0
Fine stops ok (Ok x) = ok x.0
Fine stops ok (Err stop) = stops stop

pub record Keeps {M A S : Type 0} (stops : S → Type 0) (ok : A → Type 0) (act : M → Done → Result (A × Done) S) : Type 0 where
  pub at : (memory : M) (before : Done) → Fine stops ok (act memory before)

-- a value, with nothing done
pub give : {M A S : Type 0} (stops : S → Type 0) (ok : A → Type 0) (x : A) → ok x → Keeps {M = M} stops ok (λ memory before. Ok (x, before))
give stops ok x h = record { at = λ memory before. h }
