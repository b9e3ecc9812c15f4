-- The lines of a script, and that its outcome is one.
use Rattle.std.proofs.Common.{◌≡◌, ◌∙◌, refl, sym, ap, subst, ℕ, suc, ◌⊎◌, inl, inr, List, [], ◌∷◌, ◌++◌, length, add-one, append_assoc, append-nil}
use Rattle.debug_text.specs.Scripts.{ObeysAll, ObeysFirst, RefusesLine}

module _ {State : Type 0} (obeys : List ℕ → State → State → Type 0) where
  obeys_none : (state : State) → ObeysAll obeys [] state state
  unfolding ObeysAll
  obeys_none state = refl

  -- no line is obeyed yet
  pub first_none : (lines : List (List ℕ)) (state : State) → ObeysFirst obeys lines [] lines state state
  first_none lines state = record { parts = refl; obeyed = obeys_none state }

  obeys_more : (before : List (List ℕ)) (line : List ℕ) (old mid new : State) → ObeysAll obeys before old mid → obeys line mid new
      → ObeysAll obeys (before ++ line ∷ []) old new
  unfolding ObeysAll
  obeys_more [] line old mid new so_far is = (new, subst (λ (s : State). obeys line s new) so_far is, refl)
  obeys_more (first ∷ before) line old mid new so_far is = (so_far.0, so_far.1, obeys_more before line so_far.0 mid new so_far.2 is)

  -- one more line is obeyed
  pub first_more : (lines before after : List (List ℕ)) (line : List ℕ) (old mid new : State) → ObeysFirst obeys lines before (line ∷ after) old mid
      → obeys line mid new → ObeysFirst obeys lines (before ++ line ∷ []) after old new
  first_more lines before after line old mid new so_far is = record {
    parts = so_far.parts ∙ sym (append_assoc before (line ∷ []) after);
    obeyed = obeys_more before line old mid new so_far.obeyed is;
  }

  -- all lines are obeyed
  pub all_obeyed : (lines before after : List (List ℕ)) (old new : State) → after ≡ [] → ObeysFirst obeys lines before after old new → ObeysAll obeys lines old new
  all_obeyed lines before after old new none so_far =
      let all : lines ≡ before = so_far.parts ∙ ap (λ (l : List (List ℕ)). before ++ l) none ∙ append-nil before in
      subst (λ (l : List (List ℕ)). ObeysAll obeys l old new) (sym all) so_far.obeyed

-- by why a line is refused, where states that are alike stay alike, and refuse no line that is obeyed
module _ {State Fault : Type 0} (obeys : List ℕ → State → State → Type 0) (refuses : Fault → State → List ℕ → Type 0) (Alike : State → State → Type 0)
    (follows : (line : List ℕ) (a b x y : State) → Alike a b → obeys line a x → obeys line b y → Alike x y)
    (never : (line : List ℕ) (a b x : State) (fault : Fault) → Alike a b → obeys line a x → refuses fault b line → ⊥) where
  -- the line of a number is the first that is refused
  RefusesAt : List (List ℕ) → State → State → ℕ → Fault → Type 0
  RefusesAt [] old new number fault = ⊥
  RefusesAt (line ∷ lines) old new number fault =
      (refuses fault old line × (new ≡ old) × (number ≡ 1))
      ⊎ ((mid : State) × (n : ℕ) × obeys line old mid × RefusesAt lines mid new n fault × (number ≡ suc n))

  refuses_at : (before after : List (List ℕ)) (line : List ℕ) (old new : State) (fault : Fault) → ObeysAll obeys before old new → refuses fault new line
      → RefusesAt (before ++ line ∷ after) old new (suc (length before)) fault
  unfolding ObeysAll RefusesAt
  refuses_at [] after line old new fault so_far refused = inl (subst (λ (s : State). refuses fault s line) so_far refused, so_far, refl)
  refuses_at (first ∷ before) after line old new fault so_far refused =
      inr (so_far.0, suc (length before), so_far.1, refuses_at before after line so_far.0 new fault so_far.2 refused, refl)

  refused_in : (lines : List (List ℕ)) (old new : State) (number : ℕ) (fault : Fault) → RefusesLine obeys (refuses fault) lines old new number
      → RefusesAt lines old new number fault
  refused_in lines old new number fault (before, line, after, first, at, refused) =
      let here = refuses_at before after line old new fault first.obeyed refused in
      let there : RefusesAt lines old new (suc (length before)) fault =
      subst (λ (l : List (List ℕ)). RefusesAt l old new (suc (length before)) fault) (sym first.parts) here in
      subst (λ (n : ℕ). RefusesAt lines old new n fault) (sym (add-one (length before)) ∙ sym at) there

  alike_is : (a b x y : State) → Alike a b → x ≡ a → y ≡ b → Alike x y
  alike_is a b x y same one two = subst (λ (s : State). Alike s y) (sym one) (subst (Alike a) (sym two) same)

  -- where both are obeyed
  pub alike_after : (lines : List (List ℕ)) (a b x y : State) → Alike a b → ObeysAll obeys lines a x → ObeysAll obeys lines b y → Alike x y
  unfolding ObeysAll
  alike_after [] a b x y same first second = alike_is a b x y same first second
  alike_after (line ∷ lines) a b x y same first second =
      alike_after lines first.0 second.0 x y (follows line a b first.0 second.0 same first.1 second.1) first.2 second.2

  never_at : (lines : List (List ℕ)) (a b x y : State) (number : ℕ) (fault : Fault) → Alike a b → ObeysAll obeys lines a x → RefusesAt lines b y number fault → ⊥
  unfolding ObeysAll RefusesAt
  never_at [] a b x y number fault same all refused = refused
  never_at (line ∷ lines) a b x y number fault same all (inl refused) = never line a b all.0 fault same all.1 refused.0
  never_at (line ∷ lines) a b x y number fault same all (inr refused) =
      never_at lines all.0 refused.0 x y refused.1 fault (follows line a b all.0 refused.0 same all.1 refused.2) all.2 refused.3

  -- where all lines are obeyed none is refused
  pub none_refused : (lines : List (List ℕ)) (a b x y : State) (number : ℕ) (fault : Fault) → Alike a b → ObeysAll obeys lines a x
      → RefusesLine obeys (refuses fault) lines b y number → ⊥
  none_refused lines a b x y number fault same all refused = never_at lines a b x y number fault same all (refused_in lines b y number fault refused)

  alike_at : ((a b : State) → Alike a b → Alike b a)
      → ((line : List ℕ) (a b : State) (fault other : Fault) → Alike a b → refuses fault a line → refuses other b line → fault ≡ other)
      → (lines : List (List ℕ)) (a b x y : State) (n m : ℕ) (fault other : Fault) → Alike a b → RefusesAt lines a x n fault → RefusesAt lines b y m other
      → Alike x y × ((n ≡ m) × (fault ≡ other))
  unfolding RefusesAt
  alike_at turned same_fault [] a b x y n m fault other same first second = absurd first
  alike_at turned same_fault (line ∷ lines) a b x y n m fault other same (inl first) (inl second) =
      (alike_is a b x y same first.1 second.1, (first.2 ∙ sym second.2, same_fault line a b fault other same first.0 second.0))
  alike_at turned same_fault (line ∷ lines) a b x y n m fault other same (inl first) (inr second) =
      absurd (never line b a second.0 fault (turned a b same) second.2 first.0)
  alike_at turned same_fault (line ∷ lines) a b x y n m fault other same (inr first) (inl second) = absurd (never line a b first.0 other same first.2 second.0)
  alike_at turned same_fault (line ∷ lines) a b x y n m fault other same (inr first) (inr second) =
      let rest = alike_at turned same_fault lines first.0 second.0 x y first.1 second.1 fault other
      (follows line a b first.0 second.0 same first.2 second.2) first.3 second.3 in
      (rest.0, (first.4 ∙ ap suc rest.1.0 ∙ sym second.4, rest.1.1))

  -- where one is refused in both, it is the same one
  pub one_refused : ((a b : State) → Alike a b → Alike b a)
      → ((line : List ℕ) (a b : State) (fault other : Fault) → Alike a b → refuses fault a line → refuses other b line → fault ≡ other)
      → (lines : List (List ℕ)) (a b x y : State) (n m : ℕ) (fault other : Fault) → Alike a b
      → RefusesLine obeys (refuses fault) lines a x n → RefusesLine obeys (refuses other) lines b y m → Alike x y × ((n ≡ m) × (fault ≡ other))
  one_refused turned same_fault lines a b x y n m fault other same first second =
      alike_at turned same_fault lines a b x y n m fault other same (refused_in lines a x n fault first) (refused_in lines b y m other second)
