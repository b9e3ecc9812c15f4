-- How a session's machine continues is one way alone, and so are the states that are kept.
use Rattle.std.proofs.Common.{◌≡◌, ℕ, zero, suc, ◌<◌, ◌≤◌, inl, inr, List, ◌∷◌, ◌++◌, take, refl, sym, ap, ap₂, subst, ◌∙◌, arith}
use Rattle.std.proofs.lemmas.Bool.{cases_lt}
use Rattle.md_chips.specs.Console.{AllBelow, Console, IsQuiet, key_in, mover, ran}
use Rattle.md_chips.specs.Movers.{mover-lt}
use Rattle.md_chips.specs.Starts.{Start}
use Rattle.page_ring.specs.Kept.{IsPushed, cost}
use Rattle.md_debug.specs.Going.{GoesTo, RunsTo, Steps, StepsOnce, arrives, begun_by, ends, goes_on, stays}

-- ---- moves

-- after the last move no other is below the cycle
few : (m z : Console) (end n moves : ℕ) → AllBelow m end n → IsQuiet end z → z ≡ ran m moves → n ≤ moves
few m z end n moves below quiet is = elim (cases_lt moves n) [
  | inl more ↦ absurd (
      let low : (key_in (ran m moves) (mover (ran m moves))).cycle < end = below moves more in
      let late : end ≤ (key_in (ran m moves) (mover (ran m moves))).cycle =
      subst (λ (x : Console). end ≤ (key_in x (mover x)).cycle) is (quiet (mover z) (mover-lt z)) in
      omega (arith, low, late))
  | inr cases_lt ↦ cases_lt
]

one_goes : (m w z : Console) (s t : ℕ) (first second : List ℕ) → s ≡ t → GoesTo m s w first → GoesTo m t z second → (w ≡ z) × (first ≡ second)
one_goes m w z s t first second end one two =
    let other : GoesTo m s z second = subst (λ (n : ℕ). GoesTo m n z second) (sym end) two in
    let up : one.moves ≤ other.moves = few m z s one.moves other.moves one.below other.quiet other.console in
    let down : other.moves ≤ one.moves = few m w s other.moves one.moves other.below one.quiet one.console in
    let same : one.moves ≡ other.moves = omega (arith, up, down) in
    (one.console ∙ ap (ran m) same ∙ sym other.console, one.begins ∙ ap (begun_by m) same ∙ sym other.begins)

start_is : (a b : Start) → a.at ≡ b.at → a.console ≡ b.console → a ≡ b
start_is a b at console = λ i. record { at = at i; console = console i }

one_once : (m a b : Start) (first second : List ℕ) → StepsOnce m a first → StepsOnce m b second → (a ≡ b) × (first ≡ second)
one_once m a b first second (goes_on far at goes) (goes_on far' at' goes') =
    let same = one_goes m.console a.console b.console a.at b.at first second (at ∙ sym at') goes goes' in
    (start_is a b (at ∙ sym at') same.0, same.1)
one_once m a b first second (goes_on far at goes) (ends far' same' none') = absurd (omega (arith, far, far'))
one_once m a b first second (ends far same none) (goes_on far' at' goes') = absurd (omega (arith, far, far'))
one_once m a b first second (ends far same none) (ends far' same' none') = (same ∙ sym same', none ∙ sym none')

pub one_steps : (n : ℕ) (m a b : Start) (first second : List ℕ) → Steps n m a first → Steps n m b second → (a ≡ b) × (first ≡ second)
unfolding Steps
one_steps zero m a b first second one two = (one.0 ∙ sym two.0, one.1 ∙ sym two.1)
one_steps (suc n) m a b first second (mid, (early, (late, (steps, (once, all))))) (mid', (early', (late', (steps', (once', all'))))) =
    let before = one_steps n m mid mid' early early' steps steps' in
    let following = one_once mid a b late late' once (subst (λ (s : Start). StepsOnce s b late') (sym before.0) once') in
    (following.0, all ∙ ap₂ (λ (x y : List ℕ). x ++ y) before.1 following.1 ∙ sym all')

pub one_run : (end : ℕ) (m a b : Start) (first second : List ℕ) → RunsTo end m a first → RunsTo end m b second → (a ≡ b) × (first ≡ second)
one_run end m a b first second (arrives later at goes) (arrives later' at' goes') =
    let same = one_goes m.console a.console b.console end end first second refl goes goes' in
    (start_is a b (at ∙ sym at') same.0, same.1)
one_run end m a b first second (arrives later at goes) (stays late' same' none') = absurd (omega (arith, later, late'))
one_run end m a b first second (stays late same none) (arrives later' at' goes') = absurd (omega (arith, late, later'))
one_run end m a b first second (stays late same none) (stays late' same' none') = (same ∙ sym same', none ∙ sym none')

-- ---- kept states

no_less : (pages per : ℕ) (old : List (List ℕ)) (state : List ℕ) (new other : List (List ℕ)) → (one : IsPushed pages per old state new) → (two : IsPushed pages per old state other) → two.count ≤ one.count
no_less pages per old state new other one two = elim (cases_lt one.count two.count) [
  | inl more ↦ absurd (
      let much = one.most two.count more two.within in
      let fits : cost per (state ∷ take two.count old) ≤ pages = subst (λ (l : List (List ℕ)). cost per l ≤ pages) two.states two.fits in
      omega (arith, much, fits))
  | inr few ↦ few
]

pub one_pushed : (pages per : ℕ) (old : List (List ℕ)) (state : List ℕ) (new other : List (List ℕ)) → IsPushed pages per old state new → IsPushed pages per old state other → new ≡ other
one_pushed pages per old state new other one two =
    let down = no_less pages per old state new other one two in
    let up = no_less pages per old state other new two one in
    let same : one.count ≡ two.count = omega (arith, up, down) in
    one.states ∙ ap (λ (n : ℕ). state ∷ take n old) same ∙ sym two.states
