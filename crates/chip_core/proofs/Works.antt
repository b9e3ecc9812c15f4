-- How much is left to do: it falls with each event, so it bounds the events, the moves and the
-- entries.
use Rattle.std.proofs.Common.{◌≡◌, ◌≢◌, ℕ, zero, suc, ◌+◌, ◌-◌, ◌*◌, ◌/◌, ◌<◌, ◌≤◌, Bool, true, false, cond, sym, ◌∙◌, ap, subst, arith, ◌⊎◌, inl, inr, List, [], ◌∷◌, length, length-append, nat_lt}
use Rattle.std.proofs.lemmas.Bool.Decides.{nat_tests}
use Rattle.md_word.specs.Clock.{cycle_limit}
use Rattle.md_word.specs.declared.key.Key.{Key}
use Rattle.md_word.specs.Keys.{key_lt}
use Rattle.chip_core.specs.declared.event.Event.{Event}
use Rattle.chip_core.specs.declared.event.Event.TheVariants.{Announce, Perform, Sample}
use Rattle.chip_core.specs.Chips.{Rules, Lawful}
use Rattle.chip_core.specs.Machines.{Machine, put, key_of, is_sample, accessed, move, entries, mover, run, journal, made, AllBelow, IsQuiet, IsValid}
use Rattle.chip_core.specs.Events.{Seen, IsEnabled, left_bound, after, Leads, HasRoom, IsTidy}
use Rattle.chip_core.specs.Limits.{total, moves_left, all_moves_left, moves_within, events_within}
use Rattle.chip_core.proofs.Keys.{by_test, put-same, put-other, total-le, total-falls, div-mono}
use Rattle.chip_core.proofs.Stages.{chip-other, key-rises, entries-sample, entries-access}
use Rattle.chip_core.proofs.Runs.{run-zero, journal-zero, journal-suc, made-zero, made-mover, made-other, below-less, moves_left-falls, all_moves_left-falls, key-step}
use Rattle.chip_core.proofs.Keeps.{enabled-wider, tidy-after}

-- a test as a number
abbrev pub number_of : Bool → ℕ
number_of b = cond b 1 0

number-le : (b : Bool) → number_of b ≤ 1
number-le true = omega arith
number-le false = omega arith

module _ {Chip Shared Pins : Type 0} (rules : Rules Chip Shared Pins) where
  -- what chip i has left to do: two events a move, and an announcement where its bound lags
  abbrev pub work_of : ℕ → Machine Chip Shared → (ℕ → Key) → ℕ → ℕ
  work_of t m bound i = 2 * moves_left rules t m i + number_of (key_lt (bound i) (key_of rules m i))

  abbrev pub work : ℕ → Seen Chip Shared → ℕ
  work t s = total rules.count (work_of t s.machine s.bound)

module _ {Chip Shared Pins : Type 0} (rules : Rules Chip Shared Pins) (chip_ok : Chip → Type 0) (shared_ok : Shared → Type 0) (law : Lawful rules chip_ok shared_ok) (t : ℕ) (small : t ≤ cycle_limit) where
  -- a move takes one of the moves that are left to its chip, and leaves the others' alone
  moved-left : (s : Seen Chip Shared) → IsTidy rules chip_ok shared_ok s → (i : ℕ) → i < rules.count → (key_of rules s.machine i).cycle < t
      → moves_left rules t (move rules s.machine i) i + 1 ≤ moves_left rules t s.machine i
  moved-left s tidy i h low =
      moves_left-falls rules chip_ok shared_ok law s.machine tidy.valid t small s.machine (move rules s.machine i) i h low
      (key-rises rules chip_ok shared_ok law s.machine tidy.valid i h (omega arith))

  others-left : (s : Seen Chip Shared) (i k : ℕ) → k ≢ i → moves_left rules t (move rules s.machine i) k ≡ moves_left rules t s.machine k
  others-left s i k ne = ap (λ (c : Chip). cond (nat_lt (rules.next c).key.cycle t) ((t - (rules.next c).key.cycle) / rules.gap k + 1) 0) (chip-other rules s.machine i k ne)

  work_move : (s : Seen Chip Shared) → IsTidy rules chip_ok shared_ok s → (i : ℕ) → i < rules.count → (key_of rules s.machine i).cycle < t
      → total rules.count (work_of rules t (move rules s.machine i) (put s.bound i (left_bound rules s.machine i))) + 1 ≤ work rules t s
  work_move s tidy i h low =
      total-falls rules.count (work_of rules t (move rules s.machine i) (put s.bound i (left_bound rules s.machine i))) (work_of rules t s.machine s.bound) i 1 h
      (let fall = moved-left s tidy i h low in
      let lag = number-le (key_lt (put s.bound i (left_bound rules s.machine i) i) (key_of rules (move rules s.machine i) i)) in
      omega arith)
      (λ k q ne.
      let left = others-left s i k ne in
      let bound : number_of (key_lt (put s.bound i (left_bound rules s.machine i) k) (key_of rules (move rules s.machine i) k)) ≡ number_of (key_lt (s.bound k) (key_of rules s.machine k))
      = ap (λ b. number_of (key_lt b (key_of rules (move rules s.machine i) k))) (put-other s.bound i (left_bound rules s.machine i) k ne)
      ∙ ap (λ (c : Chip). number_of (key_lt (s.bound k) (rules.next c).key)) (chip-other rules s.machine i k ne) in
      omega arith)

  -- the work falls with each event
  pub work-falls : (s : Seen Chip Shared) → IsTidy rules chip_ok shared_ok s → (e : Event) → IsEnabled rules s t e → work rules t (after rules s e) + 1 ≤ work rules t s
  work-falls s tidy (Announce i) en =
      total-falls rules.count (work_of rules t s.machine (put s.bound i (key_of rules s.machine i))) (work_of rules t s.machine s.bound) i 1 en.0
      (let before : number_of (key_lt (s.bound i) (key_of rules s.machine i)) ≡ 1 = ap number_of en.1 in
      let itself : key_lt (key_of rules s.machine i) (key_of rules s.machine i) ≡ false = grind (arith, nat_tests) in
      let now : number_of (key_lt (put s.bound i (key_of rules s.machine i) i) (key_of rules s.machine i)) ≡ 0
      = ap (λ b. number_of (key_lt b (key_of rules s.machine i))) (put-same s.bound i (key_of rules s.machine i)) ∙ ap number_of itself in
      omega arith)
      (λ k q ne. let same = ap (λ b. number_of (key_lt b (key_of rules s.machine k))) (put-other s.bound i (key_of rules s.machine i) k ne) in omega arith)
  work-falls s tidy (Perform i) en = work_move s tidy i en.0 en.2
  work-falls s tidy (Sample i) en = work_move s tidy i en.0 en.2

  -- a move takes one of all the moves that are left
  pub all-fall : (s : Seen Chip Shared) → IsTidy rules chip_ok shared_ok s → (i : ℕ) → i < rules.count → (key_of rules s.machine i).cycle < t
      → all_moves_left rules t (move rules s.machine i) + 1 ≤ all_moves_left rules t s.machine
  all-fall s tidy i h low =
      total-falls rules.count (moves_left rules t (move rules s.machine i)) (moves_left rules t s.machine) i 1 h (moved-left s tidy i h low)
      (λ k q ne. let same = others-left s i k ne in omega arith)

  -- an event takes of the moves that are left what it adds to the journal
  pub room-falls : (s : Seen Chip Shared) → IsTidy rules chip_ok shared_ok s → (e : Event) → IsEnabled rules s t e
      → length (after rules s e).journal + all_moves_left rules t (after rules s e).machine ≤ length s.journal + all_moves_left rules t s.machine
  room-falls s tidy (Announce i) en = omega arith
  room-falls s tidy (Perform i) en =
      let fall = all-fall s tidy i en.0 en.2 in
      let one = length-append s.journal ((accessed rules s.machine i).entry ∷ []) in
      omega arith
  room-falls s tidy (Sample i) en =
      let fall = total-falls rules.count (moves_left rules t (move rules s.machine i)) (moves_left rules t s.machine) i 0 en.0
      (let less = moved-left s tidy i en.0 en.2 in omega arith)
      (λ k q ne. let same = others-left s i k ne in omega arith) in
      omega arith

  pub work-leads : (s : Seen Chip Shared) → IsTidy rules chip_ok shared_ok s → (es : List Event) (z : Seen Chip Shared) → Leads rules t s es z → length es + work rules t z ≤ work rules t s
  work-leads s tidy [] z l = let e = ap (work rules t) l in omega arith
  work-leads s tidy (e ∷ es) z l =
      let fall = work-falls s tidy e l.0 in
      let rest = work-leads (after rules s e) (tidy-after rules chip_ok shared_ok law s tidy e (enabled-wider rules chip_ok shared_ok law s t cycle_limit small e l.0)) es z l.1 in
      omega arith

  pub room-leads : (s : Seen Chip Shared) → IsTidy rules chip_ok shared_ok s → (es : List Event) (z : Seen Chip Shared) → Leads rules t s es z
      → length z.journal + all_moves_left rules t z.machine ≤ length s.journal + all_moves_left rules t s.machine
  room-leads s tidy [] z l = let e = ap (λ (w : Seen Chip Shared). length w.journal + all_moves_left rules t w.machine) l in omega arith
  room-leads s tidy (e ∷ es) z l =
      let fall = room-falls s tidy e l.0 in
      let rest = room-leads (after rules s e) (tidy-after rules chip_ok shared_ok law s tidy e (enabled-wider rules chip_ok shared_ok law s t cycle_limit small e l.0)) es z l.1 in
      omega arith

  -- a free place for each move that is left is a free place for each access
  pub has_room : (s : Seen Chip Shared) → IsTidy rules chip_ok shared_ok s → (room : ℕ) → length s.journal + all_moves_left rules t s.machine ≤ room → HasRoom rules t s room
  has_room s tidy room h es z l = let r = room-leads s tidy es z l in omega arith

  -- limits from a cycle before which no key lies

  left-within : (m : Machine Chip Shared) (from i : ℕ) → i < rules.count → from ≤ (key_of rules m i).cycle → moves_left rules t m i ≤ (t - from) / rules.gap i + 1
  left-within m from i h le =
      by_test (nat_lt (key_of rules m i).cycle t)
      (λ e. subst (λ b. cond b ((t - (key_of rules m i).cycle) / rules.gap i + 1) 0 ≤ (t - from) / rules.gap i + 1) (sym e)
      (let less = div-mono (t - from) (t - (key_of rules m i).cycle) (rules.gap i) (law.gap_some i h) (omega arith) in omega arith))
      (λ e. subst (λ b. cond b ((t - (key_of rules m i).cycle) / rules.gap i + 1) 0 ≤ (t - from) / rules.gap i + 1) (sym e) (omega arith))

  pub moves-within : (m : Machine Chip Shared) (from : ℕ) → IsQuiet rules m from → all_moves_left rules t m ≤ moves_within rules (t - from)
  moves-within m from quiet = total-le rules.count (moves_left rules t m) (λ i. (t - from) / rules.gap i + 1) (λ i h. left-within m from i h (quiet i h))

  pub work-within : (s : Seen Chip Shared) (from : ℕ) → IsQuiet rules s.machine from → work rules t s ≤ events_within rules (t - from)
  work-within s from quiet =
      total-le rules.count (work_of rules t s.machine s.bound) (λ i. 2 * ((t - from) / rules.gap i + 1) + 1)
      (λ i h. let left = left-within s.machine from i h (quiet i h) in let lag = number-le (key_lt (s.bound i) (key_of rules s.machine i)) in omega arith)

  -- the moves of one chip, and the entries, of a run
  module _ (base : Machine Chip Shared) (base_ok : IsValid rules chip_ok shared_ok base) where
    at-zero : (i : ℕ) → key_of rules (run rules base 0) i ≡ key_of rules base i
    at-zero i = ap (λ (m : Machine Chip Shared). key_of rules m i) (run-zero rules base)

    -- a chip's moves take a gap each
    pub moves-spread : (n : ℕ) → AllBelow rules base t n → (i : ℕ) → i < rules.count → (key_of rules base i).cycle + made rules base i n * rules.gap i ≤ (key_of rules (run rules base n) i).cycle
    moves-spread zero below i h =
        let none = made-zero rules base i in
        let same = ap (λ (k : Key). k.cycle) (at-zero i) in
        let nothing : made rules base i 0 * rules.gap i ≡ 0 = ap (λ x. x * rules.gap i) none ∙ (omega arith) in
        omega arith
    moves-spread (suc n) below i h =
        go (moves-spread n (below-less rules base t n (suc n) below (omega arith)) i h) (key-step rules chip_ok shared_ok law base base_ok t small n below i h)
      where
        go : (key_of rules base i).cycle + made rules base i n * rules.gap i ≤ (key_of rules (run rules base n) i).cycle
            → ((mover rules (run rules base n) ≡ i) × ((key_of rules (run rules base n) i).cycle + rules.gap i ≤ (key_of rules (run rules base (suc n)) i).cycle))
            ⊎ ((mover rules (run rules base n) ≢ i) × (key_of rules (run rules base (suc n)) i ≡ key_of rules (run rules base n) i))
            → (key_of rules base i).cycle + made rules base i (suc n) * rules.gap i ≤ (key_of rules (run rules base (suc n)) i).cycle
        go ih (inl p) =
            let more = ap (λ x. x * rules.gap i) (made-mover rules base i n p.0) in
            let rise = p.1 in
            omega arith
        go ih (inr p) =
            let more = ap (λ x. x * rules.gap i) (made-other rules base i n p.0) in
            let same = ap (λ (k : Key). k.cycle) p.1 in
            omega arith

    pub moves-few : (n : ℕ) → AllBelow rules base t n → (i : ℕ) → i < rules.count → made rules base i n + moves_left rules t (run rules base n) i ≤ moves_left rules t base i
    moves-few zero below i h =
        let none = made-zero rules base i in
        let same = ap (λ (k : Key). cond (nat_lt k.cycle t) ((t - k.cycle) / rules.gap i + 1) 0) (at-zero i) in
        omega arith
    moves-few (suc n) below i h =
        go (moves-few n (below-less rules base t n (suc n) below (omega arith)) i h) (key-step rules chip_ok shared_ok law base base_ok t small n below i h)
      where
        go : made rules base i n + moves_left rules t (run rules base n) i ≤ moves_left rules t base i
            → ((mover rules (run rules base n) ≡ i) × ((key_of rules (run rules base n) i).cycle + rules.gap i ≤ (key_of rules (run rules base (suc n)) i).cycle))
            ⊎ ((mover rules (run rules base n) ≢ i) × (key_of rules (run rules base (suc n)) i ≡ key_of rules (run rules base n) i))
            → made rules base i (suc n) + moves_left rules t (run rules base (suc n)) i ≤ moves_left rules t base i
        go ih (inl p) =
            let more = made-mover rules base i n p.0 in
            let low = subst (λ k. (key_of rules (run rules base n) k).cycle < t) p.0 (below.each n (omega arith)) in
            let fall = moves_left-falls rules chip_ok shared_ok law base base_ok t small (run rules base n) (run rules base (suc n)) i h low p.1 in
            omega arith
        go ih (inr p) =
            let more = made-other rules base i n p.0 in
            let same = ap (λ (k : Key). cond (nat_lt k.cycle t) ((t - k.cycle) / rules.gap i + 1) 0) p.1 in
            omega arith

    pub entries-few : (n : ℕ) → AllBelow rules base t n → length (journal rules base n) + all_moves_left rules t (run rules base n) ≤ all_moves_left rules t base
    entries-few zero below =
        let none = ap length (journal-zero rules base) in
        let same = ap (all_moves_left rules t) (run-zero rules base) in
        omega arith
    entries-few (suc n) below =
        let ih = entries-few n (below-less rules base t n (suc n) below (omega arith)) in
        let fall = all_moves_left-falls rules chip_ok shared_ok law base base_ok t small n below in
        let more = ap length (journal-suc rules base n) ∙ length-append (journal rules base n) (entries rules (run rules base n) (mover rules (run rules base n))) in
        let one = most (run rules base n) (mover rules (run rules base n)) in
        omega arith
      where
        most : (m : Machine Chip Shared) (i : ℕ) → length (entries rules m i) ≤ 1
        most m i = by_test (is_sample rules m i) (λ e. let x = ap length (entries-sample rules m i e) in omega arith) (λ e. let x = ap length (entries-access rules m i e) in omega arith)
