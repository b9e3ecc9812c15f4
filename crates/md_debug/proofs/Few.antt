-- How many states there can be.
use Rattle.std.proofs.Common.{ℕ, ◌+◌, ◌<◌, ◌≤◌, List, [], ◌∷◌, length, arith}
use Rattle.page_ring.specs.Kept.{IsPushed, cost}

-- all but the oldest cost a page at least
few_states : (per : ℕ) (states : List (List ℕ)) → 0 < length states → per + length states ≤ cost per states + 1
few_states per [] some = absurd (omega arith)
few_states per (oldest ∷ []) some = omega arith
few_states per (newer ∷ (older ∷ states)) some =
    let others = few_states per (older ∷ states) (omega arith) in omega arith

-- so many there are after a push
pub few_pushed : (pages per : ℕ) (old new : List (List ℕ)) (state : List ℕ) → IsPushed pages per old state new → per + length new ≤ pages + 1
few_pushed pages per old new state pushed =
    let some : 0 < length new = rw pushed.states (omega arith) in
    let few = few_states per new some in
    let fits = pushed.fits in
    omega arith
