-- The run of the five chips is the run of the record.
use Rattle.std.proofs.Common.{◌≡◌, ℕ, zero, suc, ◌<◌, refl, ap, ◌∙◌, arith}
use Rattle.chip_core.specs.Equations.{least-same}
use Rattle.chip_core.specs.Machines as machines
use Rattle.chip_core.specs.Machines.{IsValid, Machine, key_of, run}
use Rattle.md_chips.specs.Console.{Console, key_in, journal, moved, mover, ran, reported}
use Rattle.bus_shared.specs.Board.{Board, IsBoard}
use Rattle.md_chips.specs.Refinement.{console_of}
use Rattle.md_chips.specs.Rules.{IsChip, five}
use Rattle.md_chips.specs.declared.chips.Chip.{Chip}
use Rattle.md_chips.proofs.Moves.{key-same, move-same, entries-reported}

-- the same chip moves
pub mover-same : (m : Machine Chip Board) → IsValid five IsChip IsBoard m → machines.mover five m ≡ mover (console_of m)
unfolding mover machines.mover
mover-same m valid = least-same (key_of five m) (key_in (console_of m)) 5 (key-same m valid)

-- the first stages of a run are valid
abbrev pub ValidTo : Machine Chip Board → ℕ → Type 0
ValidTo m n = (k : ℕ) → k < n → IsValid five IsChip IsBoard (run five m k)

-- the chip that moves is one of the five
abbrev pub Movers : Type 0
Movers = (z : Machine Chip Board) → machines.mover five z < 5

pub ran-same : (m : Machine Chip Board) (n : ℕ) → ValidTo m n → Movers → console_of (run five m n) ≡ ran (console_of m) n
unfolding run ran
ran-same m zero valid movers = refl
ran-same m (suc n) valid movers =
    let stage : IsValid five IsChip IsBoard (run five m n) = valid n (omega arith) in
    let before : console_of (run five m n) ≡ ran (console_of m) n = ran-same m n (λ k below. valid k (omega arith)) movers in
    move-same (run five m n) stage (machines.mover five (run five m n)) (movers (run five m n))
    ∙ ap (λ (i : ℕ). moved (console_of (run five m n)) i) (mover-same (run five m n) stage)
    ∙ ap (λ (z : Console). moved z (mover z)) before

pub journal-same : (m : Machine Chip Board) (n : ℕ) → ValidTo m n → Movers → machines.journal five m n ≡ journal (console_of m) n
unfolding journal machines.journal
journal-same m zero valid movers = refl
journal-same m (suc n) valid movers =
    let stage : IsValid five IsChip IsBoard (run five m n) = valid n (omega arith) in
    let before : console_of (run five m n) ≡ ran (console_of m) n = ran-same m n (λ k below. valid k (omega arith)) movers in
    let entry : machines.entries five (run five m n) (machines.mover five (run five m n)) ≡ reported (ran (console_of m) n) (mover (ran (console_of m) n)) =
    entries-reported (run five m n) stage (machines.mover five (run five m n)) (movers (run five m n))
    ∙ ap (λ (i : ℕ). reported (console_of (run five m n)) i) (mover-same (run five m n) stage)
    ∙ ap (λ (z : Console). reported z (mover z)) before in
    rw (journal-same m n (λ k below. valid k (omega arith)) movers, entry) refl
