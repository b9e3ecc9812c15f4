-- The events of the five chips follow one another as the record's do.
use Rattle.std.proofs.Common.{◌≡◌, ℕ, zero, suc, ◌+◌, ◌*◌, ◌<◌, ◌≤◌, cond, false, refl, sym, ap, ◌∙◌, subst, arith}
use Rattle.std.proofs.lemmas.Bool.{eq-eqb}
use Rattle.md_word.specs.Clock as clock
use Rattle.md_word.specs.Keys.{key_lt}
use Rattle.md_word.specs.declared.key.Key.{Key}
use Rattle.chip_core.specs.Machines as machines
use Rattle.chip_core.specs.Machines.{AllBelow, IsValid, Machine, key_of, made, move, run}
use Rattle.bus_shared.specs.Board.{Board, IsBoard}
use Rattle.md_chips.specs.Console as consoles
use Rattle.md_chips.specs.Console.{Console, key_in, moved, mover}
use Rattle.md_chips.specs.Refinement.{console_of}
use Rattle.md_chips.specs.Rules.{IsChip, five, gap}
use Rattle.md_chips.specs.declared.chips.Chip.{Chip}
use Rattle.machine_laws.specs.Paces.{ArePaced, IsPaced}
use Rattle.md_chips.proofs.Lifts.{Movers, ValidTo, mover-same, ran-same}
use Rattle.md_chips.proofs.Moves.{key-same, move-same}
use Rattle.md_chips.proofs.Segments.{below-lift}
use Rattle.md_chips.proofs.ValidParts.{console_again, machine_in, valid_in}
use Rattle.md_chips.specs.ValidParts.{HasValidParts}

-- what is known of the runs of the five chips
pub record Stages : Type 0 where
  pub movers : Movers
  pub valid : (m : Machine Chip Board) (t n : ℕ) → t ≤ clock.cycle_limit → IsValid five IsChip IsBoard m → AllBelow five m t n → IsValid five IsChip IsBoard (run five m n)
  pub least : (m : Machine Chip Board) (i : ℕ) → IsValid five IsChip IsBoard m → i < 5 → key_lt (key_of five m i) (key_of five m (machines.mover five m)) ≡ false
  pub spread : (m : Machine Chip Board) (t n i : ℕ) → t ≤ clock.cycle_limit → IsValid five IsChip IsBoard m → AllBelow five m t n → i < 5
      → (key_of five m i).cycle + made five m i n * gap i ≤ (key_of five (run five m n) i).cycle

-- one move is the mover's
made_one : (m : Machine Chip Board) → made five m (machines.mover five m) 1 ≡ 1
unfolding made run
made_one m = ap (λ b. 0 + cond b 1 0) (eq-eqb (machines.mover five m) (machines.mover five m) refl)

run_one : (m : Machine Chip Board) → run five m 1 ≡ move five m (machines.mover five m)
unfolding run
run_one m = refl

first_below : (m : Machine Chip Board) (t k : ℕ) → k < 1 → (key_of five m (machines.mover five m)).cycle < t → (machines.move_key five m k).cycle < t
unfolding run
first_below m t zero within below = below
first_below m t (suc k) within below = absurd (omega (arith, within))

below_one : (m : Machine Chip Board) (t : ℕ) → (key_of five m (machines.mover five m)).cycle < t → AllBelow five m t 1
below_one m t below = record { each = λ k within. first_below m t k within below }

paced-at : Stages → (m : Machine Chip Board) (t : ℕ) → t ≤ clock.cycle_limit → IsValid five IsChip IsBoard m → (key_of five m (machines.mover five m)).cycle < t → IsPaced (console_of m) (mover (console_of m))
paced-at stages m t small valid below =
    let i : ℕ = machines.mover five m in
    let few : i < 5 = stages.movers m in
    let next : IsValid five IsChip IsBoard (run five m 1) = stages.valid m t 1 small valid (below_one m t below) in
    let same : i ≡ mover (console_of m) = mover-same m valid in
    let after : key_of five (run five m 1) i ≡ key_in (moved (console_of m) i) i =
    key-same (run five m 1) next i few ∙ ap (λ (z : Machine Chip Board). key_in (console_of z) i) (run_one m) ∙ ap (λ (z : Console). key_in z i) (move-same m valid i few) in
    let later : (key_of five m i).cycle + gap i ≤ (key_of five (run five m 1) i).cycle =
    omega (arith, stages.spread m t 1 i small valid (below_one m t below) few, ap (λ n. n * gap i) (made_one m)) in
    let paces : (key_in (console_of m) i).cycle + gap i ≤ (key_in (moved (console_of m) i) i).cycle =
    omega (arith, later, ap (λ (k : Key). k.cycle) (key-same m valid i few), ap (λ (k : Key). k.cycle) after) in
    record {
      least = λ j within. subst (λ (n : ℕ). key_lt (key_in (console_of m) j) (key_in (console_of m) n) ≡ false) same
          (ap (λ (k : Key). key_lt k (key_in (console_of m) i)) (sym (key-same m valid j within)) ∙ ap (key_lt (key_of five m j)) (sym (key-same m valid i few)) ∙ stages.least m j valid within);
      later = subst (λ (n : ℕ). (key_in (console_of m) n).cycle + gap n ≤ (key_in (moved (console_of m) n) n).cycle) same paces;
    }

pub paced-ran : Stages → (m : Machine Chip Board) (end n : ℕ) → end ≤ clock.cycle_limit → IsValid five IsChip IsBoard m → consoles.AllBelow (console_of m) end n → ArePaced (console_of m) n
paced-ran stages m end n small valid below k within =
    let each : (j : ℕ) → AllBelow five m end j → IsValid five IsChip IsBoard (run five m j) = λ j earlier. stages.valid m end j small valid earlier in
    let lower : AllBelow five m end n = below-lift m end n each stages.movers below in
    let at : IsValid five IsChip IsBoard (run five m k) = each k (record { each = λ j earlier. lower.each j (omega arith) }) in
    let soundto : ValidTo m k = λ j earlier. each j (record { each = λ i before. lower.each i (omega arith) }) in
    subst (λ (z : Console). IsPaced z (mover z)) (ran-same m k soundto stages.movers) (paced-at stages (run five m k) end small at (lower.each k within))

-- where the parts of the machine are valid
pub paced-from : Stages → (z : Console) (end n : ℕ) → end ≤ clock.cycle_limit → HasValidParts z → consoles.AllBelow z end n → ArePaced z n
paced-from stages z end n small has below =
    subst (λ (w : Console). ArePaced w n) (console_again z)
    (paced-ran stages (machine_in z) end n small (valid_in z has) (subst (λ (w : Console). consoles.AllBelow w end n) (sym (console_again z)) below))
