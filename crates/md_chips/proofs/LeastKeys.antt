-- The least key among the first chips, and of all five.
use Rattle.std.proofs.Common.{◌≡◌, ℕ, suc, ◌+◌, ◌<◌, ◌≤◌, lit<, Bool, true, false, cond, refl, sym, ap, ◌∙◌, arith}
use Rattle.md_word.specs.Keys.{key_lt}
use Rattle.md_word.specs.declared.key.Key.{Key}
use Rattle.chip_core.specs.Machines.{least_below}
use Rattle.chip_core.proofs.Keys.{least-is, rank}
use Rattle.m68k_chip.specs.States.{next_of}
use Rattle.z80_chip.specs.States.{next_of as sub_next_of}
use Rattle.md_chips.specs.Console.{Console, key_in, mover}
use Rattle.md_chips.proofs.Moves.{five-each}

same : {A : Type 0} (b : Bool) (x : A) → cond b x x ≡ x
same true x = refl
same false x = refl

pub least-one : (key : ℕ → Key) → least_below key 1 ≡ 0
unfolding least_below
least-one key = same (key_lt (key 0) (key 0)) 0

pushed : (key : ℕ → Key) (b : Bool) (i low : ℕ) → cond b (key i) (key low) ≡ key (cond b i low)
pushed key true i low = refl
pushed key false i low = refl

pub least-next : (key : ℕ → Key) (i : ℕ) → cond (key_lt (key i) (key (least_below key i))) (key i) (key (least_below key i)) ≡ key (least_below key (i + 1))
unfolding least_below
least-next key i =
    let on : i + 1 ≡ suc i = omega arith in
    pushed key (key_lt (key i) (key (least_below key i))) i (least_below key i) ∙ sym (ap (λ n. key (least_below key n)) on)

-- each of the five keys has its chip's number
small : (m : Console) (i : ℕ) → i < 5 → (key_in m i).chip < 8
unfolding key_in next_of sub_next_of
small m = five-each (λ i. (key_in m i).chip < 8) (lit< tt) (lit< tt) (lit< tt) (lit< tt) (lit< tt)

-- no event of the five is before that of the chip that moves
pub least-cycle : (m : Console) (i : ℕ) → i < 5 → (key_in m (mover m)).cycle ≤ (key_in m i).cycle
unfolding mover
least-cycle m i below =
    let first : rank (key_in m (least_below (key_in m) 5)) ≤ rank (key_in m i) = least-is (key_in m) 4 (small m) i below in
    let mine = small m i below in
    omega (arith, first, mine)
