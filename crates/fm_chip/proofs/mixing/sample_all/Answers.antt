use Rattle.std.proofs.Common.{◌≡◌, ◌∙◌, ◌+ℤ◌, to_z, of_z, w32, arith}
use Rattle.std.proofs.lemmas.Int.{ints}
use Rattle.fm_chip.proofs.Mixed.{mixing_first, mixing_more, all_done}
use Rattle.fm_chip.proofs.mixing.sample_all.Goals as goal

pub loop-number-init : goal.loop-number-init
loop-number-init c = mixing_first _ _ _ c.requires.channels c.requires.six

pub loop-number-preserved : goal.loop-number-preserved
loop-number-preserved c =
    let v : to_z w32 (of_z w32 c.sample_one-level.result) ≡ c.sample_one-level.result = omega (arith, ints) in
    let left : _ ≡ to_z w32 c.loop-number.left-bits +ℤ c.left_of-left.result = omega (arith, ints) in
    let right : _ ≡ to_z w32 c.loop-number.right-bits +ℤ c.right_of-right.result = omega (arith, ints) in
    mixing_more _ _ _ _ _ _ _ _ _ _ _ _ _ c.loop-number.invariant c.loop-number-test.true c.sample_one-level.ensures.after c.sample_one-level.ensures.channels
    (v ∙ c.sample_one-level.ensures.value) c.left_of-left.ensures.value c.right_of-right.ensures.value c.left_of-left.ensures.level c.right_of-right.ensures.level left right

pub returns-clause-after : goal.returns-clause-after
returns-clause-after c =
    all_done _ _ _ _ c.loop-number.invariant.six (λ j h. c.loop-number.invariant.done j (omega (arith, h)))
