use Rattle.std.proofs.Common.{◌∙◌, ◌≡◌, arith, ◌+ℤ◌}
use Rattle.std.proofs.lemmas.Int.{ints}
use Rattle.psg_sound.proofs.Levels.{level-parts}
use Rattle.psg_sound.proofs.synth.PsgSynth.level.Goals as goal

pub returns-clause-value : goal.returns-clause-value
returns-clause-value c =
    (let sum : _ ≡ ((c.level.result +ℤ c.level-2.result) +ℤ c.level-3.result) +ℤ c.level-4.result = omega (arith, ints) in sum)
    ∙ level-parts _ _ _ _ _ _ _ _ _ _ c.self.view_is c.level.ensures.value c.level-2.ensures.value c.level-3.ensures.value c.level-4.ensures.value
