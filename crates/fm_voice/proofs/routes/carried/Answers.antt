use Rattle.std.proofs.Common.{◌≡◌, ◌∙◌, ◌<◌, ◌+ℤ◌, arith}
use Rattle.std.proofs.lemmas.Int.{ints}
use Rattle.fm_voice.proofs.Carried.{carried-three, carried-four}
use Rattle.fm_voice.proofs.routes.carried.Goals as goal

pub returns-in-5-clause-value : goal.returns-in-5-clause-value
returns-in-5-clause-value c =
    let low : 4 < c.args.algorithm = omega arith in
    let high : c.args.algorithm < 7 = omega arith in
    (let sum : _ ≡ (c.args.two +ℤ c.args.three) +ℤ c.args.four = omega (arith, ints) in sum)
    ∙ carried-three c.args.algorithm low high c.args.one c.args.two c.args.three c.args.four

pub returns-in_default-clause-value : goal.returns-in_default-clause-value
returns-in_default-clause-value c =
    let low : 6 < c.args.algorithm = omega arith in
    (let sum : _ ≡ ((c.args.one +ℤ c.args.two) +ℤ c.args.three) +ℤ c.args.four = omega (arith, ints) in sum)
    ∙ carried-four c.args.algorithm low c.requires.algorithm c.args.one c.args.two c.args.three c.args.four
