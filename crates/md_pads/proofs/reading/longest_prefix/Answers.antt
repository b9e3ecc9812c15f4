use Rattle.md_pads.proofs.Steps.{longest}
use Rattle.md_pads.proofs.reading.longest_prefix.Goals as goal

pub returns-then-not-goes_on : goal.returns-then-not-goes_on
returns-then-not-goes_on c =
    longest c.args.version c.args.bytes.now c.loop-place.place c.loop-place-test.true c.loop-place.invariant (λ more. let goes = c.goes_on.ensures.1 more in let stops = c.if-not-goes_on.true in absurd cc)
