use Rattle.std.proofs.Common.{◌+◌, ◌*◌, arith}
use Rattle.std.specs.Int.{w16}
use Rattle.std.proofs.lemmas.List.{length-set}
use Rattle.md_fields.specs.Places.{number_at}
use Rattle.md_fields.proofs.Standing.{set_more}
use Rattle.md_fields.proofs.reading.words_at.Goals as goal

pub loop-index-preserved : goal.loop-index-preserved
loop-index-preserved g c = record {
  length = omega (arith, c.loop-index.invariant.length, length-set c.loop-index.words c.loop-index.index c.u16_at.result);
  read = set_more (λ k. number_at w16 (c.args.place + 2 * k) c.args.bytes.now) c.loop-index.words c.loop-index.index c.u16_at.result (omega (arith, c.loop-index.invariant.length, c.loop-index-test.true)) c.loop-index.invariant.read c.u16_at.ensures;
}

pub returns : goal.returns
returns g c = λ k lt. c.loop-index.invariant.read k (omega (arith, lt, c.loop-index.invariant.length, c.loop-index-test.false, c.loop-index.auto))
