use Rattle.std.proofs.Common.{◌≡◌, ℕ, ◌+◌, ◌++◌, arith, length-append}
use Rattle.std.proofs.KnownBytes.{Consumes-trans}
use Rattle.md_outer.specs.Transfer.{Counts}
use Rattle.md_outer.proofs.transfer.read_to_limit.Goals as goal

-- counts in sequence are one
counts-on : (a n b m c all : ℕ) → Counts a n b → Counts b m c → all ≡ n + m → Counts a all c
counts-on a n b m c all first second sum = (omega (arith, first, second, sum), omega (arith, first, second, sum))

-- what the failed read took comes after what is held
pub returns-in_err-read_part-clause-takes : goal.returns-in_err-read_part-clause-takes
returns-in_err-read_part-clause-takes g c =
    let (within, held, counts) = c.reading.invariant in
    let (taken, eaten, most, more) = c.read_part.ensures.takes in (
      c.reading.bytes.items ++ taken,
      Consumes-trans _ _ _ _ _ held eaten,
      omega (arith, most, length-append c.reading.bytes.items taken, c.reading.bytes.ok.0),
      counts-on _ _ _ _ _ _ counts more (omega (arith, length-append c.reading.bytes.items taken, c.reading.bytes.ok.0)),
    )
