use Rattle.std.proofs.Common.{◌≡◌, arith}
use Rattle.m68k_time.proofs.Covers.{row-covers}
use Rattle.m68k_time.proofs.instruction.clocks.Goals as goal

pub returns-then-spent-eq0-clause-covers : goal.returns-then-spent-eq0-clause-covers
returns-then-spent-eq0-clause-covers c = λ is rightly.
    let none : c.args.spent.cause ≡ 0 = c.if-spent-eq0.true in
    omega (arith, rightly.own none, row-covers c.args.op.now c.args.spent is (rightly.counted none), c.row_time.ensures)
