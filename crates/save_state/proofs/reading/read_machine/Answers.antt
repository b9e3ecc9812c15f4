use Rattle.std.proofs.Common.{ℕ, ◌==◌, ap, inl, inr, arith}
use Rattle.save_state.specs.Items.{at_of, region_of}
use Rattle.save_state.proofs.MachineLaws.{machine_refused, machine_read, next_68, next_80, is_first, at_refused, one_region, region_refused, right_at, right_cycle, invalid_at, invalid_region}
use Rattle.save_state.proofs.Joins.{wanting}
use Rattle.save_state.proofs.reading.read_machine.Goals as goal
use Rattle.save_state.proofs.reading.read_machine.Goals.{then-at-lt1-via-then-at-lt1, then-at-lt1-via-else-at-lt1+then-at-gt-LAST_CYCLE}

pub returns-then-at-lt1 : goal.returns-then-at-lt1
returns-then-at-lt1 c =
    at_refused _ _ c.args.bytes.now (invalid_at c.args.bytes.now c.u64_at-at.result c.u64_at-at.ensures (
    elim c.then-at-lt1.branch [
      | then-at-lt1-via-then-at-lt1 w ↦ inl w.if-at-lt1.true
      | then-at-lt1-via-else-at-lt1+then-at-gt-LAST_CYCLE w ↦ inr w.if-at-gt-LAST_CYCLE.true
    ]))

pub returns-in-Err : goal.returns-in-Err
returns-in-Err c =
    machine_refused _ _ c.args.bytes.now c.read_pieces.result c.in-Err.fault (right_at c.args.bytes.now c.u64_at-at.result c.u8_at-region.result c.u64_at-at.ensures c.if-at-lt1.false c.if-at-gt-LAST_CYCLE.false c.u8_at-region.ensures c.if-region-gt1.false) c.in-Err.is c.read_pieces.ensures

pub returns-in_ok-machine_of-in-Ok : goal.returns-in_ok-machine_of-in-Ok
returns-in_ok-machine_of-in-Ok c =
    machine_read _ _ c.args.bytes.now c.u64_at-at.result c.in-Ok.pieces c.in_ok-machine_of-in-Ok.field-0 c.read_pieces.result c.u64_at-at.ensures (right_at c.args.bytes.now c.u64_at-at.result c.u8_at-region.result c.u64_at-at.ensures c.if-at-lt1.false c.if-at-gt-LAST_CYCLE.false c.u8_at-region.ensures c.if-region-gt1.false) c.in-Ok.is c.in_ok-machine_of-in-Ok.ensures c.read_pieces.ensures

pub returns-in_err-machine_of-in-Ok : goal.returns-in_err-machine_of-in-Ok
returns-in_err-machine_of-in-Ok c = wanting _ _ c.from_residual.result c.from_residual.ensures.1

pub machine_of-requires-clause-main : goal.machine_of-requires-clause-main
machine_of-requires-clause-main c =
    omega (arith, c.u64_at-at.ensures, next_68 _ (at_of c.args.bytes.now) _ c.in-Ok.pieces.0.0.state c.in-Ok.ensures.found.0.0.spells)

pub machine_of-requires-clause-sub : goal.machine_of-requires-clause-sub
machine_of-requires-clause-sub c =
    omega (arith, c.u64_at-at.ensures, next_80 _ (at_of c.args.bytes.now) _ c.in-Ok.pieces.0.1.state c.in-Ok.ensures.found.0.1.spells)

pub machine_of-requires-clause-line : goal.machine_of-requires-clause-line
machine_of-requires-clause-line c =
    omega (arith, c.u64_at-at.ensures, (is_first (at_of c.args.bytes.now) (region_of c.args.bytes.now) _ c.in-Ok.pieces.1.0.1 c.in-Ok.ensures.found.1.0.1).0)

pub machine_of-requires-clause-view : goal.machine_of-requires-clause-view
machine_of-requires-clause-view c = c.in-Ok.ensures.found.1.0.1.drained.view

pub machine_of-requires-clause-region : goal.machine_of-requires-clause-region
machine_of-requires-clause-region c = one_region _ _ c.args.bytes.now c.in-Ok.pieces c.in-Ok.ensures.found

pub returns-then-region-gt1 : goal.returns-then-region-gt1
returns-then-region-gt1 c =
    region_refused _ _ c.args.bytes.now (right_cycle c.args.bytes.now c.u64_at-at.result c.u64_at-at.ensures c.if-at-lt1.false c.if-at-gt-LAST_CYCLE.false)
    (invalid_region c.args.bytes.now c.u8_at-region.result c.u8_at-region.ensures c.if-region-gt1.true)

pub read_pieces-requires-clause-region : goal.read_pieces-requires-clause-region
read_pieces-requires-clause-region c = ap (λ (n : ℕ). n == 1) c.u8_at-region.ensures
