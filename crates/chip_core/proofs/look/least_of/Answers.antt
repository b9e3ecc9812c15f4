use Rattle.std.proofs.Common.{slice_index_or, arith, inl, inr, sym, ap, ◌∙◌, refl}
use Rattle.chip_core.specs.Cores.{no_key}
use Rattle.chip_core.proofs.Keys.{earlier-key, later-key, least-in}
use Rattle.chip_core.proofs.Turns.{least-step}
use Rattle.chip_core.proofs.look.least_of.Goals as goal
use Rattle.chip_core.proofs.look.least_of.Goals.{then-next-cycle, else-next-cycle}

pub loop-i-init : goal.loop-i-init
loop-i-init g c = record {
  inside = (omega arith);
  is = (let h = least-in (λ i. slice_index_or c.args.bounds.now i no_key) 0 in omega arith);
  cycle = refl;
}

pub loop-i-preserved : goal.loop-i-preserved
loop-i-preserved g c =
    elim c.if-next-cycle.branch [
      | then-next-cycle w ↦ record {
        inside = (let e = w.least-is in omega arith);
        is = least-step (λ i. slice_index_or c.args.bounds.now i no_key) c.loop-i.i c.loop-i.least c.if-next-cycle.least c.loop-i.invariant.is
            (inl (earlier-key (slice_index_or c.args.bounds.now c.loop-i.i no_key) (slice_index_or c.args.bounds.now c.loop-i.least no_key) (let t = w.if-next-cycle.true in let e = c.loop-i.invariant.cycle in omega arith), w.least-is));
        cycle = w.cycle-is ∙ ap (λ n. (slice_index_or c.args.bounds.now n no_key).cycle) (sym w.least-is);
      }
      | else-next-cycle w ↦ record {
        inside = (let e = w.least-is in let h = c.loop-i.invariant.inside in omega arith);
        is = least-step (λ i. slice_index_or c.args.bounds.now i no_key) c.loop-i.i c.loop-i.least c.if-next-cycle.least c.loop-i.invariant.is
            (inr (
              later-key (slice_index_or c.args.bounds.now c.loop-i.i no_key) (slice_index_or c.args.bounds.now c.loop-i.least no_key) (let t = w.if-next-cycle.false in let e = c.loop-i.invariant.cycle in omega arith)
                  (let h = c.loop-i.invariant.inside in let low = c.loop-i-test.true in let a = c.requires.number c.loop-i.i (omega arith) in let b = c.requires.number c.loop-i.least (omega arith) in omega arith),
              w.least-is,
            ));
        cycle = w.cycle-is ∙ c.loop-i.invariant.cycle ∙ ap (λ n. (slice_index_or c.args.bounds.now n no_key).cycle) (sym w.least-is);
      }
    ]
