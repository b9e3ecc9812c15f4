use Rattle.std.proofs.Common.{slice_index_or, sym, ◌∙◌, ap, refl, arith}
use Rattle.std.proofs.lemmas.List.{get_or_read}
use Rattle.chip_core.specs.Cores.{no_key}
use Rattle.chip_core.proofs.Looking.{lagging-zero, lagging-more, least-more, least-first}
use Rattle.chip_core.proofs.look.look.Goals as goal

pub loop-i-init : goal.loop-i-init
loop-i-init g c =
    let here = c.next-least.ensures.value ∙ ap g.C.ChipSet.rules.next (get_or_read c.args.chips.now 0 c.index-chips-0.result (omega arith) c.index-chips-0.is g.C.ChipSet.rules.blank) in
    record {
      lagging = lagging-more (λ i. slice_index_or c.args.bounds.now i no_key) (λ i. (g.C.ChipSet.rules.next (slice_index_or c.args.chips.now i g.C.ChipSet.rules.blank)).key) 0
          _ _ c.is_below.result _ c.next-least.result.key refl (ap (λ n. n.key) here) c.is_below.ensures
          (sym (lagging-zero (λ i. slice_index_or c.args.bounds.now i no_key) (λ i. (g.C.ChipSet.rules.next (slice_index_or c.args.chips.now i g.C.ChipSet.rules.blank)).key))) c.first_of-lagging.ensures;
      least = least-first (λ i. g.C.ChipSet.rules.next (slice_index_or c.args.chips.now i g.C.ChipSet.rules.blank)) c.next-least.result here;
    }

pub loop-i-preserved : goal.loop-i-preserved
loop-i-preserved g c =
    let here = c.next-next.ensures.value ∙ ap g.C.ChipSet.rules.next (get_or_read c.args.chips.now c.loop-i.i c.index-chips-i.result (omega arith) c.index-chips-i.is g.C.ChipSet.rules.blank) in
    record {
      lagging = lagging-more (λ i. slice_index_or c.args.bounds.now i no_key) (λ i. (g.C.ChipSet.rules.next (slice_index_or c.args.chips.now i g.C.ChipSet.rules.blank)).key) c.loop-i.i
          c.loop-i.lagging _ c.is_below-in-loop-i.result _ c.next-next.result.key refl (ap (λ n. n.key) here) c.is_below-in-loop-i.ensures
          c.loop-i.invariant.lagging c.first_of-lagging-in-loop-i.ensures;
      least = least-more (λ i. g.C.ChipSet.rules.next (slice_index_or c.args.chips.now i g.C.ChipSet.rules.blank)) c.loop-i.i c.loop-i.least _ c.next-next.result here
          c.loop-i.invariant.least c.take_lesser.ensures;
    }
