use Rattle.std.proofs.Common.{◌≡◌, ◌≢◌, ◌∙◌, rules, arith, ap, ◌+◌, ◌*◌, ◌<◌, ◌≤ℤ◌, pos, negsuc, length, get_or-set_other, get_or-set_same, below_more, to_z, of_z, w32}
use Rattle.std.proofs.lemmas.Int.{ints}
use Rattle.std.proofs.lemmas.List.Elements.{All-from_get_or}
use Rattle.std.proofs.lemmas.List.FromFn.{fill_by_all}
use Rattle.md_word.specs.Clock.{fm_sample}
use Rattle.psg_sound.specs.Batches.{Course, ticks_to, course_to, sample, samples}
use Rattle.psg_sound.proofs.Courses.{due, finished}
use Rattle.psg_sound.proofs.Heard.{IsHeard-first, IsHeard-at, IsHeard-next, sample-is, after_batch-is}
use Rattle.psg_sound.proofs.Histories.{IsNextBatch-is}
use Rattle.psg_sound.proofs.synth.PsgSynth.batch.Goals as goal

pub loop-k-init : goal.loop-k-init
loop-k-init c = record {
  heard = IsHeard-first c.args.first c.args.self.now c.args.list.now.items _ _ _ c.as_slice-rest.ensures.value c.ticks_below-ticks.ensures (omega arith);
  sixteen = search rules;
  samples = λ j h. absurd (omega arith);
  range = λ j h. absurd (omega arith);
}

pub loop-k-preserved : goal.loop-k-preserved
loop-k-preserved c =
    let first = c.args.first in
    let s = c.args.self.now in
    let ws = c.args.list.now.items in
    let k = c.loop-k.k in
    let cycle = fm_sample * (first + k) in
    let before : Course = record { chip = c.loop-k.self; rest = c.loop-k.rest.now } in
    let now : Course = record { chip = c.write_below-rest.new.self; rest = c.write_below-rest.result.now } in
    let at : now ≡ due cycle (course_to (fm_sample * first) s ws (ticks_to cycle)) =
    IsHeard-at first s ws c.loop-k.ticks (first + k) before now c.loop-k.invariant.heard (c.write_below-rest.ensures ∙ ap (due cycle) c.run-rest.ensures) in
    let heard : to_z w32 (of_z w32 c.level.result) ≡ c.level.result = omega (arith, ints) in
    let room : k < length c.loop-k.out = omega (arith, c.loop-k.invariant.sixteen) in
    record {
      heard = IsHeard-next first s ws (first + k) (fm_sample * (first + (k + 1))) now (omega arith) (omega arith) at;
      sixteen = search rules;
      samples = below_more _ _
          (λ j h. let ne : j ≢ k = omega arith in rw get_or-set_other (c.loop-k.invariant.samples j h))
          (rw get_or-set_same (heard ∙ c.level.ensures.value ∙ sample-is first s ws (first + k) now at));
      range = below_more _ _
          (λ j h. let ne : j ≢ k = omega arith in rw get_or-set_other (c.loop-k.invariant.range j h))
          (rw get_or-set_same (omega (arith, ints), omega (arith, ints)));
    }

pub run-rest-requires-2-clause-forward : goal.run-rest-requires-2-clause-forward
run-rest-requires-2-clause-forward c = omega (arith, c.loop-k.invariant.heard.high, c.ticks_below-end.ensures)

pub returns-clause-chip : goal.returns-clause-chip
returns-clause-chip c =
    c.write_all.ensures ∙ ap finished c.run-rest-2.ensures
    ∙ after_batch-is c.args.first c.args.self.now c.args.list.now.items c.loop-k.ticks _ c.ticks_below-end.result _ c.loop-k.invariant.heard
    (omega (arith, c.loop-k.invariant.heard.high, c.ticks_below-end.ensures)) c.ticks_below-end.ensures

pub returns-clause-samples : goal.returns-clause-samples
unfolding samples
returns-clause-samples c =
    fill_by_all (λ k. sample c.args.first c.args.self.now c.args.list.now.items (c.args.first + k)) c.loop-k.out 16 (pos 0) c.loop-k.invariant.sixteen
    (λ k h. c.loop-k.invariant.samples k (omega arith))

pub returns-clause-range : goal.returns-clause-range
returns-clause-range c =
    All-from_get_or (λ y. (negsuc 8191 ≤ℤ y) × (y ≤ℤ pos 8192)) c.loop-k.out (pos 0)
    (λ k h. c.loop-k.invariant.range k (omega (arith, c.loop-k.invariant.sixteen)))

pub returns-clause-history : goal.returns-clause-history
returns-clause-history c =
    λ history h e. IsNextBatch-is history c.args.list.now.items c.args.first c.args.self.now _ _ (returns-clause-chip c) (returns-clause-samples c) h e
