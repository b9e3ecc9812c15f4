use Rattle.std.proofs.Common.{◌≡◌, ◌≢◌, ◌∙◌, rules, arith, ap, ◌<◌, pos, length, get_or-set_other, get_or-set_same, below_more}
use Rattle.std.proofs.lemmas.List.Elements.{All-from_get_or}
use Rattle.std.proofs.lemmas.List.FromFn.{fill_by_all}
use Rattle.fm_chip.specs.Synth.{IsSides}
use Rattle.fm_chip.specs.Batches.{Course, course_after, sample, samples}
use Rattle.fm_chip.proofs.Courses.{course-first, course-more, none-below, sample-is, after_batch-is}
use Rattle.fm_chip.proofs.Histories.{IsNextBatch-is}
use Rattle.fm_chip.proofs.synth.FmSynth.batch.Goals as goal

pub loop-k-init : goal.loop-k-init
loop-k-init c = record {
  course = course-first c.args.first c.args.self.now c.args.list.now.items _ c.as_slice-rest.ensures.value;
  idle = c.is_idle_through-idle.ensures.idle;
  none = c.is_idle_through-idle.ensures.none;
  sixteen = search rules;
  samples = λ j h. absurd (omega arith);
  range = λ j h. absurd (omega arith);
}

pub loop-k-preserved : goal.loop-k-preserved
loop-k-preserved c =
    let first = c.args.first in
    let s = c.args.self.now in
    let ws = c.args.list.now.items in
    let k = c.loop-k.k in
    let now : Course = record { chip = c.write_below-rest.new.self; rest = c.write_below-rest.result.now } in
    let room : k < length c.loop-k.out = omega (arith, c.loop-k.invariant.sixteen) in
    record {
      course = course-more first s ws k _ _ now c.loop-k.invariant.course c.write_below-rest.ensures c.sample_by.ensures.after;
      idle = c.sample_by.ensures.idle;
      none = λ on. none-below _ _ now _ c.write_below-rest.ensures (c.loop-k.invariant.none on);
      sixteen = search rules;
      samples = below_more _ _
          (λ j h. let ne : j ≢ k = omega arith in rw get_or-set_other (c.loop-k.invariant.samples j h))
          (rw get_or-set_same (sample-is first s ws k _ now _ c.loop-k.invariant.course c.write_below-rest.ensures c.sample_by.ensures.sides));
      range = below_more _ _
          (λ j h. let ne : j ≢ k = omega arith in rw get_or-set_other (c.loop-k.invariant.range j h))
          (rw get_or-set_same c.sample_by.ensures.range);
    }

pub returns-clause-chip : goal.returns-clause-chip
returns-clause-chip c =
    let all : c.loop-k.k ≡ 16 = omega arith in
    after_batch-is c.args.first c.args.self.now c.args.list.now.items _ _ (c.loop-k.invariant.course ∙ ap (course_after c.args.first c.args.self.now c.args.list.now.items) all) c.write_all.ensures

pub returns-clause-samples : goal.returns-clause-samples
unfolding samples
returns-clause-samples c =
    fill_by_all (sample c.args.first c.args.self.now c.args.list.now.items) c.loop-k.out 16 (pos 0, pos 0) c.loop-k.invariant.sixteen
    (λ k h. c.loop-k.invariant.samples k (omega arith))

pub returns-clause-range : goal.returns-clause-range
returns-clause-range c =
    All-from_get_or IsSides c.loop-k.out (pos 0, pos 0) (λ k h. c.loop-k.invariant.range k (omega (arith, c.loop-k.invariant.sixteen)))

pub returns-clause-history : goal.returns-clause-history
returns-clause-history c =
    λ history h e. IsNextBatch-is history c.args.list.now.items c.args.first c.args.self.now _ _ (returns-clause-chip c) (returns-clause-samples c) h e
