use Rattle.std.proofs.Common.{rules, ◌≡◌, ◌∙◌, ℕ, Bool, Option, ap₂, sym, subst, arith}
use Rattle.md_machine.specs.Outputs.{frames_bytes, journal_bytes, sound_bytes}
use Rattle.md_chips.specs.Starts.{Start}
use Rattle.run_command.specs.Courses.{cycle_of, start_in}
use Rattle.run_command.specs.Counts.{frames_between}
use Rattle.run_command.specs.Demos.{HaveUntil, digests_from}
use Rattle.run_command.specs.Resuming.{RunsWell}
use Rattle.run_command.specs.Runs.{entries_from, media_from}
use Rattle.run_command.proofs.Summaries.{digests-are, have-none}
use Rattle.run_command.proofs.Rests.{ends-well}
use Rattle.run_command.proofs.demo.sum_up.Goals as goal

pub segments-init : goal.segments-init
segments-init g c = (
  omega (arith, c.requires.before),
  c.requires.start,
  have-none (start_in c.args.course) c.new-hashers.result c.requires.start.from c.requires.start.laws (omega (arith, c.requires.before, c.requires.end.1))
      c.new-hashers.ensures.frames c.new-hashers.ensures.samples c.new-hashers.ensures.journal,
)

pub sum_segment-requires-clause-underway : goal.sum_segment-requires-clause-underway
sum_segment-requires-clause-underway g c = (start_in c.args.course, c.segments.invariant.1)

pub segments-preserved : goal.segments-preserved
segments-preserved g c = (
  search rules,
  c.sum_segment.ensures.underway (start_in c.args.course) c.segments.invariant.1,
  c.sum_segment.ensures.taken (start_in c.args.course) c.segments.invariant.1 c.segments.invariant.2,
)

pub returns : goal.returns
returns g c =
    let course = c.segments.course in
    let start : Start = start_in c.args.course in
    let at : cycle_of course ≡ c.args.end = omega (arith, c.segments.invariant.0, c.segments-test.false, c.at.ensures) in
    let have : HaveUntil start c.args.end c.segments.hashers = subst (λ (n : ℕ). HaveUntil start n c.segments.hashers) at c.segments.invariant.2 in
    let halted : c.halted.result ≡ course.machine.console.main.halted = rw c.main_chip.ensures at c.halted.ensures in
    let finished : c.frames_between.result ≡ frames_between start.console.pal start.at c.args.end =
    c.frames_between.ensures ∙ ap₂ (λ (pal : Bool) (from : ℕ). frames_between pal from c.args.end) c.pal-pal.ensures.value c.at-from.ensures in
    let digests : c.digests.result ≡ digests_from start c.args.end =
    digests-are start c.args.end c.digests.result
    (c.digests.ensures.frames (frames_bytes start.console.pal (media_from start c.args.end).frames) have.frames)
    (c.digests.ensures.samples (sound_bytes (media_from start c.args.end)) have.samples)
    (c.digests.ensures.journal (journal_bytes (entries_from start c.args.end)) have.journal) in
    record {
      well = subst (λ (since : Option ℕ). RunsWell start c.args.end start.at c.frames_between.result course.accesses since) (sym halted)
          (ends-well start c.args.end course.machine course.accesses c.frames_between.result at c.segments.invariant.1 finished c.states_keep_laws.ensures c.lists_end_as_run.ensures c.requires.end c.kept.ensures);
      digests = digests;
    }
