use Rattle.std.proofs.Common.{◌≡◌, ℕ, refl, sym, subst, arith}
use Rattle.md_chips.specs.Starts.{Start}
use Rattle.run_command.specs.Courses.{CameFrom, cycle_of}
use Rattle.run_command.specs.RunOutcomes.{HoldsUntil}
use Rattle.run_command.specs.Outputs.{Pieces, lengthened, nothing}
use Rattle.run_command.specs.Runs.{pieces_until}
use Rattle.md_args.specs.Shown.{shown_run}
use Rattle.run_command.proofs.Ends.{both-err, fault-leaves, on-ok, segment-held, segment-parts}
use Rattle.run_command.proofs.Segments.{pieces-next}
use Rattle.run_command.proofs.run_on.run_segment.Goals as goal

pub returns-clause-files : goal.returns-clause-files
returns-clause-files g c =
    let more : Pieces = record nothing { frames = c.as_slice.result.now; sound = c.as_slice-2.result.now; journal = c.as_slice-3.result.now } in
    let next : (start : Start) → CameFrom start c.args.course.now
    → lengthened (pieces_until start c.args.run.now.cycles (cycle_of c.args.course.now)) more ≡ pieces_until start c.args.run.now.cycles c.segment_end-end.result = λ start came.
    pieces-next start c.args.run.now.cycles (cycle_of c.args.course.now) c.segment_end-end.result more refl
    (rw c.as_slice.ensures.value (c.advance.ensures.frames start came)) (rw c.as_slice-2.ensures.value (c.advance.ensures.pairs start came))
    (rw c.as_slice-3.ensures.value (c.advance.ensures.records start came)) in
    on-ok c.append_all.result
    (λ adds t start first came holds.
    subst (λ (n : ℕ). HoldsUntil start (shown_run c.args.run.now) first (g.D.Depot.state c.append_all.new.depot).files n) (sym c.advance.ensures.cycle)
    (segment-held (shown_run c.args.run.now) start first (g.D.Depot.state c.args.depot.now).files (g.D.Depot.state c.append_all.new.depot).files
    (cycle_of c.args.course.now) c.segment_end-end.result more (next start came) (adds t) holds))
    c.append_all.ensures.files

pub returns-clause-err_files : goal.returns-clause-err_files
returns-clause-err_files g c =
    let more : Pieces = record nothing { frames = c.as_slice.result.now; sound = c.as_slice-2.result.now; journal = c.as_slice-3.result.now } in
    let next : (start : Start) → CameFrom start c.args.course.now
    → lengthened (pieces_until start c.args.run.now.cycles (cycle_of c.args.course.now)) more ≡ pieces_until start c.args.run.now.cycles c.segment_end-end.result = λ start came.
    pieces-next start c.args.run.now.cycles (cycle_of c.args.course.now) c.segment_end-end.result more refl
    (rw c.as_slice.ensures.value (c.advance.ensures.frames start came)) (rw c.as_slice-2.ensures.value (c.advance.ensures.pairs start came))
    (rw c.as_slice-3.ensures.value (c.advance.ensures.records start came)) in
    both-err c.append_all.result
    (λ outcome fault adds t start first came holds.
    fault-leaves start (shown_run c.args.run.now) first (g.D.Depot.state c.append_all.new.depot).files
    (g.D.Depot.state c.args.depot.now) (g.D.Depot.state c.append_all.new.depot) outcome fault
    (segment-parts (shown_run c.args.run.now) start first (g.D.Depot.state c.args.depot.now).files (g.D.Depot.state c.append_all.new.depot).files
    (cycle_of c.args.course.now) c.segment_end-end.result more
    came.from came.laws (omega (arith, c.segment_end-end.ensures)) (omega (arith, c.requires.end.1)) (next start came) (adds t) holds))
    c.append_all.ensures.err c.append_all.ensures.err_files
