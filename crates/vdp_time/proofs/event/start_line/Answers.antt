use Rattle.vdp_time.proofs.Kept.{started_kept}
use Rattle.vdp_time.specs.Lines.{line_started}
use Rattle.vdp_time.proofs.event.start_line.Goals as goal

pub returns-clause-rules : goal.returns-clause-rules
unfolding line_started
returns-clause-rules c = λ at l e h.
    rw (c.raise.ensures, c.count_line.ensures, c.latch_height.ensures, c.line_at-line.ensures) (started_kept at c.args.cycle _ l e h)
