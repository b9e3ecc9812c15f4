use Rattle.vdp_ports.proofs.ByCases.{control_cases}
use Rattle.vdp_ports.proofs.Kept.{controlled_kept}
use Rattle.vdp_ports.proofs.Same.{controlled_same}
use Rattle.vdp_ports.proofs.state.VdpState.control_write.Goals as goal

pub returns-clause-rules : goal.returns-clause-rules
returns-clause-rules c = λ at l h. rw c.write_control.ensures.after (controlled_kept c.args.cycle at c.args.word _ l h)

pub returns-clause-cases : goal.returns-clause-cases
returns-clause-cases c = rw (c.write_control.ensures.after, c.write_control.ensures.transfer) (control_cases c.args.cycle c.args.word _)

pub returns-clause-interval : goal.returns-clause-interval
returns-clause-interval c = rw c.write_control.ensures.after (controlled_same c.args.cycle c.args.word _)
