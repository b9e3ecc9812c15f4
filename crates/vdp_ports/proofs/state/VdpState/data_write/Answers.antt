use Rattle.vdp_ports.proofs.ByCases.{write_cases}
use Rattle.vdp_ports.proofs.Kept.{written_kept}
use Rattle.vdp_ports.proofs.Same.{written_same}
use Rattle.vdp_ports.proofs.state.VdpState.data_write.Goals as goal

pub returns-clause-rules : goal.returns-clause-rules
returns-clause-rules c = λ at l h. rw c.write_data.ensures (written_kept c.args.cycle at c.args.word _ l h)

pub returns-clause-cases : goal.returns-clause-cases
returns-clause-cases c = rw c.write_data.ensures (write_cases c.args.cycle c.args.word _)

pub returns-clause-pins : goal.returns-clause-pins
returns-clause-pins c = rw c.write_data.ensures (written_same c.args.cycle c.args.word _)
