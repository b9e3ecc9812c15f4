use Rattle.fm_port.proofs.PortBytes as fm_laws
use Rattle.psg_sound.proofs.PortBytes as psg_laws
use Rattle.machine_laws.proofs.writes.writes_of_states.Goals as goal

pub returns : goal.returns
returns c = λ at bytes pairs m fm psg fm_early psg_early. record {
  fm = fm_laws.spelled_right at bytes m.shared.fm fm;
  psg = psg_laws.spelled_right at pairs m.shared.psg psg;
  fm_early = fm_early;
  psg_early = psg_early;
}
