use Rattle.md_chips.proofs.Emptied.{with_emptied-psg}
use Rattle.md_machine.proofs.machine.Machine.empty_psg.Goals as goal

pub returns : goal.returns
returns c = with_emptied-psg c.args.self.now c.empty.new.self c.empty.ensures
