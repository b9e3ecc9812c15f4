use Rattle.md_chips.proofs.Emptied.{with_emptied-fm}
use Rattle.md_machine.proofs.machine.Machine.empty_fm.Goals as goal

pub returns : goal.returns
returns c = with_emptied-fm c.args.self.now c.empty.new.self c.empty.ensures
