use Rattle.md_chips.proofs.Emptied.{with_emptied-renderer}
use Rattle.md_machine.proofs.machine.Machine.empty_renderer.Goals as goal

pub returns : goal.returns
returns c = with_emptied-renderer c.args.self.now c.empty.new.self c.empty.ensures
