use Rattle.bus_shared.proofs.Ports.{power_on_bytes}
use Rattle.bus_shared.proofs.video.power_on.Goals as goal

pub returns-clause-bytes : goal.returns-clause-bytes
returns-clause-bytes c = rw (c.in_ok-new.ensures.ok, c.in_ok-power_on.ensures.value) (power_on_bytes c.args.pal)
