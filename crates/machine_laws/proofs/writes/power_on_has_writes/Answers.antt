use Rattle.std.proofs.Common.{refl}
use Rattle.machine_laws.proofs.writes.power_on_has_writes.Goals as goal

pub returns : goal.returns
returns c = λ cart recording pal at. record { fm = refl; psg = refl; fm_early = refl; psg_early = refl }
