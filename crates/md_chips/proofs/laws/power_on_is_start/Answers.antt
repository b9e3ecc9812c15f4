use Rattle.std.proofs.Common.{refl, arith}
use Rattle.md_chips.proofs.laws.power_on_is_start.Goals as goal

pub returns : goal.returns
returns c = λ cart recording pal. record { quiet = λ i below. omega arith; line = refl; fm = refl; psg = refl }
