-- What the processors' interrupt pins are made of: the level of the 68000, and the interval in which
-- the Z80's interrupt is asked for.
use Rattle.std.specs.Prelude.{◌≡◌}
use Rattle.vdp_ports.specs.Vdp.{Vdp}
use Rattle.vdp_ports.specs.Control.{level}

-- the Z80's interval stays
pub record HasSameInterval (before after : Vdp) : Type 0 where
  pub from_stays : after.int_from ≡ before.int_from
  pub to_stays : after.int_to ≡ before.int_to

-- all that the pins show stays
pub record HasSamePins (before after : Vdp) : Type 0 where
  pub level_stays : level after ≡ level before
  pub interval_stays : HasSameInterval before after
