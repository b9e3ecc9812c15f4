use Rattle.vdp_planes.proofs.Masks.{masked}
use Rattle.vdp_planes.proofs.fields.wrapped.Goals as goal

pub returns-clause-value : goal.returns-clause-value
returns-clause-value c = masked c.args.n c.args.bits c.last_place.result c.last_place.ensures.value
