use Rattle.std.proofs.Common.{refl}
use Rattle.vdp_planes.proofs.Spread.{words_apart}
use Rattle.vdp_planes.proofs.cells.four_words.Goals as goal

pub returns : goal.returns
returns c = words_apart c.args.digits c.args.base _ c.requires.digits c.requires.base (rw (c.from.ensures, c.from-2.ensures) refl)
