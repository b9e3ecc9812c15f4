use Rattle.std.proofs.Common.{arith}
use Rattle.vdp_planes.proofs.Digits.{digit}
use Rattle.vdp_planes.proofs.cells.pixel.Goals as goal

pub returns-clause-value : goal.returns-clause-value
returns-clause-value c = digit c.args.pixels c.args.column (omega arith) c.requires
