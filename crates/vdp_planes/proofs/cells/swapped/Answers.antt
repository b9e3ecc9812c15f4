use Rattle.std.proofs.Common.{arith}
use Rattle.vdp_planes.proofs.Digits.{left_pixels, right_pixels}
use Rattle.vdp_planes.proofs.cells.swapped.Goals as goal

pub returns : goal.returns
returns c =
    λ b0 b1 b2 b3 h0 h1 h2 h3 e.
    omega (arith, right_pixels c.args.row b0 b1 b2 b3 h0 h1 h2 e, left_pixels c.args.row b0 b1 b2 b3 h0 h1 h2 h3 e)
