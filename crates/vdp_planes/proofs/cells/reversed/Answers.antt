use Rattle.std.proofs.Common.{arith}
use Rattle.vdp_planes.proofs.cells.reversed.Goals as goal

pub returns : goal.returns
returns c =
    λ b0 b1 b2 b3 h0 h1 h2 h3 e. omega (arith, c.swap_bytes.ensures)
