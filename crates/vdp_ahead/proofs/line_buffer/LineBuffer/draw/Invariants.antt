use Rattle.std.proofs.Common.{◌≡◌}
use Rattle.std.specs.Prelude.{min}
use Rattle.vdp_planes.specs.View.{display_height}
use Rattle.vdp_ahead.proofs.line_buffer.LineBuffer.draw.Given as goal

abbrev pub invariant-loop : goal.invariant-loop
invariant-loop l = (l.self ≡ record l.fn.self { to = l.counter }) × (l.end ≡ min (display_height l.fn.self.view) l.fn.self.until)
