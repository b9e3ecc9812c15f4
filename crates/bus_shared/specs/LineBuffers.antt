-- The buffer of pre-rendered lines on the board.
use Rattle.std.specs.Prelude.{◌≡◌, Bool, true, Option, IfSome}
use Rattle.vdp_ports.specs.Vdp.{Vdp}
use Rattle.vdp_planes.specs.View.{view_of}
use Rattle.vdp_ahead.specs.LineBuffers.{LineBufferValue}

-- where a buffer is said to fit, the VDP is as it shows it
abbrev pub Fits : Bool → Option LineBufferValue → Vdp → Type 0
Fits fits line_buffer vdp = fits ≡ true → IfSome line_buffer (λ s. s.view ≡ view_of s.view.pal vdp)
