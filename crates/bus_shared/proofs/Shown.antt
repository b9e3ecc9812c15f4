-- What a picture is drawn from of the VDP stays where no fill or copy is in progress.
use Rattle.std.proofs.Common.{◌≡◌, ◌∙◌, refl, ap, sym, ℕ, ◌==◌, nat_lt, Bool, true, false, if◌then◌else◌, Option, Some, None}
use Rattle.vdp_ports.specs.Vdp.{Vdp}
use Rattle.vdp_ports.specs.Control.{acknowledged, status_read}
use Rattle.vdp_ports.specs.Data.{accessed}
use Rattle.vdp_dma.specs.Settling.{due, settled, writes}
use Rattle.vdp_planes.specs.View.{view_of}
use Rattle.vdp_planes.specs.declared.view.SpriteNote.{SpriteNote}
use Rattle.md_word.specs.Region.{height}
use Rattle.vdp_time.specs.Lines.{counted, heightened, line_of, line_started, raised}
use Rattle.vdp_ahead.specs.LineBuffers.{LineBufferValue}
use Rattle.bus_shared.specs.LineBuffers.{Fits}
use Rattle.bus_shared.specs.Video.{joined, line_begun, port_read}
use Rattle.bus_shared.specs.declared.port.VideoPort.{VideoPort}
use Rattle.bus_shared.specs.declared.port.VideoPort.TheVariants.{Data, Control, Counter, Sound, Unused}

-- a choice shows what both of its sides show
shown-if : (b : Bool) (pal : Bool) (s t v : Vdp) → view_of pal s ≡ view_of pal v → view_of pal t ≡ view_of pal v → view_of pal (if b then s else t) ≡ view_of pal v
shown-if true pal s t v h k = h
shown-if false pal s t v h k = k

-- where no byte is left none is due
still : (cycle : ℕ) (s : Vdp) → s.left ≡ 0 → settled cycle s ≡ s
unfolding settled due writes
still cycle s none = rw none refl

-- reads of a port
pub read_shown : (port : VideoPort) (cycle : ℕ) (pal : Bool) (s : Vdp) → s.left ≡ 0 → view_of pal (port_read port cycle s) ≡ view_of pal s
unfolding port_read accessed status_read
read_shown Data cycle pal s none = ap (view_of pal) (still cycle s none)
read_shown Control cycle pal s none = ap (view_of pal) (still cycle s none)
read_shown Counter cycle pal s none = refl
read_shown Sound cycle pal s none = refl
read_shown Unused cycle pal s none = refl

-- an interrupt that is taken
pub acknowledged_shown : (level : ℕ) (pal : Bool) (s : Vdp) → view_of pal (acknowledged level s) ≡ view_of pal s
unfolding acknowledged
acknowledged_shown level pal s = shown-if (level == 6) pal _ _ s refl (shown-if (level == 4) pal _ _ s refl refl)

-- the event of a line but the first, which latches the height
raised-shown : (cycle number : ℕ) (pal : Bool) (s : Vdp) → view_of pal (raised cycle number s) ≡ view_of pal s
unfolding raised
raised-shown cycle number pal s = shown-if (number == height s.tall) pal _ _ s refl refl

counted-shown : (number : ℕ) (pal : Bool) (s : Vdp) → view_of pal (counted number s) ≡ view_of pal s
unfolding counted
counted-shown number pal s = shown-if (nat_lt number (height s.tall)) pal _ _ s (shown-if (s.line_counter == 0) pal _ _ s refl refl) refl

started-shown : (cycle : ℕ) (pal : Bool) (s : Vdp) → (line_of cycle s.pal == 0) ≡ false → view_of pal (line_started cycle s) ≡ view_of pal s
unfolding line_started heightened
started-shown cycle pal s later =
    let number = line_of cycle s.pal in
    rw later (raised-shown cycle number pal (counted number s) ∙ counted-shown number pal s)

pub line_shown : (cycle : ℕ) (note : SpriteNote) (pal : Bool) (s : Vdp) → s.left ≡ 0 → (line_of cycle s.pal == 0) ≡ false → view_of pal (line_begun cycle note s) ≡ view_of pal s
unfolding line_begun
line_shown cycle note pal s none later = rw (still cycle s none) (started-shown cycle pal (joined note s) later)

-- a buffer continues to fit where what is seen stays
pub fits_on : (fits on : Bool) (line_buffer : Option LineBufferValue) (v w : Vdp) → (on ≡ true → fits ≡ true) → (on ≡ true → (pal : Bool) → view_of pal w ≡ view_of pal v)
    → Fits fits line_buffer v → Fits on line_buffer w
fits_on fits on None v w keeps same h = λ yes. tt
fits_on fits on (Some s) v w keeps same h = λ yes. h (keeps yes) ∙ sym (same yes s.view.pal)
