-- That no access observes that a fill or copy was settled earlier, as in a state that is saved.
use Rattle.std.specs.Prelude.{◌≡◌, ℕ}
use Rattle.vdp_ports.specs.Vdp.{Vdp}
use Rattle.vdp_ports.specs.Control.{acknowledged}
use Rattle.vdp_ports.specs.Data.{transferred}
use Rattle.vdp_ports.specs.Pins.{HasSamePins}
use Rattle.vdp_dma.specs.Settling.{settled}
use Rattle.vdp_planes.specs.declared.view.SpriteNote.{SpriteNote}
use Rattle.bus_shared.specs.Video.{line_begun, port_read, port_transfer, port_word, port_written, word_cost}
use Rattle.bus_shared.specs.declared.port.VideoPort.{VideoPort}

-- each access at a cycle answers the same, and leaves the same VDP at that cycle
pub record SeesNoSettling (earlier cycle : ℕ) (vdp : Vdp) : Type 0 where
  pub word : (port : VideoPort) → port_word port cycle (settled earlier vdp) ≡ port_word port cycle vdp
  pub transfer : (port : VideoPort) (word : ℕ) → port_transfer port cycle word (settled earlier vdp) ≡ port_transfer port cycle word vdp
  pub cost : word_cost cycle (settled earlier vdp) ≡ word_cost cycle vdp
  pub pins : HasSamePins vdp (settled earlier vdp)
  pub after_read : (port : VideoPort) → settled cycle (port_read port cycle (settled earlier vdp)) ≡ settled cycle (port_read port cycle vdp)
  pub after_write : (port : VideoPort) (word : ℕ)
      → settled cycle (port_written port cycle word (settled earlier vdp)) ≡ settled cycle (port_written port cycle word vdp)
  pub after_word : (word : ℕ) → transferred word (settled cycle (settled earlier vdp)) ≡ transferred word (settled cycle vdp)
  pub after_acknowledge : (level : ℕ) → settled cycle (acknowledged level (settled earlier vdp)) ≡ settled cycle (acknowledged level vdp)
  pub after_line : (note : SpriteNote) → line_begun cycle note (settled earlier vdp) ≡ line_begun cycle note vdp
