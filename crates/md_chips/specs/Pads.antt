-- The buttons that the pads show during a run.
use Rattle.std.specs.Prelude.{◌≡◌, ℕ, ◌+◌, ◌-◌, ◌*◌, ◌/◌, nat_le, if◌then◌else◌, Bool}
use Rattle.md_word.specs.Region.{lines, rows}
use Rattle.md_pads.specs.Recording.{Frame, pads_of, Recorded}
use Rattle.md_word.specs.Clock.{line}
use Rattle.md_chips.specs.Console.{Console}

-- how many lines have begun, of all frames
abbrev pub lines_begun : Console → ℕ
lines_begun z = z.line / line

-- the words of the pads after so many lines have begun: none is pressed before the line after the
-- picture of the first frame. From then on they are the recording's words of the frame of which that
-- line began last
abbrev pub pads_shown : Bool → Recorded → ℕ → Frame
pads_shown pal recording begun = if nat_le begun (rows pal) then (0, 0) else pads_of recording ((begun - (rows pal + 1)) / lines pal)

-- what holds of the pads in a region
pub record ShowsPads (pal : Bool) (recording : Recorded) (z : Console) : Type 0 where
  pub region : z.shared.vdp.pal ≡ pal
  pub recording_is : z.shared.recording ≡ recording
  pub lines : z.line ≡ line * lines_begun z
  pub pads : z.shared.pads ≡ pads_shown pal recording (lines_begun z)
