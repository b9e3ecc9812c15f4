-- The parts of the machine as contracts see them.
use Rattle.std.specs.Prelude.{◌≡◌, ℕ, ℤ, ◌≤◌, not, List, length, Option, is_some}
use Rattle.md_word.specs.declared.main_bus.Answer68.{Answer68}
use Rattle.m68k_chip.specs.Validity.{Chip68Value, IsChip68}
use Rattle.z80_chip.specs.Validity.{Chip80Value, IsChip80}
use Rattle.z80_parcel.specs.Requests.{AnswerValue80}
use Rattle.vdp_planes.specs.declared.view.LineView.{LineView}
use Rattle.vdp_chip.specs.RendererState.{RendererState, IsRendererState}
use Rattle.fm_chip.specs.Synth as fm_synths
use Rattle.fm_port.specs.declared.write.FmWrite.{FmWrite}
use Rattle.psg_sound.specs.Synth.{Synth, IsSynth}
use Rattle.psg_sound.specs.declared.write.PsgWrite.{PsgWrite}

-- the 68000, and the answer that it keeps between the two halves of an access
pub record MainValue : Type 0 where
  pub chip : Chip68Value
  pub answer : Option Answer68

-- what holds of the 68000
abbrev pub IsMain : MainValue → Type 0
IsMain c = IsChip68 c.chip

-- the Z80, and what was reported to it between the two halves of an access
pub record SubValue : Type 0 where
  pub chip : Chip80Value
  pub answer : Option AnswerValue80

-- what holds of the Z80
abbrev pub IsSub : SubValue → Type 0
IsSub c = IsChip80 c.chip

-- the drawing half of the VDP, and the view that the board filled for it between the two halves of an
-- access
pub record RendererValue : Type 0 where
  pub chip : RendererState
  pub view : Option LineView

-- what holds of it: the view is in one of the two places
pub record IsRenderer (c : RendererValue) : Type 0 where
  pub chip : IsRendererState c.chip
  pub view : c.chip.has_view ≡ not (is_some c.view)

-- the FM synthesis, the cycle of its next batch, the writes that it took for it, and its samples
pub record FmValue : Type 0 where
  pub synth : fm_synths.Synth
  pub cycle : ℕ
  pub taken : List FmWrite
  pub samples : List (ℤ × ℤ)

-- what holds of the FM synthesis: the most that it takes and keeps
pub record IsFm (c : FmValue) : Type 0 where
  pub taken : length c.taken ≤ 1024
  pub samples : length c.samples ≤ 1072

-- the PSG's synthesis, the cycle of its next batch, the writes that it took for it, and its samples
pub record PsgValue : Type 0 where
  pub synth : Synth
  pub cycle : ℕ
  pub taken : List PsgWrite
  pub samples : List ℤ

-- what holds of the sound generator: its ranges, and the most that it keeps
pub record IsPsg (c : PsgValue) : Type 0 where
  pub synth : IsSynth c.synth
  pub taken : length c.taken ≤ 1024
  pub samples : length c.samples ≤ 1072
