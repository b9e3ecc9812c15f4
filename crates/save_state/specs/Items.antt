-- The items of a saved state: what its bytes keep of each, and where they fail, with the rules that
-- an item shares with those before it. This project's profile.
use Rattle.std.specs.Prelude.{◌≡◌, ◌≢◌, ℕ, ◌+◌, ◌<◌, ◌≤◌, ◌==◌, Bool, true, false, List, [], ◌∷◌, slice_index}
use Rattle.std.specs.Int.{w64}
use Rattle.md_fields.specs.Places.{number_at}
use Rattle.md_pads.specs.Recording.{Recorded}
use Rattle.m68k_chip.specs.Validity.{Chip68Value}
use Rattle.m68k_chip.specs.Spelling as main
use Rattle.z80_chip.specs.Validity.{Chip80Value}
use Rattle.z80_chip.specs.Spelling as sub
use Rattle.vdp_chip.specs.RendererState.{RendererState}
use Rattle.vdp_chip.specs.Spelling as renderer_state
use Rattle.fm_port.specs.Port.{Port}
use Rattle.fm_port.specs.PortSpelling as fm_port
use Rattle.fm_chip.specs.Synth as fm_synths
use Rattle.fm_chip.specs.SynthSpelling as fm
use Rattle.psg_sound.specs.PortSpelling as psg_port
use Rattle.psg_sound.specs.Synth as psg_synths
use Rattle.psg_sound.specs.SynthSpelling as psg
use Rattle.psg_sound.specs.declared.write.PsgWrite.{PsgWrite}
use Rattle.bus_shared.specs.Board.{Board}
use Rattle.bus_shared.specs.Spelling as shared
use Rattle.md_chips.specs.Starts.{first_batch}
use Rattle.save_state.specs.Joining.{FailsIn}
use Rattle.save_state.specs.Layout.{part_of, gathered, sub_parts, shared_parts, at_part, region_part, main_part, sub_part, holder_part, renderer_state_part, fm_port_part, fm_next_part, fm_part, psg_next_part, psg_port_part, psg_part, board_part}
use Rattle.save_state.specs.States.{is_holder, are_fm_early, are_psg_early}

-- ---- numbers of the bytes that several items look at

-- the cycle
abbrev pub at_of : List ℕ → ℕ
at_of bytes = number_at w64 at_part.place bytes

-- the region, whether it is PAL
abbrev pub region_of : List ℕ → Bool
region_of bytes = slice_index bytes region_part.place == 1

-- the next event of the 68000, with which its part begins
abbrev pub main_next : List ℕ → ℕ
main_next bytes = number_at w64 main_part.place bytes

-- the next event of the Z80, with which its part begins
abbrev pub sub_next : List ℕ → ℕ
sub_next bytes = number_at w64 sub_part.place bytes

-- the number of the Z80's stage
abbrev pub stage_of : List ℕ → ℕ
stage_of bytes = slice_index bytes (sub_part.place + 8)

-- how many resets the Z80 has seen
abbrev pub seen_resets : List ℕ → ℕ
seen_resets bytes = number_at w64 (sub_part.place + 48) bytes

-- who has the Z80's RAM
abbrev pub holder_in : List ℕ → ℕ
holder_in bytes = slice_index bytes holder_part.place

-- where the count of the resets that were written is
abbrev pub resets_place : ℕ
resets_place = board_part.place + 2

-- how many resets were written
abbrev pub resets_of : List ℕ → ℕ
resets_of bytes = number_at w64 resets_place bytes

-- where the count of the FM port's writes is
abbrev pub fm_writes_place : ℕ
fm_writes_place = fm_port_part.place + fm_port.count_offset

-- ---- the 68000

-- the bytes that keep the 68000
abbrev pub main_bytes : List ℕ → List ℕ
main_bytes bytes = part_of main_part bytes

-- they keep this 68000, of this cartridge
pub record IsMain (cart bytes : List ℕ) (chip : Chip68Value) : Type 0 where
  pub image : chip.cart ≡ cart
  pub spells : main.Spells cart (at_of bytes) (main_bytes bytes) chip.state

-- they keep no 68000, and fail at this offset of the state
abbrev pub MainFails : List ℕ → List ℕ → ℕ → Type 0
MainFails cart bytes place = FailsIn (main_part ∷ []) (main.InvalidAt cart (at_of bytes) (main_bytes bytes)) place

-- ---- the Z80, with its RAM where the holder is 0

-- the bytes that keep the Z80
abbrev pub sub_bytes : List ℕ → List ℕ
sub_bytes bytes = gathered (sub_parts (holder_in bytes == 0)) bytes

-- they keep this Z80, of this cartridge, and RAM is where its stage has it
pub record IsSub (cart bytes : List ℕ) (chip : Chip80Value) : Type 0 where
  pub image : chip.cart ≡ cart
  pub spells : sub.Spells cart (at_of bytes) (sub_bytes bytes) chip.state
  pub holder : is_holder (holder_in bytes) (stage_of bytes) ≡ true

-- they keep no Z80, or RAM is elsewhere, and fail at this offset of the state
pub data SubFails (cart bytes : List ℕ) (place : ℕ) : Type 0 where
  chip_fails : FailsIn (sub_parts (holder_in bytes == 0)) (sub.InvalidAt cart (at_of bytes) (sub_bytes bytes)) place → SubFails cart bytes place
  holder_fails : place ≡ holder_part.place → is_holder (holder_in bytes) (stage_of bytes) ≡ false → SubFails cart bytes place

-- ---- the board, with the Z80's RAM where the holder is 1

-- the bytes that keep the board
abbrev pub shared_bytes : List ℕ → List ℕ
shared_bytes bytes = gathered (shared_parts (holder_in bytes == 1)) bytes

-- they keep this board, of this recording, and the Z80 has seen no more resets than were written
pub record IsShared (recording : Recorded) (bytes : List ℕ) (board : Board) : Type 0 where
  pub pads : board.recording ≡ recording
  pub spells : shared.Spells (at_of bytes) (region_of bytes) (shared_bytes bytes) board
  pub resets : seen_resets bytes ≤ resets_of bytes

-- they keep no board, or fewer resets than were seen, and fail at this offset of the state
pub data SharedFails (bytes : List ℕ) (place : ℕ) : Type 0 where
  board_fails : FailsIn (shared_parts (holder_in bytes == 1)) (shared.InvalidAt (at_of bytes) (region_of bytes) (shared_bytes bytes)) place → SharedFails bytes place
  resets_fail : place ≡ resets_place → resets_of bytes < seen_resets bytes → SharedFails bytes place

-- ---- the VDP renderer

-- the bytes that keep the renderer
abbrev pub renderer_state_bytes : List ℕ → List ℕ
renderer_state_bytes bytes = part_of renderer_state_part bytes

-- they keep this renderer
abbrev pub IsPicture : List ℕ → RendererState → Type 0
IsPicture bytes d = renderer_state.Spells (at_of bytes) (region_of bytes) (renderer_state_bytes bytes) d

-- they keep no renderer, and fail at this offset of the state
abbrev pub RendererStateFails : List ℕ → ℕ → Type 0
RendererStateFails bytes place = FailsIn (renderer_state_part ∷ []) (renderer_state.InvalidAt (at_of bytes) (region_of bytes) (renderer_state_bytes bytes)) place

-- ---- the FM chip: its synthesis, its next batch, and the writes that its port holds

-- the port that the bytes keep holds a write too near to the next event of its processor
pub record HasLateFm (bytes : List ℕ) : Type 0 where
  pub port : Port
  pub spells : fm_port.SpellsPort (at_of bytes) (part_of fm_port_part bytes) port
  pub late : are_fm_early (main_next bytes) (sub_next bytes) port ≡ false

-- the bytes keep this synthesis, its next batch is the first from the cycle on, and no write is
-- late
pub record IsFm (bytes : List ℕ) (synth : fm_synths.Synth) : Type 0 where
  pub spells : fm.SpellsSynth (part_of fm_part bytes) synth
  pub next : number_at w64 fm_next_part.place bytes ≡ first_batch (at_of bytes)
  pub writes : ¬ HasLateFm bytes

-- synthesis, next batch or writes fail at this offset of the state
pub data FmFails (bytes : List ℕ) (place : ℕ) : Type 0 where
  synth_fails : FailsIn (fm_part ∷ []) (fm.SynthInvalidAt (part_of fm_part bytes)) place → FmFails bytes place
  next_fails : place ≡ fm_next_part.place → number_at w64 fm_next_part.place bytes ≢ first_batch (at_of bytes) → FmFails bytes place
  writes_fail : place ≡ fm_writes_place → HasLateFm bytes → FmFails bytes place

-- ---- the PSG alike

-- the port that the bytes keep holds a write too near to the next event of its processor
pub record HasLatePsg (bytes : List ℕ) : Type 0 where
  pub port : List PsgWrite
  pub spells : psg_port.SpellsPort (at_of bytes) (part_of psg_port_part bytes) port
  pub late : are_psg_early (main_next bytes) (sub_next bytes) port ≡ false

-- the bytes keep this synthesis, its next batch is the first from the cycle on, and no write is
-- late
pub record IsPsg (bytes : List ℕ) (synth : psg_synths.Synth) : Type 0 where
  pub spells : psg.SpellsSynth (part_of psg_part bytes) synth
  pub next : number_at w64 psg_next_part.place bytes ≡ first_batch (at_of bytes)
  pub writes : ¬ HasLatePsg bytes

-- synthesis, next batch or writes fail at this offset of the state
pub data PsgFails (bytes : List ℕ) (place : ℕ) : Type 0 where
  psg_synth_fails : FailsIn (psg_part ∷ []) (psg.SynthInvalidAt (part_of psg_part bytes)) place → PsgFails bytes place
  psg_next_fails : place ≡ psg_next_part.place → number_at w64 psg_next_part.place bytes ≢ first_batch (at_of bytes) → PsgFails bytes place
  psg_writes_fail : place ≡ psg_port_part.place → HasLatePsg bytes → PsgFails bytes place
