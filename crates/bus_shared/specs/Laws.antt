-- What each chip's accesses leave as it was.
use Rattle.std.specs.Prelude.{◌≡◌, ◌≢◌, ◌⊎◌, ℕ, ◌%◌, ◌^◌, ◌<◌, ◌≤◌, Some, IfSome}
use Rattle.md_word.specs.Map.{area_of}
use Rattle.md_word.specs.declared.area.Area.TheVariants.{BusRequest, VideoPorts, Z80Reset, Z80Space}
use Rattle.md_word.specs.declared.key.Key.{Key}
use Rattle.md_word.specs.declared.main_bus.Request68.{Request68}
use Rattle.md_word.specs.declared.main_bus.Request68.TheVariants.{Read8, Read16, Word, Write8, Write16}
use Rattle.md_word.specs.declared.main_bus.Transfer.{Transfer}
use Rattle.bus_shared.specs.Accesses.{carried, chip_of, line_board, main_board, main_cost, main_pins, main_transfer, main_value, psg_board, sub_access, sub_pins}
use Rattle.vdp_planes.specs.declared.view.SpriteNote.{SpriteNote}
use Rattle.z80_parcel.specs.Requests.{RequestValue80}
use Rattle.bus_shared.specs.Board.{Board, IsBoard}
use Rattle.bus_shared.specs.Fm.{fm_board}
use Rattle.bus_shared.specs.declared.request.Request.{Request}

-- a board with the VDP and the FM chip's timers of another: what reads change
abbrev pub looked_at : Board → Board → Board
looked_at board other = record board { vdp = other.vdp; fm = record board.fm { timers = other.fm.timers } }

-- the 68000 changes neither the recording, the buttons nor the region; where it reads it changes nothing but the
-- VDP and the FM chip's timers. A read beside the VDP's ports and the Z80's space changes nothing at all
pub record MainLeaves (board : Board) (key : Key) : Type 0 where
  pub recording : (request : Request68) → (main_board board key request).recording ≡ board.recording
  pub pads : (request : Request68) → (main_board board key request).pads ≡ board.pads
  pub region : (request : Request68) → (main_board board key request).vdp.pal ≡ board.vdp.pal
  pub byte_read : (address : ℕ) → looked_at (main_board board key (Read8 address)) board ≡ board
  pub word_read : (address : ℕ) → looked_at (main_board board key (Read16 address)) board ≡ board
  pub byte_beside : (address : ℕ) → area_of address ≢ Some VideoPorts → area_of address ≢ Some Z80Space
      → main_board board key (Read8 address) ≡ board
  pub word_beside : (address : ℕ) → area_of address ≢ Some VideoPorts → area_of address ≢ Some Z80Space
      → main_board board key (Read16 address) ≡ board

-- the Z80 changes neither the recording, the buttons and the pads' latches, nor its own lines and the VDP
pub record SubLeaves (board : Board) (key : Key) (asks : RequestValue80) : Type 0 where
  pub recording : (sub_access board key asks).board.recording ≡ board.recording
  pub pads : (sub_access board key asks).board.pads ≡ board.pads
  pub port1 : (sub_access board key asks).board.port1 ≡ board.port1
  pub port2 : (sub_access board key asks).board.port2 ≡ board.port2
  pub request : (sub_access board key asks).board.request ≡ board.request
  pub reset : (sub_access board key asks).board.reset ≡ board.reset
  pub resets : (sub_access board key asks).board.resets ≡ board.resets
  pub vdp : (sub_access board key asks).board.vdp ≡ board.vdp

-- a line changes the buttons and the VDP alone, of which the region stays
pub record LineLeaves (board : Board) (cycle : ℕ) (note : SpriteNote) : Type 0 where
  pub recording : (line_board board cycle note).recording ≡ board.recording
  pub port1 : (line_board board cycle note).port1 ≡ board.port1
  pub port2 : (line_board board cycle note).port2 ≡ board.port2
  pub psg : (line_board board cycle note).psg ≡ board.psg
  pub fm : (line_board board cycle note).fm ≡ board.fm
  pub request : (line_board board cycle note).request ≡ board.request
  pub reset : (line_board board cycle note).reset ≡ board.reset
  pub resets : (line_board board cycle note).resets ≡ board.resets
  pub store : (line_board board cycle note).store ≡ board.store
  pub region : (line_board board cycle note).vdp.pal ≡ board.vdp.pal

-- a batch of the PSG changes what its port holds alone
pub record BatchLeaves (board : Board) (cycle : ℕ) : Type 0 where
  pub recording : (psg_board board cycle).recording ≡ board.recording
  pub pads : (psg_board board cycle).pads ≡ board.pads
  pub port1 : (psg_board board cycle).port1 ≡ board.port1
  pub port2 : (psg_board board cycle).port2 ≡ board.port2
  pub vdp : (psg_board board cycle).vdp ≡ board.vdp
  pub fm : (psg_board board cycle).fm ≡ board.fm

-- a batch of the FM synthesis changes what its port holds alone
abbrev pub FmBatchLeaves : Board → ℕ → Type 0
FmBatchLeaves board cycle =
    fm_board board cycle ≡ record board { fm = record board.fm { writes = (fm_board board cycle).fm.writes } }

-- the pins of both processors stay
pub record LeavesPins (old new : Board) : Type 0 where
  pub main : main_pins new ≡ main_pins old
  pub sub : sub_pins new ≡ sub_pins old

-- an access of the 68000 that writes neither the Z80's bus request nor its reset
abbrev pub IsBesideLines : Request68 → Type 0
IsBesideLines (Write8 address value) = (area_of address ≢ Some BusRequest) × (area_of address ≢ Some Z80Reset)
IsBesideLines (Write16 address value) = (area_of address ≢ Some BusRequest) × (area_of address ≢ Some Z80Reset)
IsBesideLines request = Unit {0}

-- the pins are written by the 68000 and by lines alone
abbrev pub WritersLaw : Board → Key → Request → Type 0
WritersLaw board key request = chip_of request ≢ 0 → chip_of request ≢ 2 → LeavesPins board (carried board key request).board

-- what a word of a transfer costs: 34 or 380 cycles
abbrev pub IsWordCost : ℕ → Type 0
IsWordCost cost = (cost ≡ 34) ⊎ (cost ≡ 380)

-- a transfer that a write starts: its words, and an even address on the bus
pub record IsTransfer (transfer : Transfer) : Type 0 where
  pub some : 1 ≤ transfer.words
  pub most : transfer.words ≤ 0x1_0000
  pub even : transfer.source % 2 ≡ 0
  pub on_bus : transfer.source < 2 ^ 24
  pub cost : IsWordCost transfer.cost

-- what the 68000 is answered: a byte, a word, a transfer, and what a word of one costs
pub record ReportsMain (board : Board) (key : Key) : Type 0 where
  pub byte : (address : ℕ) → main_value board key (Read8 address) < 0x100
  pub word : (address : ℕ) → main_value board key (Read16 address) < 0x1_0000
  pub transfer : (request : Request68) → IfSome (main_transfer board key request) IsTransfer
  pub cost : (word : ℕ) → IsWordCost (main_cost board key (Word word))

-- what an access leaves is a board
pub record StaysBoard (board : Board) (key : Key) : Type 0 where
  pub main : (request : Request68) → key.chip < 2 → IsBoard (main_board board key request)
  pub line : (cycle : ℕ) (note : SpriteNote) → IsBoard (line_board board cycle note)
  pub batch : (cycle : ℕ) → IsBoard (psg_board board cycle)
  pub fm_batch : (cycle : ℕ) → IsBoard (fm_board board cycle)
