-- The bytes of a saved state that keep the board: the Z80's RAM and its bank register where the bus has
-- them, the VDP, the FM chip's port, the writes that the PSG's port holds, and the lines and the pads.
-- The recording has no part in them. This project's profile.
use Rattle.std.specs.Prelude.{◌≡◌, ◌≢◌, ◌⊎◌, ℕ, ◌+◌, ◌-◌, ◌<◌, ◌≤◌, min, Bool, true, false, List, ◌++◌, length, map, take, drop, Option, IfSome}
use Rattle.std.specs.Int.{w16}
use Rattle.fm_port.specs.PortSpelling as fm_spelling
use Rattle.fm_port.specs.Timed.{AreTimed}
use Rattle.md_fields.specs.Fields.{spelling}
use Rattle.md_fields.specs.Items.{IsRefused, IsRight, Keeps}
use Rattle.md_fields.specs.Places.{number_at}
use Rattle.md_pads.specs.Pad.{Port}
use Rattle.md_pads.specs.Recording.{IsFrame}
use Rattle.md_word.specs.declared.unspell.Unspell.{Unspell}
use Rattle.md_word.specs.declared.unspell.Unspell.TheVariants.{Rule, NoMemory}
use Rattle.psg_sound.specs.PortSpelling as psg_spelling
use Rattle.sound_writes.specs.Keys.{are_kept}
use Rattle.vdp_dma.specs.Settling.{settled}
use Rattle.vdp_ports.specs.Rules.{HasRules}
use Rattle.vdp_ports.specs.Spelling as vdp_spelling
use Rattle.vdp_ports.specs.Spelling.{vdp_size}
use Rattle.z80_parcel.specs.Parcels.{IsStore, Store, ram_size}
use Rattle.z80_parcel.specs.Spelling.{store_fields}
use Rattle.bus_shared.specs.Board.{Board}
use Rattle.bus_shared.specs.Saved.{lines_fields, lines_of}
use Rattle.bus_shared.specs.declared.saved_lines.SavedLines.{SavedLines}
use Rattle.fm_port.specs.PortSpelling.{port_size as fm_size}
use Rattle.psg_sound.specs.PortSpelling.{port_size as psg_size}

-- the board with the bytes of fill and copy, and the overflows of the timers, made that are below a
-- cycle, as it is kept
abbrev pub settled_board : ℕ → Board → Board
settled_board at board = record board { vdp = settled at board.vdp; fm = fm_spelling.settled_port at board.fm }

-- how many bytes keep RAM and bank register, by whether the bus has them
abbrev pub store_size : Bool → ℕ
store_size false = 0
store_size true = ram_size + 2

-- how many bytes keep the lines and the pads
abbrev pub lines_size : ℕ
lines_size = 36

-- the offset of the lines in what follows the VDP: the two ports are before them
abbrev pub lines_offset : ℕ
lines_offset = fm_size + psg_size

-- how many bytes follow the VDP
abbrev pub ports_size : ℕ
ports_size = lines_offset + lines_size

-- how many bytes keep a board, by whether it has RAM and bank register
abbrev pub board_size : Bool → ℕ
board_size false = vdp_size + ports_size
board_size true = store_size true + (vdp_size + ports_size)

-- the bytes that keep RAM and bank register, where the bus has them
abbrev pub store_bytes : Option Store → List ℕ
store_bytes store = spelling (store_fields true store)

-- the bytes that keep lines and pads
abbrev pub lines_bytes : SavedLines → List ℕ
lines_bytes lines = spelling (lines_fields 0 lines)

-- the bytes that keep a board; the rules, and so the cycle and the region, have no part in them
abbrev pub board_bytes : Board → List ℕ
board_bytes board =
    store_bytes board.store
    ++ (vdp_spelling.vdp_bytes board.vdp
    ++ (fm_spelling.port_bytes board.fm ++ (psg_spelling.port_bytes board.psg ++ lines_bytes (lines_of board))))

-- the bytes of a state at a cycle and of a region keep the board, whose rules hold part by part
pub record Spells (at : ℕ) (pal : Bool) (bytes : List ℕ) (board : Board) : Type 0 where
  pub all : bytes ≡ board_bytes board
  pub store : IfSome board.store IsStore
  pub vdp : vdp_spelling.Spells at pal (vdp_spelling.vdp_bytes board.vdp) board.vdp
  pub fm : fm_spelling.SpellsPort at (fm_spelling.port_bytes board.fm) board.fm
  pub psg : psg_spelling.SpellsPort at (psg_spelling.port_bytes board.psg) board.psg
  pub lines : Keeps (lines_fields at) (lines_bytes (lines_of board)) (lines_of board)
  pub right : IsRight (lines_fields at) (lines_of board)

-- the falls of TH that a pad counted were before a cycle, where it counted some
pub record IsCounted (at : ℕ) (port : Port) : Type 0 where
  pub none : port.count ≡ 0 → port.fall ≡ 0
  pub some : port.count ≢ 0 → port.fall < at

-- a board may be kept at a cycle. The VDP, the timers and the writes that the ports of the sound chips hold
-- have their rules. No more resets were written than cycles went by, a pad has at most twelve buttons, and
-- the falls of TH that it counted were before
pub record IsReady (at : ℕ) (board : Board) : Type 0 where
  pub vdp : HasRules at board.vdp
  pub timers : AreTimed at board.fm.timers
  pub fm : fm_spelling.are_right at (map fm_spelling.saved_write_of board.fm.writes) ≡ true
  pub psg : are_kept at (map psg_spelling.key_of board.psg) ≡ true
  pub resets : board.resets ≤ at
  pub pads : IsFrame board.pads
  pub falls1 : IsCounted at board.port1
  pub falls2 : IsCounted at board.port2

-- ---- bytes that keep no board

-- bytes cut into the parts of a board: what is too much for the others is RAM and bank register
pub record Parts : Type 0 where
  pub store : List ℕ
  pub vdp : List ℕ
  pub fm : List ℕ
  pub psg : List ℕ
  pub lines : List ℕ

-- how many bytes are too much for the other parts
abbrev pub store_length : List ℕ → ℕ
store_length bytes = length bytes - board_size false

-- bytes as the parts in their order
abbrev pub cut : List ℕ → Parts
cut bytes =
    let following = drop (store_length bytes) bytes in
    record {
      store = take (store_length bytes) bytes;
      vdp = take vdp_size following;
      fm = take fm_size (drop vdp_size following);
      psg = take psg_size (drop fm_size (drop vdp_size following));
      lines = drop psg_size (drop fm_size (drop vdp_size following));
    }

-- the offset of a refusal in what follows a start
abbrev pub following : ℕ → Unspell → Unspell
following start (Rule place) = Rule (start + place)
following start NoMemory = NoMemory

-- a bank register has nine bits
abbrev pub StoreInvalidAt : List ℕ → ℕ → Type 0
StoreInvalidAt bytes place = (0 < length bytes) × (512 ≤ number_at w16 ram_size bytes) × (place ≡ ram_size)

-- bytes that keep no lines and pads are invalid at this offset
abbrev pub LinesInvalidAt : ℕ → List ℕ → ℕ → Type 0
LinesInvalidAt at bytes place = IsRefused lines_size (lines_fields at) bytes place

-- a part that begins at a place is invalid, or it is invalid nowhere and what follows it is
abbrev pub InvalidFrom : ℕ → (ℕ → Type 0) → (ℕ → Type 0) → ℕ → Type 0
InvalidFrom start Invalid Following place =
    ((p : ℕ) × Invalid p × (place ≡ start + p)) ⊎ (((p : ℕ) → Invalid p → ⊥) × Following place)

-- the offset of the first of the two ports and the lines, which begin at a place, that is invalid
abbrev pub PortsInvalidAt : ℕ → ℕ → List ℕ → List ℕ → List ℕ → ℕ → Type 0
PortsInvalidAt at start fm psg lines =
    InvalidFrom start (fm_spelling.PortInvalidAt at fm)
    (InvalidFrom (start + fm_size) (psg_spelling.PortInvalidAt at psg)
    (InvalidFrom (start + lines_offset) (LinesInvalidAt at lines) (λ place. ⊥)))

-- the same of all parts, where RAM and bank register have so many bytes
abbrev pub PartsInvalidAt : ℕ → Bool → ℕ → Parts → ℕ → Type 0
PartsInvalidAt at pal start parts =
    InvalidFrom 0 (StoreInvalidAt parts.store)
    (InvalidFrom start (vdp_spelling.InvalidAt at pal parts.vdp)
    (PortsInvalidAt at (start + vdp_size) parts.fm parts.psg parts.lines))

-- as many bytes as there can be
abbrev pub IsLength : List ℕ → Type 0
IsLength bytes = (length bytes ≡ board_size false) ⊎ (length bytes ≡ board_size true)

-- bytes of a state at a cycle and of a region that keep no board are invalid at this offset: by their
-- length, at the lesser one, or by the first part that is invalid
abbrev pub InvalidAt : ℕ → Bool → List ℕ → ℕ → Type 0
InvalidAt at pal bytes place =
    ((IsLength bytes → ⊥) × (place ≡ min (length bytes) (board_size true)))
    ⊎ (IsLength bytes × PartsInvalidAt at pal (store_length bytes) (cut bytes) place)
