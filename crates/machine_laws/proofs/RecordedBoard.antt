-- What an access reports, and what it leaves, where the recording is another.
use Rattle.std.proofs.Common.{◌≡◌, ◌∙◌, refl, sym, ap, ℕ, ◌*◌, ◌/◌, ◌%◌, ◌==◌, Bool, true, false, if◌then◌else◌, List, Option, Some, None}
use Rattle.md_word.specs.Region.{finished_at, frame_cycles}
use Rattle.md_word.specs.Map.{area_of}
use Rattle.md_word.specs.declared.area.Area.{Area}
use Rattle.md_word.specs.declared.area.Area.TheVariants.{Z80Space, InputOutput, BusRequest, Z80Reset, VideoPorts}
use Rattle.md_word.specs.declared.key.Key.{Key}
use Rattle.md_word.specs.declared.main_bus.Request68.{Request68}
use Rattle.md_word.specs.declared.main_bus.Request68.TheVariants.{Read8, Read16, Write8, Write16, Ack, Word}
use Rattle.md_pads.specs.Recording.{Frame}
use Rattle.vdp_planes.specs.declared.view.SpriteNote.{SpriteNote}
use Rattle.z80_parcel.specs.Parcels.{Store}
use Rattle.z80_parcel.specs.Requests.{RequestValue80, ReadByte, WriteByte, HandOver, TakeBack}
use Rattle.vdp_ports.specs.Vdp.{Vdp}
use Rattle.bus_shared.proofs.Touches.{left_by_line}
use Rattle.bus_shared.specs.Accesses.{SubOutcome, line_board, main_answer, main_board, main_cost, main_reported, main_transfer, main_value, pads_board, psg_board, sub_access, taken_back, video_started, yielded}
use Rattle.bus_shared.specs.Areas.{byte_at, byte_in, byte_written_at, byte_written_in, read_at, read_in, transfer_at, transfer_in, word_at, word_in, word_written_at, word_written_in}
use Rattle.bus_shared.specs.Board.{Board}
use Rattle.bus_shared.specs.Entries.{main_entry}
use Rattle.bus_shared.specs.Fm.{fm_board, is_fm}
use Rattle.bus_shared.specs.Lines.{reset_written}
use Rattle.bus_shared.specs.Registers.{register_at, register_read, register_written}
use Rattle.bus_shared.specs.Video.{both_halves, line_begun, port_at, video_byte_written, video_word_written}
use Rattle.bus_shared.specs.Z80Space.{granted, is_psg80, space_byte, space_read, space_written, z80_address}
use Rattle.bus_shared.specs.declared.port.VideoPort.{VideoPort}
use Rattle.bus_shared.specs.declared.port.VideoPort.TheVariants.{Data, Control, Counter, Sound, Unused as NoPort}
use Rattle.bus_shared.specs.declared.register.Register.{Register}
use Rattle.bus_shared.specs.declared.register.Register.TheVariants.{Version, Data1, Data2, DataExpansion, Control1, Control2, Unused}
use Rattle.machine_laws.specs.Recorded.{board_with, frame_at}

-- a choice between two boards
if-boards : (s : List Frame) (b : Bool) (p q x y : Board) → board_with s p ≡ x → board_with s q ≡ y → board_with s (if b then p else q) ≡ (if b then x else y)
if-boards s true p q x y first second = first
if-boards s false p q x y first second = second

-- ---- the 68000: what is reported to it

space-byte : (s : List Frame) (c at : ℕ) (store : Option Store) (b : Board) → space_byte store (board_with s b) c at ≡ space_byte store b c at
space-byte s c at None b = refl
space-byte s c at (Some store) b = refl

register-is : (s : List Frame) (b : Board) (cycle : ℕ) (register : Register) → register_read (board_with s b) cycle register ≡ register_read b cycle register
unfolding register_read
register-is s b cycle Version = refl
register-is s b cycle Data1 = refl
register-is s b cycle Data2 = refl
register-is s b cycle DataExpansion = refl
register-is s b cycle Control1 = refl
register-is s b cycle Control2 = refl
register-is s b cycle Unused = refl

byte-is : (s : List Frame) (area : Option Area) (b : Board) (key : Key) (address : ℕ) → byte_at area (board_with s b) key address ≡ byte_at area b key address
unfolding byte_in
byte-is s None b key address = refl
byte-is s (Some Z80Space) b key address = space-byte s key.cycle (z80_address address) (granted b.request b.store) b
byte-is s (Some InputOutput) b key address = register-is s b key.cycle (register_at address)
byte-is s (Some BusRequest) b key address = refl
byte-is s (Some Z80Reset) b key address = refl
byte-is s (Some VideoPorts) b key address = refl

word-is : (s : List Frame) (area : Option Area) (b : Board) (key : Key) (address : ℕ) → word_at area (board_with s b) key address ≡ word_at area b key address
unfolding word_in
word-is s None b key address = refl
word-is s (Some Z80Space) b key address = ap (λ (n : ℕ). n * 0x101) (space-byte s key.cycle (z80_address address) (granted b.request b.store) b)
word-is s (Some InputOutput) b key address = ap (λ (n : ℕ). n * 0x101) (register-is s b key.cycle (register_at address))
word-is s (Some BusRequest) b key address = refl
word-is s (Some Z80Reset) b key address = refl
word-is s (Some VideoPorts) b key address = refl

transfer-is : (s : List Frame) (area : Option Area) (b : Board) (key : Key) (address word : ℕ) → transfer_at area (board_with s b) key address word ≡ transfer_at area b key address word
unfolding transfer_in
transfer-is s None b key address word = refl
transfer-is s (Some Z80Space) b key address word = refl
transfer-is s (Some InputOutput) b key address word = refl
transfer-is s (Some BusRequest) b key address word = refl
transfer-is s (Some Z80Reset) b key address word = refl
transfer-is s (Some VideoPorts) b key address word = refl

value-is : (s : List Frame) (b : Board) (key : Key) (request : Request68) → main_value (board_with s b) key request ≡ main_value b key request
unfolding main_value
value-is s b key (Read8 address) = byte-is s (area_of address) b key address
value-is s b key (Read16 address) = word-is s (area_of address) b key address
value-is s b key (Write8 address value) = refl
value-is s b key (Write16 address value) = refl
value-is s b key (Ack level) = refl
value-is s b key (Word value) = refl

started-is : (s : List Frame) (b : Board) (key : Key) (request : Request68) → main_transfer (board_with s b) key request ≡ main_transfer b key request
unfolding main_transfer
started-is s b key (Read8 address) = refl
started-is s b key (Read16 address) = refl
started-is s b key (Write8 address value) = transfer-is s (area_of address) b key address (both_halves value)
started-is s b key (Write16 address value) = transfer-is s (area_of address) b key address value
started-is s b key (Ack level) = refl
started-is s b key (Word value) = refl

cost-is : (s : List Frame) (b : Board) (key : Key) (request : Request68) → main_cost (board_with s b) key request ≡ main_cost b key request
unfolding main_cost
cost-is s b key (Read8 address) = refl
cost-is s b key (Read16 address) = refl
cost-is s b key (Write8 address value) = refl
cost-is s b key (Write16 address value) = refl
cost-is s b key (Ack level) = refl
cost-is s b key (Word value) = refl

pub answer-is : (s : List Frame) (b : Board) (key : Key) (request : Request68) → main_answer (board_with s b) key request ≡ main_answer b key request
unfolding main_answer
answer-is s b key request =
    λ i. record { value = value-is s b key request i; transfer = started-is s b key request i; cost = cost-is s b key request i }

pub reported-is : (s : List Frame) (b : Board) (key : Key) (request : Request68) → main_reported (board_with s b) key request ≡ main_reported b key request
unfolding main_reported
reported-is s b key request = ap (λ (value : ℕ). main_entry key request value b.vdp.a) (value-is s b key request)

-- ---- the 68000: what it leaves

space-read : (s : List Frame) (store : Option Store) (b : Board) (c at : ℕ) → board_with s (space_read store b c at) ≡ space_read store (board_with s b) c at
space-read s None b c at = refl
space-read s (Some store) b c at = if-boards s (is_fm at) _ _ _ _ refl refl

read-with : (s : List Frame) (area : Option Area) (b : Board) (key : Key) (address : ℕ) → board_with s (read_at area b key address) ≡ read_at area (board_with s b) key address
unfolding read_in
read-with s None b key address = refl
read-with s (Some Z80Space) b key address = space-read s (granted b.request b.store) b key.cycle (z80_address address)
read-with s (Some InputOutput) b key address = refl
read-with s (Some BusRequest) b key address = refl
read-with s (Some Z80Reset) b key address = refl
read-with s (Some VideoPorts) b key address = refl

space-written : (s : List Frame) (store : Option Store) (b : Board) (key : Key) (at value : ℕ) → board_with s (space_written store b key at value) ≡ space_written store (board_with s b) key at value
space-written s None b key at value = refl
space-written s (Some store) b key at value = if-boards s (is_psg80 at) _ _ _ _ refl (if-boards s (is_fm at) _ _ _ _ refl refl)

register-with : (s : List Frame) (b : Board) (cycle : ℕ) (register : Register) (value : ℕ) → board_with s (register_written b cycle register value) ≡ register_written (board_with s b) cycle register value
unfolding register_written
register-with s b cycle Version value = refl
register-with s b cycle Data1 value = refl
register-with s b cycle Data2 value = refl
register-with s b cycle DataExpansion value = refl
register-with s b cycle Control1 value = refl
register-with s b cycle Control2 value = refl
register-with s b cycle Unused value = refl

reset-with : (s : List Frame) (b : Board) (key : Key) (bit : ℕ) → board_with s (reset_written b key bit) ≡ reset_written (board_with s b) key bit
reset-with s b key bit = if-boards s (bit == 0) _ _ _ _ refl refl

video-byte : (s : List Frame) (port : VideoPort) (b : Board) (key : Key) (address value : ℕ) → board_with s (video_byte_written port b key address value) ≡ video_byte_written port (board_with s b) key address value
unfolding video_byte_written
video-byte s Data b key address value = refl
video-byte s Control b key address value = refl
video-byte s Counter b key address value = refl
video-byte s Sound b key address value = if-boards s (address % 2 == 1) _ _ _ _ refl refl
video-byte s NoPort b key address value = refl

video-word : (s : List Frame) (port : VideoPort) (b : Board) (key : Key) (value : ℕ) → board_with s (video_word_written port b key value) ≡ video_word_written port (board_with s b) key value
unfolding video_word_written
video-word s Data b key value = refl
video-word s Control b key value = refl
video-word s Counter b key value = refl
video-word s Sound b key value = refl
video-word s NoPort b key value = refl

byte-with : (s : List Frame) (area : Option Area) (b : Board) (key : Key) (address value : ℕ) → board_with s (byte_written_at area b key address value) ≡ byte_written_at area (board_with s b) key address value
unfolding byte_written_in
byte-with s None b key address value = refl
byte-with s (Some Z80Space) b key address value = space-written s (granted b.request b.store) b key (z80_address address) value
byte-with s (Some InputOutput) b key address value = register-with s b key.cycle (register_at address) (value % 0x100)
byte-with s (Some BusRequest) b key address value = if-boards s (address % 2 == 0) _ _ _ _ refl refl
byte-with s (Some Z80Reset) b key address value = if-boards s (address % 2 == 0) _ _ _ _ (reset-with s b key (value % 2)) refl
byte-with s (Some VideoPorts) b key address value = video-byte s (port_at address) b key address value

word-with : (s : List Frame) (area : Option Area) (b : Board) (key : Key) (address value : ℕ) → board_with s (word_written_at area b key address value) ≡ word_written_at area (board_with s b) key address value
unfolding word_written_in
word-with s None b key address value = refl
word-with s (Some Z80Space) b key address value = space-written s (granted b.request b.store) b key (z80_address address) (value / 0x100)
word-with s (Some InputOutput) b key address value = register-with s b key.cycle (register_at address) (value % 0x100)
word-with s (Some BusRequest) b key address value = refl
word-with s (Some Z80Reset) b key address value = reset-with s b key (value / 0x100 % 2)
word-with s (Some VideoPorts) b key address value = video-word s (port_at address) b key value

pub main-with : (s : List Frame) (b : Board) (key : Key) (request : Request68) → board_with s (main_board b key request) ≡ main_board (board_with s b) key request
unfolding main_board
main-with s b key (Read8 address) = read-with s (area_of address) b key address
main-with s b key (Read16 address) = read-with s (area_of address) b key address
main-with s b key (Write8 address value) = byte-with s (area_of address) b key address value
main-with s b key (Write16 address value) = word-with s (area_of address) b key address value
main-with s b key (Ack level) = refl
main-with s b key (Word value) = refl

-- ---- the Z80

-- what is reported to it, its entry, and the board
pub record IsSame (s : List Frame) (one other : SubOutcome) : Type 0 where
  pub answer : other.answer ≡ one.answer
  pub entry : other.entry ≡ one.entry
  pub board : board_with s one.board ≡ other.board

yielded-is : (s : List Frame) (request : Bool) (b : Board) (key : Key) (store : Store) → IsSame s (yielded request b key store) (yielded request (board_with s b) key store)
yielded-is s true b key store = record { answer = refl; entry = refl; board = refl }
yielded-is s false b key store = record { answer = refl; entry = refl; board = refl }

taken-is : (s : List Frame) (request : Bool) (store : Option Store) (b : Board) (key : Key) → IsSame s (taken_back request store b key) (taken_back request store (board_with s b) key)
taken-is s true store b key = record { answer = refl; entry = refl; board = refl }
taken-is s false None b key = record { answer = refl; entry = refl; board = refl }
taken-is s false (Some store) b key = record { answer = refl; entry = refl; board = refl }

pub sub-is : (s : List Frame) (b : Board) (key : Key) (request : RequestValue80) → IsSame s (sub_access b key request) (sub_access (board_with s b) key request)
unfolding sub_access
sub-is s b key (ReadByte at) = record { answer = refl; entry = refl; board = if-boards s (is_fm at) _ _ _ _ refl refl }
sub-is s b key (WriteByte at value) = record {
  answer = refl;
  entry = refl;
  board = if-boards s (is_psg80 at) _ _ _ _ refl (if-boards s (is_fm at) _ _ _ _ refl refl);
}
sub-is s b key (HandOver store) = yielded-is s b.request b key store
sub-is s b key TakeBack = taken-is s b.request b.store b key

-- ---- lines and batches

-- the region that a line finds
abbrev pub line_pal : ℕ → SpriteNote → Board → Bool
line_pal c note b = (line_begun c note b.vdp).pal

line-by : (s : List Frame) (t : Bool) (c : ℕ) (b : Board) (note : SpriteNote) (f : ℕ) → (t ≡ true → frame_at b.recording.frames f ≡ frame_at s f)
    → board_with s (if t then record (video_started b c note) { pads = frame_at b.recording.frames f } else video_started b c note)
    ≡ (if t then record (video_started (board_with s b) c note) { pads = frame_at s f } else video_started (board_with s b) c note)
line-by s true c b note f same = ap (λ (p : Frame). record b { recording = record b.recording { frames = s }; pads = p; vdp = line_begun c note b.vdp }) (same refl)
line-by s false c b note f same = refl

-- a line takes the same words from both recordings, or none
pub line-with : (s : List Frame) (c : ℕ) (b : Board) (note : SpriteNote)
    → ((c % frame_cycles (line_pal c note b) == finished_at (line_pal c note b)) ≡ true → frame_at b.recording.frames (c / frame_cycles (line_pal c note b)) ≡ frame_at s (c / frame_cycles (line_pal c note b)))
    → board_with s (line_board b c note) ≡ line_board (board_with s b) c note
unfolding line_board pads_board
line-with s c b note same = line-by s (c % frame_cycles (line_pal c note b) == finished_at (line_pal c note b)) c b note (c / frame_cycles (line_pal c note b)) same

vdp-by : (t : Bool) (b : Board) (pads : Frame) → (if t then record b { pads = pads } else b).vdp ≡ b.vdp
vdp-by true b pads = refl
vdp-by false b pads = refl

-- the VDP as the event of a line leaves it
pub line-vdp : (c : ℕ) (b : Board) (note : SpriteNote) → (line_board b c note).vdp ≡ line_begun c note b.vdp
unfolding line_board pads_board
line-vdp c b note =
    vdp-by (c % frame_cycles (line_pal c note b) == finished_at (line_pal c note b)) (video_started b c note) (frame_at b.recording.frames (c / frame_cycles (line_pal c note b)))

-- it leaves the region
pub line-region : (c : ℕ) (b : Board) (note : SpriteNote) → line_pal c note b ≡ b.vdp.pal
line-region c b note = ap (λ (v : Vdp). v.pal) (sym (line-vdp c b note)) ∙ (left_by_line b c note).region

pub fm-with : (s : List Frame) (c : ℕ) (b : Board) → board_with s (fm_board b c) ≡ fm_board (board_with s b) c
unfolding fm_board
fm-with s c b = refl

pub psg-with : (s : List Frame) (c : ℕ) (b : Board) → board_with s (psg_board b c) ≡ psg_board (board_with s b) c
unfolding psg_board
psg-with s c b = refl
