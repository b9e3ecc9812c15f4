-- One access: its answer, its entry in the journal, and the board after it.
use Rattle.std.specs.Prelude.{ℕ, ◌/◌, ◌%◌, ◌==◌, true, false, if◌then◌else◌, List, length, None, Bool, Some, Option}
use Rattle.md_word.specs.Region.{finished_at, frame_cycles}
use Rattle.md_word.specs.Map.{area_of}
use Rattle.md_word.specs.declared.event.Entry.{Entry}
use Rattle.md_word.specs.declared.key.Key.{Key}
use Rattle.md_word.specs.declared.main_bus.Answer68.{Answer68}
use Rattle.md_word.specs.declared.pins.Pins68.{Pins68}
use Rattle.md_word.specs.declared.pins.Pins80.{Pins80}
use Rattle.md_word.specs.declared.main_bus.Request68.{Request68}
use Rattle.md_word.specs.declared.main_bus.Request68.TheVariants.{Read8, Read16, Write8, Write16, Ack, Word}
use Rattle.md_word.specs.declared.main_bus.Transfer.{Transfer}
use Rattle.md_pads.specs.Recording.{pads_of}
use Rattle.fm_port.specs.Port as fm_ports
use Rattle.fm_port.specs.declared.write.FmWrite.{FmWrite}
use Rattle.psg_sound.specs.Port.{left_from, taken_below}
use Rattle.psg_sound.specs.declared.write.PsgWrite.{PsgWrite}
use Rattle.vdp_ports.specs.Control.{level}
use Rattle.vdp_planes.specs.declared.view.LineView.{LineView}
use Rattle.vdp_planes.specs.declared.view.SpriteNote.{SpriteNote}
use Rattle.bus_shared.specs.Areas.{byte_at, byte_written_at, read_at, transfer_at, word_at, word_written_at}
use Rattle.bus_shared.specs.Board.{Board}
use Rattle.bus_shared.specs.Entries.{batch_entry, line_entry, main_entry, sub_entry}
use Rattle.bus_shared.specs.Fm.{chip_byte, chip_read, fm_board, is_fm, with_fm}
use Rattle.bus_shared.specs.Video.{both_halves, line_begun, line_view, pins_by, video_acknowledged, word_cost, word_taken}
use Rattle.bus_shared.specs.Z80Space.{is_psg80, with_psg}
use Rattle.z80_parcel.specs.Parcels.{Store}
use Rattle.z80_parcel.specs.Requests.{RequestValue80, ReadByte, WriteByte, HandOver, TakeBack, AnswerValue80, Byte, Nothing, Returned, request_value80_of, answer_value80_of}
use Rattle.bus_shared.specs.declared.request.Answer.{Answer}
use Rattle.bus_shared.specs.declared.request.Answer.TheVariants as answers
use Rattle.bus_shared.specs.declared.request.Request.{Request}
use Rattle.bus_shared.specs.declared.request.Request.TheVariants as requests

-- the value that the 68000 is given: 0 where it reads nothing
unfoldable pub main_value : Board → Key → Request68 → ℕ
main_value board key (Read8 address) = byte_at (area_of address) board key address
main_value board key (Read16 address) = word_at (area_of address) board key address
main_value board key (Write8 address value) = 0
main_value board key (Write16 address value) = 0
main_value board key (Ack level) = 0
main_value board key (Word value) = 0

-- the transfer that an access starts
unfoldable pub main_transfer : Board → Key → Request68 → Option Transfer
main_transfer board key (Write8 address value) = transfer_at (area_of address) board key address (both_halves value)
main_transfer board key (Write16 address value) = transfer_at (area_of address) board key address value
main_transfer board key request = None

-- the cycles until the next word of a transfer, answered to a word of one
unfoldable pub main_cost : Board → Key → Request68 → ℕ
main_cost board key (Word value) = word_cost key.cycle board.vdp
main_cost board key request = 0

-- the answer to the 68000
unfoldable pub main_answer : Board → Key → Request68 → Answer68
main_answer board key request =
    record { value = main_value board key request; transfer = main_transfer board key request; cost = main_cost board key request }

-- its entry
unfoldable pub main_reported : Board → Key → Request68 → Entry
main_reported board key request = main_entry key request (main_value board key request) board.vdp.a

-- the board after an access of the 68000
unfoldable pub main_board : Board → Key → Request68 → Board
main_board board key (Read8 address) = read_at (area_of address) board key address
main_board board key (Read16 address) = read_at (area_of address) board key address
main_board board key (Write8 address value) = byte_written_at (area_of address) board key address value
main_board board key (Write16 address value) = word_written_at (area_of address) board key address value
main_board board key (Ack level) = video_acknowledged board level
main_board board key (Word value) = word_taken board key value

-- an access of the Z80: what it is answered, its entry, and the board after it
pub record SubOutcome : Type 0 where
  pub answer : AnswerValue80
  pub entry : Entry
  pub board : Board

-- it hands its RAM over where the bus is still requested
abbrev pub yielded : Bool → Board → Key → Store → SubOutcome
yielded true board key store = record { answer = Nothing; entry = sub_entry key 8 0 1; board = record board { store = Some store } }
yielded false board key store = record { answer = Returned store; entry = sub_entry key 8 0 0; board = board }

-- it takes its RAM back where the bus is no longer requested and has it
abbrev pub taken_back : Bool → Option Store → Board → Key → SubOutcome
taken_back false (Some store) board key = record { answer = Returned store; entry = sub_entry key 9 0 1; board = record board { store = None } }
taken_back request store board key = record { answer = Nothing; entry = sub_entry key 9 0 0; board = board }

-- the board after the Z80 writes a byte: the PSG and the FM chip take their own
abbrev pub sub_written : Board → Key → ℕ → ℕ → Board
sub_written board key at value =
    if is_psg80 at then with_psg board key value else (if is_fm at then with_fm board key at value else board)

-- an access of the Z80
unfoldable pub sub_access : Board → Key → RequestValue80 → SubOutcome
sub_access board key (ReadByte at) = record {
  answer = Byte (chip_byte board key.cycle at);
  entry = sub_entry key 6 at (chip_byte board key.cycle at);
  board = chip_read board key.cycle at;
}
sub_access board key (WriteByte at value) = record {
  answer = Nothing;
  entry = sub_entry key 7 at value;
  board = sub_written board key at value;
}
sub_access board key (HandOver store) = yielded board.request board key store
sub_access board key TakeBack = taken_back board.request board.store board key

-- at the start of the line after the picture the pads take the recording's words of the frame
unfoldable pub pads_board : Board → ℕ → Board
pads_board board cycle =
    let pal = board.vdp.pal in
    if cycle % frame_cycles pal == finished_at pal then record board { pads = pads_of board.recording (cycle / frame_cycles pal) } else board

-- the VDP at the start of a line, with what the sprites of the line before have set
abbrev pub video_started : Board → ℕ → SpriteNote → Board
video_started board cycle note = record board { vdp = line_begun cycle note board.vdp }

-- at the start of a line the VDP and the pads take their part
unfoldable pub line_board : Board → ℕ → SpriteNote → Board
line_board board cycle note = pads_board (video_started board cycle note) cycle

-- a batch of the PSG synthesis takes the writes stamped below it
unfoldable pub psg_board : Board → ℕ → Board
psg_board board cycle = record board { psg = left_from cycle board.psg }

-- an answer, without where its list is in memory
pub data AnswerValue : Type 0 where
  Main : Answer68 → AnswerValue
  Sub : AnswerValue80 → AnswerValue
  Line : LineView → AnswerValue
  Fm : List FmWrite → AnswerValue
  Psg : List PsgWrite → AnswerValue

-- an answer with the values that its view, its list or its parcel has
abbrev pub answer_value_of : Answer → AnswerValue
answer_value_of (answers.Main answer) = Main answer
answer_value_of (answers.Sub answer) = Sub (answer_value80_of answer)
answer_value_of (answers.Line view) = Line view.value
answer_value_of (answers.Fm list) = Fm list.value.items
answer_value_of (answers.Psg list) = Psg list.value.items

-- the outcome of an access: the answer, the entry in the journal, and the board after it
pub record AccessOutcome : Type 0 where
  pub answer : AnswerValue
  pub entry : Entry
  pub board : Board

-- the interrupt level of the 68000
abbrev pub level_of : Board → ℕ
level_of board = level board.vdp

-- the pins of the 68000
abbrev pub main_pins : Board → Pins68
main_pins board = pins_by board.vdp

-- the pins of the Z80: its lines, and the interval in which its interrupt is asked for
abbrev pub sub_pins : Board → Pins80
sub_pins board = record {
  request = board.request;
  reset = board.reset;
  resets = board.resets;
  int_from = board.vdp.int_from;
  int_to = board.vdp.int_to;
}

-- an access of the chip whose key it is
unfoldable pub carried : Board → Key → Request → AccessOutcome
carried board key (requests.Main request) = record {
  answer = Main (main_answer board key request);
  entry = main_reported board key request;
  board = main_board board key request;
}
carried board key (requests.Sub request) =
    let access = sub_access board key (request_value80_of request) in
    record { answer = Sub access.answer; entry = access.entry; board = access.board }
carried board key (requests.Line view note) =
    let after = line_board board key.cycle note in
    record { answer = Line (line_view key.cycle after.vdp view.value); entry = line_entry after.vdp.pal key (level_of after); board = after }
carried board key (requests.Fm list) = record {
  answer = Fm (fm_ports.taken_below key.cycle board.fm.writes);
  entry = batch_entry 11 key (length (fm_ports.taken_below key.cycle board.fm.writes));
  board = fm_board board key.cycle;
}
carried board key (requests.Psg list) = record {
  answer = Psg (taken_below key.cycle board.psg);
  entry = batch_entry 12 key (length (taken_below key.cycle board.psg));
  board = psg_board board key.cycle;
}

-- the chip that makes the access
abbrev pub chip_of : Request → ℕ
chip_of (requests.Main request) = 0
chip_of (requests.Sub request) = 1
chip_of (requests.Line view note) = 2
chip_of (requests.Fm list) = 3
chip_of (requests.Psg list) = 4
