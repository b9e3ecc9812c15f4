-- What a saved state keeps of the lines between the chips and of the pads: its numbers, whatever they
-- are, with their order, their sizes and their rules. This project's profile.
use Rattle.std.specs.Prelude.{ℕ, ◌≤◌, Bool, if◌then◌else◌, ◌==◌, nat_le, nat_lt, true, List, [], ◌∷◌, Option}
use Rattle.md_word.specs.Clock.{cycle_limit}
use Rattle.md_fields.specs.Fields.{Field, byte, word, quad}
use Rattle.md_word.specs.Coding.{flag_number}
use Rattle.fm_port.specs.Port.{Port}
use Rattle.md_pads.specs.Recording.{Recorded}
use Rattle.psg_sound.specs.declared.write.PsgWrite.{PsgWrite}
use Rattle.vdp_ports.specs.Vdp.{Vdp}
use Rattle.z80_parcel.specs.Parcels.{Store}
use Rattle.bus_shared.specs.Board.{Board}
use Rattle.bus_shared.specs.declared.saved_lines.SavedLines.{SavedLines}

-- what is kept of a board: a flag is 0 or 1
abbrev pub lines_of : Board → SavedLines
lines_of board = record {
  bus_request = flag_number board.request;
  reset = flag_number board.reset;
  resets = board.resets;
  value1 = board.port1.value;
  control1 = board.port1.control;
  value2 = board.port2.value;
  control2 = board.port2.control;
  pads1 = board.pads.0;
  pads2 = board.pads.1;
  count1 = board.port1.count;
  fall1 = board.port1.fall;
  count2 = board.port2.count;
  fall2 = board.port2.fall;
}

-- the board of these parts
abbrev pub board_from : Recorded → Option Store → Vdp → Port → List PsgWrite → SavedLines → Board
board_from recording store vdp fm psg n = record {
  recording = recording;
  pads = (n.pads1, n.pads2);
  port1 = record { value = n.value1; control = n.control1; count = n.count1; fall = n.fall1 };
  port2 = record { value = n.value2; control = n.control2; count = n.count2; fall = n.fall2 };
  psg = psg;
  fm = fm;
  request = n.bus_request == 1;
  reset = n.reset == 1;
  resets = n.resets;
  store = store;
  vdp = vdp;
}

-- the last fall of TH that a pad counted was before the state's cycle, and none is at 0
abbrev pub is_fall : ℕ → ℕ → ℕ → Bool
is_fall at count fall = if count == 0 then fall == 0 else nat_lt fall at

-- the fields in their order, and their rules, by the cycle of the state: a reset was written at most
-- once a cycle, a pad has at most twelve buttons, and it counts to four
abbrev pub lines_fields : ℕ → SavedLines → List Field
lines_fields at n =
    byte n.bus_request (nat_le n.bus_request 1)
    ∷ byte n.reset (nat_le n.reset 1)
    ∷ quad n.resets (nat_le n.resets at)
    ∷ byte n.value1 true
    ∷ byte n.control1 true
    ∷ byte n.value2 true
    ∷ byte n.control2 true
    ∷ word n.pads1 (nat_lt n.pads1 0x1000)
    ∷ word n.pads2 (nat_lt n.pads2 0x1000)
    ∷ byte n.count1 (nat_le n.count1 4)
    ∷ quad n.fall1 (is_fall at n.count1 n.fall1)
    ∷ byte n.count2 (nat_le n.count2 4)
    ∷ quad n.fall2 (is_fall at n.count2 n.fall2)
    ∷ []

-- so many falls were counted, and at such cycles
pub record AreFalls (n : SavedLines) : Type 0 where
  pub count1 : n.count1 ≤ 4
  pub fall1 : n.fall1 ≤ cycle_limit
  pub count2 : n.count2 ≤ 4
  pub fall2 : n.fall2 ≤ cycle_limit
