-- What the chips share.
use Rattle.std.specs.Prelude.{◌<◌, ◌≤◌, List, [], length, ℕ, Bool, true, false, Option, None, IfSome, All}
use Rattle.fm_port.specs.Port as fm_ports
use Rattle.fm_port.specs.declared.write.FmWrite.{FmWrite}
use Rattle.md_pads.specs.Pad.{Port, cleared}
use Rattle.md_pads.specs.Recording.{Frame, Recorded}
use Rattle.psg_sound.specs.Port.{IsPort}
use Rattle.psg_sound.specs.declared.write.PsgWrite.{PsgWrite}
use Rattle.vdp_ports.specs.Vdp.{Vdp, at_power_on}
use Rattle.z80_parcel.specs.Parcels.{IsStore, Store}

-- what the chips share, between two accesses
pub record Board : Type 0 where
  -- the recording of the pads
  pub recording : Recorded
  -- the words of the pads: the buttons that are pressed now
  pub pads : Frame
  -- the ports of pad 1 and pad 2
  pub port1 : Port
  pub port2 : Port
  -- the writes that the PSG's port holds
  pub psg : List PsgWrite
  -- the FM chip's port: its latches, its timers, and the writes that it holds
  pub fm : fm_ports.Port
  -- whether the Z80's bus is requested, whether its reset is held, and how often that was written
  pub request : Bool
  pub reset : Bool
  pub resets : ℕ
  -- the Z80's RAM and bank register, where the bus has them
  pub store : Option Store
  -- the VDP, whose fill or copy is settled where an access looks at it
  pub vdp : Vdp

-- the latches of a port are bytes, and at most four falls are counted
pub record IsLatched (port : Port) : Type 0 where
  pub value : port.value < 0x100
  pub control : port.control < 0x100
  pub count : port.count ≤ 4

-- registers are bytes
abbrev pub AreBytes : List ℕ → Type 0
AreBytes = All (λ value. value < 0x100)

-- the FM chip's port holds few writes, all by the processors
pub record IsFewFm (writes : List FmWrite) : Type 0 where
  pub most : length writes ≤ 1024
  pub chips : All (λ w. w.key.chip < 2) writes

-- what holds of each board
pub record IsBoard (board : Board) : Type 0 where
  pub port1 : IsLatched board.port1
  pub port2 : IsLatched board.port2
  pub psg : IsPort board.psg
  pub fm : IsFewFm board.fm.writes
  pub store : IfSome board.store IsStore
  pub registers : AreBytes board.vdp.registers

-- the board at power-on: no button is pressed, nothing was written, the reset is held of a Z80 that
-- has its RAM, and all of the VDP is 0 but the region
abbrev pub power_on : Recorded → Bool → Board
power_on recording pal = record {
  recording = recording;
  pads = (0, 0);
  port1 = cleared;
  port2 = cleared;
  psg = [];
  fm = fm_ports.at_power_on;
  request = false;
  reset = true;
  resets = 0;
  store = None;
  vdp = at_power_on pal;
}
