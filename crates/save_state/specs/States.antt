-- A saved state: the bytes of a machine at a cycle. The parts are the chips' own; this project's profile.
use Rattle.std.specs.Prelude.{◌≡◌, ℕ, ◌≤◌, ◌==◌, ◌||◌, Bool, true, is_some, nat_le, if◌then◌else◌, codes, List, [], ◌∷◌, ◌++◌, Option, None}
use Rattle.std.specs.List.{list_all}
use Rattle.md_word.specs.Clock.{last_cycle}
use Rattle.md_word.specs.Coding.{flag_number}
use Rattle.sha2.specs.Sha256.{sha256}
use Rattle.md_fields.specs.Fields.{Field, byte, quad, block, spelling}
use Rattle.sound_writes.specs.Keys.{is_before_next}
use Rattle.m68k_chip.specs.Spelling as main
use Rattle.z80_chip.specs.Saved.{stage_number}
use Rattle.z80_chip.specs.Spelling as sub
use Rattle.z80_chip.specs.States.{State80}
use Rattle.z80_parcel.specs.Parcels.{Store}
use Rattle.vdp_ports.specs.Spelling.{vdp_bytes, vdp_size}
use Rattle.vdp_chip.specs.Spelling as renderer_state
use Rattle.fm_port.specs.Port.{Port}
use Rattle.fm_port.specs.PortSpelling as fm_port
use Rattle.fm_chip.specs.SynthSpelling as fm
use Rattle.psg_sound.specs.PortSpelling as psg_port
use Rattle.psg_sound.specs.SynthSpelling as psg
use Rattle.psg_sound.specs.declared.write.PsgWrite.{PsgWrite}
use Rattle.bus_shared.specs.Board.{Board}
use Rattle.bus_shared.specs.Saved.{lines_of}
use Rattle.bus_shared.specs.Spelling.{settled_board}
use Rattle.bus_shared.specs.Spelling as shared
use Rattle.md_chips.specs.Console.{Console, renderer_state_in}
use Rattle.md_chips.specs.Owners.{HasOneOwner}
use Rattle.md_chips.specs.Starts.{Start, first_batch}

-- what a state begins with
abbrev pub mark : List ℕ
mark = codes "MDSTATE3"

-- who has the Z80's RAM and bank register: 0 the Z80, 1 the bus
abbrev pub holder_of : Console → ℕ
holder_of m = if is_some m.shared.store then 1 else 0

-- RAM and bank register, whoever has them
abbrev pub store_of : Console → Option Store
store_of m = if is_some m.shared.store then m.shared.store else m.sub.state.store

-- the bytes of the Z80's numbers
abbrev pub number_bytes : State80 → List ℕ
number_bytes state = sub.chip_bytes (record state { store = None })

-- RAM and bank register where the Z80 has them and the bus has not
abbrev pub own_bytes : Console → List ℕ
own_bytes m = if is_some m.shared.store then [] else shared.store_bytes m.sub.state.store

-- what the bus keeps after the VDP, as it is once it is settled to a cycle
abbrev pub after_video : ℕ → Board → List ℕ
after_video at b = fm_port.port_bytes (settled_board at b).fm ++ (psg_port.port_bytes b.psg ++ shared.lines_bytes (lines_of b))

-- a whole state as a table, with the digest of the cartridge; batches come at their next multiples
abbrev pub state_fields : List ℕ → ℕ → Console → List Field
state_fields digest at m =
    block 8 mark true
    ∷ block 32 digest true
    ∷ quad at true
    ∷ byte (flag_number m.pal) true
    ∷ block main.chip_size (main.chip_bytes m.main) true
    ∷ block sub.ram_offset (number_bytes m.sub.state) true
    ∷ byte (holder_of m) true
    ∷ block (shared.store_size true) (shared.store_bytes (store_of m)) true
    ∷ block vdp_size (vdp_bytes m.shared.vdp) true
    ∷ block renderer_state.renderer_state_size (renderer_state.renderer_state_bytes (renderer_state_in m)) true
    ∷ block fm_port.port_size (fm_port.port_bytes m.shared.fm) true
    ∷ quad (first_batch at) true
    ∷ block fm.synth_size (fm.synth_bytes m.fm) true
    ∷ quad (first_batch at) true
    ∷ block psg_port.port_size (psg_port.port_bytes m.shared.psg) true
    ∷ block psg.synth_size (psg.synth_bytes m.psg) true
    ∷ block shared.lines_size (shared.lines_bytes (lines_of m.shared)) true
    ∷ []

-- the bytes that keep a machine as it is, with the SHA-256 of its cartridge's image
abbrev pub kept_bytes : ℕ → Console → List ℕ
kept_bytes at m = spelling (state_fields (sha256 m.cart) at m)

-- the machine with the bytes of fill and copy, and the overflows of the timers, made that are below a cycle,
-- as it is kept
abbrev pub settled_console : ℕ → Console → Console
settled_console at m = record m { shared = settled_board at m.shared }

-- the bytes of a machine at a cycle: fill, copy and timers are settled below it
abbrev pub state_bytes : ℕ → Console → List ℕ
state_bytes at m = kept_bytes at (settled_console at m)

-- at an access and a yield the Z80 has its RAM, and the bus at a take, by the number of the stage
abbrev pub is_holder : ℕ → ℕ → Bool
is_holder holder stage =
    if (stage == 1) || (stage == 2) then holder == 0
    else (if stage == 3 then holder == 1 else nat_le holder 1)

-- each write that the FM chip's port holds is earlier than the next event of its processor, by the gap of that
-- processor at least
abbrev pub are_fm_early : ℕ → ℕ → Port → Bool
are_fm_early main sub port = list_all (λ w. is_before_next main sub w.key) port.writes

-- the same of the writes that the PSG's port holds
abbrev pub are_psg_early : ℕ → ℕ → List PsgWrite → Bool
are_psg_early main sub held = list_all (λ w. is_before_next main sub w.key) held

-- what holds of each machine that a saved state of this cartridge keeps: the parts' own rules, and the
-- rules that speak of several parts
pub record IsSaved (cart : List ℕ) (start : Start) : Type 0 where
  pub begun : 1 ≤ start.at
  pub near : start.at ≤ last_cycle
  pub image : start.console.cart ≡ cart
  pub sub_image : start.console.sub.cart ≡ cart
  pub one_owner : HasOneOwner start.console
  pub holder : is_holder (holder_of start.console) (stage_number start.console.sub.state.stage) ≡ true
  pub main : main.Spells cart start.at (main.chip_bytes start.console.main) start.console.main
  pub sub : sub.Spells cart start.at (sub.chip_bytes start.console.sub.state) start.console.sub.state
  pub shared : shared.Spells start.at start.console.pal (shared.board_bytes start.console.shared) start.console.shared
  pub renderer_state : renderer_state.Spells start.at start.console.pal (renderer_state.renderer_state_bytes (renderer_state_in start.console)) (renderer_state_in start.console)
  -- batches come at their next multiples
  pub fm_cycle : start.console.fm_cycle ≡ first_batch start.at
  pub psg_cycle : start.console.psg_cycle ≡ first_batch start.at
  pub fm : fm.SpellsSynth (fm.synth_bytes start.console.fm) start.console.fm
  pub psg : psg.SpellsSynth (psg.synth_bytes start.console.psg) start.console.psg
  -- the Z80 has seen no more resets than there were
  pub resets : start.console.sub.state.resets ≤ start.console.shared.resets
  pub fm_writes : are_fm_early start.console.main.next start.console.sub.state.next start.console.shared.fm ≡ true
  pub psg_writes : are_psg_early start.console.main.next start.console.sub.state.next start.console.shared.psg ≡ true

-- the bytes are a saved state of this cartridge, of the form that is written, and keep this machine
pub record IsNewest (cart : List ℕ) (bytes : List ℕ) (start : Start) : Type 0 where
  pub saved : IsSaved cart start
  pub all : bytes ≡ kept_bytes start.at start.console
