-- Where the parts of a saved state are. This project's profile.
use Rattle.std.specs.Prelude.{ℕ, ◌+◌, ◌-◌, ◌&&◌, Bool, true, nat_le, nat_lt, min, if◌then◌else◌, List, [], ◌∷◌, ◌++◌, take, drop, sum, slice_index}
use Rattle.m68k_chip.specs.Spelling.{chip_size as main_size}
use Rattle.z80_chip.specs.Spelling.{ram_offset as numbers_size}
use Rattle.vdp_ports.specs.Spelling.{vdp_size}
use Rattle.vdp_chip.specs.Spelling.{renderer_state_size}
use Rattle.fm_port.specs.PortSpelling.{port_size as fm_port_size}
use Rattle.fm_chip.specs.SynthSpelling.{synth_size as fm_size}
use Rattle.psg_sound.specs.PortSpelling.{port_size as psg_port_size}
use Rattle.psg_sound.specs.SynthSpelling.{synth_size as psg_size}
use Rattle.bus_shared.specs.Spelling.{lines_offset, lines_size, ports_size, store_size}
use Rattle.save_state.specs.declared.layout.Part.{Part}

-- how many bytes each part has, in their order; nothing is between them
abbrev pub layout : List ℕ
layout =
    -- the magic, the digest of the cartridge, the cycle, and the region
    8 ∷ 32 ∷ 8 ∷ 1 ∷
    -- the 68000
    main_size ∷
    -- the Z80's numbers, who has its RAM, and RAM with the bank register
    numbers_size ∷ 1 ∷ store_size true ∷
    -- the VDP, and its renderer
    vdp_size ∷ renderer_state_size ∷
    -- the FM chip: its port, its next batch, and its synthesis
    fm_port_size ∷ 8 ∷ fm_size ∷
    -- the PSG: its next batch, its port, and its synthesis
    8 ∷ psg_port_size ∷ psg_size ∷
    -- the board's lines and pads
    lines_size ∷ []

-- how many bytes a saved state has
abbrev pub state_size : ℕ
state_size = sum layout

-- a part by its number
abbrev pub nth_part : ℕ → Part
nth_part n = record { place = sum (take n layout); size = slice_index layout n }

-- the magic that a state begins with
abbrev pub magic_part : Part
magic_part = nth_part 0

-- the SHA-256 of the cartridge's image
abbrev pub digest_part : Part
digest_part = nth_part 1

-- the cycle of the state
abbrev pub at_part : Part
at_part = nth_part 2

-- the region: 0 NTSC, 1 PAL
abbrev pub region_part : Part
region_part = nth_part 3

-- the 68000, with its work RAM
abbrev pub main_part : Part
main_part = nth_part 4

-- the Z80's numbers
abbrev pub sub_part : Part
sub_part = nth_part 5

-- who has the Z80's RAM and bank register: 0 the Z80, 1 the bus
abbrev pub holder_part : Part
holder_part = nth_part 6

-- the Z80's RAM and bank register
abbrev pub store_part : Part
store_part = nth_part 7

-- the VDP, with its memories
abbrev pub video_part : Part
video_part = nth_part 8

-- the VDP renderer, with its picture
abbrev pub renderer_state_part : Part
renderer_state_part = nth_part 9

-- the FM chip's port
abbrev pub fm_port_part : Part
fm_port_part = nth_part 10

-- the cycle of the FM chip's next batch
abbrev pub fm_next_part : Part
fm_next_part = nth_part 11

-- the FM chip's synthesis
abbrev pub fm_part : Part
fm_part = nth_part 12

-- the cycle of the PSG's next batch
abbrev pub psg_next_part : Part
psg_next_part = nth_part 13

-- the PSG's port
abbrev pub psg_port_part : Part
psg_port_part = nth_part 14

-- the PSG's synthesis
abbrev pub psg_part : Part
psg_part = nth_part 15

-- the board's lines and pads
abbrev pub board_part : Part
board_part = nth_part 16

-- the Z80 has its RAM after its numbers, where the bus has not
abbrev pub sub_parts : Bool → List Part
sub_parts has = sub_part ∷ (if has then store_part ∷ [] else [])

-- what the bus keeps is in five parts, in four where it has no RAM
abbrev pub shared_parts : Bool → List Part
shared_parts has =
    (if has then store_part ∷ [] else []) ++ (video_part ∷ fm_port_part ∷ psg_port_part ∷ board_part ∷ [])

-- the Z80's numbers, in what the Z80 keeps
abbrev pub numbers_there : Part
numbers_there = record { place = 0; size = numbers_size }

-- the parts of what the bus keeps after the VDP
abbrev pub fm_port_there : Part
fm_port_there = record { place = 0; size = fm_port_size }

abbrev pub psg_port_there : Part
psg_port_there = record { place = fm_port_size; size = psg_port_size }

abbrev pub lines_there : Part
lines_there = record { place = lines_offset; size = lines_size }

-- how many bytes are put apart while a state is written
abbrev pub apart_size : ℕ
apart_size = ports_size

-- how many bytes follow the renderer: those, with the next batches and the syntheses of the sound chips
abbrev pub sound_size : ℕ
sound_size = apart_size + (8 + fm_size) + (8 + psg_size)

-- the bytes of a part
abbrev pub part_of : Part → List ℕ → List ℕ
part_of p bytes = take p.size (drop p.place bytes)

-- the bytes of parts, one after another
abbrev pub gathered : List Part → List ℕ → List ℕ
gathered [] bytes = []
gathered (p ∷ ps) bytes = part_of p bytes ++ gathered ps bytes

-- where an offset of the gathered bytes is; the end of them is the end of the last part
abbrev pub place_of : List Part → ℕ → ℕ
place_of [] n = 0
place_of (p ∷ []) n = p.place + min n p.size
place_of (p ∷ (q ∷ ps)) n = if nat_lt n p.size then p.place + n else place_of (q ∷ ps) (n - p.size)

-- each part is after the one before it, and within the state
abbrev pub are_ordered : ℕ → List Part → Bool
are_ordered from [] = nat_le from state_size
are_ordered from (p ∷ ps) = nat_le from p.place && are_ordered (p.place + p.size) ps
