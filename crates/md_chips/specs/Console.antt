-- The machine as one record, and what a move of each chip changes. Each memory that may be written
-- is kept once; each of the two processors has the cartridge.
use Rattle.std.specs.Prelude.{◌≡◌, ℕ, Bool, zero, suc, ◌+◌, ◌-◌, ◌*◌, ◌/◌, ◌<◌, ◌≤◌, ◌==◌, ◌&&◌, cond, true, List, [], ◌∷◌, ◌++◌, length, Option, None}
use Rattle.md_word.specs.Clock as clock
use Rattle.md_word.specs.declared.event.Entry.{Entry}
use Rattle.md_word.specs.declared.key.Key.{Key}
use Rattle.chip_core.specs.Machines.{least_below}
use Rattle.m68k_chip.specs.Cases.{begins_at, case_of}
use Rattle.m68k_chip.specs.Events.{answered, begun, request_of}
use Rattle.m68k_chip.specs.States.{State68, next_of}
use Rattle.m68k_chip.specs.States as states
use Rattle.z80_chip.specs.Events as events80
use Rattle.z80_chip.specs.Events.{asked_of, handed}
use Rattle.z80_chip.specs.States as states80
use Rattle.z80_chip.specs.Validity.{Chip80Value}
use Rattle.z80_chip.specs.States.{next_of as sub_next_of}
use Rattle.fm_chip.specs.Batches as fm_batches
use Rattle.fm_port.specs.Port as fm_ports
use Rattle.fm_chip.specs.Synth as fm_synths
use Rattle.fm_port.specs.declared.write.FmWrite.{FmWrite}
use Rattle.psg_sound.specs.Batches.{after_batch, samples}
use Rattle.psg_sound.specs.Port.{taken_below}
use Rattle.psg_sound.specs.Synth.{Synth, at_power_on}
use Rattle.bus_shared.specs.Fm.{fm_board}
use Rattle.bus_shared.specs.Accesses.{SubOutcome, level_of, line_board, main_answer, main_board, main_reported, psg_board, sub_access, sub_pins}
use Rattle.bus_shared.specs.Board.{Board}
use Rattle.bus_shared.specs.Board as boards
use Rattle.bus_shared.specs.Entries.{batch_entry, line_entry}
use Rattle.md_pads.specs.Recording.{Recorded}
use Rattle.vdp_planes.specs.View.{view_of}
use Rattle.vdp_planes.specs.declared.view.SpriteNote.{SpriteNote}
use Rattle.vdp_chip.specs.RendererState.{RendererState}
use Rattle.vdp_chip.specs.RendererState as renderer_states
use Rattle.md_chips.specs.Lines.{drawn_from, frames_of}
use Rattle.md_chips.specs.Media.{Media, joined, no_media}

-- the machine: the cartridge, the two processors, the cycles of the other chips, the FM synthesis and
-- the sound generator, and what they share
pub record Console : Type 0 where
  -- the cartridge's image
  pub cart : List ℕ
  pub main : State68
  -- the Z80, with the cartridge that its window shows
  pub sub : Chip80Value
  -- the drawing half of the VDP: what the sprites of the last line have set, and the picture
  pub note : SpriteNote
  pub picture : List ℕ
  -- whether it draws pictures for PAL; the board's half has the same region
  pub pal : Bool
  -- the cycles of the next events of the lines, the FM batches and the PSG batches
  pub line : ℕ
  pub fm_cycle : ℕ
  pub psg_cycle : ℕ
  pub fm : fm_synths.Synth
  pub psg : Synth
  pub shared : Board

-- at power-on the 68000, the Z80 and the lines have their first event at 0, and the batches at
-- 16128
abbrev pub power_on : List ℕ → Recorded → Bool → Console
power_on cart recording pal = record {
  cart = cart;
  main = states.power_on cart;
  sub = record { cart = cart; state = states80.power_on };
  note = (renderer_states.at_power_on pal).note;
  picture = (renderer_states.at_power_on pal).picture;
  pal = pal;
  line = 0;
  fm_cycle = clock.batch;
  psg_cycle = clock.batch;
  fm = fm_synths.at_power_on;
  psg = at_power_on;
  shared = boards.power_on recording pal;
}

-- the number of the first sample of the batch at a cycle
abbrev pub first_of : ℕ → ℕ
first_of cycle = 16 * (cycle / clock.batch - 1)

-- the keys of the next events
unfoldable pub key_in : Console → ℕ → Key
key_in m i =
    cond (i == 0) (next_of m.main).key
    (cond (i == 1) (sub_next_of m.sub.state).key
    (cond (i == 2) (record { cycle = m.line; chip = 2 })
    (cond (i == 3) (record { cycle = m.fm_cycle; chip = 3 }) (record { cycle = m.psg_cycle; chip = 4 }))))

-- the 68000: a sample begins an instruction, and an access continues with its answer
unfoldable pub main_moved : Console → Console
main_moved m =
    cond (next_of m.main).sample
    (record m { main = begun m.cart m.main (level_of m.shared) })
    (record m {
      main = answered m.cart m.main (main_answer m.shared (next_of m.main).key (request_of m.cart m.main));
      shared = main_board m.shared (next_of m.main).key (request_of m.cart m.main);
    })

-- what an access of the Z80 results in on the board
abbrev pub sub_accessed : Console → SubOutcome
sub_accessed m = sub_access m.shared (sub_next_of m.sub.state).key (asked_of m.sub.cart m.sub.state)

-- the Z80: a sample looks at its pins, and an access continues with what is reported to it
unfoldable pub sub_moved : Console → Console
sub_moved m =
    cond (sub_next_of m.sub.state).sample
    (record m { sub = record m.sub { state = events80.begun m.sub.cart m.sub.state (sub_pins m.shared) } })
    (record m {
      sub = record m.sub { state = events80.answered m.sub.cart (handed m.sub.state) (sub_accessed m).answer };
      shared = (sub_accessed m).board;
    })

-- the drawing half of the VDP, of which no frame is kept
abbrev pub renderer_state_in : Console → RendererState
renderer_state_in m = record { next = m.line; note = m.note; has_view = true; picture = m.picture; frame = None; pal = m.pal }

-- what it is after the event of its next line: that is drawn from the VDP as the event leaves it
abbrev pub line_done : Console → RendererState
line_done m = drawn_from (view_of m.pal (line_board m.shared m.line m.note).vdp) (renderer_state_in m)

-- the event of a line
unfoldable pub line_moved : Console → Console
line_moved m = record m {
  note = (line_done m).note;
  picture = (line_done m).picture;
  line = m.line + clock.line;
  shared = line_board m.shared m.line m.note;
}

-- the writes that the FM synthesis takes for its batch
abbrev pub fm_taken : Console → List FmWrite
fm_taken m = fm_ports.taken_below m.fm_cycle m.shared.fm.writes

-- the FM synthesis takes the writes below its cycle and makes a batch of 16 samples
unfoldable pub fm_moved : Console → Console
fm_moved m = record m {
  fm = fm_batches.after_batch (first_of m.fm_cycle) m.fm (fm_taken m);
  fm_cycle = m.fm_cycle + clock.batch;
  shared = fm_board m.shared m.fm_cycle;
}

-- the PSG takes the writes below its cycle and makes a batch of 16 samples
unfoldable pub psg_moved : Console → Console
psg_moved m = record m {
  psg = after_batch (first_of m.psg_cycle) m.psg (taken_below m.psg_cycle m.shared.psg);
  psg_cycle = m.psg_cycle + clock.batch;
  shared = psg_board m.shared m.psg_cycle;
}

-- the machine after the event of chip i, and after the private work up to its next event
unfoldable pub moved : Console → ℕ → Console
moved m i =
    cond (i == 0) (main_moved m)
    (cond (i == 1) (sub_moved m)
    (cond (i == 2) (line_moved m)
    (cond (i == 3) (fm_moved m) (psg_moved m))))

-- the entry that it gives, if it is an access
unfoldable pub reported : Console → ℕ → List Entry
reported m i =
    cond (i == 0) (cond (next_of m.main).sample [] (main_reported m.shared (next_of m.main).key (request_of m.cart m.main) ∷ []))
    (cond (i == 1) (cond (sub_next_of m.sub.state).sample [] ((sub_accessed m).entry ∷ []))
    (cond (i == 2) (let after = line_board m.shared m.line m.note in line_entry after.vdp.pal (record { cycle = m.line; chip = 2 }) (level_of after) ∷ [])
    (cond (i == 3) (batch_entry 11 (record { cycle = m.fm_cycle; chip = 3 }) (length (fm_taken m)) ∷ [])
    (batch_entry 12 (record { cycle = m.psg_cycle; chip = 4 }) (length (taken_below m.psg_cycle m.shared.psg)) ∷ []))))

-- the frames and the samples that it makes
unfoldable pub rendered : Console → ℕ → Media
rendered m i = record {
  frames = cond (i == 2) (frames_of (line_done m).frame) [];
  sides = cond (i == 3) (fm_batches.samples (first_of m.fm_cycle) m.fm (fm_taken m)) [];
  levels = cond (i == 4) (samples (first_of m.psg_cycle) m.psg (taken_below m.psg_cycle m.shared.psg)) [];
}

-- the chip of least key
unfoldable pub mover : Console → ℕ
mover m = least_below (key_in m) 5

-- where the next move is a sample of the 68000 that begins an instruction, its address
abbrev pub begins_in : Console → Option ℕ
begins_in m =
    cond ((mover m == 0) && (next_of m.main).sample) (begins_at (case_of m.main (level_of m.shared)) m.main.regs.pc) None

-- the machine after n moves, each by the chip of least key
unfoldable pub ran : Console → ℕ → Console
ran m zero = m
ran m (suc n) = moved (ran m n) (mover (ran m n))

-- the entries of the first n moves, in their order
unfoldable pub journal : Console → ℕ → List Entry
journal m zero = []
journal m (suc n) = journal m n ++ reported (ran m n) (mover (ran m n))

-- the frames and samples of the first n moves, in their order
unfoldable pub media_after : Console → ℕ → Media
media_after m zero = no_media
media_after m (suc n) = joined (media_after m n) (rendered (ran m n) (mover (ran m n)))

-- the first n moves are below the cycle
abbrev pub AllBelow : Console → ℕ → ℕ → Type 0
AllBelow m end n = (k : ℕ) → k < n → (key_in (ran m k) (mover (ran m k))).cycle < end

-- no next event is below the cycle
abbrev pub IsQuiet : ℕ → Console → Type 0
IsQuiet end m = (i : ℕ) → i < 5 → end ≤ (key_in m i).cycle

-- after all events below the cycle and no other: the machine, the entries, the frames and the samples
pub record IsRunTo (m : Console) (end : ℕ) (after : Console) (entries : List Entry) (output : Media) : Type 0 where
  pub moves : ℕ
  pub below : AllBelow m end moves
  pub quiet : IsQuiet end after
  pub console : after ≡ ran m moves
  pub entered : entries ≡ journal m moves
  pub rendered_to : output ≡ media_after m moves
