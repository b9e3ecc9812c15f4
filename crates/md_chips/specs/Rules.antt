-- What each chip of the set does, put into the scheduler's form.
use Rattle.std.specs.Prelude.{ℕ, ◌+◌, ◌-◌, ◌*◌, ◌/◌, ◌==◌, nat_le, Bool, true, false, ◌||◌, if◌then◌else◌, List, ◌++◌, length, Option, Some, None}
use Rattle.md_word.specs.Clock as clock
use Rattle.md_word.specs.declared.event.Next.{Next}
use Rattle.md_word.specs.declared.main_bus.Answer68.{Answer68}
use Rattle.md_word.specs.declared.pins.Pins80.{Pins80}
use Rattle.chip_core.specs.Chips.{Accessed, Rules}
use Rattle.m68k_chip.specs.Events.{answered, begun, request_of}
use Rattle.m68k_chip.specs.States.{next_of}
use Rattle.z80_chip.specs.Events as events80
use Rattle.z80_chip.specs.Events.{asked_of, handed}
use Rattle.z80_chip.specs.States.{next_of as sub_next_of}
use Rattle.z80_parcel.specs.Requests.{AnswerValue80, Nothing}
use Rattle.md_chips.specs.Pins.{level_in, pins_of, sub_in}
use Rattle.md_chips.specs.declared.pins.Pins.{Pins}
use Rattle.fm_chip.specs.Batches as fm_batches
use Rattle.fm_port.specs.Port as fm_ports
use Rattle.bus_shared.specs.Fm.{fm_board}
use Rattle.psg_sound.specs.Batches.{after_batch, samples}
use Rattle.psg_sound.specs.Port.{taken_below}
use Rattle.bus_shared.specs.Accesses.{level_of, line_board, main_answer, main_board, main_reported, psg_board, sub_access}
use Rattle.bus_shared.specs.Entries.{batch_entry, line_entry}
use Rattle.bus_shared.specs.Board.{Board}
use Rattle.md_chips.specs.Parts.{RendererValue, FmValue, IsRenderer, IsFm, IsMain, IsPsg, IsSub, MainValue, PsgValue, SubValue}
use Rattle.vdp_planes.specs.declared.view.LineView.{LineView}
use Rattle.vdp_planes.specs.View.{view_of}
use Rattle.vdp_chip.specs.RendererState as renderer_states
use Rattle.md_chips.specs.Lines.{drawn_from, no_renderer_state, reported_view, unreported}
use Rattle.md_chips.specs.declared.chips.Chip.{Chip}
use Rattle.md_chips.specs.declared.chips.Chip.TheVariants.{Main, Sub, Renderer, Fm, Psg}

-- the answer that is kept; where there is none, any
abbrev pub answer_in : Option Answer68 → Answer68
answer_in None = record { value = 0; transfer = None; cost = 0 }
answer_in (Some answer) = answer

-- the 68000: an access keeps its answer, and the private work takes it
abbrev pub main_advance : MainValue → MainValue
main_advance c = record { chip = record c.chip { state = answered c.chip.cart c.chip.state (answer_in c.answer) }; answer = None }

-- the 68000 begins an instruction
abbrev pub main_sample : MainValue → ℕ → MainValue
main_sample c level = record c { chip = record c.chip { state = begun c.chip.cart c.chip.state level } }

-- the board answers the 68000's access
abbrev pub main_perform : MainValue → Board → Accessed MainValue Board
main_perform c b =
    let request = request_of c.chip.cart c.chip.state in
    let key = (next_of c.chip.state).key in
    record {
      chip = record c { answer = Some (main_answer b key request) };
      shared = main_board b key request;
      entry = main_reported b key request;
    }

-- what was reported to the Z80; where nothing is kept, nothing
abbrev pub reported_in : Option AnswerValue80 → AnswerValue80
reported_in None = Nothing
reported_in (Some answer) = answer

-- the board answers the Z80's access, which hands over what it asks with
abbrev pub sub_perform : SubValue → Board → Accessed SubValue Board
sub_perform c b =
    let key = (sub_next_of c.chip.state).key in
    let access = sub_access b key (asked_of c.chip.cart c.chip.state) in
    record {
      chip = record { chip = record c.chip { state = handed c.chip.state }; answer = Some access.answer };
      shared = access.board;
      entry = access.entry;
    }

-- the private work takes the answer
abbrev pub sub_advance : SubValue → SubValue
sub_advance c = record { chip = record c.chip { state = events80.answered c.chip.cart c.chip.state (reported_in c.answer) }; answer = None }

-- the Z80 continues from a sample
abbrev pub sub_sample : SubValue → Pins80 → SubValue
sub_sample c pins = record c { chip = record c.chip { state = events80.begun c.chip.cart c.chip.state pins } }

-- the start of a line: the board takes what the sprites of the line before have set, and fills the view
abbrev pub renderer_perform : RendererValue → Board → Accessed RendererValue Board
renderer_perform c b =
    let after = line_board b c.chip.next c.chip.note in
    record {
      chip = record { chip = record c.chip { has_view = false }; view = Some (reported_view c.chip.next (view_of c.chip.pal after.vdp)) };
      shared = after;
      entry = line_entry after.vdp.pal (renderer_states.next_of c.chip).key (level_of after);
    }

-- the view that was filled; where none was, any
abbrev pub view_in : Option LineView → LineView
view_in None = unreported false
view_in (Some view) = view

-- the line is drawn from it
abbrev pub renderer_advance : RendererValue → RendererValue
renderer_advance c = record { chip = record (drawn_from (view_in c.view) c.chip) { has_view = true }; view = None }

-- a batch of the FM synthesis is an access
abbrev pub fm_next : ℕ → Next
fm_next cycle = record { key = record { cycle = cycle; chip = 3 }; sample = false }

-- a batch of the PSG is an access
abbrev pub psg_next : ℕ → Next
psg_next cycle = record { key = record { cycle = cycle; chip = 4 }; sample = false }

-- the number of the first sample of the batch at a cycle
abbrev pub first_of : ℕ → ℕ
first_of cycle = 16 * (cycle / clock.batch - 1)

-- the samples are kept as long as there is room for a batch
abbrev pub kept : {A : Type 0} → List A → List A → List A
kept old batch = if nat_le (length old) 1056 then old ++ batch else old

-- the FM synthesis takes the writes below its cycle, and reports how many
abbrev pub fm_perform : FmValue → Board → Accessed FmValue Board
fm_perform c b =
    let taken = fm_ports.taken_below c.cycle b.fm.writes in
    record {
      chip = record c { taken = taken };
      shared = fm_board b c.cycle;
      entry = batch_entry 11 (fm_next c.cycle).key (length taken);
    }

-- it makes its batch, and keeps the samples
abbrev pub fm_advance : FmValue → FmValue
fm_advance c =
    record {
      synth = fm_batches.after_batch (first_of c.cycle) c.synth c.taken;
      cycle = c.cycle + clock.batch;
      taken = c.taken;
      samples = kept c.samples (fm_batches.samples (first_of c.cycle) c.synth c.taken);
    }

-- the PSG takes the writes below its cycle, and reports how many
abbrev pub psg_perform : PsgValue → Board → Accessed PsgValue Board
psg_perform c b =
    record {
      chip = record c { taken = taken_below c.cycle b.psg };
      shared = psg_board b c.cycle;
      entry = batch_entry 12 (psg_next c.cycle).key (length (taken_below c.cycle b.psg));
    }

-- it makes its batch, and keeps the samples
abbrev pub psg_advance : PsgValue → PsgValue
psg_advance c =
    record {
      synth = after_batch (first_of c.cycle) c.synth c.taken;
      cycle = c.cycle + clock.batch;
      taken = c.taken;
      samples = kept c.samples (samples (first_of c.cycle) c.synth c.taken);
    }

-- the five chips
abbrev pub next : Chip → Next
next (Main c) = next_of c.chip.state
next (Sub c) = sub_next_of c.chip.state
next (Renderer c) = renderer_states.next_of c.chip
next (Fm c) = fm_next c.cycle
next (Psg c) = psg_next c.cycle

-- what an access of one kind of chip leaves
abbrev pub of_kind : {A : Type 0} → (A → Chip) → Accessed A Board → Accessed Chip Board
of_kind kind a = record { chip = kind a.chip; shared = a.shared; entry = a.entry }

-- the part of each chip's access that needs the board
abbrev pub perform : Chip → Board → Accessed Chip Board
perform (Main c) b = of_kind Main (main_perform c b)
perform (Sub c) b = of_kind Sub (sub_perform c b)
perform (Renderer c) b = of_kind Renderer (renderer_perform c b)
perform (Fm c) b = of_kind Fm (fm_perform c b)
perform (Psg c) b = of_kind Psg (psg_perform c b)

-- each chip's private work after an access
abbrev pub advance : Chip → Chip
advance (Main c) = Main (main_advance c)
advance (Sub c) = Sub (sub_advance c)
advance (Renderer c) = Renderer (renderer_advance c)
advance (Fm c) = Fm (fm_advance c)
advance (Psg c) = Psg (psg_advance c)

-- each chip's sample
abbrev pub sample : Chip → Pins → Chip
sample (Main c) pins = Main (main_sample c (level_in pins))
sample (Sub c) pins = Sub (sub_sample c (sub_in pins))
sample (Renderer c) pins = Renderer c
sample (Fm c) pins = Fm c
sample (Psg c) pins = Psg c

-- pins are written by the 68000 and by the lines
abbrev pub writes : ℕ → ℕ → Bool
writes writer chip = writer == 0 || writer == 2

-- the least cycles between two events of each chip
abbrev pub gap : ℕ → ℕ
gap i = if i == 0 then clock.main_gap else (if i == 1 then clock.sub_gap else (if i == 2 then clock.line else clock.batch))

-- the set
abbrev pub five : Rules Chip Board Pins
five = record {
  count = 5;
  next = next;
  perform = perform;
  advance = advance;
  pins = pins_of;
  sample = sample;
  writes = writes;
  gap = gap;
  blank = Renderer (record { chip = no_renderer_state; view = None });
}

-- the chips and the board that the code can have
abbrev pub IsChip : Chip → Type 0
IsChip (Main c) = IsMain c
IsChip (Sub c) = IsSub c
IsChip (Renderer c) = IsRenderer c
IsChip (Fm c) = IsFm c
IsChip (Psg c) = IsPsg c
