-- A machine that is put together from its parts, as a saved state keeps them.
use Rattle.std.specs.Prelude.{ℕ, List, [], ◌∷◌, None}
use Rattle.md_word.specs.declared.key.Key.{Key}
use Rattle.chip_core.specs.Cores.{key_in}
use Rattle.m68k_chip.specs.Validity.{Chip68Value}
use Rattle.z80_chip.specs.Validity.{Chip80Value}
use Rattle.vdp_chip.specs.RendererState.{RendererState}
use Rattle.fm_chip.specs.Synth as fm_synths
use Rattle.psg_sound.specs.Synth.{Synth}
use Rattle.bus_shared.specs.Board.{Board}
use Rattle.md_chips.specs.Console.{Console}
use Rattle.md_chips.specs.Rules.{five}
use Rattle.md_chips.specs.Starts.{first_batch}
use Rattle.md_chips.specs.declared.chips.Chip.{Chip}
use Rattle.md_chips.specs.declared.chips.Chip.TheVariants.{Main, Sub, Renderer, Fm, Psg}

-- the parts of a machine, at a cycle
pub record Assembly : Type 0 where
  pub at : ℕ
  pub main : Chip68Value
  pub sub : Chip80Value
  pub renderer : RendererState
  pub fm : fm_synths.Synth
  pub psg : Synth

-- the five chips: no answer is kept, no view is away, no write was taken and no sample or frame is
-- kept; batches come next at their first multiple
abbrev pub chips_of : Assembly → List Chip
chips_of parts =
    Main (record { chip = parts.main; answer = None })
    ∷ Sub (record { chip = parts.sub; answer = None })
    ∷ Renderer (record { chip = record parts.renderer { frame = None }; view = None })
    ∷ Fm (record { synth = parts.fm; cycle = first_batch parts.at; taken = []; samples = [] })
    ∷ Psg (record { synth = parts.psg; cycle = first_batch parts.at; taken = []; samples = [] })
    ∷ []

-- each chip's bound is its key
abbrev pub bounds_of : List Chip → List Key
bounds_of chips = key_in five chips 0 ∷ key_in five chips 1 ∷ key_in five chips 2 ∷ key_in five chips 3 ∷ key_in five chips 4 ∷ []

-- the machine of these parts over a board
abbrev pub assembled : Assembly → Board → Console
assembled parts board = record {
  cart = parts.main.cart;
  main = parts.main.state;
  sub = parts.sub;
  note = parts.renderer.note;
  picture = parts.renderer.picture;
  pal = parts.renderer.pal;
  line = parts.renderer.next;
  fm_cycle = first_batch parts.at;
  psg_cycle = first_batch parts.at;
  fm = parts.fm;
  psg = parts.psg;
  shared = board;
}
