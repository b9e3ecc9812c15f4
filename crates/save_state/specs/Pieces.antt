-- The items of a state together, and the machine that they make.
use Rattle.std.specs.Prelude.{ℕ, List, []}
use Rattle.md_pads.specs.Recording.{Recorded}
use Rattle.m68k_chip.specs.Validity.{Chip68Value}
use Rattle.z80_chip.specs.Validity.{Chip80Value}
use Rattle.vdp_chip.specs.RendererState.{RendererState}
use Rattle.fm_chip.specs.Synth as fm_synths
use Rattle.psg_sound.specs.Synth as psg_synths
use Rattle.bus_shared.specs.Board.{Board}
use Rattle.md_chips.specs.Machines.{MachineValue}
use Rattle.md_chips.specs.Media.{no_media}
use Rattle.md_chips.specs.Starts.{first_batch}
use Rattle.save_state.specs.Items.{IsMain, MainFails, IsSub, SubFails, IsShared, SharedFails, IsPicture, RendererStateFails, IsFm, FmFails, IsPsg, PsgFails}
use Rattle.save_state.specs.Joining.{KeepsBoth, Either}

-- the 68000 and the Z80; the board and the renderer; the syntheses of the FM chip and the PSG
abbrev pub Pieces : Type 0
Pieces = (Chip68Value × Chip80Value) × ((Board × RendererState) × (fm_synths.Synth × psg_synths.Synth))

-- the bytes keep these pieces, of this cartridge and this recording
abbrev pub KeepsPieces : List ℕ → Recorded → List ℕ → Pieces → Type 0
KeepsPieces cart recording bytes =
    KeepsBoth (KeepsBoth (IsMain cart bytes) (IsSub cart bytes)) (KeepsBoth (KeepsBoth (IsShared recording bytes) (IsPicture bytes)) (KeepsBoth (IsFm bytes) (IsPsg bytes)))

-- some piece fails at this offset of the bytes
abbrev pub Fails : List ℕ → List ℕ → ℕ → Type 0
Fails cart bytes =
    Either (Either (MainFails cart bytes) (SubFails cart bytes)) (Either (Either (SharedFails bytes) (RendererStateFails bytes)) (Either (FmFails bytes) (PsgFails bytes)))

-- the machine of pieces at a cycle
abbrev pub built : ℕ → Pieces → MachineValue
built at t = record {
  at = at;
  console = record {
    cart = t.0.0.cart;
    main = t.0.0.state;
    sub = t.0.1;
    note = t.1.0.1.note;
    picture = t.1.0.1.picture;
    pal = t.1.0.1.pal;
    line = t.1.0.1.next;
    fm_cycle = first_batch at;
    psg_cycle = first_batch at;
    fm = t.1.1.0;
    psg = t.1.1.1;
    shared = t.1.0.0;
  };
  entries = [];
  media = no_media;
}
