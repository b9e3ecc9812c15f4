-- What is written of a machine that may be kept is a saved state of its cartridge.
use Rattle.std.proofs.Common.{◌≡◌, ℕ, ◌≤◌, ◌<◌, ◌+◌, lit<, Bool, true, None, List, refl, sym, subst}
use Rattle.md_word.specs.Clock as clock
use Rattle.m68k_chip.specs.Rules as main_rules
use Rattle.m68k_chip.specs.Validity.{Chip68Value}
use Rattle.m68k_chip.specs.Spelling as main
use Rattle.m68k_chip.specs.States.{next_of}
use Rattle.z80_chip.specs.Rules as sub_rules
use Rattle.z80_chip.specs.Validity.{Chip80Value}
use Rattle.z80_chip.specs.Spelling as sub
use Rattle.z80_chip.specs.States.{next_of as sub_next_of}
use Rattle.vdp_chip.specs.RendererState.{RendererState}
use Rattle.vdp_chip.specs.Spelling as renderer_state
use Rattle.fm_chip.specs.Synth as fm_synths
use Rattle.fm_chip.specs.SynthSpelling as fm
use Rattle.psg_sound.specs.Synth as psg_synths
use Rattle.psg_sound.specs.SynthSpelling as psg
use Rattle.bus_shared.specs.Board.{Board}
use Rattle.bus_shared.specs.Spelling as shared
use Rattle.md_chips.specs.Console.{Console, renderer_state_in, key_in}
use Rattle.md_chips.specs.Regions.{IsOneRegion}
use Rattle.md_chips.specs.Starts.{IsStart}
use Rattle.save_state.specs.Ready.{IsReady}
use Rattle.save_state.specs.States.{IsSaved, IsNewest, settled_console, state_bytes}
use Rattle.save_state.proofs.Holders.{holder_right}

-- what each chip's spelling says of it
abbrev pub MainKept : ℕ → Chip68Value → Type 0
MainKept at x = at ≤ x.state.next → main_rules.HasRules at x.state → main.Spells x.cart at (main.chip_bytes x.state) x.state

abbrev pub SubKept : ℕ → Chip80Value → Type 0
SubKept at x = at ≤ x.state.next → sub_rules.HasRules x.cart at x.state → sub.Spells x.cart at (sub.chip_bytes x.state) x.state

abbrev pub BoardKept : ℕ → Board → Type 0
BoardKept at b = shared.IsReady at b → shared.Spells at b.vdp.pal (shared.board_bytes (shared.settled_board at b)) (shared.settled_board at b)

abbrev pub RendererStateKept : ℕ → RendererState → Type 0
RendererStateKept at d = renderer_state.IsReady at d → renderer_state.Spells at d.pal (renderer_state.renderer_state_bytes d) (renderer_state.drained d)

abbrev pub FmKept : fm_synths.Synth → Type 0
FmKept s = fm.SpellsSynth (fm.synth_bytes s) s

abbrev pub PsgKept : psg_synths.Synth → Type 0
PsgKept s = psg.SpellsSynth (psg.synth_bytes s) s

-- the next events of the processors are at the cycle or later
main_from : (at : ℕ) (m : Console) → IsStart (record { at = at; console = m }) → at ≤ m.main.next
unfolding key_in next_of
main_from at m start = start.quiet 0 (lit< tt)

sub_from : (at : ℕ) (m : Console) → IsStart (record { at = at; console = m }) → at ≤ m.sub.state.next
unfolding key_in sub_next_of
sub_from at m start = start.quiet 1 (lit< tt)

-- a renderer that shows line, note and picture of a machine
pub renderer_state_in-kept : (at : ℕ) (d : RendererState) (m : Console) → d.next ≡ m.line → d.note ≡ m.note → d.picture ≡ m.picture → d.pal ≡ m.pal → RendererStateKept at d → RendererStateKept at (renderer_state_in m)
renderer_state_in-kept at d m line note picture pal kept ready =
    let own : renderer_state.IsReady at d = record {
      from = subst (λ (n : ℕ). at ≤ n) (sym line) ready.from;
      near = subst (λ (n : ℕ). n < at + clock.line) (sym line) ready.near;
    } in
    let same : renderer_state.drained d ≡ renderer_state_in m = λ i. record { next = line i; note = note i; has_view = true; picture = picture i; frame = None; pal = pal i } in
    subst (λ (x : RendererState). renderer_state.Spells at x.pal (renderer_state.renderer_state_bytes x) x) same (kept own)

pub saved : (at : ℕ) (m : Console) → MainKept at (record { cart = m.cart; state = m.main }) → SubKept at m.sub → BoardKept at m.shared → RendererStateKept at (renderer_state_in m)
    → FmKept m.fm → PsgKept m.psg → IsOneRegion m → IsReady at m → IsSaved m.cart (record { at = at; console = settled_console at m })
saved at m of_main of_sub of_board of_renderer_state of_fm of_psg one ready = record {
  begun = ready.begun;
  near = ready.near;
  image = refl;
  sub_image = ready.one_cart;
  one_owner = ready.one_owner;
  holder = holder_right m ready.one_owner ready.sub.holder;
  main = of_main (main_from at m ready.start) ready.main;
  sub = subst (λ (cart : List ℕ). sub.Spells cart at (sub.chip_bytes m.sub.state) m.sub.state) ready.one_cart (of_sub (sub_from at m ready.start) ready.sub);
  shared = subst (λ (pal : Bool). shared.Spells at pal (shared.board_bytes (shared.settled_board at m.shared)) (shared.settled_board at m.shared)) (sym one) (of_board ready.shared);
  renderer_state = of_renderer_state ready.renderer_state;
  fm_cycle = ready.start.fm;
  psg_cycle = ready.start.psg;
  fm = of_fm;
  psg = of_psg;
  resets = ready.resets;
  fm_writes = ready.fm_writes;
  psg_writes = ready.psg_writes;
}

-- and so the bytes of a machine that may be kept are a state of its cartridge, which keeps it settled
pub state_kept : (at : ℕ) (m : Console) → MainKept at (record { cart = m.cart; state = m.main }) → SubKept at m.sub → BoardKept at m.shared → RendererStateKept at (renderer_state_in m)
    → FmKept m.fm → PsgKept m.psg → IsOneRegion m → IsReady at m → IsNewest m.cart (state_bytes at m) (record { at = at; console = settled_console at m })
state_kept at m of_main of_sub of_board of_renderer_state of_fm of_psg one ready = record {
  saved = saved at m of_main of_sub of_board of_renderer_state of_fm of_psg one ready;
  all = refl;
}
