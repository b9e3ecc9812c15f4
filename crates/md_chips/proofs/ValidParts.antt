-- The parts of a machine stay valid over a run.
use Rattle.std.proofs.Common.{◌≡◌, ℕ, ◌≤◌, Bool, List, refl, sym, subst, arith, lit<, lit≤}
use Rattle.md_word.specs.Clock.{cycle_limit}
use Rattle.chip_core.specs.Cores.{machine_of}
use Rattle.chip_core.specs.Machines.{IsValid, Machine, key_of, run}
use Rattle.chip_core.specs.Machines as machines
use Rattle.m68k_chip.proofs.Laws as laws68
use Rattle.m68k_chip.specs.Validity.{IsChip68}
use Rattle.m68k_chip.specs.States.{next_of}
use Rattle.md_pads.specs.Recording.{Recorded}
use Rattle.psg_sound.specs.Synth.{IsSynth}
use Rattle.psg_sound.specs.SynthLaws.{IsSynth-at_power_on}
use Rattle.rom_header.specs.Cartridge.{IsImage}
use Rattle.vdp_chip.proofs.Lined.{renderer_state_begun}
use Rattle.vdp_chip.specs.RendererState.{IsRendererState}
use Rattle.z80_chip.proofs.Laws as laws80
use Rattle.z80_chip.specs.Validity.{IsChip80}
use Rattle.z80_chip.specs.States.{next_of as sub_next_of}
use Rattle.bus_shared.proofs.Keeps.{power_on-ok}
use Rattle.bus_shared.specs.Board.{Board, IsBoard}
use Rattle.md_chips.specs.Console as consoles
use Rattle.md_chips.specs.Console.{Console, ran}
use Rattle.md_chips.specs.Cores.{core_of}
use Rattle.md_chips.specs.Parts.{RendererValue, MainValue, PsgValue, SubValue}
use Rattle.md_chips.specs.Refinement.{console_of, renderer_of, main_of, psg_of, sub_of}
use Rattle.md_chips.specs.Rules.{IsChip, five}
use Rattle.md_chips.specs.declared.chips.Chip.{Chip}
use Rattle.md_chips.specs.declared.chips.Chip.TheVariants.{Main, Sub, Renderer, Psg}
use Rattle.md_chips.proofs.Lifts.{Movers, ValidTo, ran-same}
use Rattle.md_chips.proofs.Moves.{five-each, kind0, kind1, kind2, kind4}
use Rattle.md_chips.proofs.Segments.{below-lift}
use Rattle.md_chips.specs.ValidParts.{HasValidParts}

-- ---- a machine as its five chips and the board

abbrev pub machine_in : Console → Machine Chip Board
machine_in m = machine_of five (core_of m)

pub console_again : (m : Console) → console_of (machine_in m) ≡ m
unfolding console_of
console_again m = refl

pub valid_in : (m : Console) → HasValidParts m → IsValid five IsChip IsBoard (machine_in m)
unfolding next_of sub_next_of
valid_in m has = record {
  shared = has.board;
  chip = five-each (λ i. IsChip ((machine_in m).chip i)) has.main has.sub (record { chip = has.renderer_state; view = refl })
      (record { taken = lit≤ tt; samples = lit≤ tt }) (record { synth = has.psg; taken = lit≤ tt; samples = lit≤ tt });
  number = five-each (λ i. (key_of five (machine_in m) i).chip ≡ i) refl refl refl refl refl;
}

-- ---- and back

main_in : (c : Chip) (v : MainValue) → c ≡ Main v → IsChip c → IsChip68 (main_of c).chip
main_in c v is ok = subst (λ (k : Chip). IsChip68 (main_of k).chip) (sym is) (subst IsChip is ok)

sub_in : (c : Chip) (v : SubValue) → c ≡ Sub v → IsChip c → IsChip80 (sub_of c).chip
sub_in c v is ok = subst (λ (k : Chip). IsChip80 (sub_of k).chip) (sym is) (subst IsChip is ok)

renderer_in : (c : Chip) (v : RendererValue) → c ≡ Renderer v → IsChip c → IsRendererState (renderer_of c).chip
renderer_in c v is ok =
    let own : IsChip (Renderer v) = subst IsChip is ok in
    subst (λ (k : Chip). IsRendererState (renderer_of k).chip) (sym is) own.chip

psg_in : (c : Chip) (v : PsgValue) → c ≡ Psg v → IsChip c → IsSynth (psg_of c).synth
psg_in c v is ok =
    let own : IsChip (Psg v) = subst IsChip is ok in
    subst (λ (k : Chip). IsSynth (psg_of k).synth) (sym is) own.synth

pub parts_in : (m : Machine Chip Board) → IsValid five IsChip IsBoard m → HasValidParts (console_of m)
unfolding console_of
parts_in m valid =
    let k0 = kind0 (m.chip 0) (valid.number 0 (lit< tt)) in
    let k1 = kind1 (m.chip 1) (valid.number 1 (lit< tt)) in
    let k2 = kind2 (m.chip 2) (valid.number 2 (lit< tt)) in
    let k4 = kind4 (m.chip 4) (valid.number 4 (lit< tt)) in
    let renderer_state = renderer_in (m.chip 2) k2.0 k2.1 (valid.chip 2 (lit< tt)) in
    record {
      main = main_in (m.chip 0) k0.0 k0.1 (valid.chip 0 (lit< tt));
      sub = sub_in (m.chip 1) k1.0 k1.1 (valid.chip 1 (lit< tt));
      renderer_state = record { picture = renderer_state.picture; frame = tt; at_line = renderer_state.at_line; undrawn = renderer_state.undrawn };
      psg = psg_in (m.chip 4) k4.0 k4.1 (valid.chip 4 (lit< tt));
      board = valid.shared;
    }

-- ---- at power-on, and over a run

pub parts_begun : (cart : List ℕ) (recording : Recorded) (pal : Bool) → IsImage cart → HasValidParts (consoles.power_on cart recording pal)
parts_begun cart recording pal image = record {
  main = laws68.power_on-ok cart image;
  sub = laws80.power_on-ok cart image;
  renderer_state = renderer_state_begun pal;
  psg = IsSynth-at_power_on;
  board = power_on-ok recording pal;
}

-- the stages of a run of valid machines are valid
abbrev pub Stages : Type 0
Stages = (m : Machine Chip Board) (t n : ℕ) → t ≤ cycle_limit → IsValid five IsChip IsBoard m → machines.AllBelow five m t n → IsValid five IsChip IsBoard (run five m n)

pub parts_ran : Stages → Movers → (m : Console) (end n : ℕ) → end ≤ cycle_limit → HasValidParts m → consoles.AllBelow m end n → HasValidParts (ran m n)
parts_ran stages movers m end n small has below =
    let first : Machine Chip Board = machine_in m in
    let valid : IsValid five IsChip IsBoard first = valid_in m has in
    let own : consoles.AllBelow (console_of first) end n = subst (λ (z : Console). consoles.AllBelow z end n) (sym (console_again m)) below in
    let lower : machines.AllBelow five first end n = below-lift first end n (λ k earlier. stages first end k small valid earlier) movers own in
    let to : ValidTo first n = λ k within. stages first end k small valid (record { each = λ j earlier. lower.each j (omega arith) }) in
    let same : console_of (run five first n) ≡ ran (console_of first) n = ran-same first n to movers in
    subst (λ (z : Console). HasValidParts (ran z n)) (console_again m)
    (subst HasValidParts same (parts_in (run five first n) (stages first end n small valid lower)))
