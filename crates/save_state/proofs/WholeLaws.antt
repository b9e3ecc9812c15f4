-- The parts of a state keep its machine.
use Rattle.std.proofs.Common.{◌≡◌, ℕ, ◌<◌, ◌≤◌, ◌^◌, ◌==◌, Bool, true, false, not, List, [], length, Option, Some, None, is_some, if◌then◌else◌, refl, sym, ap, subst, ◌∙◌, arith}
use Rattle.md_word.specs.Clock.{last_cycle}
use Rattle.sha2.specs.Sha256.{sha256}
use Rattle.md_fields.specs.Fields.{AreWithin}
use Rattle.md_fields.proofs.Flags.{flag_again}
use Rattle.md_word.proofs.Below.{bit_below}
use Rattle.vdp_ports.proofs.RuleLaws.{flag_byte}
use Rattle.md_pads.specs.Recording.{Recorded}
use Rattle.m68k_chip.specs.Spelling as main
use Rattle.z80_chip.specs.Spelling as sub
use Rattle.z80_parcel.specs.Parcels.{Store}
use Rattle.vdp_ports.specs.Spelling.{vdp_bytes}
use Rattle.vdp_chip.specs.Spelling as renderer_state
use Rattle.fm_port.specs.PortSpelling as fm_port
use Rattle.fm_chip.specs.SynthSpelling as fm
use Rattle.fm_port.proofs.PortBytes.{spelled_once as fm_once}
use Rattle.psg_sound.specs.PortSpelling as psg_port
use Rattle.psg_sound.specs.SynthSpelling as psg
use Rattle.psg_sound.proofs.PortBytes.{spelled_once as psg_once}
use Rattle.bus_shared.specs.Saved.{lines_of}
use Rattle.bus_shared.specs.Spelling as shared
use Rattle.bus_shared.proofs.SpellingLaws as shared_laws
use Rattle.md_chips.specs.Console.{Console, renderer_state_in}
use Rattle.md_chips.specs.Media.{no_media}
use Rattle.md_chips.specs.Starts.{Start, first_batch}
use Rattle.save_state.specs.Faults.{IsMachineOf}
use Rattle.save_state.specs.Items.{at_of, region_of, main_next, sub_next, holder_in, main_bytes, sub_bytes, shared_bytes, renderer_state_bytes, HasLateFm, HasLatePsg}
use Rattle.save_state.specs.Layout.{part_of, fm_port_part, psg_port_part}
use Rattle.save_state.specs.States.{holder_of, number_bytes, state_fields, is_holder, are_fm_early, are_psg_early, IsSaved, IsNewest}
use Rattle.save_state.proofs.Gathered.{zero_one, gathered_sub, gathered_shared}
use Rattle.save_state.proofs.Parts.{sub_joined, numbers_long, owned_long, store_long, main_long, vdp_long, renderer_state_long, fm_port_long, psg_port_long, fm_long, psg_long, lines_long}
use Rattle.save_state.proofs.Standing.{AreParts, parts_there, main_next_is, sub_numbers_are, resets_are}

-- ---- how long what is spelled is

small_holder : (m : Console) → holder_of m < 2 ^ 8
small_holder m = small (is_some m.shared.store) where
  small : (has : Bool) → (if has then 1 else 0) < 2 ^ 8
  small true = omega arith
  small false = omega arith

batch_fits : (at : ℕ) → at ≤ last_cycle → first_batch at < 2 ^ 64
batch_fits at near = omega (arith, below at near) where
  below : (at : ℕ) → at ≤ last_cycle → first_batch at ≤ 549755830016
  below at near = omega arith

fields_within : (cart : List ℕ) (start : Start) → length (sha256 start.console.cart) ≡ 32 → IsSaved cart start → AreWithin (state_fields (sha256 start.console.cart) start.at start.console)
unfolding AreWithin
fields_within cart start d s =
    let m = start.console in (
      refl,
      (
        d,
        (
          omega (arith, s.near),
          (
            flag_byte m.pal,
            (
              main_long cart start.at (main.chip_bytes m.main) m.main s.main,
              (
                numbers_long cart start.at (sub.chip_bytes m.sub.state) m.sub.state s.sub,
                (
                  small_holder m,
                  (
                    owned_long m.shared.store m.sub.state.store s.one_owner (shared_laws.store_long m.shared.store s.shared.store) (store_long cart start.at (sub.chip_bytes m.sub.state) m.sub.state s.sub),
                    (
                      vdp_long start.at m.pal (vdp_bytes m.shared.vdp) m.shared.vdp s.shared.vdp,
                      (
                        renderer_state_long start.at m.pal (renderer_state.renderer_state_bytes (renderer_state_in m)) (renderer_state_in m) s.renderer_state,
                        (
                          fm_port_long start.at (fm_port.port_bytes m.shared.fm) m.shared.fm s.shared.fm,
                          (
                            batch_fits start.at s.near,
                            (
                              fm_long (fm.synth_bytes m.fm) m.fm s.fm,
                              (
                                batch_fits start.at s.near,
                                (
                                  psg_port_long start.at (psg_port.port_bytes m.shared.psg) m.shared.psg s.shared.psg,
                                  (
                                    psg_long (psg.synth_bytes m.psg) m.psg s.psg,
                                    (lines_long start.at m.pal (shared.board_bytes m.shared) m.shared s.shared, tt),
                                  ),
                                ),
                              ),
                            ),
                          ),
                        ),
                      ),
                    ),
                  ),
                ),
              ),
            ),
          ),
        ),
      ),
    )

pub state_parts : (cart bytes : List ℕ) (start : Start) → length (sha256 start.console.cart) ≡ 32 → IsNewest cart bytes start → AreParts (sha256 start.console.cart) start.at start.console bytes
state_parts cart bytes start d s = parts_there (sha256 start.console.cart) start.at start.console bytes (fields_within cart start d s.saved) s.all

-- ---- the parts of a state keep its machine

whole_sub : (digest bytes : List ℕ) (at : ℕ) (m : Console) → is_some m.sub.state.store ≡ not (is_some m.shared.store) → AreParts digest at m bytes → sub_bytes bytes ≡ sub.chip_bytes m.sub.state
whole_sub digest bytes at m owner p =
    let h = zero_one (is_some m.shared.store) (holder_in bytes) p.holder in
    gathered_sub bytes (number_bytes m.sub.state) (holder_in bytes == 0) m.sub.state.store (owner ∙ sym h.0) p.numbers (λ e. p.store ∙ ap shared.store_bytes (theirs m.shared.store m.sub.state.store (sym h.0 ∙ e)))
    ∙ sym (sub_joined m.sub.state) where
      theirs : (a b : Option Store) → not (is_some a) ≡ true → (if is_some a then a else b) ≡ b
      theirs None b e = refl
      theirs (Some x) b e = absurd cc

whole_shared : (digest bytes : List ℕ) (at : ℕ) (m : Console) → AreParts digest at m bytes → shared_bytes bytes ≡ shared.board_bytes m.shared
whole_shared digest bytes at m p =
    let h = zero_one (is_some m.shared.store) (holder_in bytes) p.holder in
    gathered_shared bytes (vdp_bytes m.shared.vdp) (fm_port.port_bytes m.shared.fm) (psg_port.port_bytes m.shared.psg) (shared.lines_bytes (lines_of m.shared)) (holder_in bytes == 1) m.shared.store (sym h.1) (λ e. p.store ∙ ap shared.store_bytes (ours m.shared.store m.sub.state.store (sym h.1 ∙ e))) p.video p.fm_port p.psg_port p.lines where
      ours : (a b : Option Store) → is_some a ≡ true → (if is_some a then a else b) ≡ a
      ours (Some x) b e = refl
      ours None b e = absurd cc

not_late_fm : (cart digest bytes : List ℕ) (start : Start) → IsSaved cart start → AreParts digest start.at start.console bytes → ¬ HasLateFm bytes
not_late_fm cart digest bytes start s p late =
    let m = start.console in
    let kept : fm_port.SpellsPort (at_of bytes) (part_of fm_port_part bytes) m.shared.fm = subst (λ (a : ℕ). fm_port.SpellsPort a (part_of fm_port_part bytes) m.shared.fm) (sym p.at_is) (subst (λ (l : List ℕ). fm_port.SpellsPort start.at l m.shared.fm) (sym p.fm_port) s.shared.fm) in
    let same = fm_once (at_of bytes) (part_of fm_port_part bytes) late.port m.shared.fm late.spells kept in
    let next = main_next_is cart digest bytes start.at m p s.main in
    let second = (sub_numbers_are cart digest bytes start.at m p s.sub).next in
    let e : are_fm_early (main_next bytes) (sub_next bytes) late.port ≡ are_fm_early m.main.next m.sub.state.next m.shared.fm = λ i. are_fm_early (sym next i) (sym second i) (same i) in
    let f : true ≡ false = sym s.fm_writes ∙ sym e ∙ late.late in
    absurd cc

not_late_psg : (cart digest bytes : List ℕ) (start : Start) → IsSaved cart start → AreParts digest start.at start.console bytes → ¬ HasLatePsg bytes
not_late_psg cart digest bytes start s p late =
    let m = start.console in
    let kept : psg_port.SpellsPort (at_of bytes) (part_of psg_port_part bytes) m.shared.psg = subst (λ (a : ℕ). psg_port.SpellsPort a (part_of psg_port_part bytes) m.shared.psg) (sym p.at_is) (subst (λ (l : List ℕ). psg_port.SpellsPort start.at l m.shared.psg) (sym p.psg_port) s.shared.psg) in
    let same = psg_once (at_of bytes) (part_of psg_port_part bytes) late.port m.shared.psg late.spells kept in
    let next = main_next_is cart digest bytes start.at m p s.main in
    let second = (sub_numbers_are cart digest bytes start.at m p s.sub).next in
    let e : are_psg_early (main_next bytes) (sub_next bytes) late.port ≡ are_psg_early m.main.next m.sub.state.next m.shared.psg = λ i. are_psg_early (sym next i) (sym second i) (same i) in
    let f : true ≡ false = sym s.psg_writes ∙ sym e ∙ late.late in
    absurd cc

pub machine_there : (cart digest bytes : List ℕ) (recording : Recorded) (start : Start) → IsSaved cart start → AreParts digest start.at start.console bytes → start.console.shared.recording ≡ recording → IsMachineOf cart recording bytes (record { at = start.at; console = start.console; entries = []; media = no_media })
machine_there cart digest bytes recording start s p pads =
    let m = start.console in
    let numbers = sub_numbers_are cart digest bytes start.at m p s.sub in
    let resets = resets_are digest bytes start.at m.pal m (shared.board_bytes m.shared) p s.shared in
    let at = sym p.at_is in
    let its : m.pal ≡ region_of bytes = sym (flag_again m.pal) ∙ ap (λ (n : ℕ). n == 1) (sym p.region) in
    record {
      at = at;
      begun = s.begun;
      near = s.near;
      main = record {
        image = s.image;
        spells = subst (λ (a : ℕ). main.Spells cart a (main_bytes bytes) m.main) at (subst (λ (l : List ℕ). main.Spells cart start.at l m.main) (sym p.main) s.main);
      };
      sub = record {
        image = s.sub_image;
        spells = subst (λ (a : ℕ). sub.Spells cart a (sub_bytes bytes) m.sub.state) at (subst (λ (l : List ℕ). sub.Spells cart start.at l m.sub.state) (sym (whole_sub digest bytes start.at m s.one_owner p)) s.sub);
        holder = (λ i. is_holder (p.holder i) (sym numbers.stage i)) ∙ s.holder;
      };
      region = subst (λ (n : ℕ). n ≤ 1) (sym p.region) (bit_below m.pal);
      shared = record {
        pads = pads;
        spells = subst (λ (b : Bool). shared.Spells (at_of bytes) b (shared_bytes bytes) m.shared) its (subst (λ (a : ℕ). shared.Spells a m.pal (shared_bytes bytes) m.shared) at (subst (λ (l : List ℕ). shared.Spells start.at m.pal l m.shared) (sym (whole_shared digest bytes start.at m p)) s.shared));
        resets = omega (arith, s.resets, numbers.resets, resets);
      };
      renderer_state = subst (λ (b : Bool). renderer_state.Spells (at_of bytes) b (renderer_state_bytes bytes) (renderer_state_in m)) its (subst (λ (a : ℕ). renderer_state.Spells a m.pal (renderer_state_bytes bytes) (renderer_state_in m)) at (subst (λ (l : List ℕ). renderer_state.Spells start.at m.pal l (renderer_state_in m)) (sym p.renderer_state) s.renderer_state));
      fm_cycle = s.fm_cycle;
      psg_cycle = s.psg_cycle;
      fm = record {
        spells = subst (λ (l : List ℕ). fm.SpellsSynth l m.fm) (sym p.fm) s.fm;
        next = p.fm_next ∙ ap first_batch at;
        writes = not_late_fm cart digest bytes start s p;
      };
      psg = record {
        spells = subst (λ (l : List ℕ). psg.SpellsSynth l m.psg) (sym p.psg) s.psg;
        next = p.psg_next ∙ ap first_batch at;
        writes = not_late_psg cart digest bytes start s p;
      };
      entries = refl;
      media = refl;
    }
