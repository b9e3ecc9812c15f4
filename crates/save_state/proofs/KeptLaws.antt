-- The machine that the parts of a state keep is spelled so.
use Rattle.std.proofs.Common.{◌≡◌, ℕ, zero, suc, ◌≤◌, ◌==◌, ◌||◌, eqb, leb, cond, Bool, true, false, not, List, length, Option, is_some, if◌then◌else◌, refl, sym, ap, subst, ◌∙◌, arith}
use Rattle.std.proofs.lemmas.Bool.{eqb-true, leb-true}
use Rattle.sha2.specs.Sha256.{sha256}
use Rattle.std.specs.Prelude.{slice_index}
use Rattle.md_word.specs.Coding.{flag_number}
use Rattle.md_fields.proofs.Flags.{flag_back}
use Rattle.md_fields.specs.Places.{IsBytes}
use Rattle.md_pads.specs.Recording.{Recorded}
use Rattle.m68k_chip.specs.Spelling as main
use Rattle.z80_chip.specs.Spelling as sub
use Rattle.z80_parcel.specs.Parcels.{Store}
use Rattle.vdp_ports.specs.Spelling.{vdp_bytes}
use Rattle.vdp_chip.specs.Spelling as renderer_state
use Rattle.fm_port.specs.PortSpelling as fm_port
use Rattle.fm_chip.specs.SynthSpelling as fm
use Rattle.psg_sound.specs.PortSpelling as psg_port
use Rattle.psg_sound.specs.SynthSpelling as psg
use Rattle.bus_shared.specs.Saved.{lines_of}
use Rattle.bus_shared.specs.Spelling as shared
use Rattle.bus_shared.proofs.SpellingLaws as shared_laws
use Rattle.md_chips.specs.Console.{Console, renderer_state_in}
use Rattle.md_chips.specs.Machines.{MachineValue}
use Rattle.md_chips.specs.Starts.{first_batch}
use Rattle.save_state.specs.Faults.{HasForm, IsMachineOf}
use Rattle.save_state.specs.Items.{at_of, region_of, main_next, sub_next, stage_of, holder_in, main_bytes, sub_bytes, shared_bytes, renderer_state_bytes}
use Rattle.save_state.specs.Layout.{digest_part, part_of, state_size, store_part, sub_part}
use Rattle.save_state.specs.States.{store_of, number_bytes, is_holder, are_fm_early, are_psg_early, IsSaved, IsNewest}
use Rattle.save_state.proofs.Gathered.{sub_gathered_long, one_size, one_store, cut_sub, cut_shared, AreAfter}
use Rattle.save_state.proofs.Places.{yes}
use Rattle.save_state.proofs.Parts.{main_own, renderer_state_own, sub_own, sub_joined, numbers_long, sub_long, vdp_long, fm_port_long, psg_port_long, lines_long}
use Rattle.save_state.proofs.Standing.{AreParts, parts_spelled, main_next_is, sub_numbers_are, resets_are}

small : (holder stage : ℕ) → is_holder holder stage ≡ true → holder ≤ 1
small holder stage e = by (eqb stage 1 || eqb stage 2) (eqb stage 3) holder e where
  by : (a b : Bool) (h : ℕ) → cond a (eqb h 0) (cond b (eqb h 1) (leb h 1)) ≡ true → h ≤ 1
  by true b h e = omega (arith, eqb-true h 0 e)
  by false true h e = omega (arith, eqb-true h 1 e)
  by false false h e = leb-true h 1 e

back : (holder : ℕ) → holder ≤ 1 → holder ≡ (if holder == 1 then 1 else 0)
back zero le = refl
back (suc zero) le = refl
back (suc (suc n)) le = absurd (omega (arith, le))

one_of : (holder : ℕ) → holder ≤ 1 → (holder == 0) ≡ not (holder == 1)
one_of zero le = refl
one_of (suc zero) le = refl
one_of (suc (suc n)) le = absurd (omega (arith, le))

owned : (bytes : List ℕ) (h : ℕ) (ours theirs : Option Store) → h ≤ 1 → is_some ours ≡ (h == 1) → ((h == 1) ≡ true → part_of store_part bytes ≡ shared.store_bytes ours) → ((h == 0) ≡ true → part_of store_part bytes ≡ shared.store_bytes theirs) → part_of store_part bytes ≡ shared.store_bytes (if is_some ours then ours else theirs)
owned bytes zero ours theirs le e a b = b refl ∙ ap (λ (has : Bool). shared.store_bytes (if has then ours else theirs)) (sym e)
owned bytes (suc zero) ours theirs le e a b = a refl ∙ ap (λ (has : Bool). shared.store_bytes (if has then ours else theirs)) (sym e)
owned bytes (suc (suc n)) ours theirs le e a b = absurd (omega (arith, le))

-- who has RAM, from what the parts keep
record Owners (bytes : List ℕ) (m : Console) : Type 0 where
  few : holder_in bytes ≤ 1
  sub_has : is_some m.sub.state.store ≡ (holder_in bytes == 0)
  shared_has : is_some m.shared.store ≡ (holder_in bytes == 1)
  numbers : part_of sub_part bytes ≡ number_bytes m.sub.state
  store : part_of store_part bytes ≡ shared.store_bytes (store_of m)

shared_cut : (cart : List ℕ) (recording : Recorded) (bytes : List ℕ) (m : MachineValue) → length bytes ≡ state_size → IsMachineOf cart recording bytes m → (length (shared.store_bytes m.console.shared.store) ≡ shared.store_size (holder_in bytes == 1)) × ((holder_in bytes == 1) ≡ true → part_of store_part bytes ≡ shared.store_bytes m.console.shared.store) × AreAfter bytes (vdp_bytes m.console.shared.vdp) (fm_port.port_bytes m.console.shared.fm) (psg_port.port_bytes m.console.shared.psg) (shared.lines_bytes (lines_of m.console.shared))
shared_cut cart recording bytes m long is =
    let b = m.console.shared in
    let s = is.shared.spells in
    cut_shared bytes (shared.store_bytes b.store) (vdp_bytes b.vdp) (fm_port.port_bytes b.fm) (psg_port.port_bytes b.psg) (shared.lines_bytes (lines_of b)) (holder_in bytes == 1) long
    (vdp_long (at_of bytes) (region_of bytes) (vdp_bytes b.vdp) b.vdp s.vdp) (fm_port_long (at_of bytes) (fm_port.port_bytes b.fm) b.fm s.fm) (psg_port_long (at_of bytes) (psg_port.port_bytes b.psg) b.psg s.psg) (lines_long (at_of bytes) (region_of bytes) (shared_bytes bytes) b s) s.all

owned_by : (cart : List ℕ) (recording : Recorded) (bytes : List ℕ) (m : MachineValue) → length bytes ≡ state_size → IsMachineOf cart recording bytes m → Owners bytes m.console
owned_by cart recording bytes m long is =
    let h = holder_in bytes in
    let s = m.console.sub.state in
    let b = m.console.shared in
    let few = small h (stage_of bytes) is.sub.holder in
    let sub_has = one_size (is_some s.store) (h == 0) (sym (sub_long cart (at_of bytes) (sub_bytes bytes) s is.sub.spells) ∙ sub_gathered_long bytes (h == 0) long) in
    let numbers = cut_sub bytes (number_bytes s) (shared.store_bytes s.store) (h == 0) long (numbers_long cart (at_of bytes) (sub_bytes bytes) s is.sub.spells) (sub_own cart (at_of bytes) (sub_bytes bytes) s is.sub.spells ∙ sub_joined s) in
    let rest = shared_cut cart recording bytes m long is in
    let shared_has = one_store (is_some b.store) (h == 1) (sym (shared_laws.store_long b.store is.shared.spells.store) ∙ rest.0) in
    record {
      few = few;
      sub_has = sub_has;
      shared_has = shared_has;
      numbers = numbers.0;
      store = owned bytes h b.store s.store few shared_has rest.1 numbers.1;
    }

pub machine_parts : (cart : List ℕ) (recording : Recorded) (bytes digest : List ℕ) (m : MachineValue) → HasForm bytes → part_of digest_part bytes ≡ digest → IsMachineOf cart recording bytes m → AreParts digest m.at m.console bytes
machine_parts cart recording bytes digest m form d is =
    let o = owned_by cart recording bytes m form.long is in
    let rest = (shared_cut cart recording bytes m form.long is).2 in
    record {
      long = form.long;
      head = form.mark;
      digest_is = d;
      at_is = sym is.at;
      region = sym (flag_back (slice_index bytes 48) is.region) ∙ ap flag_number (sym is.renderer_state.region);
      main = main_own cart (at_of bytes) (main_bytes bytes) m.console.main is.main.spells;
      numbers = o.numbers;
      holder = back (holder_in bytes) o.few ∙ ap (λ (has : Bool). if has then 1 else 0) (sym o.shared_has);
      store = o.store;
      video = rest.video;
      renderer_state = renderer_state_own (at_of bytes) (region_of bytes) (renderer_state_bytes bytes) (renderer_state_in m.console) is.renderer_state;
      fm_port = rest.fm_port;
      fm_next = is.fm.next ∙ ap first_batch (sym is.at);
      fm = is.fm.spells.keeps.all;
      psg_next = is.psg.next ∙ ap first_batch (sym is.at);
      psg_port = rest.psg_port;
      psg = is.psg.spells.keeps.all;
      lines = rest.lines;
    }

pub saved_there : (cart : List ℕ) (recording : Recorded) (bytes digest : List ℕ) (m : MachineValue) → HasForm bytes → part_of digest_part bytes ≡ digest → IsMachineOf cart recording bytes m → IsSaved cart (record { at = m.at; console = m.console })
saved_there cart recording bytes digest m form d is =
    let c = m.console in
    let p = machine_parts cart recording bytes digest m form d is in
    let o = owned_by cart recording bytes m form.long is in
    let at = sym is.at in
    let main_kept : main.Spells cart m.at (main.chip_bytes c.main) c.main = subst (λ (a : ℕ). main.Spells cart a (main.chip_bytes c.main) c.main) at (subst (λ (l : List ℕ). main.Spells cart (at_of bytes) l c.main) p.main is.main.spells) in
    let sub_kept : sub.Spells cart m.at (sub.chip_bytes c.sub.state) c.sub.state = subst (λ (a : ℕ). sub.Spells cart a (sub.chip_bytes c.sub.state) c.sub.state) at (subst (λ (l : List ℕ). sub.Spells cart (at_of bytes) l c.sub.state) (sub_own cart (at_of bytes) (sub_bytes bytes) c.sub.state is.sub.spells) is.sub.spells) in
    let its : region_of bytes ≡ c.pal = sym is.renderer_state.region in
    let shared_kept : shared.Spells m.at c.pal (shared.board_bytes c.shared) c.shared = subst (λ (b : Bool). shared.Spells m.at b (shared.board_bytes c.shared) c.shared) its (subst (λ (a : ℕ). shared.Spells a (region_of bytes) (shared.board_bytes c.shared) c.shared) at (subst (λ (l : List ℕ). shared.Spells (at_of bytes) (region_of bytes) l c.shared) is.shared.spells.all is.shared.spells)) in
    let renderer_state_kept : renderer_state.Spells m.at c.pal (renderer_state.renderer_state_bytes (renderer_state_in c)) (renderer_state_in c) = subst (λ (b : Bool). renderer_state.Spells m.at b (renderer_state.renderer_state_bytes (renderer_state_in c)) (renderer_state_in c)) its (subst (λ (a : ℕ). renderer_state.Spells a (region_of bytes) (renderer_state.renderer_state_bytes (renderer_state_in c)) (renderer_state_in c)) at (subst (λ (l : List ℕ). renderer_state.Spells (at_of bytes) (region_of bytes) l (renderer_state_in c)) p.renderer_state is.renderer_state)) in
    let numbers = sub_numbers_are cart digest bytes m.at c p sub_kept in
    let next = main_next_is cart digest bytes m.at c p main_kept in
    let resets = resets_are digest bytes m.at c.pal c (shared.board_bytes c.shared) p shared_kept in
    record {
      begun = is.begun;
      near = is.near;
      image = is.main.image;
      sub_image = is.sub.image;
      one_owner = o.sub_has ∙ one_of (holder_in bytes) o.few ∙ ap not (sym o.shared_has);
      holder = (λ i. is_holder (sym p.holder i) (numbers.stage i)) ∙ is.sub.holder;
      main = main_kept;
      sub = sub_kept;
      shared = shared_kept;
      renderer_state = renderer_state_kept;
      fm_cycle = is.fm_cycle;
      psg_cycle = is.psg_cycle;
      fm = subst (λ (l : List ℕ). fm.SpellsSynth l c.fm) p.fm is.fm.spells;
      psg = subst (λ (l : List ℕ). psg.SpellsSynth l c.psg) p.psg is.psg.spells;
      resets = omega (arith, is.shared.resets, numbers.resets, resets);
      fm_writes = (λ i. are_fm_early (next i) (numbers.next i) c.shared.fm) ∙ yes (are_fm_early (main_next bytes) (sub_next bytes) c.shared.fm) (λ late. is.fm.writes (record {
        port = c.shared.fm;
        spells = subst (λ (l : List ℕ). fm_port.SpellsPort (at_of bytes) l c.shared.fm) (sym p.fm_port) is.shared.spells.fm;
        late = late;
      }));
      psg_writes = (λ i. are_psg_early (next i) (numbers.next i) c.shared.psg) ∙ yes (are_psg_early (main_next bytes) (sub_next bytes) c.shared.psg) (λ late. is.psg.writes (record {
        port = c.shared.psg;
        spells = subst (λ (l : List ℕ). psg_port.SpellsPort (at_of bytes) l c.shared.psg) (sym p.psg_port) is.shared.spells.psg;
        late = late;
      }));
    }

pub state_there : (cart : List ℕ) (recording : Recorded) (bytes : List ℕ) (m : MachineValue) → IsBytes bytes → HasForm bytes → part_of digest_part bytes ≡ sha256 cart → IsMachineOf cart recording bytes m → IsNewest cart bytes (record { at = m.at; console = m.console })
state_there cart recording bytes m fits form d is = record {
  saved = saved_there cart recording bytes (sha256 cart) m form d is;
  all = parts_spelled (sha256 m.console.cart) m.at m.console bytes fits (machine_parts cart recording bytes (sha256 m.console.cart) m form (d ∙ ap sha256 (sym is.main.image)) is);
}
