-- From a start whose ports hold writes as a saved state's do.
use Rattle.std.proofs.Common.{◌≡◌, ℕ, ◌+◌, ◌≤◌, true, List, [], ◌∷◌, map, length, refl, sym, ap, ◌∙◌, subst, arith, lit<}
use Rattle.std.specs.List.{list_all}
use Rattle.std.proofs.lemmas.Bool.{and_parts, and_from}
use Rattle.std.proofs.lemmas.List.Folds.{list_all-map}
use Rattle.std.proofs.lemmas.List.Sums.{AllPass-from_list_all, list_all-from_AllPass}
use Rattle.md_word.specs.Clock as clock
use Rattle.md_word.specs.declared.event.Entry.{Entry}
use Rattle.md_word.specs.declared.key.Key.{Key}
use Rattle.sound_writes.specs.Keys.{are_kept, is_before_next, last_batch}
use Rattle.m68k_chip.specs.States.{next_of}
use Rattle.z80_chip.specs.States.{next_of as sub_next_of}
use Rattle.fm_port.specs.PortSpelling as fm_spelling
use Rattle.fm_port.specs.PortSpelling.{is_write, saved_write_of}
use Rattle.fm_port.specs.declared.write.FmWrite.{FmWrite}
use Rattle.psg_sound.specs.declared.write.PsgWrite.{PsgWrite}
use Rattle.md_chips.specs.Console.{AllBelow, Console, IsQuiet, IsRunTo, key_in, ran}
use Rattle.md_chips.specs.Media.{Media}
use Rattle.md_chips.specs.Starts.{IsStart, Start, first_batch}
use Rattle.md_chips.proofs.Counts.{fm-goes-on, psg-goes-on}
use Rattle.machine_laws.specs.Paces.{ArePaced}
use Rattle.machine_laws.specs.Writes.{HasRoom, HasWrites}
use Rattle.machine_laws.proofs.Held.{early-held, held-kept, kept-held}
use Rattle.machine_laws.proofs.Ports.{PortHolds, few-in, fm_port, holds-ran, psg_port, room-for}

-- the keys of what is kept of the FM chip's writes are theirs
keys_same : (ws : List FmWrite) → map fm_spelling.key_of (map saved_write_of ws) ≡ map (λ w. w.key) ws
keys_same [] = refl
keys_same (w ∷ ws) = ap (λ (ks : List Key). w.key ∷ ks) (keys_same ws)

late-main : (z : Console) (at : ℕ) → IsQuiet at z → at ≤ z.main.next
unfolding key_in next_of
late-main z at quiet = quiet 0 (lit< tt)

late-sub : (z : Console) (at : ℕ) → IsQuiet at z → at ≤ z.sub.state.next
unfolding key_in sub_next_of
late-sub z at quiet = quiet 1 (lit< tt)

batch_from : (at : ℕ) → first_batch at ≡ last_batch at + clock.batch
batch_from at = omega arith

-- no write is held at power-on
pub fm-starts : (start : Start) (end : ℕ) → IsStart start → HasWrites start.at start.console → start.at ≤ end → PortHolds fm_port end start.console
unfolding fm_port
fm-starts start end is has later =
    let ws : List FmWrite = start.console.shared.fm.writes in
    let parts = and_parts _ _ has.fm in
    record {
      from = last_batch start.at;
      next = is.fm ∙ batch_from start.at;
      held =
          held-kept (λ (w : FmWrite). w.key) start.at end start.console.main.next start.console.sub.state.next ws later (late-main start.console start.at is.quiet) (late-sub start.console start.at is.quiet)
          (ap (are_kept start.at) (sym (keys_same ws)) ∙ parts.1) has.fm_early;
      right = AllPass-from_list_all (λ w. is_write (saved_write_of w)) ws (sym (list_all-map is_write saved_write_of ws) ∙ parts.0);
    }

pub psg-starts : (start : Start) (end : ℕ) → IsStart start → HasWrites start.at start.console → start.at ≤ end → PortHolds psg_port end start.console
unfolding psg_port
psg-starts start end is has later =
    let ws : List PsgWrite = start.console.shared.psg in
    record {
      from = last_batch start.at;
      next = is.psg ∙ batch_from start.at;
      held =
          held-kept (λ (w : PsgWrite). w.key) start.at end start.console.main.next start.console.sub.state.next ws later (late-main start.console start.at is.quiet) (late-sub start.console start.at is.quiet)
          has.psg has.psg_early;
      right = λ k d lt. refl;
    }

-- where a run ends
low_end : (end from cycle : ℕ) → cycle ≡ first_batch end → cycle ≡ from + clock.batch → last_batch end ≤ from
low_end end from cycle is next = omega (arith, is, next)

fm-ends : (end : ℕ) (z : Console) → z.fm_cycle ≡ first_batch end → PortHolds fm_port end z
    → (fm_spelling.are_right end (map saved_write_of z.shared.fm.writes) ≡ true) × (list_all (λ w. is_before_next z.main.next z.sub.state.next w.key) z.shared.fm.writes ≡ true)
unfolding fm_port
fm-ends end z is holds =
    let ws : List FmWrite = z.shared.fm.writes in
    let key : FmWrite → Key = λ w. w.key in (
      and_from _ _ (list_all-map is_write saved_write_of ws ∙ list_all-from_AllPass (λ w. is_write (saved_write_of w)) ws holds.right)
          (ap (are_kept end) (keys_same ws) ∙ kept-held key holds.from end z.main.next z.sub.state.next ws (low_end end holds.from z.fm_cycle is holds.next) holds.held),
      early-held key holds.from end z.main.next z.sub.state.next ws holds.held,
    )

psg-ends : (end : ℕ) (z : Console) → z.psg_cycle ≡ first_batch end → PortHolds psg_port end z
    → (are_kept end (map (λ (w : PsgWrite). w.key) z.shared.psg) ≡ true) × (list_all (λ w. is_before_next z.main.next z.sub.state.next w.key) z.shared.psg ≡ true)
unfolding psg_port
psg-ends end z is holds =
    let ws : List PsgWrite = z.shared.psg in
    let key : PsgWrite → Key = λ w. w.key in
    (kept-held key holds.from end z.main.next z.sub.state.next ws (low_end end holds.from z.psg_cycle is holds.next) holds.held, early-held key holds.from end z.main.next z.sub.state.next ws holds.held)

pub writes-kept : (start : Start) (z : Console) (end : ℕ) (entries : List Entry) (output : Media) → IsStart start → HasWrites start.at start.console → start.at ≤ end
    → (run : IsRunTo start.console end z entries output) → ArePaced start.console run.moves → HasWrites end z
writes-kept start z end entries output is has later run paced =
    let fm_there : PortHolds fm_port end z = subst (PortHolds fm_port end) (sym run.console) (holds-ran fm_port end start.console run.moves paced run.below (fm-starts start end is has later)) in
    let psg_there : PortHolds psg_port end z = subst (PortHolds psg_port end) (sym run.console) (holds-ran psg_port end start.console run.moves paced run.below (psg-starts start end is has later)) in
    let fm_is = fm-ends end z (fm-goes-on start z end entries output is later run) fm_there in
    let psg_is = psg-ends end z (psg-goes-on start z end entries output is later run) psg_there in
    record { fm = fm_is.0; psg = psg_is.0; fm_early = fm_is.1; psg_early = psg_is.1 }

-- in each machine on the way
pub fm-room : (end : ℕ) (z : Console) → PortHolds fm_port end z → length z.shared.fm.writes ≤ 936
unfolding fm_port
fm-room end z holds = few-in fm_port end z holds

pub psg-room : (end : ℕ) (z : Console) → PortHolds psg_port end z → length z.shared.psg ≤ 936
unfolding psg_port
psg-room end z holds = few-in psg_port end z holds

pub writes-room : (start : Start) (end n : ℕ) → IsStart start → HasWrites start.at start.console → start.at ≤ end → AllBelow start.console end n → ArePaced start.console n
    → HasRoom (ran start.console n)
writes-room start end n is has later below paced =
    let z : Console = ran start.console n in
    let fm_few : length z.shared.fm.writes ≤ 936 = fm-room end z (holds-ran fm_port end start.console n paced below (fm-starts start end is has later)) in
    let psg_few : length z.shared.psg ≤ 936 = psg-room end z (holds-ran psg_port end start.console n paced below (psg-starts start end is has later)) in
    record {
      fm_few = fm_few;
      psg_few = psg_few;
      fm_more = λ w. room-for z.shared.fm.writes w fm_few;
      psg_more = λ key value. room-for z.shared.psg _ psg_few;
    }
