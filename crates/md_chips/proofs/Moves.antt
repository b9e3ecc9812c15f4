-- A move of the five chips is the record's move.
use Rattle.std.proofs.Common.{◌≡◌, ℕ, zero, suc, ◌<◌, Bool, true, false, cond, ◌+◌, List, [], ◌∷◌, length, None, refl, sym, ap, ◌∙◌, arith, lit<}
use Rattle.md_word.specs.Clock as clock
use Rattle.md_word.specs.declared.event.Entry.{Entry}
use Rattle.md_word.specs.declared.key.Key.{Key}
use Rattle.chip_core.specs.Machines.{IsValid, Machine, entries, is_sample, key_of, move, put}
use Rattle.m68k_chip.specs.Events.{request_of}
use Rattle.m68k_chip.specs.States.{next_of}
use Rattle.psg_sound.specs.Port.{taken_below}
use Rattle.fm_port.specs.Port as fm_ports
use Rattle.bus_shared.specs.Accesses.{level_of, line_board, main_reported, sub_access}
use Rattle.bus_shared.specs.Entries.{batch_entry, line_entry}
use Rattle.md_chips.specs.Console.{Console, fm_moved, key_in, line_moved, main_moved, moved, sub_moved, psg_moved, reported}
use Rattle.bus_shared.specs.Board.{Board, IsBoard}
use Rattle.vdp_planes.specs.View.{view_of}
use Rattle.vdp_planes.specs.declared.view.LineView.{LineView}
use Rattle.vdp_chip.specs.RendererState.{RendererState, line_drawn, picture_after}
use Rattle.md_chips.specs.LineLaws.{reported-drawn}
use Rattle.md_chips.specs.Lines.{drawn_from, reported_view}
use Rattle.md_chips.specs.Parts.{RendererValue, FmValue, MainValue, PsgValue, SubValue}
use Rattle.md_chips.specs.Refinement.{console_of, renderer_of, fm_of, main_of, psg_of, record_of, sub_of}
use Rattle.md_chips.specs.Rules.{IsChip, advance, five, next, perform, sample}
use Rattle.z80_chip.specs.Events.{asked_of}
use Rattle.z80_chip.specs.States.{next_of as sub_next_of}
use Rattle.md_chips.specs.Pins.{pins_of}
use Rattle.md_chips.specs.declared.chips.Chip.{Chip}
use Rattle.md_chips.specs.declared.chips.Chip.TheVariants.{Main, Sub, Renderer, Fm, Psg}

-- the machine after a sample of chip i, and after an access
pub move-sample : (m : Machine Chip Board) (i : ℕ) → is_sample five m i ≡ true
    → move five m i ≡ record { shared = m.shared; chip = put m.chip i (sample (m.chip i) (pins_of m.shared i)) }
unfolding move
move-sample m i is = rw is refl

pub move-access : (m : Machine Chip Board) (i : ℕ) → is_sample five m i ≡ false
    → move five m i ≡ record { shared = (perform (m.chip i) m.shared).shared; chip = put m.chip i (advance (perform (m.chip i) m.shared).chip) }
unfolding move
move-access m i is = rw is refl

-- which kind each chip is, by its number
sub_one : (c : SubValue) → (next (Sub c)).key.chip ≡ 1
unfolding sub_next_of
sub_one c = refl

pub kind0 : (c : Chip) → (next c).key.chip ≡ 0 → (v : MainValue) × (c ≡ Main v)
kind0 (Main c) is = (c, refl)
kind0 (Sub c) is = absurd (omega (arith, sub_one c))
kind0 (Renderer c) is = absurd (omega arith)
kind0 (Fm c) is = absurd (omega arith)
kind0 (Psg c) is = absurd (omega arith)

main_zero : (c : MainValue) → (next (Main c)).key.chip ≡ 0
unfolding next_of
main_zero c = refl

pub kind1 : (c : Chip) → (next c).key.chip ≡ 1 → (v : SubValue) × (c ≡ Sub v)
kind1 (Main c) is = absurd (omega (arith, main_zero c))
kind1 (Sub c) is = (c, refl)
kind1 (Renderer c) is = absurd (omega arith)
kind1 (Fm c) is = absurd (omega arith)
kind1 (Psg c) is = absurd (omega arith)

pub kind2 : (c : Chip) → (next c).key.chip ≡ 2 → (v : RendererValue) × (c ≡ Renderer v)
kind2 (Main c) is = absurd (omega (arith, main_zero c))
kind2 (Sub c) is = absurd (omega (arith, sub_one c))
kind2 (Renderer c) is = (c, refl)
kind2 (Fm c) is = absurd (omega arith)
kind2 (Psg c) is = absurd (omega arith)

pub kind3 : (c : Chip) → (next c).key.chip ≡ 3 → (v : FmValue) × (c ≡ Fm v)
kind3 (Main c) is = absurd (omega (arith, main_zero c))
kind3 (Sub c) is = absurd (omega (arith, sub_one c))
kind3 (Renderer c) is = absurd (omega arith)
kind3 (Fm c) is = (c, refl)
kind3 (Psg c) is = absurd (omega arith)

pub kind4 : (c : Chip) → (next c).key.chip ≡ 4 → (v : PsgValue) × (c ≡ Psg v)
kind4 (Main c) is = absurd (omega (arith, main_zero c))
kind4 (Sub c) is = absurd (omega (arith, sub_one c))
kind4 (Renderer c) is = absurd (omega arith)
kind4 (Fm c) is = absurd (omega arith)
kind4 (Psg c) is = (c, refl)

-- the parts of the drawing half that the record has
line-seen : (z : Console) (view : LineView) (d : RendererState) → view.pal ≡ d.pal
    → record z {
      note = (drawn_from (reported_view d.next view) (record d { has_view = false })).note;
      picture = (drawn_from (reported_view d.next view) (record d { has_view = false })).picture;
      pal = (drawn_from (reported_view d.next view) (record d { has_view = false })).pal;
      line = (drawn_from (reported_view d.next view) (record d { has_view = false })).next;
    }
    ≡ record z {
      note = (drawn_from view (record { next = d.next; note = d.note; has_view = true; picture = d.picture; frame = None; pal = d.pal })).note;
      picture = (drawn_from view (record { next = d.next; note = d.note; has_view = true; picture = d.picture; frame = None; pal = d.pal })).picture;
      pal = d.pal;
      line = d.next + clock.line;
    }
unfolding drawn_from line_drawn picture_after
line-seen z view d same =
    ap (λ (after : RendererState). record z { note = after.note; picture = after.picture; pal = after.pal; line = after.next }) (reported-drawn view (record d { has_view = false }) same)

-- the moves, chip by chip
main_move : (b : Bool) (m : Machine Chip Board) (v : MainValue) → (next_of v.chip.state).sample ≡ b → m.chip 0 ≡ Main v
    → console_of (move five m 0) ≡ moved (console_of m) 0
unfolding console_of moved main_moved put
main_move true m v kind is = rw (move-sample m 0 (ap (λ (c : Chip). (next c).sample) is ∙ kind)) (rw is (rw kind refl))
main_move false m v kind is = rw (move-access m 0 (ap (λ (c : Chip). (next c).sample) is ∙ kind)) (rw is (rw kind refl))

sub_move : (b : Bool) (m : Machine Chip Board) (v : SubValue) → (sub_next_of v.chip.state).sample ≡ b → m.chip 1 ≡ Sub v
    → console_of (move five m 1) ≡ moved (console_of m) 1
unfolding console_of moved sub_moved put
sub_move true m v kind is = rw (move-sample m 1 (ap (λ (c : Chip). (next c).sample) is ∙ kind)) (rw is (rw kind refl))
sub_move false m v kind is = rw (move-access m 1 (ap (λ (c : Chip). (next c).sample) is ∙ kind)) (rw is (rw kind refl))

-- the event of a line: what is not observable of the view is not seen
renderer_move : (m : Machine Chip Board) (v : RendererValue) → m.chip 2 ≡ Renderer v → console_of (move five m 2) ≡ moved (console_of m) 2
unfolding console_of moved line_moved put
renderer_move m v is =
    let lent : RendererState = record v.chip { has_view = false } in
    let after : Board = line_board m.shared v.chip.next v.chip.note in
    let before : Console = record_of (m.chip 0) (m.chip 1) (Renderer v) (m.chip 3) (m.chip 4) after in
    rw (move-access m 2 (ap (λ (c : Chip). (next c).sample) is)) (rw is (line-seen before (view_of v.chip.pal after.vdp) v.chip refl))

fm_move : (m : Machine Chip Board) (v : FmValue) → m.chip 3 ≡ Fm v → console_of (move five m 3) ≡ moved (console_of m) 3
unfolding console_of moved fm_moved put
fm_move m v is = rw (move-access m 3 (ap (λ (c : Chip). (next c).sample) is)) (rw is refl)

psg_move : (m : Machine Chip Board) (v : PsgValue) → m.chip 4 ≡ Psg v → console_of (move five m 4) ≡ moved (console_of m) 4
unfolding console_of moved psg_moved put
psg_move m v is = rw (move-access m 4 (ap (λ (c : Chip). (next c).sample) is)) (rw is refl)

-- what holds of each of the five numbers
pub five-each : (P : ℕ → Type 0) → P 0 → P 1 → P 2 → P 3 → P 4 → (i : ℕ) → i < 5 → P i
five-each P p0 p1 p2 p3 p4 zero below = p0
five-each P p0 p1 p2 p3 p4 (suc zero) below = p1
five-each P p0 p1 p2 p3 p4 (suc (suc zero)) below = p2
five-each P p0 p1 p2 p3 p4 (suc (suc (suc zero))) below = p3
five-each P p0 p1 p2 p3 p4 (suc (suc (suc (suc zero)))) below = p4
five-each P p0 p1 p2 p3 p4 (suc (suc (suc (suc (suc n))))) below = absurd (omega arith)

pub move-same : (m : Machine Chip Board) → IsValid five IsChip IsBoard m → (i : ℕ) → i < 5 → console_of (move five m i) ≡ moved (console_of m) i
move-same m valid =
    let k0 = kind0 (m.chip 0) (valid.number 0 (lit< tt)) in
    let k1 = kind1 (m.chip 1) (valid.number 1 (lit< tt)) in
    let k2 = kind2 (m.chip 2) (valid.number 2 (lit< tt)) in
    let k3 = kind3 (m.chip 3) (valid.number 3 (lit< tt)) in
    let k4 = kind4 (m.chip 4) (valid.number 4 (lit< tt)) in
    five-each (λ i. console_of (move five m i) ≡ moved (console_of m) i)
    (main_move (next_of k0.0.chip.state).sample m k0.0 refl k0.1) (sub_move (sub_next_of k1.0.chip.state).sample m k1.0 refl k1.1) (renderer_move m k2.0 k2.1) (fm_move m k3.0 k3.1) (psg_move m k4.0 k4.1)

-- two readings of a chip that agree on a kind of chip agree on one of that kind
pub at-kind : {B : Type 0} (f g : Chip → B) (c k : Chip) → c ≡ k → f k ≡ g k → f c ≡ g c
at-kind f g c k is same = ap f is ∙ same ∙ sym (ap g is)

-- the keys
pub key-same : (m : Machine Chip Board) → IsValid five IsChip IsBoard m → (i : ℕ) → i < 5 → key_of five m i ≡ key_in (console_of m) i
unfolding console_of key_in
key-same m valid =
    let k0 = kind0 (m.chip 0) (valid.number 0 (lit< tt)) in
    let k1 = kind1 (m.chip 1) (valid.number 1 (lit< tt)) in
    let k2 = kind2 (m.chip 2) (valid.number 2 (lit< tt)) in
    let k3 = kind3 (m.chip 3) (valid.number 3 (lit< tt)) in
    let k4 = kind4 (m.chip 4) (valid.number 4 (lit< tt)) in
    let read : Chip → Key = λ c. (next c).key in
    five-each (λ i. key_of five m i ≡ key_in (console_of m) i)
    (at-kind read (λ c. (next_of (main_of c).chip.state).key) (m.chip 0) (Main k0.0) k0.1 refl)
    (at-kind read (λ c. (sub_next_of (sub_of c).chip.state).key) (m.chip 1) (Sub k1.0) k1.1 refl)
    (at-kind read (λ c. record { cycle = (renderer_of c).chip.next; chip = 2 }) (m.chip 2) (Renderer k2.0) k2.1 refl)
    (at-kind read (λ c. record { cycle = (fm_of c).cycle; chip = 3 }) (m.chip 3) (Fm k3.0) k3.1 refl)
    (at-kind read (λ c. record { cycle = (psg_of c).cycle; chip = 4 }) (m.chip 4) (Psg k4.0) k4.1 refl)

-- the entries
pub entries-reported : (m : Machine Chip Board) → IsValid five IsChip IsBoard m → (i : ℕ) → i < 5 → entries five m i ≡ reported (console_of m) i
unfolding console_of reported entries
entries-reported m valid =
    let k0 = kind0 (m.chip 0) (valid.number 0 (lit< tt)) in
    let k1 = kind1 (m.chip 1) (valid.number 1 (lit< tt)) in
    let k2 = kind2 (m.chip 2) (valid.number 2 (lit< tt)) in
    let k3 = kind3 (m.chip 3) (valid.number 3 (lit< tt)) in
    let k4 = kind4 (m.chip 4) (valid.number 4 (lit< tt)) in
    let read : Chip → List Entry = λ c. cond (next c).sample [] ((perform c m.shared).entry ∷ []) in
    five-each (λ i. entries five m i ≡ reported (console_of m) i)
    (at-kind read
    (λ c. let s = (main_of c).chip.state in cond (next_of s).sample [] (main_reported m.shared (next_of s).key (request_of (main_of c).chip.cart s) ∷ []))
    (m.chip 0) (Main k0.0) k0.1 refl)
    (at-kind read
    (λ c. let s = (sub_of c).chip.state in cond (sub_next_of s).sample [] ((sub_access m.shared (sub_next_of s).key (asked_of (sub_of c).chip.cart s)).entry ∷ []))
    (m.chip 1) (Sub k1.0) k1.1 refl)
    (at-kind read (λ c. let after = line_board m.shared (renderer_of c).chip.next (renderer_of c).chip.note in line_entry after.vdp.pal (record { cycle = (renderer_of c).chip.next; chip = 2 }) (level_of after) ∷ []) (m.chip 2) (Renderer k2.0) k2.1 refl)
    (at-kind read
    (λ c. batch_entry 11 (record { cycle = (fm_of c).cycle; chip = 3 }) (length (fm_ports.taken_below (fm_of c).cycle m.shared.fm.writes)) ∷ [])
    (m.chip 3) (Fm k3.0) k3.1 refl)
    (at-kind read
    (λ c. batch_entry 12 (record { cycle = (psg_of c).cycle; chip = 4 }) (length (taken_below (psg_of c).cycle m.shared.psg)) ∷ [])
    (m.chip 4) (Psg k4.0) k4.1 refl)
