-- What the scheduler asks of the five chips.
use Rattle.std.specs.Prelude.{◌≡◌, ℕ, ◌<◌, ◌≤◌, nat_le, Bool, true, false, ◌==◌, refl, List, ◌++◌, length, cond, ◌+◌, ◌||◌, Option, Some, None}
use Rattle.std.proofs.Common.{arith, sym, length-append, lit<, lit≤, ap, subst, Result, Ok, Err, IfSome, IsTrue, leb-true, true≢false}
use Rattle.chip_core.specs.Chips.{Follows, IsDue, Lawful}
use Rattle.md_word.specs.declared.key.Key.{Key}
use Rattle.md_word.specs.declared.main_bus.Request68.{Request68}
use Rattle.md_word.specs.declared.main_bus.Request68.TheVariants.{Read8, Read16, Write8, Write16, Ack, Word}
use Rattle.m68k_chip.specs.Events.{request_of}
use Rattle.m68k_chip.specs.Validity.{Fits, IsStarted}
use Rattle.md_word.specs.declared.main_bus.Transfer.{Transfer}
use Rattle.bus_shared.specs.Laws.{IsTransfer, LeavesPins}
use Rattle.bus_shared.specs.Video.{level_known}
use Rattle.m68k_chip.specs.States.{State68, next_of}
use Rattle.psg_sound.specs.Batches.{samples}
use Rattle.psg_sound.specs.Port.{taken_below}
use Rattle.bus_shared.specs.Accesses.{main_answer, main_reported, main_transfer, main_value, sub_access, taken_back, yielded}
use Rattle.bus_shared.specs.Entries.{main_entry}
use Rattle.fm_chip.specs.Batches as fm_batches
use Rattle.bus_shared.proofs.Keeps.{fm_board-ok, fm_taken-few, line-ok, main-ok, psg_board-ok}
use Rattle.std.proofs.lemmas.List.FromFn.{length-map-range_with_len}
use Rattle.md_word.specs.Clock as clock
use Rattle.bus_shared.proofs.Keeps as keeps
use Rattle.bus_shared.proofs.Keeps.{HandsOver}
use Rattle.bus_shared.proofs.Touches.{batch_pins_stay, fm_batch_pins_stay, sub_pins_stay}
use Rattle.md_word.specs.declared.sub_bus.Request80.{Request80}
use Rattle.md_word.specs.declared.sub_bus.Request80.TheVariants as requests80
use Rattle.z80_chip.proofs.Laws as laws80
use Rattle.z80_chip.specs.Events.{asked_at, asked_in, asked_of, carried_out, handed, handing, kept_at}
use Rattle.z80_chip.specs.States.{State80, next_of as sub_next_of}
use Rattle.z80_chip.specs.declared.stage.Stage.{Stage}
use Rattle.z80_chip.specs.declared.stage.Stage.TheVariants as stages80
use Rattle.z80_exec.proofs.Bounds.Samples as bounds80
use Rattle.z80_exec.specs.Sample.Bounds.{IsAccess}
use Rattle.z80_exec.specs.Sample.Samples.{Ended}
use Rattle.z80_parcel.specs.Parcels.{IsStore, Store}
use Rattle.z80_parcel.specs.Requests as fits80
use Rattle.z80_parcel.specs.Requests.{RequestValue80, ReadByte, WriteByte, HandOver, TakeBack, AnswerValue80, Byte, Nothing, Returned}
use Rattle.md_chips.specs.Pins.{level_in, pins_by, pins_of, sub_in}
use Rattle.md_chips.specs.declared.pins.Pins.TheVariants as pins
use Rattle.bus_shared.proofs.Values.{reports}
use Rattle.m68k_chip.proofs.Laws.{answered-later, answered-ok, begun-later, begun-ok}
use Rattle.psg_sound.specs.PortLaws.{taken_below-few}
use Rattle.psg_sound.specs.SynthLaws.{IsSynth-after_batch, length-samples}
use Rattle.bus_shared.specs.Board.{Board, IsBoard}
use Rattle.vdp_chip.specs.RendererState.{RendererState}
use Rattle.vdp_planes.specs.declared.view.LineView.{LineView}
use Rattle.md_chips.specs.LineLaws.{renderer_state-ok, renderer_state-wherever, drawn-next}
use Rattle.md_chips.specs.Lines.{drawn_from}
use Rattle.md_chips.specs.Parts.{RendererValue, FmValue, IsRenderer, IsFm, IsPsg, IsSub, MainValue, PsgValue, SubValue}
use Rattle.md_chips.specs.Rules.{IsChip, advance, renderer_advance, renderer_perform, first_of, five, fm_advance, fm_perform, gap, kept, next, perform, psg_advance, psg_perform, sample, sub_advance, sub_perform, view_in, writes}
use Rattle.md_chips.specs.declared.chips.Chip.{Chip}
use Rattle.md_chips.specs.declared.chips.Chip.TheVariants.{Main, Sub, Renderer, Fm, Psg}

-- the board's transfers are those that can be reported to the 68000
started : (t : Option Transfer) → IfSome t IsTransfer → IfSome t IsStarted
started None h = tt
started (Some t) h = record { some = h.some; most = h.most; even = h.even; on_bus = h.on_bus; cost = h.cost }

-- what the board answers fits
pub answer-fits : (board : Board) (key : Key) (request : Request68) → IsBoard board → Fits request (main_answer board key request)
unfolding main_answer main_value
answer-fits board key (Read8 at) ok = record { value = (reports board key ok).byte at; transfer = started (main_transfer board key (Read8 at)) ((reports board key ok).transfer (Read8 at)); cost = tt }
answer-fits board key (Read16 at) ok = record { value = (reports board key ok).word at; transfer = started (main_transfer board key (Read16 at)) ((reports board key ok).transfer (Read16 at)); cost = tt }
answer-fits board key (Write8 at value) ok = record { value = refl; transfer = started (main_transfer board key (Write8 at value)) ((reports board key ok).transfer (Write8 at value)); cost = tt }
answer-fits board key (Write16 at value) ok = record { value = refl; transfer = started (main_transfer board key (Write16 at value)) ((reports board key ok).transfer (Write16 at value)); cost = tt }
answer-fits board key (Ack level) ok = record { value = refl; transfer = started (main_transfer board key (Ack level)) ((reports board key ok).transfer (Ack level)); cost = tt }
answer-fits board key (Word value) ok = record { value = refl; transfer = started (main_transfer board key (Word value)) ((reports board key ok).transfer (Word value)); cost = (reports board key ok).cost value }

-- what the Z80 hands over is valid
handing-valid : (store : Option Store) → IfSome store IsStore → HandsOver (handing store)
handing-valid None ok = tt
handing-valid (Some store) ok = ok

asked-hands : (r : Result Ended Request80) → ((request : Request80) → r ≡ Err request → IsAccess request) → HandsOver (asked_in r)
asked-hands (Ok ended) is = tt
asked-hands (Err (requests80.Read at)) is = tt
asked-hands (Err (requests80.Write at value)) is = tt
asked-hands (Err (requests80.Yield parcel)) is = absurd (is (requests80.Yield parcel) refl)
asked-hands (Err requests80.Take) is = tt

hands-at : (stage : Stage) (cart : List ℕ) (state : State80) → IfSome state.store IsStore → HandsOver (asked_at stage cart state)
hands-at stages80.Sample cart state ok = tt
hands-at stages80.Access cart state ok = asked-hands (carried_out cart state state.cause) (bounds80.asks state.cause state.regs _)
hands-at stages80.Yield cart state ok = handing-valid state.store ok
hands-at stages80.Take cart state ok = tt

-- a valid Z80 hands over only RAM and bank register of their sizes
pub handed-board : (c : SubValue) → IsSub c → HandsOver (asked_of c.chip.cart c.chip.state)
unfolding asked_of
handed-board c ok = hands-at c.chip.state.stage c.chip.cart c.chip.state ok.store

-- what fits what it asked for fits once that is handed over
handed-fits : (store : Option Store) (reported : AnswerValue80) → fits80.Fits (handing store) reported → fits80.Fits TakeBack reported
handed-fits None reported fits = fits
handed-fits (Some store) (Byte value) fits = fits
handed-fits (Some store) Nothing fits = tt
handed-fits (Some store) (Returned back) fits = fits

fits-at : (stage : Stage) (cart : List ℕ) (state : State80) (reported : AnswerValue80) → fits80.Fits (asked_at stage cart state) reported → fits80.Fits (asked_at stage cart (record state { store = kept_at stage state.store })) reported
fits-at stages80.Sample cart state reported fits = fits
fits-at stages80.Access cart state reported fits = fits
fits-at stages80.Yield cart state reported fits = handed-fits state.store reported fits
fits-at stages80.Take cart state reported fits = fits

-- what the board answers the Z80 fits what it asked for, also once RAM is handed over
pub reported-fits : (c : SubValue) (s : Board) → IsSub c → IsBoard s
    → fits80.Fits (asked_of c.chip.cart (handed c.chip.state)) (sub_access s (sub_next_of c.chip.state).key (asked_of c.chip.cart c.chip.state)).answer
unfolding asked_of handed
reported-fits c s ok board =
    fits-at c.chip.state.stage c.chip.cart c.chip.state _ (keeps.sub-fits s (sub_next_of c.chip.state).key (asked_at c.chip.state.stage c.chip.cart c.chip.state) (hands-at c.chip.state.stage c.chip.cart c.chip.state ok.store) board)

handed-kind : (state : State80) → (sub_next_of state).sample ≡ false → (sub_next_of (handed state)).sample ≡ false
unfolding sub_next_of handed
handed-kind state kind = kind

-- the Z80 is chip 1, one of the two that write
pub sub-low : (state : State80) → (sub_next_of state).key.chip < 2
unfolding sub_next_of
sub-low state = lit< tt

-- an access of the Z80
sub-ok : (c : SubValue) (s : Board) → IsSub c → IsBoard s → (sub_next_of c.chip.state).sample ≡ false → IsSub (sub_advance (sub_perform c s).chip)
sub-ok c s ok board kind =
    laws80.answered-ok (laws80.of c.chip.cart (handed c.chip.state)) _ (laws80.handed-ok c.chip ok) (handed-kind c.chip.state kind) (reported-fits c s ok board)

handed-next : (state : State80) → (handed state).next ≡ state.next
unfolding handed
handed-next state = refl

sub-later : (c : SubValue) (s : Board) → IsSub c → (sub_next_of c.chip.state).sample ≡ false → c.chip.state.next + clock.sub_gap ≤ (sub_advance (sub_perform c s).chip).chip.state.next
sub-later c s ok kind =
    subst (λ (n : ℕ). n + clock.sub_gap ≤ (sub_advance (sub_perform c s).chip).chip.state.next) (handed-next c.chip.state)
    (laws80.answered-later (laws80.of c.chip.cart (handed c.chip.state)) _ (laws80.handed-ok c.chip ok) (handed-kind c.chip.state kind))

-- the levels of the pins are known
level-known : (b : Bool) (s : Board) → IsTrue (level_in (pins_by b s) == 0 || level_in (pins_by b s) == 4 || level_in (pins_by b s) == 6)
level-known true s = refl
level-known false s = level_known s.vdp

-- the entry of the Z80's access has its key
yielded-key : (b : Bool) (s : Board) (key : Key) (store : Store) → (yielded b s key store).entry.key ≡ key
yielded-key true s key store = refl
yielded-key false s key store = refl

taken-key : (b : Bool) (store : Option Store) (s : Board) (key : Key) → (taken_back b store s key).entry.key ≡ key
taken-key true store s key = refl
taken-key false None s key = refl
taken-key false (Some store) s key = refl

sub-key : (s : Board) (key : Key) (request : RequestValue80) → (sub_access s key request).entry.key ≡ key
unfolding sub_access
sub-key s key (ReadByte at) = refl
sub-key s key (WriteByte at value) = refl
sub-key s key (HandOver store) = yielded-key s.request s key store
sub-key s key TakeBack = taken-key s.request s.store s key

-- pins that stay are the same for each chip
pins-same : (b : Bool) (old new : Board) → LeavesPins old new → pins_by b new ≡ pins_by b old
pins-same true old new same = ap pins.Sub same.sub
pins-same false old new same = ap pins.Main same.main

-- an access leads to a next event a gap later
access-next : (c : Chip) (s : Board) (i : ℕ) → IsDue five IsChip IsBoard c s i false → Follows gap (next c).key (next (advance (perform c s).chip)).key
unfolding next_of sub_next_of
access-next (Main c) s i d = record { number = refl; later = answered-later c.chip _ d.chip d.kind (answer-fits s (next_of c.chip.state).key (request_of c.chip.cart c.chip.state) d.shared) }
access-next (Sub c) s i d = record { number = refl; later = sub-later c s d.chip d.kind }
access-next (Renderer c) s i d = record { number = refl; later = omega (arith, drawn-next (view_in (renderer_perform c s).chip.view) (record c.chip { has_view = false })) }
access-next (Fm c) s i d = record { number = refl; later = omega arith }
access-next (Psg c) s i d = record { number = refl; later = omega arith }

sample-next : (c : Chip) (s : Board) (i : ℕ) → IsDue five IsChip IsBoard c s i true → Follows gap (next c).key (next (sample c (pins_of s i))).key
unfolding next_of sub_next_of
sample-next (Main c) s i d = record { number = refl; later = begun-later c.chip (level_in (pins_of s i)) d.chip d.kind }
sample-next (Sub c) s i d = record { number = refl; later = laws80.begun-later c.chip (sub_in (pins_of s i)) d.chip d.kind }
sample-next (Renderer c) s i d = absurd (true≢false (sym d.kind))
sample-next (Fm c) s i d = absurd (true≢false (sym d.kind))
sample-next (Psg c) s i d = absurd (true≢false (sym d.kind))

kept_by : {A : Type 0} (b : Bool) (old batch : List A) → (b ≡ true → length old ≤ 1056) → length batch ≡ 16 → length old ≤ 1072 → length (cond b (old ++ batch) old) ≤ 1072
kept_by true old batch room sixteen few = omega (arith, room refl, length-append old batch)
kept_by false old batch room sixteen few = few

kept-few : {A : Type 0} (old batch : List A) → length batch ≡ 16 → length old ≤ 1072 → length (kept old batch) ≤ 1072
kept-few old batch sixteen few = kept_by (nat_le (length old) 1056) old batch (leb-true (length old) 1056) sixteen few

-- a batch of the FM synthesis has sixteen samples
pub sixteen-fm : (c : FmValue) → length (fm_batches.samples (first_of c.cycle) c.synth c.taken) ≡ 16
unfolding fm_batches.samples
sixteen-fm c = length-map-range_with_len (fm_batches.sample (first_of c.cycle) c.synth c.taken) 0 16

fm-ok : (c : FmValue) (s : Board) → IsFm c → IsBoard s → IsFm (fm_advance (fm_perform c s).chip)
fm-ok c s ok board = record {
  taken = fm_taken-few c.cycle s.fm.writes board.fm;
  samples = kept-few c.samples _ (sixteen-fm (fm_perform c s).chip) ok.samples;
}

psg-ok : (c : PsgValue) (s : Board) → IsPsg c → IsBoard s → IsPsg (psg_advance (psg_perform c s).chip)
psg-ok c s ok board = record {
  synth = IsSynth-after_batch (first_of c.cycle) c.synth (taken_below c.cycle s.psg) ok.synth;
  taken = taken_below-few c.cycle s.psg board.psg;
  samples = kept-few c.samples (samples (first_of c.cycle) c.synth (taken_below c.cycle s.psg)) (length-samples (first_of c.cycle) c.synth (taken_below c.cycle s.psg)) ok.samples;
}

renderer-ok : (c : RendererValue) (s : Board) → IsRenderer c → IsRenderer (renderer_advance (renderer_perform c s).chip)
renderer-ok c s ok =
    let lent : RendererState = record c.chip { has_view = false } in
    let view : LineView = view_in (renderer_perform c s).chip.view in
    record { chip = renderer_state-wherever true (drawn_from view lent) (renderer_state-ok view lent (renderer_state-wherever false c.chip ok.chip)); view = refl }

access-chip : (c : Chip) (s : Board) (i : ℕ) → IsDue five IsChip IsBoard c s i false → IsChip (advance (perform c s).chip)
access-chip (Main c) s i d = answered-ok c.chip _ d.chip d.kind (answer-fits s (next_of c.chip.state).key (request_of c.chip.cart c.chip.state) d.shared)
access-chip (Sub c) s i d = sub-ok c s d.chip d.shared d.kind
access-chip (Renderer c) s i d = renderer-ok c s d.chip
access-chip (Fm c) s i d = fm-ok c s d.chip d.shared
access-chip (Psg c) s i d = psg-ok c s d.chip d.shared

sample-chip : (c : Chip) (s : Board) (i : ℕ) → IsDue five IsChip IsBoard c s i true → IsChip (sample c (pins_of s i))
sample-chip (Main c) s i d = begun-ok c.chip (level_in (pins_of s i)) (level-known (i == 1) s) d.chip d.kind
sample-chip (Sub c) s i d = laws80.begun-ok c.chip (sub_in (pins_of s i)) d.chip d.kind
sample-chip (Renderer c) s i d = d.chip
sample-chip (Fm c) s i d = d.chip
sample-chip (Psg c) s i d = d.chip

-- the 68000 is chip 0, one of the two that write
pub main-low : (state : State68) → (next_of state).key.chip < 2
unfolding next_of
main-low state = lit< tt

access-shared : (c : Chip) (s : Board) (i : ℕ) → IsDue five IsChip IsBoard c s i false → IsBoard (perform c s).shared
access-shared (Main c) s i d = main-ok s (next_of c.chip.state).key _ (main-low c.chip.state) d.shared
access-shared (Sub c) s i d = keeps.sub-ok s (sub_next_of c.chip.state).key _ (sub-low c.chip.state) (handed-board c d.chip) d.shared
access-shared (Renderer c) s i d = line-ok s c.chip.next c.chip.note d.shared
access-shared (Fm c) s i d = fm_board-ok s c.cycle d.shared
access-shared (Psg c) s i d = psg_board-ok s c.cycle d.shared

-- the entry of an access has its key
entry-key : (key : Key) (request : Request68) (given a : ℕ) → (main_entry key request given a).key ≡ key
entry-key key (Read8 at) given a = refl
entry-key key (Read16 at) given a = refl
entry-key key (Write8 at value) given a = refl
entry-key key (Write16 at value) given a = refl
entry-key key (Ack level) given a = refl
entry-key key (Word value) given a = refl

access-entry : (c : Chip) (s : Board) (i : ℕ) → IsDue five IsChip IsBoard c s i false → (perform c s).entry.key ≡ (next c).key
unfolding main_reported
access-entry (Main c) s i d = entry-key (next_of c.chip.state).key (request_of c.chip.cart c.chip.state) _ _
access-entry (Sub c) s i d = sub-key s (sub_next_of c.chip.state).key (asked_of c.chip.cart c.chip.state)
access-entry (Renderer c) s i d = refl
access-entry (Fm c) s i d = refl
access-entry (Psg c) s i d = refl

-- each gap is one of four
gap_from : (b0 b1 b2 : Bool) → (1 ≤ cond b0 clock.main_gap (cond b1 clock.sub_gap (cond b2 clock.line clock.batch))) × (cond b0 clock.main_gap (cond b1 clock.sub_gap (cond b2 clock.line clock.batch)) ≤ clock.cycle_limit)
gap_from true b1 b2 = (lit≤ tt, lit≤ tt)
gap_from false true b2 = (lit≤ tt, lit≤ tt)
gap_from false false true = (lit≤ tt, lit≤ tt)
gap_from false false false = (lit≤ tt, lit≤ tt)

main-number : (c : MainValue) (i : ℕ) → (next (Main c)).key.chip ≡ i → 0 ≡ i
unfolding next_of
main-number c i is = is

-- pins change only by those that write them
pins-left : (c : Chip) (s : Board) (i j : ℕ) → IsDue five IsChip IsBoard c s i false → writes i j ≡ false → pins_of (perform c s).shared j ≡ pins_of s j
pins-left (Main c) s i j d other = absurd (true≢false (subst (λ (n : ℕ). writes n j ≡ false) (sym (main-number c i d.number)) other))
pins-left (Sub c) s i j d other = pins-same (j == 1) s _ (sub_pins_stay s (sub_next_of c.chip.state).key (asked_of c.chip.cart c.chip.state))
pins-left (Renderer c) s i j d other = absurd (true≢false (subst (λ (n : ℕ). writes n j ≡ false) (sym d.number) other))
pins-left (Fm c) s i j d other = pins-same (j == 1) s _ (fm_batch_pins_stay s c.cycle)
pins-left (Psg c) s i j d other = pins-same (j == 1) s _ (batch_pins_stay s c.cycle)

-- the laws
pub lawful : Lawful five IsChip IsBoard
lawful = record {
  some = lit≤ tt;
  few = lit≤ tt;
  gap_some = λ i below. (gap_from (i == 0) (i == 1) (i == 2)).0;
  gap_few = λ i below. (gap_from (i == 0) (i == 1) (i == 2)).1;
  access_chip = access-chip;
  access_shared = access-shared;
  access_next = access-next;
  sample_chip = sample-chip;
  sample_next = sample-next;
  entry = access-entry;
  leaves = pins-left;
}
