-- A move counts one reset of the Z80 at most, and only where the 68000 moves, whose next event then comes at
-- least 28 cycles later; and a line puts words of the recording on the pads.
use Rattle.std.proofs.Common.{◌≡◌, ℕ, zero, suc, ◌+◌, ◌/◌, ◌%◌, ◌==◌, ◌<◌, ◌≤◌, Bool, true, false, cond, if◌then◌else◌, List, Option, Some, None, refl, sym, subst, arith, inl, inr, ◌∙◌}
use Rattle.std.specs.Prelude.{All, slice_get, unwrap_or}
use Rattle.std.proofs.lemmas.List.Elements.{All-get_or}
use Rattle.std.proofs.lemmas.Option.{slice_get_cases}
use Rattle.md_word.specs.Clock as clock
use Rattle.md_pads.specs.Recording.{Frame, IsFrame, pads_of, Recorded}
use Rattle.md_word.specs.Region.{finished_at, frame_cycles}
use Rattle.md_word.specs.declared.event.Entry.{Entry}
use Rattle.m68k_chip.proofs.Laws.{answered-later, begun-later}
use Rattle.m68k_chip.specs.Events.{answered, begun, request_of}
use Rattle.m68k_chip.specs.States.{State68, next_of}
use Rattle.z80_chip.specs.Events.{asked_of}
use Rattle.z80_chip.specs.States.{next_of as sub_next_of}
use Rattle.bus_shared.proofs.Counting.{main_one}
use Rattle.bus_shared.proofs.Falls.{HasFalls, main_falls}
use Rattle.bus_shared.proofs.Touches.{left_by_line, left_by_main, left_by_sub}
use Rattle.bus_shared.specs.Accesses.{level_of, line_board, main_answer, main_board, pads_board, psg_board, video_started}
use Rattle.bus_shared.specs.Board.{Board}
use Rattle.bus_shared.specs.Fm.{fm_board}
use Rattle.bus_shared.specs.Spelling.{IsCounted}
use Rattle.md_pads.specs.Pad.{Port}
use Rattle.md_chips.specs.Console.{AllBelow, Console, IsQuiet, IsRunTo, fm_moved, key_in, line_moved, main_moved, moved, mover, power_on, psg_moved, ran, sub_accessed, sub_moved}
use Rattle.md_chips.specs.Laws.{answer-fits}
use Rattle.md_chips.specs.Media.{Media}
use Rattle.md_chips.specs.Movers.{mover-lt}
use Rattle.md_chips.specs.ValidParts.{HasValidParts}
use Rattle.md_chips.proofs.Lifts.{Movers}
use Rattle.md_chips.proofs.Moves.{five-each}
use Rattle.md_chips.proofs.ValidParts.{Stages, parts_ran}
use Rattle.machine_laws.specs.BoardLines.{HasLines}

-- what holds below an end, and also before the next event of the 68000
record Counts (end : ℕ) (board : Board) (main : State68) : Type 0 where
  below : board.resets ≤ end
  early : board.resets ≤ main.next
  recording : All IsFrame board.recording.frames
  pads : IsFrame board.pads
  falls : HasFalls end board

-- the resets of a board that is the next, after so many more
more-resets : (old new next later end : ℕ) → new ≤ old + 1 → old ≤ next → next < end → next + clock.main_gap ≤ later → (new ≤ end) × (new ≤ later)
more-resets old new next later end one early below late = (omega arith, omega arith)

-- the 68000
main-counts-by : (b : Bool) (end : ℕ) (z : Console) → (next_of z.main).sample ≡ b → HasValidParts z → z.main.next < end → Counts end z.shared z.main
    → let new : Console = cond b
    (record z { main = begun z.cart z.main (level_of z.shared) })
    (record z {
      main = answered z.cart z.main (main_answer z.shared (next_of z.main).key (request_of z.cart z.main));
      shared = main_board z.shared (next_of z.main).key (request_of z.cart z.main);
    }) in
    Counts end new.shared new.main
unfolding next_of
main-counts-by true end z kind has under counts =
    let late = begun-later (record { cart = z.cart; state = z.main }) (level_of z.shared) has.main kind in
    record { below = counts.below; early = omega (arith, late, counts.early); recording = counts.recording; pads = counts.pads; falls = counts.falls }
main-counts-by false end z kind has under counts =
    let key = (next_of z.main).key in
    let request = request_of z.cart z.main in
    let late = answered-later (record { cart = z.cart; state = z.main }) (main_answer z.shared key request) has.main kind (answer-fits z.shared key request has.board) in
    let both = more-resets z.shared.resets (main_board z.shared key request).resets z.main.next _ end (main_one z.shared key request) counts.early under late in
    record {
      below = both.0;
      early = both.1;
      recording = subst (λ (r : Recorded). All IsFrame r.frames) (sym ((left_by_main z.shared key).recording request)) counts.recording;
      pads = subst IsFrame (sym ((left_by_main z.shared key).pads request)) counts.pads;
      falls = main_falls end z.shared key request under counts.falls;
    }

main-counts : (end : ℕ) (z : Console) → HasValidParts z → (next_of z.main).key.cycle < end → Counts end z.shared z.main → Counts end (main_moved z).shared (main_moved z).main
unfolding main_moved next_of
main-counts end z has under counts = main-counts-by (next_of z.main).sample end z refl has under counts

-- another chip that leaves resets, recording, pads and their ports
record Leaves (old new : Board) : Type 0 where
  resets : new.resets ≡ old.resets
  recording : new.recording ≡ old.recording
  pads : new.pads ≡ old.pads
  port1 : new.port1 ≡ old.port1
  port2 : new.port2 ≡ old.port2

falls-of : (end : ℕ) (old new : Board) → new.port1 ≡ old.port1 → new.port2 ≡ old.port2 → HasFalls end old → HasFalls end new
falls-of end old new first second has =
    record { port1 = subst (IsCounted end) (sym first) has.port1; port2 = subst (IsCounted end) (sym second) has.port2 }

left : (end : ℕ) (old new : Board) (main : State68) → Leaves old new → Counts end old main → Counts end new main
left end old new main same counts = record {
  below = subst (λ (n : ℕ). n ≤ end) (sym same.resets) counts.below;
  early = subst (λ (n : ℕ). n ≤ main.next) (sym same.resets) counts.early;
  recording = subst (λ (r : Recorded). All IsFrame r.frames) (sym same.recording) counts.recording;
  pads = subst IsFrame (sym same.pads) counts.pads;
  falls = falls-of end old new same.port1 same.port2 counts.falls;
}

-- the Z80
sub-counts-by : (b : Bool) (end : ℕ) (x y : Console) (main : State68) → x.main ≡ main → y.main ≡ main → Counts end x.shared main → Counts end y.shared main
    → Counts end (cond b x y).shared (cond b x y).main
sub-counts-by true end x y main own own' first second = subst (Counts end x.shared) (sym own) first
sub-counts-by false end x y main own own' first second = subst (Counts end y.shared) (sym own') second

sub-counts : (end : ℕ) (z : Console) → Counts end z.shared z.main → Counts end (sub_moved z).shared (sub_moved z).main
unfolding sub_moved
sub-counts end z counts =
    let leaves = left_by_sub z.shared (sub_next_of z.sub.state).key (asked_of z.sub.cart z.sub.state) in
    sub-counts-by (sub_next_of z.sub.state).sample end _ _ z.main refl refl counts
    (left end z.shared (sub_accessed z).board z.main (record { resets = leaves.resets; recording = leaves.recording; pads = leaves.pads; port1 = leaves.port1; port2 = leaves.port2 }) counts)

-- the sound chips
fm-counts : (end : ℕ) (z : Console) → Counts end z.shared z.main → Counts end (fm_moved z).shared (fm_moved z).main
unfolding fm_moved fm_board
fm-counts end z counts = record {
  below = counts.below;
  early = counts.early;
  recording = counts.recording;
  pads = counts.pads;
  falls = record { port1 = counts.falls.port1; port2 = counts.falls.port2 };
}

psg-counts : (end : ℕ) (z : Console) → Counts end z.shared z.main → Counts end (psg_moved z).shared (psg_moved z).main
unfolding psg_moved psg_board
psg-counts end z counts = record {
  below = counts.below;
  early = counts.early;
  recording = counts.recording;
  pads = counts.pads;
  falls = record { port1 = counts.falls.port1; port2 = counts.falls.port2 };
}

-- the words of a frame of a recording are buttons
no-buttons : IsFrame (0, 0)
no-buttons = (omega arith, omega arith)

words-by : (frames : List Frame) (n : ℕ) (o : Option Frame) → slice_get frames n ≡ o → All IsFrame frames → IsFrame (unwrap_or o (0, 0))
words-by frames n None is all = no-buttons
words-by frames n (Some words) is all =
    elim (slice_get_cases frames n).1 [
      | inl found ↦
          (let own : Some words ≡ Some found.0 = sym is ∙ found.2 in
          let same : words ≡ found.0 = cc in
          subst IsFrame (found.3 ∙ sym same) (All-get_or IsFrame frames n found.0 found.1 all))
      | inr none ↦ absurd (let other : Some words ≡ None = sym is ∙ none.1 in cc)
    ]

words_of : (recorded : Recorded) (n : ℕ) → All IsFrame recorded.frames → IsFrame (pads_of recorded n)
words_of recorded n all = words-by recorded.frames n (slice_get recorded.frames n) refl all

pads-by : (b : Bool) (board : Board) (words : Frame) → IsFrame words → IsFrame board.pads → IsFrame (if b then record board { pads = words } else board).pads
pads-by true board words new old = new
pads-by false board words new old = old

line-counts : (end : ℕ) (z : Console) → Counts end z.shared z.main → Counts end (line_moved z).shared (line_moved z).main
unfolding line_moved line_board pads_board
line-counts end z counts =
    let leaves = left_by_line z.shared z.line z.note in
    let pal = (video_started z.shared z.line z.note).vdp.pal in
    record {
      below = subst (λ (n : ℕ). n ≤ end) (sym leaves.resets) counts.below;
      early = subst (λ (n : ℕ). n ≤ z.main.next) (sym leaves.resets) counts.early;
      recording = subst (λ (r : Recorded). All IsFrame r.frames) (sym leaves.recording) counts.recording;
      pads = pads-by (z.line % frame_cycles pal == finished_at pal) (video_started z.shared z.line z.note) (pads_of z.shared.recording (z.line / frame_cycles pal))
          (words_of z.shared.recording (z.line / frame_cycles pal) counts.recording) counts.pads;
      falls = falls-of end z.shared (line_moved z).shared leaves.port1 leaves.port2 counts.falls;
    }

move-counts : (end : ℕ) (z : Console) → HasValidParts z → Counts end z.shared z.main → (i : ℕ) → i < 5 → (key_in z i).cycle < end → Counts end (moved z i).shared (moved z i).main
unfolding moved key_in
move-counts end z has counts =
    five-each (λ i. (key_in z i).cycle < end → Counts end (moved z i).shared (moved z i).main)
    (λ below. main-counts end z has below counts)
    (λ below. sub-counts end z counts)
    (λ below. line-counts end z counts)
    (λ below. fm-counts end z counts)
    (λ below. psg-counts end z counts)

ran-counts : (end : ℕ) (m : Console) (n : ℕ) → ((k : ℕ) → k < n → HasValidParts (ran m k)) → AllBelow m end n → Counts end m.shared m.main → Counts end (ran m n).shared (ran m n).main
unfolding ran
ran-counts end m zero valid below counts = counts
ran-counts end m (suc n) valid below counts =
    move-counts end (ran m n) (valid n (omega arith)) (ran-counts end m n (λ k less. valid k (omega arith)) (λ k less. below k (omega arith)) counts)
    (mover (ran m n)) (mover-lt (ran m n)) (below n (omega arith))

-- ---- a run

-- no event of the 68000 is below the cycle
main-late : (at : ℕ) (m : Console) → IsQuiet at m → at ≤ m.main.next
unfolding key_in next_of
main-late at m quiet = quiet 0 (omega arith)

-- falls before a cycle are before a later one
later-falls : (at end : ℕ) (port : Port) → at ≤ end → IsCounted at port → IsCounted end port
later-falls at end port later has = record { none = has.none; some = λ some. omega (arith, later, has.some some) }

counts-begin : (at end : ℕ) (m : Console) → at ≤ end → IsQuiet at m → HasLines at m → Counts end m.shared m.main
counts-begin at end m later quiet has =
    let late = main-late at m quiet in
    record {
      below = omega (arith, later, has.resets);
      early = omega (arith, late, has.resets);
      recording = has.recording;
      pads = has.pads;
      falls = record { port1 = later-falls at end m.shared.port1 later has.falls1; port2 = later-falls at end m.shared.port2 later has.falls2 };
    }

pub run_lines : Stages → Movers → (m z : Console) (at end : ℕ) (entries : List Entry) (output : Media) → HasValidParts m → HasLines at m → IsQuiet at m → at ≤ end → end ≤ clock.cycle_limit
    → IsRunTo m end z entries output → HasLines end z
run_lines stages movers m z at end entries output valid has quiet later small run =
    let counts = ran-counts end m run.moves (λ k less. parts_ran stages movers m end k small valid (λ j lower. run.below j (omega arith))) run.below (counts-begin at end m later quiet has) in
    subst (HasLines end) (sym run.console) (record { resets = counts.below; recording = counts.recording; pads = counts.pads; falls1 = counts.falls.port1; falls2 = counts.falls.port2 })

pub power_on_lines : (cart : List ℕ) (recording : Recorded) (pal : Bool) (at : ℕ) → All IsFrame recording.frames → HasLines at (power_on cart recording pal)
power_on_lines cart recording pal at words = record {
  resets = omega arith;
  recording = words;
  pads = no-buttons;
  falls1 = record { none = λ none. refl; some = λ some. absurd (some refl) };
  falls2 = record { none = λ none. refl; some = λ some. absurd (some refl) };
}
