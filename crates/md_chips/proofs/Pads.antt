-- The pads show the recording's words of the frame of which the line after the picture began last.
use Rattle.std.proofs.Common.{◌≡◌, ℕ, zero, suc, ◌+◌, ◌-◌, ◌*◌, ◌/◌, ◌%◌, ◌<◌, ◌≤◌, ◌==◌, cond, Bool, true, false, List, refl, sym, ap, ◌∙◌, arith, if◌then◌else◌, ◌⊎◌, inl, inr, eqb-true, le-leb}
use Rattle.std.proofs.lemmas.Bool.{cases_lt, eqb-false, lt-leb}
use Rattle.md_pads.specs.Recording.{Frame, pads_of, Recorded}
use Rattle.md_word.specs.Clock.{line}
use Rattle.md_word.specs.Region.{finished_at, frame_cycles, lines, rows}
use Rattle.md_word.proofs.Regions.{at_pads, beside_pads, finished-rows}
use Rattle.vdp_ports.specs.Vdp.{Vdp}
use Rattle.m68k_chip.specs.Events.{request_of}
use Rattle.m68k_chip.specs.States.{next_of}
use Rattle.z80_chip.specs.Events.{asked_of}
use Rattle.z80_chip.specs.States.{next_of as sub_next_of}
use Rattle.bus_shared.proofs.Touches.{left_by_batch, begun_region, left_by_main, left_by_sub}
use Rattle.bus_shared.specs.Fm.{fm_board}
use Rattle.bus_shared.specs.Accesses.{line_board, pads_board, video_started}
use Rattle.bus_shared.specs.Board.{Board}
use Rattle.md_chips.specs.Console.{Console, fm_moved, line_moved, main_moved, moved, mover, power_on, psg_moved, ran, sub_moved}
use Rattle.md_chips.specs.Movers.{mover-lt}
use Rattle.md_chips.specs.Pads.{ShowsPads, lines_begun, pads_shown}
use Rattle.md_chips.proofs.Moves.{five-each}

-- a move that leaves the line, the recording and the buttons
record Leaves (old new : Console) : Type 0 where
  line_is : new.line ≡ old.line
  recording_is : new.shared.recording ≡ old.shared.recording
  pads_are : new.shared.pads ≡ old.shared.pads
  region_is : new.shared.vdp.pal ≡ old.shared.vdp.pal

left : (pal : Bool) (recording : Recorded) (old new : Console) → Leaves old new → ShowsPads pal recording old → ShowsPads pal recording new
left pal recording old new same shows = record {
  region = same.region_is ∙ shows.region;
  recording_is = same.recording_is ∙ shows.recording_is;
  lines = same.line_is ∙ shows.lines ∙ ap (λ n. line * (n / line)) (sym same.line_is);
  pads = same.pads_are ∙ shows.pads ∙ ap (λ n. pads_shown pal recording (n / line)) (sym same.line_is);
}

one_of : (b : Bool) (old x y : Console) → Leaves old x → Leaves old y → Leaves old (cond b x y)
one_of true old x y first second = first
one_of false old x y first second = second

main_leaves_pads : (z : Console) → Leaves z (main_moved z)
unfolding main_moved
main_leaves_pads z =
    let leaves = left_by_main z.shared (next_of z.main).key in
    let request = request_of z.cart z.main in
    one_of (next_of z.main).sample z _ _ (record { line_is = refl; recording_is = refl; pads_are = refl; region_is = refl })
    (record { line_is = refl; recording_is = leaves.recording request; pads_are = leaves.pads request; region_is = leaves.region request })

sub_leaves_pads : (z : Console) → Leaves z (sub_moved z)
unfolding sub_moved
sub_leaves_pads z =
    let leaves = left_by_sub z.shared (sub_next_of z.sub.state).key (asked_of z.sub.cart z.sub.state) in
    one_of (sub_next_of z.sub.state).sample z _ _ (record { line_is = refl; recording_is = refl; pads_are = refl; region_is = refl })
    (record { line_is = refl; recording_is = leaves.recording; pads_are = leaves.pads; region_is = ap (λ (vdp : Vdp). vdp.pal) leaves.vdp })

fm_leaves_pads : (z : Console) → Leaves z (fm_moved z)
unfolding fm_moved fm_board
fm_leaves_pads z = record { line_is = refl; recording_is = refl; pads_are = refl; region_is = refl }

psg_leaves_pads : (z : Console) → Leaves z (psg_moved z)
unfolding psg_moved
psg_leaves_pads z =
    let leaves = left_by_batch z.shared z.psg_cycle in
    record { line_is = refl; recording_is = leaves.recording; pads_are = leaves.pads; region_is = ap (λ (vdp : Vdp). vdp.pal) leaves.vdp }

shown_low : (pal : Bool) (recording : Recorded) (n : ℕ) → n ≤ rows pal → pads_shown pal recording n ≡ (0, 0)
shown_low pal recording n h = rw (le-leb n (rows pal) h) refl

shown_high : (pal : Bool) (recording : Recorded) (n f : ℕ) → rows pal < n → (n - (rows pal + 1)) / lines pal ≡ f → pads_shown pal recording n ≡ pads_of recording f
shown_high pal recording n f h e = rw (lt-leb n (rows pal) h) (ap (pads_of recording) e)

-- the line after the picture is as many lines on as the picture has rows
following-rows : (pal : Bool) (k : ℕ) → line * k % frame_cycles pal ≡ finished_at pal → line * k % frame_cycles pal ≡ line * rows pal
following-rows pal k e = e ∙ finished-rows pal

some-following : (pal : Bool) (k : ℕ) → line * k % frame_cycles pal ≡ finished_at pal → rows pal < k + 1
some-following true k e = omega (arith, e)
some-following false k e = omega (arith, e)

at_its_pads : (pal : Bool) (recording : Recorded) (k : ℕ) → line * k % frame_cycles pal ≡ finished_at pal → pads_of recording (line * k / frame_cycles pal) ≡ pads_shown pal recording (k + 1)
at_its_pads pal recording k e =
    sym (shown_high pal recording (k + 1) (line * k / frame_cycles pal) (some-following pal k e) (sym (at_pads pal k (following-rows pal k e))))

early_or_late : (pal : Bool) (k : ℕ) → (k + 1 ≤ rows pal) ⊎ (rows pal ≤ k)
early_or_late pal k = elim (cases_lt k (rows pal)) [ inl early ↦ inl (omega (arith, early)) | inr late ↦ inr late ]

-- the first line after the picture is one at which the pads change
past-rows : (pal : Bool) (k : ℕ) → rows pal ≤ k → ¬ (line * k % frame_cycles pal ≡ finished_at pal) → rows pal + 1 ≤ k
past-rows true k late e = omega (arith, late, e)
past-rows false k late e = omega (arith, late, e)

beside_its_pads : (pal : Bool) (recording : Recorded) (k : ℕ) → ¬ (line * k % frame_cycles pal ≡ finished_at pal) → pads_shown pal recording k ≡ pads_shown pal recording (k + 1)
beside_its_pads pal recording k e = elim (early_or_late pal k) [
  | inl early ↦ shown_low pal recording k (omega (arith, early)) ∙ sym (shown_low pal recording (k + 1) early)
  | inr late ↦ (let past : rows pal + 1 ≤ k = past-rows pal k late e in
      shown_high pal recording k ((k - (rows pal + 1)) / lines pal) (omega (arith, past)) refl
      ∙ sym (shown_high pal recording (k + 1) ((k - (rows pal + 1)) / lines pal) (omega (arith, past)) (sym (beside_pads pal k past (λ f. e (f ∙ sym (finished-rows pal)))))))
]

step_by : (b pal : Bool) (recording : Recorded) (k : ℕ) → (line * k % frame_cycles pal == finished_at pal) ≡ b
    → (if b then pads_of recording (line * k / frame_cycles pal) else pads_shown pal recording k) ≡ pads_shown pal recording (k + 1)
step_by true pal recording k e = at_its_pads pal recording k (eqb-true _ _ e)
step_by false pal recording k e = beside_its_pads pal recording k (eqb-false _ _ e)

pads-of : (b : Bool) (board : Board) (pads : Frame) → (if b then record board { pads = pads } else board).pads ≡ (if b then pads else board.pads)
pads-of true board pads = refl
pads-of false board pads = refl

vdp-of : (b : Bool) (board : Board) (pads : Frame) → (if b then record board { pads = pads } else board).vdp.pal ≡ board.vdp.pal
vdp-of true board pads = refl
vdp-of false board pads = refl

recording-of : (b : Bool) (board : Board) (pads : Frame) → (if b then record board { pads = pads } else board).recording ≡ board.recording
recording-of true board pads = refl
recording-of false board pads = refl

-- the line's own move
line_shows : (pal : Bool) (recording : Recorded) (z : Console) → ShowsPads pal recording z → ShowsPads pal recording (line_moved z)
unfolding line_moved line_board pads_board
line_shows pal recording z shows =
    let k : ℕ = lines_begun z in
    let next : (z.line + line) / line ≡ k + 1 = omega (arith, shows.lines) in
    let started : Board = video_started z.shared z.line z.note in
    let region : started.vdp.pal ≡ pal = begun_region z.line z.note z.shared.vdp ∙ shows.region in
    let test : Bool = z.line % frame_cycles started.vdp.pal == finished_at started.vdp.pal in
    let words : Frame = pads_of z.shared.recording (z.line / frame_cycles started.vdp.pal) in
    record {
      region = vdp-of test started words ∙ region;
      recording_is = recording-of test started words ∙ shows.recording_is;
      lines = omega (arith, shows.lines);
      pads =
          pads-of test started words
          ∙ ap (λ (r : Recorded). if test then pads_of r (z.line / frame_cycles started.vdp.pal) else z.shared.pads) shows.recording_is
          ∙ ap (λ (p : Frame). if test then pads_of recording (z.line / frame_cycles started.vdp.pal) else p) shows.pads
          ∙ ap (λ (q : Bool). if z.line % frame_cycles q == finished_at q then pads_of recording (z.line / frame_cycles q) else pads_shown pal recording k) region
          ∙ ap (λ (n : ℕ). if n % frame_cycles pal == finished_at pal then pads_of recording (n / frame_cycles pal) else pads_shown pal recording k) shows.lines
          ∙ step_by (line * k % frame_cycles pal == finished_at pal) pal recording k refl
          ∙ ap (pads_shown pal recording) (sym next);
    }

moved_shows : (pal : Bool) (recording : Recorded) (z : Console) → ShowsPads pal recording z → (i : ℕ) → i < 5 → ShowsPads pal recording (moved z i)
unfolding moved
moved_shows pal recording z shows =
    five-each (λ i. ShowsPads pal recording (moved z i))
    (left pal recording z (main_moved z) (main_leaves_pads z) shows)
    (left pal recording z (sub_moved z) (sub_leaves_pads z) shows)
    (line_shows pal recording z shows)
    (left pal recording z (fm_moved z) (fm_leaves_pads z) shows)
    (left pal recording z (psg_moved z) (psg_leaves_pads z) shows)

pub pads-recorded : (cart : List ℕ) (recording : Recorded) (pal : Bool) (n : ℕ) → ShowsPads pal recording (ran (power_on cart recording pal) n)
unfolding ran
pads-recorded cart recording pal zero = record { region = refl; recording_is = refl; lines = refl; pads = sym (shown_low pal recording 0 (omega arith)) }
pads-recorded cart recording pal (suc n) =
    let before = ran (power_on cart recording pal) n in
    moved_shows pal recording before (pads-recorded cart recording pal n) (mover before) (mover-lt before)
