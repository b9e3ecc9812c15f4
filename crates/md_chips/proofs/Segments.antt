-- A segment of the five chips' run, as the record's.
use Rattle.std.proofs.Common.{◌≡◌, refl, ℕ, suc, ◌+◌, ◌-◌, ◌*◌, ◌/◌, ◌<◌, ◌≤◌, cond, Bool, true, false, List, length, ap, ◌∙◌, arith, subst, lit<, zero, sym, ◌==◌, ◌⊎◌, inl, inr}
use Rattle.std.specs.Prelude.{nat_lt}
use Rattle.md_word.specs.Clock as clock
use Rattle.md_word.specs.declared.event.Entry.{Entry}
use Rattle.md_word.specs.declared.key.Key.{Key}
use Rattle.chip_core.specs.Limits.{all_moves_left, moves_left, moves_within, total}
use Rattle.chip_core.specs.Machines as machines
use Rattle.chip_core.specs.Machines.{AllBelow, IsValid, Machine, key_of, made, run}
use Rattle.md_chips.specs.Console as consoles
use Rattle.md_chips.specs.Console.{Console, key_in, media_after, mover, ran}
use Rattle.md_chips.specs.Lines.{frames_of}
use Rattle.md_chips.specs.Machines.{kept_in}
use Rattle.bus_shared.specs.Board.{Board, IsBoard}
use Rattle.md_word.specs.Region.{frame_cycles}
use Rattle.md_chips.specs.Refinement.{console_of, renderer_of, fm_of, psg_of, record_of}
use Rattle.md_chips.specs.Regions.{most_batches, most_entries, most_pairs}
use Rattle.md_chips.specs.Media.{Media, no_media}
use Rattle.md_chips.specs.Rules.{IsChip, five}
use Rattle.md_chips.specs.declared.chips.Chip.{Chip}
use Rattle.md_chips.proofs.Frames.{frames-kept}
use Rattle.md_chips.proofs.Moves.{five-each, key-same}
use Rattle.md_chips.proofs.Lifts.{Movers, ValidTo, journal-same, mover-same, ran-same}
use Rattle.md_chips.proofs.Samples.{KeepsAll, fm_part, psg_part, samples-kept}

-- how many moves a segment has at most
pub within-few : (pal : Bool) (span : ℕ) → span ≤ frame_cycles pal → moves_within five span ≤ most_entries pal
unfolding total
within-few true span short = omega (arith, short)
within-few false span short = omega (arith, short)

-- how many batches of a sound chip
left-of : (pal : Bool) (key to : ℕ) → to ≤ key + frame_cycles pal → (to - key) / clock.batch + 1 ≤ most_batches pal
left-of true key to near = omega (arith, near)
left-of false key to near = omega (arith, near)

left_by : (b pal : Bool) (key to : ℕ) → to ≤ key + frame_cycles pal → cond b ((to - key) / clock.batch + 1) 0 ≤ most_batches pal
left_by true pal key to near = left-of pal key to near
left_by false pal key to near = omega arith

pub fm_batches-few : (pal : Bool) (m : Machine Chip Board) (from to : ℕ) → to ≤ from + frame_cycles pal → machines.IsQuiet five m from → moves_left five to m 3 ≤ most_batches pal
fm_batches-few pal m from to near quiet =
    let late : from ≤ (key_of five m 3).cycle = quiet 3 (lit< tt) in
    left_by (nat_lt (key_of five m 3).cycle to) pal (key_of five m 3).cycle to (omega (arith, near, late))

pub batches-few : (pal : Bool) (m : Machine Chip Board) (from to : ℕ) → to ≤ from + frame_cycles pal → machines.IsQuiet five m from → moves_left five to m 4 ≤ most_batches pal
batches-few pal m from to near quiet =
    let late : from ≤ (key_of five m 4).cycle = quiet 4 (lit< tt) in
    left_by (nat_lt (key_of five m 4).cycle to) pal (key_of five m 4).cycle to (omega (arith, near, late))

-- so many there is room for
room-for : (pal : Bool) (n : ℕ) → n ≤ most_batches pal → n ≤ 67
room-for true n few = few
room-for false n few = omega (arith, few)

pairs-of : (pal : Bool) (n : ℕ) → n ≤ most_batches pal → 16 * n ≤ most_pairs pal
pairs-of true n few = omega (arith, few)
pairs-of false n few = omega (arith, few)

-- two machines with the same shared state and the same five chips have the same record
pub console-alike : (w z : Machine Chip Board) → w.shared ≡ z.shared → ((i : ℕ) → i < 5 → w.chip i ≡ z.chip i) → console_of w ≡ console_of z
unfolding console_of
console-alike w z shared chips =
    ap (λ (c : Chip). record_of c (w.chip 1) (w.chip 2) (w.chip 3) (w.chip 4) w.shared) (chips 0 (lit< tt))
    ∙ ap (λ (c : Chip). record_of (z.chip 0) c (w.chip 2) (w.chip 3) (w.chip 4) w.shared) (chips 1 (lit< tt))
    ∙ ap (λ (c : Chip). record_of (z.chip 0) (z.chip 1) c (w.chip 3) (w.chip 4) w.shared) (chips 2 (lit< tt))
    ∙ ap (λ (c : Chip). record_of (z.chip 0) (z.chip 1) (z.chip 2) c (w.chip 4) w.shared) (chips 3 (lit< tt))
    ∙ ap (λ (c : Chip). record_of (z.chip 0) (z.chip 1) (z.chip 2) (z.chip 3) c w.shared) (chips 4 (lit< tt))
    ∙ ap (λ (b : Board). record_of (z.chip 0) (z.chip 1) (z.chip 2) (z.chip 3) (z.chip 4) b) shared

-- the key of a stage's move is the record's
move_key-same : (m : Machine Chip Board) (k : ℕ) → ValidTo m (suc k) → Movers
    → machines.move_key five m k ≡ key_in (ran (console_of m) k) (mover (ran (console_of m) k))
move_key-same m k valid movers =
    let stage : IsValid five IsChip IsBoard (run five m k) = valid k (omega arith) in
    key-same (run five m k) stage (machines.mover five (run five m k)) (movers (run five m k))
    ∙ ap (λ (i : ℕ). key_in (console_of (run five m k)) i) (mover-same (run five m k) stage)
    ∙ ap (λ (z : Console). key_in z (mover z)) (ran-same m k (λ j below. valid j (omega arith)) movers)

-- a run of the five chips is the record's, with its entries
pub core-run : (m w : Machine Chip Board) (to : ℕ) (entered : List Entry) → (runs : machines.IsRunTo five m to w entered)
    → ((n : ℕ) → AllBelow five m to n → IsValid five IsChip IsBoard (run five m n)) → Movers → IsValid five IsChip IsBoard w
    → consoles.IsRunTo (console_of m) to (console_of w) entered (media_after (console_of m) runs.moves)
core-run m w to entered runs valid movers valid-w =
    let earlier : (k : ℕ) → k ≤ runs.moves → AllBelow five m to k = λ k within. record { each = λ j below. runs.below.each j (omega arith) } in
    let stages : ValidTo m runs.moves = λ k below. valid k (earlier k (omega arith)) in
    record {
      moves = runs.moves;
      below = λ k below. subst (λ (key : Key). key.cycle < to) (move_key-same m k (λ j within. stages j (omega arith)) movers) (runs.below.each k below);
      quiet = λ i below. subst (λ (key : Key). to ≤ key.cycle) (key-same w valid-w i below) (runs.quiet i below);
      console = console-alike w (run five m runs.moves) runs.shared runs.chips ∙ ran-same m runs.moves stages movers;
      entered = runs.journal ∙ journal-same m runs.moves stages movers;
      rendered_to = refl;
    }

-- over a segment, from a machine that keeps no frame and no samples, those that its chips keep are the
-- record's too
pub segment-run : (m w : Machine Chip Board) (from to : ℕ) (entered : List Entry) → machines.IsRunTo five m to w entered
    → ((n : ℕ) → AllBelow five m to n → IsValid five IsChip IsBoard (run five m n)) → Movers → IsValid five IsChip IsBoard w
    → ((n : ℕ) → AllBelow five m to n → made five m 3 n ≤ most_batches (console_of m).pal) → ((n : ℕ) → AllBelow five m to n → made five m 4 n ≤ most_batches (console_of m).pal) → kept_in m ≡ no_media
    → IsValid five IsChip IsBoard m → machines.IsQuiet five m from → to ≤ from + frame_cycles (console_of m).pal → consoles.IsRunTo (console_of m) to (console_of w) entered (kept_in w)
unfolding fm_part psg_part console_of
segment-run m w from to entered runs valid movers valid-w few_fm few none here quiet near =
    let earlier : (k : ℕ) → k ≤ runs.moves → AllBelow five m to k = λ k within. record { each = λ j below. runs.below.each j (omega arith) } in
    let stages : ValidTo m runs.moves = λ k below. valid k (earlier k (omega arith)) in
    let sides : KeepsAll fm_part m runs.moves = samples-kept fm_part m runs.moves stages movers (ap (λ (s : Media). s.sides) none) (room-for (console_of m).pal _ (few_fm runs.moves runs.below)) in
    let levels : KeepsAll psg_part m runs.moves = samples-kept psg_part m runs.moves stages movers (ap (λ (s : Media). s.levels) none) (room-for (console_of m).pal _ (few runs.moves runs.below)) in
    let frames = frames-kept m from to runs.moves stages here movers (ap (λ (s : Media). s.frames) none) quiet near runs.below in
    let kept : kept_in w ≡ media_after (console_of m) runs.moves = λ i. record {
      frames = (ap (λ (c : Chip). frames_of (renderer_of c).chip.frame) (runs.chips 2 (lit< tt)) ∙ frames) i;
      sides = (ap (λ (c : Chip). (fm_of c).samples) (runs.chips 3 (lit< tt)) ∙ sides.samples_are) i;
      levels = (ap (λ (c : Chip). (psg_of c).samples) (runs.chips 4 (lit< tt)) ∙ levels.samples_are) i;
    } in
    subst (λ (output : Media). consoles.IsRunTo (console_of m) to (console_of w) entered output) (sym kept) (core-run m w to entered runs valid movers valid-w)

-- and so many samples of the PSG it leaves
pub segment-pairs : (m w : Machine Chip Board) (from to : ℕ) (entered : List Entry) → machines.IsRunTo five m to w entered
    → ((n : ℕ) → AllBelow five m to n → IsValid five IsChip IsBoard (run five m n)) → Movers
    → (pal : Bool) → ((n : ℕ) → AllBelow five m to n → made five m 4 n ≤ most_batches pal) → kept_in m ≡ no_media → length (kept_in w).levels ≤ most_pairs pal
unfolding psg_part
segment-pairs m w from to entered runs valid movers pal few none =
    let earlier : (k : ℕ) → k ≤ runs.moves → AllBelow five m to k = λ k within. record { each = λ j below. runs.below.each j (omega arith) } in
    let stages : ValidTo m runs.moves = λ k below. valid k (earlier k (omega arith)) in
    let here : made five m 4 runs.moves ≤ most_batches pal = few runs.moves runs.below in
    let levels : KeepsAll psg_part m runs.moves = samples-kept psg_part m runs.moves stages movers (ap (λ (s : Media). s.levels) none) (room-for pal _ here) in
    let same : length (kept_in w).levels ≡ 16 * made five m 4 runs.moves = ap (λ (c : Chip). length (psg_of c).samples) (runs.chips 4 (lit< tt)) ∙ levels.long in
    subst (λ (n : ℕ). n ≤ most_pairs pal) (sym same) (pairs-of pal _ here)

-- the entries of a segment
pub few_entries : (m : Machine Chip Board) (from to : ℕ) {w : Machine Chip Board} {entered : List Entry} (runs : machines.IsRunTo five m to w entered)
    → length (machines.journal five m runs.moves) ≤ all_moves_left five to m → all_moves_left five to m ≤ moves_within five (to - from) → (pal : Bool) → to ≤ from + frame_cycles pal
    → length entered ≤ most_entries pal
few_entries m from to runs within all pal near = omega (arith, within, all, ap length runs.journal, within-few pal (to - from) (omega (arith, near)))

-- moves that are below a cycle in the record are there in the chips
below_or_is : (k n : ℕ) → k < suc n → (k < n) ⊎ (k ≡ n)
below_or_is k n below = grind arith

pub below-lift : (m : Machine Chip Board) (to n : ℕ) → ((k : ℕ) → AllBelow five m to k → IsValid five IsChip IsBoard (run five m k)) → Movers
    → consoles.AllBelow (console_of m) to n → AllBelow five m to n
below-lift m to zero valid movers below = record { each = λ k within. absurd (omega arith) }
below-lift m to (suc n) valid movers below =
    let earlier : AllBelow five m to n = below-lift m to n valid movers (λ k within. below k (omega arith)) in
    let stages : ValidTo m (suc n) = λ k within. valid k (record { each = λ j lower. earlier.each j (omega arith) }) in
    let last : (machines.move_key five m n).cycle < to = subst (λ (key : Key). key.cycle < to) (sym (move_key-same m n stages movers)) (below n (omega arith)) in
    record {
      each = λ k within. elim (below_or_is k n within) [
        | inl lower ↦ earlier.each k lower
        | inr is ↦ rw is last
      ];
    }

-- each move is one chip's
one-mover : (i : ℕ) → i < 5 → cond (i == 0) 1 0 + cond (i == 1) 1 0 + cond (i == 2) 1 0 + cond (i == 3) 1 0 + cond (i == 4) 1 0 ≡ 1
one-mover = five-each (λ i. cond (i == 0) 1 0 + cond (i == 1) 1 0 + cond (i == 2) 1 0 + cond (i == 3) 1 0 + cond (i == 4) 1 0 ≡ 1) refl refl refl refl refl

each-made : (m : Machine Chip Board) (n : ℕ) → Movers → made five m 0 n + made five m 1 n + made five m 2 n + made five m 3 n + made five m 4 n ≡ n
unfolding made
each-made m zero movers = refl
each-made m (suc n) movers = omega (arith, each-made m n movers, one-mover (machines.mover five (run five m n)) (movers (run five m n)))

pub moves-few : (m : Machine Chip Board) (from to n : ℕ) → Movers → ((i : ℕ) → i < 5 → made five m i n ≤ moves_left five to m i)
    → all_moves_left five to m ≤ moves_within five (to - from) → n ≤ to - from + 5
unfolding total
moves-few m from to n movers few all =
    omega (arith, each-made m n movers, few 0 (lit< tt), few 1 (lit< tt), few 2 (lit< tt), few 3 (lit< tt), few 4 (lit< tt))
