-- The samples that a sound chip keeps are those of the record's run, as long as there is room.
use Rattle.std.proofs.Common.{◌≡◌, ℕ, zero, suc, ◌+◌, ◌*◌, ◌<◌, ◌≤◌, ◌==◌, cond, Bool, true, false, List, [], ◌++◌, length, refl, sym, ap, ◌∙◌, arith, subst, lit<, le-leb}
use Rattle.std.specs.Prelude.{ℤ}
use Rattle.std.proofs.lemmas.Bool.Decides.{nat_tests}
use Rattle.std.proofs.Common.{length-append}
use Rattle.std.proofs.lemmas.List.{append-nil}
use Rattle.chip_core.specs.Machines as machines
use Rattle.chip_core.specs.Machines.{IsValid, Machine, is_sample, made, move, put, run}
use Rattle.fm_chip.specs.Batches as fm_batches
use Rattle.fm_port.specs.Port as fm_ports
use Rattle.psg_sound.specs.Batches.{samples}
use Rattle.psg_sound.specs.Port.{taken_below}
use Rattle.psg_sound.specs.SynthLaws.{length-samples}
use Rattle.md_chips.specs.Console.{Console, first_of, fm_taken, rendered, mover, ran, media_after}
use Rattle.md_chips.specs.Laws.{sixteen-fm}
use Rattle.md_chips.specs.Machines.{kept_in}
use Rattle.md_chips.specs.Media.{Media, joined, no_media}
use Rattle.bus_shared.specs.Board.{Board, IsBoard}
use Rattle.md_chips.specs.Parts.{FmValue, PsgValue}
use Rattle.md_chips.specs.Refinement.{console_of, fm_of, psg_of}
use Rattle.md_chips.specs.Rules.{IsChip, advance, five, kept, next, perform}
use Rattle.md_chips.specs.declared.chips.Chip.{Chip}
use Rattle.md_chips.specs.declared.chips.Chip.TheVariants.{Fm, Psg}
use Rattle.md_chips.proofs.Moves.{at-kind, five-each, kind3, kind4, move-access, move-sample}
use Rattle.md_chips.proofs.Lifts.{Movers, ValidTo, mover-same, ran-same}

-- the samples of one sound chip among those of both: its number, and how a move adds to what it keeps
pub record Part (A : Type 0) : Type 0 where
  pub of : Media → List A
  pub none : of no_media ≡ []
  pub more : (first second : Media) → of (joined first second) ≡ of first ++ of second
  pub number : ℕ
  pub grows : (m : Machine Chip Board) → IsValid five IsChip IsBoard m → (i : ℕ) → i < 5 → (i ≡ number → length (of (kept_in m)) ≤ 1056) → of (kept_in (move five m i)) ≡ of (kept_in m) ++ of (rendered (console_of m) i)
  pub long : (z : Console) (i : ℕ) → i < 5 → length (of (rendered z i)) ≡ 16 * cond (i == number) 1 0

-- with room a batch goes after what is kept
kept-all : {A : Type 0} (old batch : List A) → length old ≤ 1056 → kept old batch ≡ old ++ batch
kept-all old batch room = ap (λ (b : Bool). cond b (old ++ batch) old) (le-leb (length old) 1056 room)

-- a move of another chip leaves chip j
pub other_by : (b : Bool) (m : Machine Chip Board) (i j : ℕ) → is_sample five m i ≡ b → (j == i) ≡ false → (move five m i).chip j ≡ m.chip j
unfolding put
other_by true m i j kind other = ap (λ (z : Machine Chip Board). z.chip j) (move-sample m i kind) ∙ rw other refl
other_by false m i j kind other = ap (λ (z : Machine Chip Board). z.chip j) (move-access m i kind) ∙ rw other refl

-- a move of the FM synthesis adds the sums of its batch
fm-kept : (m : Machine Chip Board) (v : FmValue) → m.chip 3 ≡ Fm v → length (kept_in m).sides ≤ 1056 → (kept_in (move five m 3)).sides ≡ (kept_in m).sides ++ (rendered (console_of m) 3).sides
unfolding console_of rendered put
fm-kept m v is room =
    let batch : List (ℤ × ℤ) = fm_batches.samples (first_of v.cycle) v.synth (fm_ports.taken_below v.cycle m.shared.fm.writes) in
    let room' : length v.samples ≤ 1056 = subst (λ (c : Chip). length (fm_of c).samples ≤ 1056) is room in
    ap (λ (z : Machine Chip Board). (kept_in z).sides) (move-access m 3 (ap (λ (c : Chip). (next c).sample) is))
    ∙ at-kind (λ c. (fm_of (advance (perform c m.shared).chip)).samples)
    (λ c. (fm_of c).samples ++ fm_batches.samples (first_of (fm_of c).cycle) (fm_of c).synth (fm_ports.taken_below (fm_of c).cycle m.shared.fm.writes))
    (m.chip 3) (Fm v) is (kept-all v.samples batch room')

-- a move of the PSG adds the levels of its batch
psg-kept : (m : Machine Chip Board) (v : PsgValue) → m.chip 4 ≡ Psg v → length (kept_in m).levels ≤ 1056 → (kept_in (move five m 4)).levels ≡ (kept_in m).levels ++ (rendered (console_of m) 4).levels
unfolding console_of rendered put
psg-kept m v is room =
    let batch : List ℤ = samples (first_of v.cycle) v.synth (taken_below v.cycle m.shared.psg) in
    let room' : length v.samples ≤ 1056 = subst (λ (c : Chip). length (psg_of c).samples ≤ 1056) is room in
    ap (λ (z : Machine Chip Board). (kept_in z).levels) (move-access m 4 (ap (λ (c : Chip). (next c).sample) is))
    ∙ at-kind (λ c. (psg_of (advance (perform c m.shared).chip)).samples)
    (λ c. (psg_of c).samples ++ samples (first_of (psg_of c).cycle) (psg_of c).synth (taken_below (psg_of c).cycle m.shared.psg))
    (m.chip 4) (Psg v) is (kept-all v.samples batch room')

-- a move keeps the sums that it makes, and the levels
pub sides-grow : (m : Machine Chip Board) → IsValid five IsChip IsBoard m → (i : ℕ) → i < 5 → (i ≡ 3 → length (kept_in m).sides ≤ 1056) → (kept_in (move five m i)).sides ≡ (kept_in m).sides ++ (rendered (console_of m) i).sides
unfolding rendered
sides-grow m valid =
    let k3 = kind3 (m.chip 3) (valid.number 3 (lit< tt)) in
    let other : (i : ℕ) → (3 == i) ≡ false → (kept_in (move five m i)).sides ≡ (kept_in m).sides =
    λ i away. ap (λ (c : Chip). (fm_of c).samples) (other_by (is_sample five m i) m i 3 refl away) in
    five-each (λ i. (i ≡ 3 → length (kept_in m).sides ≤ 1056) → (kept_in (move five m i)).sides ≡ (kept_in m).sides ++ (rendered (console_of m) i).sides)
    (λ room. other 0 refl ∙ sym (append-nil (kept_in m).sides))
    (λ room. other 1 refl ∙ sym (append-nil (kept_in m).sides))
    (λ room. other 2 refl ∙ sym (append-nil (kept_in m).sides))
    (λ room. fm-kept m k3.0 k3.1 (room refl))
    (λ room. other 4 refl ∙ sym (append-nil (kept_in m).sides))

pub levels-grow : (m : Machine Chip Board) → IsValid five IsChip IsBoard m → (i : ℕ) → i < 5 → (i ≡ 4 → length (kept_in m).levels ≤ 1056) → (kept_in (move five m i)).levels ≡ (kept_in m).levels ++ (rendered (console_of m) i).levels
unfolding rendered
levels-grow m valid =
    let k4 = kind4 (m.chip 4) (valid.number 4 (lit< tt)) in
    let other : (i : ℕ) → (4 == i) ≡ false → (kept_in (move five m i)).levels ≡ (kept_in m).levels =
    λ i away. ap (λ (c : Chip). (psg_of c).samples) (other_by (is_sample five m i) m i 4 refl away) in
    five-each (λ i. (i ≡ 4 → length (kept_in m).levels ≤ 1056) → (kept_in (move five m i)).levels ≡ (kept_in m).levels ++ (rendered (console_of m) i).levels)
    (λ room. other 0 refl ∙ sym (append-nil (kept_in m).levels))
    (λ room. other 1 refl ∙ sym (append-nil (kept_in m).levels))
    (λ room. other 2 refl ∙ sym (append-nil (kept_in m).levels))
    (λ room. other 3 refl ∙ sym (append-nil (kept_in m).levels))
    (λ room. psg-kept m k4.0 k4.1 (room refl))

-- how many samples a move makes
sixteen-of : (z : Console) → length (fm_batches.samples (first_of z.fm_cycle) z.fm (fm_taken z)) ≡ 16
sixteen-of z = sixteen-fm (record { synth = z.fm; cycle = z.fm_cycle; taken = fm_taken z; samples = [] })

pub sides-long : (z : Console) (i : ℕ) → i < 5 → length (rendered z i).sides ≡ 16 * cond (i == 3) 1 0
unfolding rendered
sides-long z = five-each (λ i. length (rendered z i).sides ≡ 16 * cond (i == 3) 1 0) refl refl refl (sixteen-of z) refl

pub levels-long : (z : Console) (i : ℕ) → i < 5 → length (rendered z i).levels ≡ 16 * cond (i == 4) 1 0
unfolding rendered
levels-long z =
    five-each (λ i. length (rendered z i).levels ≡ 16 * cond (i == 4) 1 0) refl refl refl refl (length-samples (first_of z.psg_cycle) z.psg (taken_below z.psg_cycle z.shared.psg))

-- the two sound chips
unfoldable pub fm_part : Part (ℤ × ℤ)
fm_part = record { of = λ s. s.sides; none = refl; more = λ first second. refl; number = 3; grows = sides-grow; long = sides-long }

unfoldable pub psg_part : Part ℤ
psg_part = record { of = λ s. s.levels; none = refl; more = λ first second. refl; number = 4; grows = levels-grow; long = levels-long }

fewer : (a b : ℕ) → a + b ≤ 67 → a ≤ 67
fewer a b few = omega arith

-- a batch more has room
has_room : (number i count : ℕ) → count + cond (i == number) 1 0 ≤ 67 → (number == number) ≡ true → i ≡ number → 16 * count ≤ 1056
has_room number i count few own is =
    let more : count + cond (number == number) 1 0 ≤ 67 = subst (λ (j : ℕ). count + cond (j == number) 1 0 ≤ 67) is few in
    let one : count + 1 ≤ 67 = subst (λ (b : Bool). count + cond b 1 0 ≤ 67) own more in
    omega arith

sum_long : (a b count more : ℕ) → a ≡ 16 * count → b ≡ 16 * more → a + b ≡ 16 * (count + more)
sum_long a b count more first second = omega arith

own : (n : ℕ) → (n == n) ≡ true
own n = grind (arith, nat_tests)

-- one move more
pub record KeepsMore {A : Type 0} (p : Part A) (z : Machine Chip Board) (i : ℕ) (old : List A) (count : ℕ) : Type 0 where
  pub samples_are : p.of (kept_in (move five z i)) ≡ old ++ p.of (rendered (console_of z) i)
  pub long : length (p.of (kept_in (move five z i))) ≡ 16 * (count + cond (i == p.number) 1 0)

move-keeps : {A : Type 0} (p : Part A) (z : Machine Chip Board) (i : ℕ) (old : List A) (count : ℕ) → IsValid five IsChip IsBoard z → i < 5
    → p.of (kept_in z) ≡ old → length (p.of (kept_in z)) ≡ 16 * count → count + cond (i == p.number) 1 0 ≤ 67 → KeepsMore p z i old count
move-keeps p z i old count valid below is long few =
    let moved : p.of (kept_in (move five z i)) ≡ p.of (kept_in z) ++ p.of (rendered (console_of z) i) =
    p.grows z valid i below (λ same. subst (λ (n : ℕ). n ≤ 1056) (sym long) (has_room p.number i count few (own p.number) same)) in
    record {
      samples_are = moved ∙ ap (λ l. l ++ p.of (rendered (console_of z) i)) is;
      long = ap length moved ∙ length-append (p.of (kept_in z)) (p.of (rendered (console_of z) i)) ∙ sum_long (length (p.of (kept_in z))) (length (p.of (rendered (console_of z) i))) count (cond (i == p.number) 1 0) long (p.long (console_of z) i below);
    }

-- from a machine that keeps none, as many batches as there is room for are kept
pub record KeepsAll {A : Type 0} (p : Part A) (m : Machine Chip Board) (n : ℕ) : Type 0 where
  pub samples_are : p.of (kept_in (run five m n)) ≡ p.of (media_after (console_of m) n)
  pub long : length (p.of (kept_in (run five m n))) ≡ 16 * made five m p.number n

pub samples-kept : {A : Type 0} (p : Part A) (m : Machine Chip Board) (n : ℕ) → ValidTo m n → Movers → p.of (kept_in m) ≡ [] → made five m p.number n ≤ 67 → KeepsAll p m n
unfolding run media_after made
samples-kept p m zero valid movers none few = record { samples_are = none ∙ sym p.none; long = ap length none }
samples-kept p m (suc n) valid movers none few =
    let stage : IsValid five IsChip IsBoard (run five m n) = valid n (omega arith) in
    let valid' : ValidTo m n = λ k below. valid k (omega arith) in
    let i : ℕ = machines.mover five (run five m n) in
    let rest : KeepsAll p m n = samples-kept p m n valid' movers none (fewer (made five m p.number n) (cond (i == p.number) 1 0) few) in
    let more : KeepsMore p (run five m n) i (p.of (media_after (console_of m) n)) (made five m p.number n) =
    move-keeps p (run five m n) i (p.of (media_after (console_of m) n)) (made five m p.number n) stage (movers (run five m n)) rest.samples_are rest.long few in
    let same : rendered (console_of (run five m n)) i ≡ rendered (ran (console_of m) n) (mover (ran (console_of m) n)) =
    ap (λ (j : ℕ). rendered (console_of (run five m n)) j) (mover-same (run five m n) stage)
    ∙ ap (λ (z : Console). rendered z (mover z)) (ran-same m n valid' movers) in
    record {
      samples_are =
          more.samples_are ∙ ap (λ (s : Media). p.of (media_after (console_of m) n) ++ p.of s) same
          ∙ sym (p.more (media_after (console_of m) n) (rendered (ran (console_of m) n) (mover (ran (console_of m) n))));
      long = more.long;
    }
