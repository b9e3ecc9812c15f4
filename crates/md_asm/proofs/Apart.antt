-- The lines that round one keeps: their places are apart, and below the end of the image.
use Rattle.std.proofs.Common.{◌≡◌, ℕ, zero, suc, ◌+◌, ◌<◌, ◌≤◌, inl, inr, Bool, true, false, ◌&&◌, ◌||◌, nat_le, nat_lt, List, [], ◌∷◌, ◌++◌, Option, Some, None, refl, sym, subst, arith, max, if◌then◌else◌}
use Rattle.std.specs.Prelude.{◌==◌, ◌%◌}
use Rattle.std.proofs.lemmas.Bool.Decides.{nat_tests}
use Rattle.std.proofs.Math.Nat.{eq-or-lt_of_le}
use Rattle.md_asm_text.specs.Tokens.{tokens}
use Rattle.md_asm_text.specs.Lines.{Line, line_of}
use Rattle.md_asm.specs.Contents.{is_unfit, size}
use Rattle.md_asm.specs.Held.{IsAddress}
use Rattle.md_asm.specs.Places.{WrittenPlaces, address, any_written, image_limit, is_sub, is_too_large, with_written}
use Rattle.md_asm.specs.Rounds.{On, Outcome, Read, Round, Slot, Step, Stop, following, fault_of, go_on, has_bytes, is_twice, kept_if, labelled, moved, round_one, sized_step, slot_of, start, line_step, unless, wants_even}
use Rattle.md_asm.specs.declared.kind.Kind.{Kind}
use Rattle.md_asm.specs.declared.kind.Kind.TheVariants as kinds
use Rattle.md_asm.specs.declared.processor.Processor.{Processor}
use Rattle.md_asm.specs.declared.processor.Processor.TheVariants as processors
use Rattle.md_asm.proofs.Faults.{within}

-- each of some lines
abbrev pub AllSlots : (Slot → Type 0) → List Slot → Type 0
AllSlots P [] = Unit {0}
AllSlots P (s ∷ more) = P s × AllSlots P more

pub all_slots_more : (P : Slot → Type 0) (slots : List Slot) (slot : Slot) → AllSlots P slots → P slot → AllSlots P (slots ++ slot ∷ [])
all_slots_more P [] slot each is = (is, tt)
all_slots_more P (s ∷ more) slot each is = (each.0, all_slots_more P more slot each.1 is)

pub all_slots_by : (P Q : Slot → Type 0) → ((s : Slot) → P s → Q s) → (slots : List Slot) → AllSlots P slots → AllSlots Q slots
all_slots_by P Q by [] each = tt
all_slots_by P Q by (s ∷ more) each = (by s each.0, all_slots_by P Q by more each.1)

-- a place is one of a line's
pub record IsWithin (s : Slot) (k : ℕ) : Type 0 where
  pub from : s.place ≤ k
  pub below : k < s.place + s.long

abbrev pub AreApart : Slot → Slot → Type 0
AreApart s t = (k : ℕ) → IsWithin s k → IsWithin t k → ⊥

-- each line is apart from those after it
abbrev pub AllApart : List Slot → Type 0
AllApart [] = Unit {0}
AllApart (s ∷ more) = AllSlots (AreApart s) more × AllApart more

all_more : (slots : List Slot) (slot : Slot) → AllApart slots → AllSlots (λ s. AreApart s slot) slots → AllApart (slots ++ slot ∷ [])
all_more [] slot all apart = (tt, tt)
all_more (s ∷ more) slot all apart = (all_slots_more (AreApart s) more slot all.0 apart.0, all_more more slot all.1 apart.1)

-- what holds of a line that is kept: its places are written, below the end, and its address is one of its processor
pub record IsPut (written : WrittenPlaces) (end : ℕ) (s : Slot) : Type 0 where
  pub covered : (k : ℕ) → IsWithin s k → written k ≡ true
  pub low : s.place + s.long ≤ end
  pub addressed : IsAddress s.sub s.address

pub record IsRound (round : Round) : Type 0 where
  pub put : AllSlots (IsPut round.written round.end) round.slots
  pub apart : AllApart round.slots
  pub low : round.end ≤ image_limit

-- ---- a line more

or_true : (b : Bool) → (true || b) ≡ true
or_true b = refl

put_more : (round : Round) (place long : ℕ) (s : Slot) → IsPut round.written round.end s → IsPut (with_written round.written place long) (max round.end (place + long)) s
put_more round place long s is = record {
  covered = λ k within. rw (is.covered k within) refl;
  low = let low = is.low in omega arith;
  addressed = is.addressed;
}

-- where none of so many places is written, each of them is not
none_of : (written : WrittenPlaces) (place long : ℕ) → any_written written place long ≡ false → (k : ℕ) → place ≤ k → k < place + long → written k ≡ false
none_of written place zero none k from below = absurd (omega arith)
none_of written place (suc long) none k from below = elim (eq-or-lt_of_le from) [
  | inl is ↦ rw (sym is) (first (written place) (any_written written (place + 1) long) none)
  | inr above ↦ none_of written (place + 1) long (second (written place) (any_written written (place + 1) long) none) k (omega arith) (omega arith)
]
  where
    first : (a b : Bool) → (a || b) ≡ false → a ≡ false
    first true b h = cc
    first false b h = refl

    second : (a b : Bool) → (a || b) ≡ false → b ≡ false
    second true b h = cc
    second false b h = h

apart_from : (round : Round) (slot s : Slot) → any_written round.written slot.place slot.long ≡ false → IsPut round.written round.end s → AreApart s slot
apart_from round slot s none is k own other =
    let off = none_of round.written slot.place slot.long none k other.from other.below in
    let on = is.covered k own in
    cc

address_is : (processor : Processor) (place : ℕ) → place ≤ image_limit → IsAddress (is_sub processor) (address processor place)
address_is processors.Main place low = omega arith
address_is (processors.Sub at from) place low = omega arith

written_in : (written : WrittenPlaces) (place long k : ℕ) → place ≤ k → k < place + long → with_written written place long k ≡ true
written_in written place long k from below = by (written k)
  where
    by : (b : Bool) → (b || (nat_le place k && nat_lt k (place + long))) ≡ true
    by true = refl
    by false = grind (arith, nat_tests)

-- the fourth test of five fails too
no_fourth : (a b c d e : Bool) (first second third fourth fifth : Kind)
    → (if a then Some first else (if b then Some second else (if c then Some third else (if d then Some fourth else (if e then Some fifth else None))))) ≡ None → d ≡ false
no_fourth true b c d e first second third fourth fifth is = cc
no_fourth false true c d e first second third fourth fifth is = cc
no_fourth false false true d e first second third fourth fifth is = cc
no_fourth false false false true e first second third fourth fifth is = cc
no_fourth false false false false e first second third fourth fifth is = refl

free : (round : Round) (line : Line) (long : ℕ) → fault_of round line long ≡ None → any_written round.written round.place long ≡ false
free round line long none =
    no_fourth (is_unfit (is_sub round.processor) line.body (tokens line.text)) (is_twice round.names line.label)
    (wants_even (is_sub round.processor) line.body && round.place % 2 == 1) (any_written round.written round.place long)
    (has_bytes line.body && is_too_large round.place long) kinds.BadNumber kinds.Twice kinds.Odd kinds.Overlap kinds.TooLarge none

after_by : (round : Round) (number : ℕ) (line : Line) (long : ℕ) → IsRound round → fault_of round line long ≡ None → (b : Bool) → has_bytes line.body ≡ b
    → IsRound (moved (kept_if b (labelled round line.label) number line long) line.body long)
after_by round number line long is none false has = record { put = is.put; apart = is.apart; low = is.low }
after_by round number line long is none true has =
    let low = within round line long none has in
    let off = free round line long none in
    let slot = slot_of (labelled round line.label) number line long in
    let own : IsPut (with_written round.written round.place long) (max round.end (round.place + long)) slot = record {
      covered = λ k own. written_in round.written round.place long k own.from own.below;
      low = omega arith;
      addressed = address_is round.processor round.place (omega arith);
    } in record {
      put = all_slots_more (IsPut (with_written round.written round.place long) (max round.end (round.place + long))) round.slots slot
          (all_slots_by (IsPut round.written round.end) (IsPut (with_written round.written round.place long) (max round.end (round.place + long))) (put_more round round.place long) round.slots is.put) own;
      apart = all_more round.slots slot is.apart (all_slots_by (IsPut round.written round.end) (λ s. AreApart s slot) (λ s. apart_from round slot s off) round.slots is.put);
      low = let end = is.low in omega arith;
    }

-- ---- a step

unless_by : (round : Round) (number : ℕ) (line : Line) (long : ℕ) (next : Round) → IsRound round → (kind : Option Kind) → fault_of round line long ≡ kind
    → unless kind (following round number line long) ≡ On next → IsRound next
unless_by round number line long next is (Some kind) fault on = cc
unless_by round number line long next is None fault on =
    let e : following round number line long ≡ next = cc in
    subst (λ (r : Round). IsRound r) e (after_by round number line long is fault (has_bytes line.body) refl)

sized_by : (round : Round) (number : ℕ) (line : Line) (found : Option ℕ) (next : Round) → IsRound round → sized_step round number line found ≡ On next → IsRound next
sized_by round number line None next is on = cc
sized_by round number line (Some long) next is on = unless_by round number line long next is (fault_of round line long) refl on

stepped : (round : Round) (number : ℕ) (line : Line) (next : Round) → IsRound round → line_step round number line ≡ On next → IsRound next
stepped round number line next is on = sized_by round number line (size (is_sub round.processor) line.body (tokens line.text)) next is on

went_on : (number : ℕ) (s : Step) (go : Round → Outcome) (last : Round) → go_on number s go ≡ Read last → (next : Round) × (s ≡ On next) × (go next ≡ Read last)
went_on number (On next) go last is = (next, refl, is)
went_on number (Stop kind) go last is = cc

-- ---- round one

rounds : (round last : Round) (number : ℕ) (texts : List (List ℕ)) → IsRound round → round_one round number texts ≡ Read last → IsRound last
unfolding round_one
rounds round last number [] is read = let e : round ≡ last = cc in subst (λ (r : Round). IsRound r) e is
rounds round last number (text ∷ more) is read =
    let on = went_on number (line_step round number (line_of text)) (λ next. round_one next (number + 1) more) last read in
    rounds on.0 last (number + 1) more (stepped round number (line_of text) on.0 is on.1) on.2

pub read_round : (last : Round) (texts : List (List ℕ)) → round_one start 1 texts ≡ Read last → IsRound last
read_round last texts read = rounds start last 1 texts (record { put = tt; apart = tt; low = omega arith }) read
