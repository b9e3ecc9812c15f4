-- What round two writes to a memory is there at the end.
use Rattle.std.proofs.Common.{◌≡◌, ℕ, ◌+◌, ◌<◌, ◌≤◌, ◌⊎◌, inl, inr, List, [], ◌∷◌, length, get_or, refl, sym, ap, ◌∙◌, arith}
use Rattle.std.proofs.lemmas.Bool.{cases_lt}
use Rattle.md_asm_text.specs.Tokens.{tokens}
use Rattle.md_asm.specs.Contents.{Far, Good, Settled, Unfit, Unknown}
use Rattle.md_asm.specs.Numbers.{Names, resolved}
use Rattle.md_asm.specs.Held.{StandsAt}
use Rattle.md_asm.specs.Places.{put}
use Rattle.md_asm.specs.Rounds.{Filled, Hit, Onto, Patched, Slot, Whole, fill_on, put_settled, round_two, settled_slot, with_slot}
use Rattle.md_asm.proofs.Slots.{settled_long}
use Rattle.md_asm.proofs.Memory.{put_leaves, put_long, put_stands}
use Rattle.md_asm.proofs.Apart.{AllApart, AreApart, AllSlots, IsWithin}

-- a line has bytes, which are at its place
pub record IsFilled (memory : List ℕ) (names : Names) (slot : Slot) : Type 0 where
  pub bytes : List ℕ
  pub settled : settled_slot names slot ≡ Good bytes
  pub stands : StandsAt memory slot.place bytes

-- a place is none of a line's
abbrev IsOutside : ℕ → Slot → Type 0
IsOutside k s = IsWithin s k → ⊥

pub record AreFilled (before after : List ℕ) (names : Names) (slots : List Slot) : Type 0 where
  pub each : AllSlots (IsFilled after names) slots
  pub leaves : (k : ℕ) → AllSlots (IsOutside k) slots → get_or after k 0 ≡ get_or before k 0
  pub long : length after ≡ length before

went_on : (number : ℕ) (p : Patched) (go : List ℕ → Filled) (last : List ℕ) → fill_on number p go ≡ Whole last → (next : List ℕ) × (p ≡ Onto next) × (go next ≡ Whole last)
went_on number (Onto next) go last is = (next, refl, is)
went_on number (Hit kind) go last is = cc

put_by : (memory : List ℕ) (place : ℕ) (s : Settled) (next : List ℕ) → put_settled memory place s ≡ Onto next → (bytes : List ℕ) × (s ≡ Good bytes) × (put memory place bytes ≡ next)
put_by memory place (Good bytes) next is = (bytes, refl, cc)
put_by memory place Unknown next is = cc
put_by memory place Unfit next is = cc
put_by memory place Far next is = cc

-- before it, after it or within
sides : (s : Slot) (k : ℕ) → IsOutside k s → (k < s.place) ⊎ (s.place + s.long ≤ k)
sides s k outside = elim (cases_lt k s.place) [
  | inl below ↦ inl below
  | inr from ↦ (elim (cases_lt k (s.place + s.long)) [
    | inl below ↦ absurd (outside (record { from = from; below = below }))
    | inr above ↦ inr above
  ])
]

outside_by : (s : Slot) (slots : List Slot) (k : ℕ) → AllSlots (AreApart s) slots → IsWithin s k → AllSlots (IsOutside k) slots
outside_by s [] k apart within = tt
outside_by s (t ∷ more) k apart within = (λ other. apart.0 k within other, outside_by s more k apart.1 within)

low_as : (before after : List ℕ) (slots : List Slot) → length after ≡ length before → AllSlots (λ s. s.place + s.long ≤ length before) slots → AllSlots (λ s. s.place + s.long ≤ length after) slots
low_as before after slots long low = rw long low

-- one line more before those that are filled
with_front : (names : Names) (memory next last : List ℕ) (slot : Slot) (more : List Slot) (bytes : List ℕ) → slot.place + length bytes ≤ length memory
    → settled_slot names slot ≡ Good bytes → put memory slot.place bytes ≡ next → length bytes ≡ slot.long → AllSlots (AreApart slot) more
    → AreFilled next last names more → AreFilled memory last names (slot ∷ more)
with_front names memory next last slot more bytes room is put_is size apart all =
    let long : length next ≡ length memory = rw (sym put_is) (put_long memory slot.place bytes room) in record {
      each = (
        record {
          bytes = bytes;
          settled = is;
          stands = λ k within.
              let here : IsWithin slot (slot.place + k) = record { from = omega arith; below = omega (arith, size) } in
              all.leaves (slot.place + k) (outside_by slot more (slot.place + k) apart here)
              ∙ ap (λ (m : List ℕ). get_or m (slot.place + k) 0) (sym put_is) ∙ put_stands memory slot.place bytes room k within;
        },
        all.each,
      );
      leaves = λ k outside.
          let side : (k < slot.place) ⊎ (slot.place + length bytes ≤ k) = rw size (sides slot k outside.0) in
          all.leaves k outside.1 ∙ ap (λ (m : List ℕ). get_or m k 0) (sym put_is) ∙ put_leaves memory slot.place bytes k room side;
      long = all.long ∙ long;
    }

pub all_filled : (names : Names) (memory last : List ℕ) (slots : List Slot) → AllSlots (λ s. s.place + s.long ≤ length memory) slots → AllApart slots
    → round_two names memory slots ≡ Whole last → AreFilled memory last names slots
unfolding round_two
all_filled names memory last [] low apart is = let e : memory ≡ last = cc in record { each = tt; leaves = λ k none. cc; long = cc }
all_filled names memory last (slot ∷ more) low apart is =
    let on = went_on slot.line (with_slot names memory slot) (λ next. round_two names next more) last is in
    let own = put_by memory slot.place (settled_slot names slot) on.0 on.1 in
    let size = settled_long slot.sub slot.body slot.long (resolved names (tokens slot.text)) slot.address own.0 own.1 in
    let room : slot.place + length own.0 ≤ length memory = let l = low.0 in omega (arith, l, size) in
    let long : length on.0 ≡ length memory = rw (sym own.2) (put_long memory slot.place own.0 room) in
    with_front names memory on.0 last slot more own.0 room own.1 own.2 size apart.0
    (all_filled names on.0 last more (low_as memory on.0 more long low.1) apart.1 on.2)
