-- Laws of the lines and the pads as they are kept.
use Rattle.std.proofs.Common.{◌≡◌, ℕ, ◌≤◌, true, inl, inr, arith, List, ◌++◌, length, refl, ap, ◌∙◌, append_assoc}
use Rattle.std.proofs.lemmas.Bool.{cases_eq, eqb-true, leb-true, ltb-true, ne_eqb}
use Rattle.md_word.specs.Clock.{cycle_limit}
use Rattle.md_fields.specs.Fields.{sizes, spelling}
use Rattle.md_fields.specs.Items.{IsRight}
use Rattle.md_fields.proofs.Values.{Table, number_in, rule_at, values_at}
use Rattle.bus_shared.specs.Saved.{AreFalls, is_fall, lines_fields}
use Rattle.bus_shared.specs.Spelling.{lines_size}
use Rattle.bus_shared.specs.declared.saved_lines.SavedLines.{SavedLines}

pub fields_size : (at : ℕ) (n : SavedLines) → sizes (lines_fields at n) ≡ lines_size
unfolding sizes
fields_size at n = refl

pub lines_length : (at : ℕ) (n : SavedLines) → length (spelling (lines_fields at n)) ≡ lines_size
unfolding spelling
lines_length at n = refl

-- the rules have no part in the bytes
pub same_bytes : (at other : ℕ) (n : SavedLines) → spelling (lines_fields at n) ≡ spelling (lines_fields other n)
unfolding spelling
same_bytes at other n = refl

-- the fields, and the numbers of their values
pub table : (at : ℕ) → Table lines_size (lines_fields at)
unfolding sizes values_at
table at = record {
  back = λ values. record {
    bus_request = number_in values 0;
    reset = number_in values 1;
    resets = number_in values 2;
    value1 = number_in values 3;
    control1 = number_in values 4;
    value2 = number_in values 5;
    control2 = number_in values 6;
    pads1 = number_in values 7;
    pads2 = number_in values 8;
    count1 = number_in values 9;
    fall1 = number_in values 10;
    count2 = number_in values 11;
    fall2 = number_in values 12;
  };
  again = λ s. refl;
  alike = λ s t bytes. refl;
  sized = λ s. refl;
}

-- the flags of right numbers
pub record Flags (n : SavedLines) : Type 0 where
  pub bus_request : n.bus_request ≤ 1
  pub reset : n.reset ≤ 1

pub flags_of : (at : ℕ) (n : SavedLines) → IsRight (lines_fields at) n → Flags n
flags_of at n right =
    let rule = rule_at 0 (lines_fields at n) right in
    record { bus_request = leb-true n.bus_request 1 (rule 0); reset = leb-true n.reset 1 (rule 1) }

fall-few : (at count fall : ℕ) → at ≤ cycle_limit → is_fall at count fall ≡ true → fall ≤ cycle_limit
fall-few at count fall small holds =
    elim (cases_eq count 0) [
      | inl none ↦ let last = eqb-true fall 0 (rw none at holds) in omega arith
      | inr some ↦ let before = ltb-true fall at (rw (ne_eqb count 0 some) at holds) in omega arith
    ]

-- the falls of right numbers
pub falls_of : (at : ℕ) (n : SavedLines) → at ≤ cycle_limit → IsRight (lines_fields at) n → AreFalls n
falls_of at n small right =
    let rule = rule_at 0 (lines_fields at n) right in
    record {
      count1 = leb-true n.count1 4 (rule 9);
      fall1 = fall-few at n.count1 n.fall1 small (rule 10);
      count2 = leb-true n.count2 4 (rule 11);
      fall2 = fall-few at n.count2 n.fall2 small (rule 12);
    }

-- what is appended four times, and five times
four : (a h x y t i j k l : List ℕ) → i ≡ a ++ h → j ≡ i ++ x → k ≡ j ++ y → l ≡ k ++ t → l ≡ a ++ (h ++ (x ++ (y ++ t)))
four a h x y t i j k l ei ej ek el =
    el ∙ ap (λ (m : List ℕ). m ++ t) (ek ∙ ap (λ (m : List ℕ). m ++ y) (ej ∙ ap (λ (m : List ℕ). m ++ x) ei))
    ∙ append_assoc ((a ++ h) ++ x) y t ∙ append_assoc (a ++ h) x (y ++ t) ∙ append_assoc a h (x ++ (y ++ t))

pub five : (a g h x y t i j k l m : List ℕ) → i ≡ a ++ g → j ≡ i ++ h → k ≡ j ++ x → l ≡ k ++ y → m ≡ l ++ t → m ≡ a ++ (g ++ (h ++ (x ++ (y ++ t))))
five a g h x y t i j k l m ei ej ek el em =
    four i h x y t j k l m ej ek el em ∙ ap (λ (n : List ℕ). n ++ (h ++ (x ++ (y ++ t)))) ei ∙ append_assoc a g (h ++ (x ++ (y ++ t)))
