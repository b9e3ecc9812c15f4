-- Laws of what a saved state keeps of the 68000.
use Rattle.std.proofs.Common.{◌≡◌, ℕ, zero, suc, ◌≤◌, Bool, true, cond, eqb, ltb, List, [], ◌∷◌, length, take, drop, slice_index, Option, Some, None, refl, sym, arith}
use Rattle.std.specs.Prelude.{bit_and}
use Rattle.std.proofs.lemmas.Bool.{leb-true, eqb-true, and_parts}
use Rattle.std.proofs.lemmas.List.{length-take}
use Rattle.md_fields.specs.Distances.{is_soon}
use Rattle.md_fields.specs.Fields.{first_invalid, sizes}
use Rattle.md_fields.specs.Padding.{are_zeros}
use Rattle.md_fields.proofs.Flags.{flag_again, flag_back}
use Rattle.md_fields.proofs.Padding.{padded_again, padded_back}
use Rattle.md_fields.proofs.Values.{Table, list_in, number_in, rule_at, values_at}
use Rattle.m68k_chip.specs.Numbers.{IsRegs, Numbers68, halted_number, numbers_of, since_of, stage_number, stage_of, state_from}
use Rattle.m68k_chip.specs.Saved.{are_answers, are_words, chip_fields, fields_by, is_cause, is_cost, is_halted, is_since, is_start}
use Rattle.m68k_chip.specs.Spelling.{chip_size}
use Rattle.m68k_chip.specs.States.{State68}
use Rattle.m68k_chip.specs.declared.stage.Stage.{Stage}
use Rattle.m68k_chip.specs.declared.stage.Stage.TheVariants.{Sample, Access, Word}

-- the fields, and the numbers of their values
pub table : (cart : List ℕ) (at : ℕ) → Table chip_size (chip_fields cart at)
unfolding sizes values_at
table cart at = record {
  back = λ values. record {
    next = number_in values 0;
    stage = number_in values 1;
    start = number_in values 2;
    d0 = number_in values 3;
    d1 = number_in values 4;
    d2 = number_in values 5;
    d3 = number_in values 6;
    d4 = number_in values 7;
    d5 = number_in values 8;
    d6 = number_in values 9;
    d7 = number_in values 10;
    a0 = number_in values 11;
    a1 = number_in values 12;
    a2 = number_in values 13;
    a3 = number_in values 14;
    a4 = number_in values 15;
    a5 = number_in values 16;
    a6 = number_in values 17;
    usp = number_in values 18;
    ssp = number_in values 19;
    pc = number_in values 20;
    sr = number_in values 21;
    stopped = number_in values 22;
    halted = number_in values 23;
    trace = number_in values 24;
    since = number_in values 25;
    cause = number_in values 26;
    count = number_in values 27;
    answers = list_in values 28;
    source = number_in values 29;
    words = number_in values 30;
    cost = number_in values 31;
    ram = list_in values 32;
  };
  again = λ s. refl;
  alike = λ s t bytes. refl;
  sized = λ s. refl;
}

-- ---- from the numbers to the state and back

stage_back : (n : ℕ) → n ≤ 2 → stage_number (stage_of n) ≡ n
stage_back zero le = refl
stage_back (suc zero) le = refl
stage_back (suc (suc zero)) le = refl
stage_back (suc (suc (suc n))) le = absurd (omega (arith, le))

stage_again : (stage : Stage) → stage_of (stage_number stage) ≡ stage
stage_again Sample = refl
stage_again Access = refl
stage_again Word = refl

halted_back : (n since : ℕ) → n ≤ 1 → halted_number (cond (eqb n 1) (Some since) None) ≡ n
halted_back zero since le = refl
halted_back (suc zero) since le = refl
halted_back (suc (suc n)) since le = absurd (omega (arith, le))

since_back : (at n since : ℕ) → n ≤ 1 → cond (eqb n 1) (ltb since at) (eqb since 0) ≡ true → since_of (cond (eqb n 1) (Some since) None) ≡ since
since_back at zero since le e = sym (eqb-true since 0 e)
since_back at (suc zero) since le e = refl
since_back at (suc (suc n)) since le e = absurd (omega (arith, le))

halted_again : (halted : Option ℕ) → cond (eqb (halted_number halted) 1) (Some (since_of halted)) None ≡ halted
halted_again None = refl
halted_again (Some since) = refl

-- lists of so many numbers, one by one
eight : (l : List ℕ) → length l ≡ 8 → slice_index l 0 ∷ slice_index l 1 ∷ slice_index l 2 ∷ slice_index l 3 ∷ slice_index l 4 ∷ slice_index l 5 ∷ slice_index l 6 ∷ slice_index l 7 ∷ [] ≡ l
eight [] e = absurd (omega (arith, e))
eight (x ∷ []) e = absurd (omega (arith, e))
eight (x ∷ y ∷ []) e = absurd (omega (arith, e))
eight (x ∷ y ∷ z ∷ []) e = absurd (omega (arith, e))
eight (x ∷ y ∷ z ∷ u ∷ []) e = absurd (omega (arith, e))
eight (x ∷ y ∷ z ∷ u ∷ v ∷ []) e = absurd (omega (arith, e))
eight (x ∷ y ∷ z ∷ u ∷ v ∷ w ∷ []) e = absurd (omega (arith, e))
eight (x ∷ y ∷ z ∷ u ∷ v ∷ w ∷ p ∷ []) e = absurd (omega (arith, e))
eight (x ∷ y ∷ z ∷ u ∷ v ∷ w ∷ p ∷ q ∷ []) e = refl
eight (x ∷ y ∷ z ∷ u ∷ v ∷ w ∷ p ∷ q ∷ more ∷ rest) e = absurd (omega (arith, e))

seven : (l : List ℕ) → length l ≡ 7 → slice_index l 0 ∷ slice_index l 1 ∷ slice_index l 2 ∷ slice_index l 3 ∷ slice_index l 4 ∷ slice_index l 5 ∷ slice_index l 6 ∷ [] ≡ l
seven [] e = absurd (omega (arith, e))
seven (x ∷ []) e = absurd (omega (arith, e))
seven (x ∷ y ∷ []) e = absurd (omega (arith, e))
seven (x ∷ y ∷ z ∷ []) e = absurd (omega (arith, e))
seven (x ∷ y ∷ z ∷ u ∷ []) e = absurd (omega (arith, e))
seven (x ∷ y ∷ z ∷ u ∷ v ∷ []) e = absurd (omega (arith, e))
seven (x ∷ y ∷ z ∷ u ∷ v ∷ w ∷ []) e = absurd (omega (arith, e))
seven (x ∷ y ∷ z ∷ u ∷ v ∷ w ∷ p ∷ []) e = refl
seven (x ∷ y ∷ z ∷ u ∷ v ∷ w ∷ p ∷ more ∷ rest) e = absurd (omega (arith, e))

-- what the rules say, where that of work RAM may be left out
pub record Rules (at : ℕ) (holds : Bool) (n : Numbers68) : Type 0 where
  pub soon : is_soon n.next at ≡ true
  pub stage : n.stage ≤ 2
  pub start : is_start at n ≡ true
  pub status : bit_and n.sr 0xa71f ≡ n.sr
  pub stopped : n.stopped ≤ 1
  pub halted : is_halted n ≡ true
  pub trace : n.trace ≤ 1
  pub since : is_since at n ≡ true
  pub cause : is_cause n ≡ true
  pub answers : are_answers n ≡ true
  pub words : are_words n ≡ true
  pub cost : is_cost n ≡ true
  pub ram : holds ≡ true

pub rules_of : (at : ℕ) (holds : Bool) (n : Numbers68) → first_invalid 0 (fields_by at holds n) ≡ None → Rules at holds n
rules_of at holds n right =
    let rule = rule_at 0 (fields_by at holds n) right in
    record {
      soon = rule 0;
      stage = leb-true n.stage 2 (rule 1);
      start = rule 2;
      status = eqb-true (bit_and n.sr 0xa71f) n.sr (rule 21);
      stopped = leb-true n.stopped 1 (rule 22);
      halted = rule 23;
      trace = leb-true n.trace 1 (rule 24);
      since = rule 25;
      cause = rule 26;
      answers = rule 27;
      words = rule 30;
      cost = rule 31;
      ram = rule 32;
    }

pub count_few : (at : ℕ) (holds : Bool) (n : Numbers68) → Rules at holds n → n.count ≤ 31
count_few at holds n rules = leb-true n.count 31 (and_parts _ _ rules.answers).0

-- the numbers that are right are those of their state
pub numbers_back : (at : ℕ) (holds : Bool) (n : Numbers68) → length n.answers ≡ 32 → Rules at holds n → numbers_of (state_from n) ≡ n
numbers_back at holds n long rules =
    let few = count_few at holds n rules in
    let counted : length (take n.count n.answers) ≡ n.count = omega (arith, length-take n.count n.answers, long, few) in
    let room : n.count ≤ 32 = omega (arith, few) in
    let zeros : are_zeros (drop n.count n.answers) ≡ true = (and_parts _ _ (and_parts _ _ rules.answers).1).1 in
    let halted : n.halted ≤ 1 = leb-true n.halted 1 (and_parts _ _ rules.halted).0 in
    λ i. record n {
      stage = stage_back n.stage rules.stage i;
      stopped = flag_back n.stopped rules.stopped i;
      halted = halted_back n.halted n.since halted i;
      trace = flag_back n.trace rules.trace i;
      since = since_back at n.halted n.since halted rules.since i;
      count = counted i;
      answers = padded_back 32 n.count n.answers long room zeros i;
    }

-- a state is that of its numbers
pub state_again : (state : State68) → IsRegs state.regs → state_from (numbers_of state) ≡ state
state_again state is = λ i. record state {
  stage = stage_again state.stage i;
  regs = record state.regs { d = eight state.regs.d is.data_registers i; a = seven state.regs.a is.address_registers i };
  stopped = flag_again state.stopped i;
  trace = flag_again state.trace i;
  halted = halted_again state.halted i;
  answers = padded_again 32 state.answers i;
}
