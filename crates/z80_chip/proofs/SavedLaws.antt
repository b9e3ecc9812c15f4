-- Laws of what a saved state keeps of the Z80.
use Rattle.std.proofs.Common.{◌≡◌, ℕ, zero, suc, ◌+◌, ◌*◌, ◌≤◌, Bool, true, false, not, cond, eqb, ltb, List, length, take, drop, Option, Some, None, is_some, IfSome, Result, Ok, Err, refl, sym, subst, ◌∙◌, arith}
use Rattle.std.specs.Prelude.{◌&&◌, ◌||◌}
use Rattle.std.proofs.lemmas.Bool.{leb-true, eqb-true, and_parts}
use Rattle.std.proofs.lemmas.List.{length-take, nil_from_length}
use Rattle.std.proofs.Math.Seq.{take-length}
use Rattle.md_word.specs.declared.sub_bus.Request80.{Request80}
use Rattle.md_fields.specs.Distances.{is_after, is_soon}
use Rattle.md_fields.specs.Fields.{AllHold, Field, first_invalid, sizes}
use Rattle.md_fields.specs.Padding.{are_zeros}
use Rattle.md_fields.specs.Places.{Stand}
use Rattle.md_fields.proofs.Distances.{after_is}
use Rattle.md_fields.proofs.Flags.{flag_again, flag_back}
use Rattle.md_fields.proofs.Items.{rules_hold}
use Rattle.md_fields.proofs.Padding.{padded_again, padded_back}
use Rattle.md_fields.proofs.Tables.{none_of}
use Rattle.md_fields.proofs.Values.{Value, list_in, made_once, number_in, rule_at, stand_rest, values_at}
use Rattle.rom_header.specs.Cartridge.{IsImage}
use Rattle.z80_decode.specs.declared.interrupt_mode.InterruptMode.{InterruptMode}
use Rattle.z80_decode.specs.declared.interrupt_mode.InterruptMode.TheVariants.{Mode0, Mode1, Mode2}
use Rattle.z80_exec.specs.Sample.Samples.{Ended}
use Rattle.z80_parcel.specs.Parcels.{IsStore, Store}
use Rattle.z80_chip.specs.Events.{carried_out, first_step, step}
use Rattle.z80_parcel.specs.Spelling.{store_fields}
use Rattle.z80_chip.specs.Saved.{Kept80, are_answers, asks_more, chip_fields, fields_by, is_access, is_bank_right, is_cause, is_holder, is_start, is_waiting, kept_of, mode_number, mode_of, need_of, number_fields, numbers_of, stage_number, stage_of, state_from}
use Rattle.z80_chip.specs.Validity.{IsAt, IsChip80}
use Rattle.z80_chip.specs.States.{State80}
use Rattle.z80_chip.specs.declared.saved.Saved80.{Saved80}
use Rattle.z80_chip.specs.declared.stage.Stage.{Stage}
use Rattle.z80_chip.specs.declared.stage.Stage.TheVariants.{Sample, Access, Yield, Take}
use Rattle.z80_chip.specs.Spelling.{ram_offset}
use Rattle.z80_chip.proofs.Laws.{of}

-- RAM and bank register that follow the numbers are the only ones
same_store : (p q : Bool) (s t : Option Store) (bytes : List ℕ) → Stand ram_offset (store_fields p s) bytes → Stand ram_offset (store_fields q t) bytes → s ≡ t
unfolding Stand
same_store p q None None bytes at other = refl
same_store p q None (Some t) bytes at other = absurd (omega (arith, at, other.1.1))
same_store p q (Some s) None bytes at other = absurd (omega (arith, at.1.1, other))
same_store p q (Some s) (Some t) bytes at other = λ i. Some (record { ram = (at.0 ∙ sym other.0) i; bank = (at.1.0 ∙ sym other.1.0) i })

-- the numbers of the values of their fields
abbrev numbers_in : List Value → Saved80
numbers_in values = record {
  next = number_in values 0;
  stage = number_in values 1;
  start = number_in values 2;
  af = number_in values 3;
  bc = number_in values 4;
  de = number_in values 5;
  hl = number_in values 6;
  af2 = number_in values 7;
  bc2 = number_in values 8;
  de2 = number_in values 9;
  hl2 = number_in values 10;
  ix = number_in values 11;
  iy = number_in values 12;
  sp = number_in values 13;
  pc = number_in values 14;
  i = number_in values 15;
  r = number_in values 16;
  iff1 = number_in values 17;
  iff2 = number_in values 18;
  mode = number_in values 19;
  halted = number_in values 20;
  after_ei = number_in values 21;
  resets = number_in values 22;
  cause = number_in values 23;
  count = number_in values 24;
  answers = list_in values 25;
}

-- the numbers in the bytes are the only ones
same_numbers : (cart : List ℕ) (at : ℕ) (bytes : List ℕ) (s t : Kept80) → Stand 0 (chip_fields cart at s) bytes → Stand 0 (chip_fields cart at t) bytes → s.numbers ≡ t.numbers
unfolding values_at
same_numbers cart at bytes s t p q = made_once numbers_in (chip_fields cart at s) (chip_fields cart at t) bytes p q refl

pub only_one : (cart : List ℕ) (at : ℕ) (bytes : List ℕ) (s t : Kept80) → Stand 0 (chip_fields cart at s) bytes → Stand 0 (chip_fields cart at t) bytes → s ≡ t
unfolding sizes
only_one cart at bytes s t p q =
    let numbers = same_numbers cart at bytes s t p q in
    let one = stand_rest 0 (number_fields at (is_some s.store) s.numbers) (store_fields (asks_more cart s) s.store) bytes p in
    let other = stand_rest 0 (number_fields at (is_some t.store) t.numbers) (store_fields (asks_more cart t) t.store) bytes q in
    let store = same_store _ _ s.store t.store bytes one other in
    λ i. record { numbers = numbers i; store = store i }

-- ---- from the numbers to the state and back

stage_back : (n : ℕ) → n ≤ 3 → stage_number (stage_of n) ≡ n
stage_back zero le = refl
stage_back (suc zero) le = refl
stage_back (suc (suc zero)) le = refl
stage_back (suc (suc (suc zero))) le = refl
stage_back (suc (suc (suc (suc n)))) le = absurd (omega (arith, le))

mode_back : (n : ℕ) → n ≤ 2 → mode_number (mode_of n) ≡ n
mode_back zero le = refl
mode_back (suc zero) le = refl
mode_back (suc (suc zero)) le = refl
mode_back (suc (suc (suc n))) le = absurd (omega (arith, le))

stage_again : (stage : Stage) → stage_of (stage_number stage) ≡ stage
stage_again Sample = refl
stage_again Access = refl
stage_again Yield = refl
stage_again Take = refl

mode_again : (mode : InterruptMode) → mode_of (mode_number mode) ≡ mode
mode_again Mode0 = refl
mode_again Mode1 = refl
mode_again Mode2 = refl

-- what the rules say, where that of RAM may be left out
pub record Rules (at : ℕ) (holds : Bool) (k : Kept80) : Type 0 where
  pub soon : is_soon k.numbers.next at ≡ true
  pub stage : k.numbers.stage ≤ 3
  pub start : is_start at k.numbers ≡ true
  pub iff1 : k.numbers.iff1 ≤ 1
  pub iff2 : k.numbers.iff2 ≤ 1
  pub mode : k.numbers.mode ≤ 2
  pub halted : k.numbers.halted ≤ 1
  pub after_ei : k.numbers.after_ei ≤ 1
  pub cause : is_cause k.numbers ≡ true
  pub answers : are_answers k.numbers ≡ true
  pub holder : is_holder (is_some k.store) k.numbers ≡ true
  pub store : AllHold (store_fields holds k.store)

pub rules_of : (at : ℕ) (holds : Bool) (k : Kept80) → first_invalid 0 (fields_by at holds k) ≡ None → Rules at holds k
rules_of at holds k right =
    let fs : List Field = number_fields at (is_some k.store) k.numbers in
    let parts = none_of 0 fs (store_fields holds k.store) right in
    let rule = rule_at 0 fs parts.0 in
    record {
      soon = rule 0;
      stage = leb-true k.numbers.stage 3 (rule 1);
      start = rule 2;
      iff1 = leb-true k.numbers.iff1 1 (rule 17);
      iff2 = leb-true k.numbers.iff2 1 (rule 18);
      mode = leb-true k.numbers.mode 2 (rule 19);
      halted = leb-true k.numbers.halted 1 (rule 20);
      after_ei = leb-true k.numbers.after_ei 1 (rule 21);
      cause = rule 23;
      answers = rule 24;
      holder = rule 26;
      store = rules_hold (0 + sizes fs) (store_fields holds k.store) parts.1;
    }

-- the numbers that are right are those of their state
pub kept_back : (at : ℕ) (holds : Bool) (k : Kept80) → length k.numbers.answers ≡ 4 → Rules at holds k → kept_of (state_from k.numbers k.store) ≡ k
kept_back at holds k four rules =
    let s : Saved80 = k.numbers in
    let few = and_parts _ _ rules.answers in
    let count : s.count ≤ 3 = leb-true s.count 3 few.0 in
    let counted : length (take s.count s.answers) ≡ s.count = omega (arith, length-take s.count s.answers, four, count) in
    let room : s.count ≤ 4 = omega (arith, count) in
    let zeros : are_zeros (drop s.count s.answers) ≡ true = (and_parts _ _ few.1).1 in
    λ j. record {
      numbers = record s {
        stage = stage_back s.stage rules.stage j;
        iff1 = flag_back s.iff1 rules.iff1 j;
        iff2 = flag_back s.iff2 rules.iff2 j;
        mode = mode_back s.mode rules.mode j;
        halted = flag_back s.halted rules.halted j;
        after_ei = flag_back s.after_ei rules.after_ei j;
        count = counted j;
        answers = padded_back 4 s.count s.answers four room zeros j;
      };
      store = k.store;
    }

-- a state is that of its numbers
pub state_again : (state : State80) → state_from (numbers_of state) state.store ≡ state
state_again state = λ j. record state {
  stage = stage_again state.stage j;
  regs = record state.regs { iff1 = flag_again state.regs.iff1 j; iff2 = flag_again state.regs.iff2 j; mode = mode_again state.regs.mode j };
  halted = flag_again state.halted j;
  after_ei = flag_again state.after_ei j;
  answers = padded_again 4 state.answers j;
}

pub count_few : (at : ℕ) (holds : Bool) (k : Kept80) → Rules at holds k → k.numbers.count ≤ 3
count_few at holds k rules = leb-true k.numbers.count 3 (and_parts _ _ rules.answers).0

-- ---- the state is valid

or_false : (b : Bool) → (b || false) ≡ true → b ≡ true
or_false true e = refl
or_false false e = cc

waits_for : (r : Result Ended Request80) → is_access (need_of r) ≡ true → (request : Request80) × (r ≡ Err request)
waits_for (Ok ended) e = absurd cc
waits_for (Err request) e = (request, refl)

asks_for : (cart : List ℕ) (state : State80) → is_waiting cart state ≡ true → (request : Request80) × (carried_out cart state state.cause ≡ Err request)
unfolding is_waiting
asks_for cart state e =
    let access = (and_parts _ _ e).0 in
    waits_for (carried_out cart state state.cause)
    (subst (λ (l : List ℕ). is_access (need_of (carried_out cart (record state { answers = l }) state.cause)) ≡ true) (take-length state.answers) access)

stands_at : (cart : List ℕ) (at n : ℕ) (state : State80) → n ≤ 3
    → cond (eqb n 0) (eqb state.start state.next) (cond (eqb n 1) (ltb state.start at) (is_after state.next state.start first_step)) ≡ true
    → (eqb state.cause 0 || eqb n 1) ≡ true
    → cond (eqb n 1) (is_after state.next state.start (first_step + step * length state.answers)) (eqb (length state.answers) 0) ≡ true
    → cond (eqb n 1 || eqb n 2) (is_some state.store) (cond (eqb n 3) (not (is_some state.store)) true) ≡ true
    → (eqb n 1 ≡ true → is_waiting cart state ≡ true)
    → IsAt (stage_of n) cart state
stands_at cart at zero state le start cause count holder asks =
    (record { cause = eqb-true state.cause 0 (or_false _ cause); answers = nil_from_length state.answers (eqb-true (length state.answers) 0 count) }, eqb-true state.start state.next start)
stands_at cart at (suc zero) state le start cause count holder asks =
    let asked = asks_for cart state (asks refl) in
    let place = after_is state.next state.start (first_step + step * length state.answers) count in
    record { store = holder; place = omega (arith, place); request = asked.0; asked = asked.1 }
stands_at cart at (suc (suc zero)) state le start cause count holder asks =
    (record { cause = eqb-true state.cause 0 (or_false _ cause); answers = nil_from_length state.answers (eqb-true (length state.answers) 0 count) }, after_is state.next state.start first_step start)
stands_at cart at (suc (suc (suc zero))) state le start cause count holder asks =
    (record { cause = eqb-true state.cause 0 (or_false _ cause); answers = nil_from_length state.answers (eqb-true (length state.answers) 0 count) }, after_is state.next state.start first_step start)
stands_at cart at (suc (suc (suc (suc n)))) state le start cause count holder asks = absurd (omega (arith, le))

-- where the rules hold of RAM and bank register, at an access it waits
pub waits_by : (access : Bool) (waiting : Bool) (has : Bool) → access ≡ true → has ≡ true → cond (access && has) waiting true ≡ true → waiting ≡ true
waits_by true waiting true a h e = e
waits_by true waiting false a h e = absurd cc
waits_by false waiting has a h e = absurd cc

pub bank_right : (holds : Bool) (store : Option Store) → AllHold (store_fields holds store) → is_some store ≡ true → is_bank_right store ≡ true
unfolding AllHold
bank_right holds None all some = absurd cc
bank_right holds (Some store) all some = all.1.0

holds_store : (n : ℕ) (has : Bool) → eqb n 1 ≡ true → cond (eqb n 1 || eqb n 2) has (cond (eqb n 3) (not has) true) ≡ true → has ≡ true
holds_store zero has one e = absurd cc
holds_store (suc zero) has one e = e
holds_store (suc (suc n)) has one e = absurd (let is = eqb-true (suc (suc n)) 1 one in omega (arith, is))

pub valid : (cart : List ℕ) (at : ℕ) (k : Kept80) → IsImage cart → IfSome k.store IsStore → length k.numbers.answers ≡ 4 → Rules at true k → asks_more cart k ≡ true
    → IsChip80 (of cart (state_from k.numbers k.store))
valid cart at k image ok four rules asks =
    let s : Saved80 = k.numbers in
    let state : State80 = state_from s k.store in
    let few = count_few at true k rules in
    let counted : s.count ≡ length state.answers = omega (arith, length-take s.count s.answers, four, few) in
    let follows = (and_parts _ _ (and_parts _ _ rules.answers).1).0 in
    let count = subst (λ (n : ℕ). cond (eqb s.stage 1) (is_after s.next s.start (first_step + step * n)) (eqb n 0) ≡ true) counted follows in
    record {
      image = image;
      store = ok;
      stands = stands_at cart at s.stage state rules.stage rules.start (and_parts _ _ rules.cause).1 count rules.holder
          (λ one. waits_by _ _ _ one (bank_right true k.store rules.store (holds_store s.stage _ one rules.holder)) asks);
    }
