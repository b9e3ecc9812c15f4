-- What a Z80 spells is read again, where its rules hold; and what is read has them.
use Rattle.std.proofs.Common.{◌≡◌, ℕ, zero, suc, ◌+◌, ◌-◌, ◌*◌, ◌^◌, ◌<◌, ◌≤◌, Bool, true, false, not, cond, eqb, leb, ltb, List, length, slice_index, Option, Some, None, is_some, IfSome, Result, Err, refl, sym, ap, subst, ◌∙◌, arith, inl, inr}
use Rattle.std.specs.Prelude.{◌&&◌, ◌||◌}
use Rattle.std.proofs.lemmas.Bool.{and_parts, eq-eqb, eqb-true, le-leb, leb-true, lt-ltb, ltb-true, and_from, or_left, or_right, not-true}
use Rattle.std.proofs.Math.Nat.{eq-or-lt_of_le}
use Rattle.std.proofs.Math.Seq.{take-length}
use Rattle.md_fields.specs.Distances.{is_after}
use Rattle.md_fields.specs.Fields.{AllHold, AreWithin, spelling}
use Rattle.md_fields.specs.Items.{IsRight}
use Rattle.md_fields.proofs.Distances.{is_after_by}
use Rattle.md_fields.proofs.Items.{none_invalid}
use Rattle.md_fields.proofs.Padding.{padded_length, padded_zeros}
use Rattle.md_word.specs.declared.sub_bus.Request80.{Request80}
use Rattle.md_word.specs.declared.sub_bus.Request80.TheVariants as requests
use Rattle.md_fields.proofs.Flags.{flag_byte, flag_small}
use Rattle.z80_decode.specs.declared.interrupt_mode.InterruptMode.{InterruptMode}
use Rattle.z80_decode.specs.declared.interrupt_mode.InterruptMode.TheVariants.{Mode0, Mode1, Mode2}
use Rattle.z80_exec.specs.Sample.Samples.{Ended}
use Rattle.z80_exec.specs.declared.regs80.Regs80.{Regs80}
use Rattle.z80_parcel.specs.Parcels.{IsStore, Store, banks}
use Rattle.z80_parcel.specs.Spelling.{store_fields}
use Rattle.z80_chip.specs.Events.{carried_out, first_step, step}
use Rattle.z80_chip.specs.Rules.{AreFit, BeganBelow, HasRules, FitsHolder}
use Rattle.z80_chip.specs.Saved.{Kept80, are_answered, asks_more, chip_fields, fields_by, is_access, is_answer, is_bank_right, is_waiting, kept_of, mode_number, need_after, need_of, numbers_of, stage_number, state_from}
use Rattle.z80_chip.specs.Validity.{Chip80Value, IsAt, IsChip80}
use Rattle.z80_chip.specs.Spelling.{Spells, chip_bytes}
use Rattle.z80_chip.specs.States.{State80}
use Rattle.z80_chip.specs.declared.saved.Saved80.{Saved80}
use Rattle.z80_chip.specs.declared.stage.Stage.{Stage}
use Rattle.z80_chip.specs.declared.stage.Stage.TheVariants.{Sample, Access, Yield, Take}
use Rattle.z80_chip.proofs.Laws.{few-answers}
use Rattle.z80_chip.proofs.SavedLaws.{Rules, bank_right, rules_of, state_again, waits_by}

-- ---- the answers

answered_to : (cart : List ℕ) (state : State80) (n : ℕ) → n ≤ length state.answers → AreFit cart state → are_answered cart state n ≡ true
unfolding are_answered
answered_to cart state zero le fit = refl
answered_to cart state (suc n) le fit = and_from _ _ (answered_to cart state n (omega (arith, le)) fit) (fit n (omega (arith, le)))

access_for : (request : Request80) → is_access (need_of (Err request)) ≡ true
access_for (requests.Read at) = refl
access_for (requests.Write at value) = refl
access_for (requests.Yield parcel) = refl
access_for requests.Take = refl

waiting_to : (cart : List ℕ) (state : State80) (request : Request80) → carried_out cart state state.cause ≡ Err request → AreFit cart state → is_waiting cart state ≡ true
unfolding is_waiting
waiting_to cart state request asked fit =
    and_from _ _
    (subst (λ (l : List ℕ). is_access (need_of (carried_out cart (record state { answers = l }) state.cause)) ≡ true) (sym (take-length state.answers))
    (subst (λ (r : Result Ended Request80). is_access (need_of r) ≡ true) (sym asked) (access_for request)))
    (answered_to cart state (length state.answers) (omega arith) fit)

where_so : (b x : Bool) → x ≡ true → cond b x true ≡ true
where_so true x e = e
where_so false x e = refl

asks_at : (stage : Stage) (right : Bool) (cart : List ℕ) (state : State80) → IsAt stage cart state → AreFit cart state → cond (eqb (stage_number stage) 1 && right) (is_waiting cart state) true ≡ true
asks_at Sample right cart state at fit = refl
asks_at Access right cart state at fit = where_so right (is_waiting cart state) (waiting_to cart state at.request at.asked fit)
asks_at Yield right cart state at fit = refl
asks_at Take right cart state at fit = refl

asks_to : (cart : List ℕ) (at : ℕ) (v : Chip80Value) → IsChip80 v → HasRules v.cart at v.state → asks_more v.cart (kept_of v.state) ≡ true
asks_to cart at v ok rules =
    ap (λ (s : State80). cond (eqb (stage_number v.state.stage) 1 && is_bank_right v.state.store) (is_waiting v.cart s) true) (state_again v.state)
    ∙ asks_at v.state.stage (is_bank_right v.state.store) v.cart v.state ok.stands rules.fit

-- ---- what depends on the stage

-- the rules on the fields that depend on the stage
record AtStage (at m : ℕ) (has : Bool) (state : State80) : Type 0 where
  known : leb m 3 ≡ true
  start : cond (eqb m 0) (eqb state.start state.next) (cond (eqb m 1) (ltb state.start at) (is_after state.next state.start first_step)) ≡ true
  cause : (leb state.cause 1 && (eqb state.cause 0 || eqb m 1)) ≡ true
  follows : cond (eqb m 1) (is_after state.next state.start (first_step + step * length state.answers)) (eqb (length state.answers) 0) ≡ true
  holder : cond (eqb m 1 || eqb m 2) has (cond (eqb m 3) (not has) true) ≡ true

none_caused : (cause : ℕ) (b : Bool) → cause ≡ 0 → (leb cause 1 && (eqb cause 0 || b)) ≡ true
none_caused cause b e = and_from _ _ (le-leb cause 1 (omega (arith, e))) (or_left (eqb cause 0) b (eq-eqb cause 0 e))

rules_at_stage : (stage : Stage) (at : ℕ) (cart : List ℕ) (state : State80) → IsAt stage cart state → BeganBelow stage at state.start → FitsHolder stage state → state.cause ≤ 1
    → AtStage at (stage_number stage) (is_some state.store) state
rules_at_stage Sample at cart state is below holds small = record {
  known = refl;
  start = eq-eqb state.start state.next is.1;
  cause = none_caused state.cause false is.0.cause;
  follows = eq-eqb (length state.answers) 0 (ap length is.0.answers);
  holder = refl;
}
rules_at_stage Access at cart state is below holds small = record {
  known = refl;
  start = lt-ltb state.start at below;
  cause = and_from _ _ (le-leb state.cause 1 small) (or_right (eqb state.cause 0) true refl);
  follows = (let place = is.place in is_after_by state.next state.start (first_step + step * length state.answers) (omega (arith, place)));
  holder = holds;
}
rules_at_stage Yield at cart state is below holds small = record {
  known = refl;
  start = is_after_by state.next state.start first_step is.1;
  cause = none_caused state.cause false is.0.cause;
  follows = eq-eqb (length state.answers) 0 (ap length is.0.answers);
  holder = holds;
}
rules_at_stage Take at cart state is below holds small = record {
  known = refl;
  start = is_after_by state.next state.start first_step is.1;
  cause = none_caused state.cause false is.0.cause;
  follows = eq-eqb (length state.answers) 0 (ap length is.0.answers);
  holder = ap not holds;
}

-- ---- all rules

mode_small : (mode : InterruptMode) → leb (mode_number mode) 2 ≡ true
mode_small Mode0 = refl
mode_small Mode1 = refl
mode_small Mode2 = refl

store_holds : (store : Option Store) → IfSome store IsStore → AllHold (store_fields true store)
unfolding AllHold
store_holds None ok = tt
store_holds (Some store) ok = (refl, (lt-ltb store.bank banks ok.bank, tt))

holding : (at : ℕ) (v : Chip80Value) → IsChip80 v → HasRules v.cart at v.state → at ≤ v.state.next → AllHold (fields_by at true (kept_of v.state))
unfolding AllHold
holding at v ok rules late =
    let state : State80 = v.state in
    let s = rules_at_stage state.stage at v.cart state ok.stands rules.recent.begun rules.holder rules.cause in
    let soon = rules.recent.soon in
    let few = few-answers v ok in (
      and_from _ _ (le-leb at state.next late) (le-leb (state.next - at) 0x10_0000 (omega (arith, soon))),
      (
        s.known,
        (
          s.start,
          (
            refl,
            (
              refl,
              (
                refl,
                (
                  refl,
                  (
                    refl,
                    (
                      refl,
                      (
                        refl,
                        (
                          refl,
                          (
                            refl,
                            (
                              refl,
                              (
                                refl,
                                (
                                  refl,
                                  (
                                    refl,
                                    (
                                      refl,
                                      (
                                        flag_small state.regs.iff1,
                                        (
                                          flag_small state.regs.iff2,
                                          (
                                            mode_small state.regs.mode,
                                            (
                                              flag_small state.halted,
                                              (
                                                flag_small state.after_ei,
                                                (
                                                  refl,
                                                  (
                                                    s.cause,
                                                    (
                                                      and_from _ _ (le-leb (length state.answers) 3 (omega (arith, few))) (and_from _ _ s.follows (padded_zeros 4 state.answers)),
                                                      (refl, (s.holder, store_holds state.store ok.store)),
                                                    ),
                                                  ),
                                                ),
                                              ),
                                            ),
                                          ),
                                        ),
                                      ),
                                    ),
                                  ),
                                ),
                              ),
                            ),
                          ),
                        ),
                      ),
                    ),
                  ),
                ),
              ),
            ),
          ),
        ),
      ),
    )

right_to : (at : ℕ) (v : Chip80Value) → IsChip80 v → HasRules v.cart at v.state → at ≤ v.state.next → IsRight (chip_fields v.cart at) (kept_of v.state)
right_to at v ok rules late =
    none_invalid 0 (chip_fields v.cart at (kept_of v.state))
    (subst (λ (b : Bool). AllHold (fields_by at b (kept_of v.state))) (sym (asks_to v.cart at v ok rules)) (holding at v ok rules late))

-- ---- what is spelled is read again

-- the registers have the bytes that they take
pub record AreInRange (regs : Regs80) : Type 0 where
  pub af : regs.af < 2 ^ 16
  pub bc : regs.bc < 2 ^ 16
  pub de : regs.de < 2 ^ 16
  pub hl : regs.hl < 2 ^ 16
  pub af2 : regs.af2 < 2 ^ 16
  pub bc2 : regs.bc2 < 2 ^ 16
  pub de2 : regs.de2 < 2 ^ 16
  pub hl2 : regs.hl2 < 2 ^ 16
  pub ix : regs.ix < 2 ^ 16
  pub iy : regs.iy < 2 ^ 16
  pub sp : regs.sp < 2 ^ 16
  pub pc : regs.pc < 2 ^ 16
  pub i : regs.i < 2 ^ 8
  pub r : regs.r < 2 ^ 8

-- and so the cycle of the next event, and the count of resets
pub record IsInRange (state : State80) : Type 0 where
  pub regs : AreInRange state.regs
  pub next : state.next < 2 ^ 64
  pub resets : state.resets < 2 ^ 64

stage_byte : (stage : Stage) → stage_number stage < 2 ^ 8
stage_byte Sample = omega arith
stage_byte Access = omega arith
stage_byte Yield = omega arith
stage_byte Take = omega arith

mode_byte : (mode : InterruptMode) → mode_number mode < 2 ^ 8
mode_byte Mode0 = omega arith
mode_byte Mode1 = omega arith
mode_byte Mode2 = omega arith

-- what began below the cycle, or not after the next event
start_long : (stage : Stage) (at : ℕ) (cart : List ℕ) (state : State80) → at < 2 ^ 64 → state.next < 2 ^ 64 → IsAt stage cart state → BeganBelow stage at state.start → state.start < 2 ^ 64
start_long Sample at cart state h next is below = let same = is.1 in omega (arith, same, next)
start_long Access at cart state h next is below = omega (arith, h, below)
start_long Yield at cart state h next is below = let same = is.1 in omega (arith, same, next)
start_long Take at cart state h next is below = let same = is.1 in omega (arith, same, next)

store_within : (holds : Bool) (store : Option Store) → IfSome store IsStore → AreWithin (store_fields holds store)
unfolding AreWithin
store_within holds None ok = tt
store_within holds (Some store) ok = (ok.ram, (let bank = ok.bank in omega (arith, bank), tt))

within : (at : ℕ) (holds : Bool) (v : Chip80Value) → at < 2 ^ 64 → IsChip80 v → HasRules v.cart at v.state → IsInRange v.state → AreWithin (fields_by at holds (kept_of v.state))
unfolding AreWithin
within at holds v h ok rules r =
    let state : State80 = v.state in
    let few = few-answers v ok in
    let small = rules.cause in
    let g = r.regs in (
      r.next,
      (
        stage_byte state.stage,
        (
          start_long state.stage at v.cart state h r.next ok.stands rules.recent.begun,
          (
            g.af,
            (
              g.bc,
              (
                g.de,
                (
                  g.hl,
                  (
                    g.af2,
                    (
                      g.bc2,
                      (
                        g.de2,
                        (
                          g.hl2,
                          (
                            g.ix,
                            (
                              g.iy,
                              (
                                g.sp,
                                (
                                  g.pc,
                                  (
                                    g.i,
                                    (
                                      g.r,
                                      (
                                        flag_byte state.regs.iff1,
                                        (
                                          flag_byte state.regs.iff2,
                                          (
                                            mode_byte state.regs.mode,
                                            (
                                              flag_byte state.halted,
                                              (
                                                flag_byte state.after_ei,
                                                (
                                                  r.resets,
                                                  (
                                                    omega (arith, small),
                                                    (
                                                      omega (arith, few),
                                                      (padded_length 4 state.answers (omega (arith, few)), (refl, store_within holds state.store ok.store)),
                                                    ),
                                                  ),
                                                ),
                                              ),
                                            ),
                                          ),
                                        ),
                                      ),
                                    ),
                                  ),
                                ),
                              ),
                            ),
                          ),
                        ),
                      ),
                    ),
                  ),
                ),
              ),
            ),
          ),
        ),
      ),
    )

same_bytes : (at other : ℕ) (holds more : Bool) (s : Saved80) (store : Option Store)
    → spelling (fields_by at holds (record { numbers = s; store = store })) ≡ spelling (fields_by other more (record { numbers = s; store = store }))
unfolding spelling
same_bytes at other holds more s None = refl
same_bytes at other holds more s (Some store) = refl

pub spelled_back : (at : ℕ) (v : Chip80Value) → at < 2 ^ 64 → IsChip80 v → IsInRange v.state → HasRules v.cart at v.state → at ≤ v.state.next → Spells v.cart at (chip_bytes v.state) v.state
spelled_back at v h ok range rules late = record {
  keeps = record {
    within = within at (asks_more v.cart (kept_of v.state)) v h ok rules range;
    all = same_bytes 0 at true (asks_more v.cart (kept_of v.state)) (numbers_of v.state) v.state.store;
  };
  right = right_to at v ok rules late;
}

-- ---- what is read has the rules

begun_from : (stage : Stage) (at start next : ℕ) → cond (eqb (stage_number stage) 0) (eqb start next) (cond (eqb (stage_number stage) 1) (ltb start at) (is_after next start first_step)) ≡ true
    → BeganBelow stage at start
begun_from Sample at start next e = tt
begun_from Access at start next e = ltb-true start at e
begun_from Yield at start next e = tt
begun_from Take at start next e = tt

holder_from : (stage : Stage) (state : State80) → cond (eqb (stage_number stage) 1 || eqb (stage_number stage) 2) (is_some state.store) (cond (eqb (stage_number stage) 3) (not (is_some state.store)) true) ≡ true
    → FitsHolder stage state
holder_from Sample state e = tt
holder_from Access state e = e
holder_from Yield state e = e
holder_from Take state e = not-true (is_some state.store) e

answered_from : (cart : List ℕ) (state : State80) (n k : ℕ) → are_answered cart state n ≡ true → k < n → is_answer (need_after cart state k) (slice_index state.answers k) ≡ true
unfolding are_answered
answered_from cart state zero k e less = absurd (omega (arith, less))
answered_from cart state (suc n) k e less =
    let p = and_parts _ _ e in
    elim (eq-or-lt_of_le {n = k} {m = n} (omega (arith, less))) [
      | inr early ↦ answered_from cart state n k p.0 early
      | inl last ↦ subst (λ (m : ℕ). is_answer (need_after cart state m) (slice_index state.answers m) ≡ true) (sym last) p.1
    ]

waiting_from : (cart : List ℕ) (state : State80) → is_waiting cart state ≡ true → AreFit cart state
unfolding is_waiting
waiting_from cart state e k less = answered_from cart state (length state.answers) k (and_parts _ _ e).1 less

none_from : (cart : List ℕ) (state : State80) → eqb (length state.answers) 0 ≡ true → AreFit cart state
none_from cart state none k less = absurd (let zero = eqb-true (length state.answers) 0 none in omega (arith, zero, less))

fit_from : (stage : Stage) (cart : List ℕ) (state : State80)
    → cond (eqb (stage_number stage) 1) (is_after state.next state.start (first_step + step * length state.answers)) (eqb (length state.answers) 0) ≡ true
    → cond (eqb (stage_number stage) 1 || eqb (stage_number stage) 2) (is_some state.store) (cond (eqb (stage_number stage) 3) (not (is_some state.store)) true) ≡ true
    → (is_some state.store ≡ true → is_bank_right state.store ≡ true)
    → cond (eqb (stage_number stage) 1 && is_bank_right state.store) (is_waiting cart state) true ≡ true → AreFit cart state
fit_from Sample cart state follows holder right asks = none_from cart state follows
fit_from Access cart state follows holder right asks = waiting_from cart state (waits_by true (is_waiting cart state) (is_bank_right state.store) refl (right holder) asks)
fit_from Yield cart state follows holder right asks = none_from cart state follows
fit_from Take cart state follows holder right asks = none_from cart state follows

-- RAM's rule holds, and where there is no RAM it is not looked at
no_bank : (b x : Bool) → cond (b && false) x true ≡ true
no_bank true x = refl
no_bank false x = refl

asks_by : (store : Option Store) (b waiting : Bool) (holds : Bool) → holds ≡ cond (b && is_bank_right store) waiting true → AllHold (store_fields holds store) → holds ≡ true
unfolding AllHold
asks_by None b waiting holds is all = is ∙ no_bank b waiting
asks_by (Some store) b waiting holds is all = all.0

asks_true : (holds : Bool) (cart : List ℕ) (k : Kept80) → holds ≡ asks_more cart k → AllHold (store_fields holds k.store) → asks_more cart k ≡ true
asks_true holds cart k is all = sym is ∙ asks_by k.store (eqb k.numbers.stage 1) (is_waiting cart (state_from k.numbers k.store)) holds is all

pub rules_from : (cart : List ℕ) (at : ℕ) (bytes : List ℕ) (state : State80) → Spells cart at bytes state → HasRules cart at state
rules_from cart at bytes state is =
    let k : Kept80 = kept_of state in
    let rules : Rules at (asks_more cart k) k = rules_of at (asks_more cart k) k is.right in
    let p = and_parts _ _ rules.soon in
    let from = leb-true at state.next p.0 in
    let near = leb-true (state.next - at) 0x10_0000 p.1 in
    let right : is_some state.store ≡ true → is_bank_right state.store ≡ true = bank_right (asks_more cart k) state.store rules.store in
    let asks : cond (eqb (stage_number state.stage) 1 && is_bank_right state.store) (is_waiting cart state) true ≡ true =
    ap (λ (s : State80). cond (eqb (stage_number state.stage) 1 && is_bank_right state.store) (is_waiting cart s) true) (sym (state_again state))
    ∙ asks_true (asks_more cart k) cart k refl rules.store in
    record {
      recent = record { soon = omega (arith, from, near); begun = begun_from state.stage at state.start state.next rules.start };
      cause = leb-true state.cause 1 (and_parts _ _ rules.cause).0;
      holder = holder_from state.stage state rules.holder;
      fit = fit_from state.stage cart state (and_parts _ _ (and_parts _ _ rules.answers).1).0 rules.holder right asks;
    }
