-- What a 68000 spells is read again, where its rules hold; and what is read has them.
use Rattle.std.proofs.Common.{◌≡◌, ℕ, zero, suc, ◌+◌, ◌-◌, ◌*◌, ◌%◌, ◌^◌, ◌<◌, ◌≤◌, inl, inr, Bool, true, false, not, cond, eqb, leb, ltb, List, length, replicate, slice_index, Option, Some, None, is_some, IfSome, refl, sym, ap, subst, ◌∙◌, arith}
use Rattle.std.specs.Prelude.{◌&&◌, ◌||◌}
use Rattle.std.specs.List.{AllByRecursion}
use Rattle.std.proofs.lemmas.Bool.{and_from, and_parts, eq-eqb, le-leb, leb-true, lt-ltb, ltb-true, ne_eqb, or_left, or_right}
use Rattle.std.proofs.lemmas.List.Elements.{All-append, All-from_get_or, All-replicate, recursion_from_All}
use Rattle.std.proofs.Math.Seq.{take-length}
use Rattle.md_fields.specs.Distances.{is_after}
use Rattle.md_fields.specs.Fields.{AllHold, AreWithin}
use Rattle.md_fields.specs.Items.{IsRight}
use Rattle.md_fields.specs.Padding.{padded}
use Rattle.md_fields.proofs.Distances.{is_after_by}
use Rattle.md_fields.proofs.Flags.{flag_byte, flag_small}
use Rattle.md_fields.proofs.Items.{none_invalid}
use Rattle.md_fields.proofs.Padding.{padded_length, padded_zeros}
use Rattle.md_word.specs.declared.main_bus.Request68.{Request68}
use Rattle.md_word.specs.declared.main_bus.Request68.TheVariants.{Read8, Read16, Write8, Write16, Ack, Word as TransferWord}
use Rattle.md_word.specs.declared.main_bus.Transfer.{Transfer}
use Rattle.m68k_chip.specs.Events.{carried_out, step}
use Rattle.m68k_chip.specs.Numbers.{IsRegs, halted_number, numbers_of, since_of, stage_number, state_from}
use Rattle.m68k_chip.specs.Resuming.{are_answered, asked_in, asks_at, asks_more, is_answer_to, is_answer}
use Rattle.m68k_chip.specs.Rules.{BeganBelow, HasRules, IsRecent}
use Rattle.m68k_chip.specs.Saved.{chip_fields, fields_by}
use Rattle.m68k_chip.specs.Validity.{AreFit, Chip68Value, FitsValue, IsAt, IsKnownCause, IsChip68, IsWordCost, IsTransfer}
use Rattle.m68k_chip.specs.Spelling.{Spells, chip_bytes}
use Rattle.m68k_chip.specs.States.{State68, none_left}
use Rattle.m68k_chip.specs.declared.stage.Stage.{Stage}
use Rattle.m68k_chip.specs.declared.stage.Stage.TheVariants.{Sample, Access, Word}
use Rattle.m68k_chip.proofs.Laws.{few-answers, source-low}
use Rattle.m68k_chip.proofs.Recent.{answers_small, transfer_cost}
use Rattle.m68k_chip.proofs.SavedLaws.{Rules, rules_of, state_again}
use Rattle.m68k_chip.proofs.SavedValid.{are_left, costs}
use Rattle.m68k_chip.proofs.SpellingLaws.{same_bytes}

-- ---- the answers

fits_to : (request : Request68) (value : ℕ) → FitsValue request value → is_answer_to request value ≡ true
fits_to (Read8 at) value fits = lt-ltb value 0x100 fits
fits_to (Read16 at) value fits = lt-ltb value 0x1_0000 fits
fits_to (Write8 at written) value fits = eq-eqb value 0 fits
fits_to (Write16 at written) value fits = eq-eqb value 0 fits
fits_to (Ack level) value fits = eq-eqb value 0 fits
fits_to (TransferWord word) value fits = eq-eqb value 0 fits

answered_to : (cart : List ℕ) (state : State68) (n : ℕ) → n ≤ length state.answers → AreFit cart state state.cause state.answers → are_answered cart state n ≡ true
unfolding are_answered
answered_to cart state zero le fit = refl
answered_to cart state (suc n) le fit =
    let f = fit n (omega (arith, le)) in
    and_from _ _ (answered_to cart state n (omega (arith, le)) fit)
    (subst (λ r. is_answer (asked_in r) (slice_index state.answers n) ≡ true) (sym f.1) (fits_to f.0 (slice_index state.answers n) f.2))

asks_to : (stage : Stage) (cart : List ℕ) (state : State68) → IsAt stage cart state → asks_at stage cart state ≡ true
asks_to Sample cart state at = refl
asks_to Access cart state at =
    and_from _ _
    (subst (λ (l : List ℕ). is_some (asked_in (carried_out cart state state.cause l)) ≡ true) (sym (take-length state.answers))
    (subst (λ r. is_some (asked_in r) ≡ true) (sym at.asked) refl))
    (answered_to cart state (length state.answers) (omega arith) at.fit)
asks_to Word cart state at = refl

-- ---- what depends on the stage

cause_to : (cause : ℕ) → IsKnownCause cause → (eqb cause 0 || (eqb cause 4 || (eqb cause 6 || eqb cause 8))) ≡ true
cause_to cause (inl is) = or_left (eqb cause 0) _ (eq-eqb cause 0 is)
cause_to cause (inr (inl is)) = or_right (eqb cause 0) _ (or_left (eqb cause 4) _ (eq-eqb cause 4 is))
cause_to cause (inr (inr (inl is))) = or_right (eqb cause 0) _ (or_right (eqb cause 4) _ (or_left (eqb cause 6) _ (eq-eqb cause 6 is)))
cause_to cause (inr (inr (inr is))) = or_right (eqb cause 0) _ (or_right (eqb cause 4) _ (or_right (eqb cause 6) _ (eq-eqb cause 8 is)))

-- the rules on the fields that depend on the stage
record AtStage (at m : ℕ) (state : State68) : Type 0 where
  known : leb m 2 ≡ true
  start : cond (eqb m 1) (ltb state.start at) (eqb state.start state.next) ≡ true
  halted : (leb (halted_number state.halted) 1 && (eqb (halted_number state.halted) 0 || not (eqb m 1))) ≡ true
  cause : (eqb state.cause 0 || (eqb m 1 && (eqb state.cause 4 || (eqb state.cause 6 || eqb state.cause 8)))) ≡ true
  follows : cond (eqb m 1) (is_after state.next state.start (step * (length state.answers + 1))) (eqb (length state.answers) 0) ≡ true
  sampling : m ≡ 0 → state.transfer ≡ none_left
  moving : m ≡ 2 → 1 ≤ state.transfer.words

halted_late : (halted : Option ℕ) → (leb (halted_number halted) 1 && (eqb (halted_number halted) 0 || true)) ≡ true
halted_late None = refl
halted_late (Some since) = refl

rules_at_stage : (stage : Stage) (at : ℕ) (cart : List ℕ) (state : State68) → IsAt stage cart state → BeganBelow stage at state.start → AtStage at (stage_number stage) state
rules_at_stage Sample at cart state is below =
    let between = is.0 in
    record {
      known = refl;
      start = eq-eqb state.start state.next between.start;
      halted = halted_late state.halted;
      cause = or_left (eqb state.cause 0) _ (eq-eqb state.cause 0 between.cause);
      follows = eq-eqb (length state.answers) 0 (ap length between.answers);
      sampling = λ _. is.1;
      moving = λ other. absurd (omega (arith, other));
    }
rules_at_stage Access at cart state is below = record {
  known = refl;
  start = lt-ltb state.start at below;
  halted = subst (λ (h : Option ℕ). (leb (halted_number h) 1 && (eqb (halted_number h) 0 || false)) ≡ true) (sym is.running) refl;
  cause = cause_to state.cause is.cause;
  follows = is_after_by state.next state.start (step * (length state.answers + 1)) is.place;
  sampling = λ other. absurd (omega (arith, other));
  moving = λ other. absurd (omega (arith, other));
}
rules_at_stage Word at cart state is below =
    let between = is.0 in
    record {
      known = refl;
      start = eq-eqb state.start state.next between.start;
      halted = halted_late state.halted;
      cause = or_left (eqb state.cause 0) _ (eq-eqb state.cause 0 between.cause);
      follows = eq-eqb (length state.answers) 0 (ap length between.answers);
      sampling = λ other. absurd (omega (arith, other));
      moving = λ _. is.1;
    }

-- ---- the transfer

is_not : (m k : ℕ) → (m ≡ k → ⊥) → not (eqb m k) ≡ true
is_not m k differ = ap not (ne_eqb m k differ)

second_of : (b x y : Bool) → b ≡ false → y ≡ true → cond b x y ≡ true
second_of true x y e f = absurd cc
second_of false x y e f = f

left_by_stage : (m : ℕ) (t : Transfer) → IsTransfer t → (m ≡ 0 → t ≡ none_left) → (m ≡ 2 → 1 ≤ t.words) → are_left m t.source t.words ≡ true
left_by_stage m t (inl none) sampling moving =
    let words = ap (λ (x : Transfer). x.words) none in
    subst (λ (x : Transfer). are_left m x.source x.words ≡ true) (sym none)
    (is_not m 2 (λ two. (let some = moving two in omega (arith, some, words))))
left_by_stage m t (inr started) sampling moving =
    let some = started.some in
    second_of (eqb t.words 0) _ _ (ne_eqb t.words 0 (λ z. omega (arith, z, some)))
    (and_from _ _
    (and_from _ _ (le-leb t.words 0x1_0000 started.most)
    (is_not m 0 (λ zero. (let words = ap (λ (x : Transfer). x.words) (sampling zero) in omega (arith, words, some)))))
    (and_from _ _ (eq-eqb (t.source % 2) 0 started.even) (lt-ltb t.source 0x100_0000 started.on_bus)))

cost_to : (cost : ℕ) → IsWordCost cost → (eqb cost 34 || eqb cost 380) ≡ true
cost_to cost (inl is) = or_left (eqb cost 34) _ (eq-eqb cost 34 is)
cost_to cost (inr is) = or_right (eqb cost 34) _ (eq-eqb cost 380 is)

costs_to : (t : Transfer) → IsTransfer t → costs t.words t.cost ≡ true
costs_to t (inl none) = subst (λ (x : Transfer). costs x.words x.cost ≡ true) (sym none) refl
costs_to t (inr started) =
    let some = started.some in
    second_of (eqb t.words 0) _ _ (ne_eqb t.words 0 (λ z. omega (arith, z, some))) (cost_to t.cost started.cost)

-- ---- all rules

since_to : (halted : Option ℕ) (at : ℕ) → IfSome halted (λ since. since < at) → cond (eqb (halted_number halted) 1) (ltb (since_of halted) at) (eqb (since_of halted) 0) ≡ true
since_to None at h = refl
since_to (Some since) at h = lt-ltb since at h

holding : (at : ℕ) (v : Chip68Value) → IsChip68 v → HasRules at v.state → at ≤ v.state.next → AllHold (fields_by at true (numbers_of v.state))
unfolding AllHold
holding at v ok rules late =
    let state : State68 = v.state in
    let s = rules_at_stage state.stage at v.cart state ok.stands rules.recent.begun in
    let soon = rules.recent.soon in
    let few = few-answers v ok in (
      and_from _ _ (le-leb at state.next late) (le-leb (state.next - at) 0x10_0000 (omega (arith, soon))),
      (
        s.known,
        (
          s.start,
          (
            refl,
            (
              refl,
              (
                refl,
                (
                  refl,
                  (
                    refl,
                    (
                      refl,
                      (
                        refl,
                        (
                          refl,
                          (
                            refl,
                            (
                              refl,
                              (
                                refl,
                                (
                                  refl,
                                  (
                                    refl,
                                    (
                                      refl,
                                      (
                                        refl,
                                        (
                                          refl,
                                          (
                                            refl,
                                            (
                                              refl,
                                              (
                                                eq-eqb _ _ ok.status,
                                                (
                                                  flag_small state.stopped,
                                                  (
                                                    s.halted,
                                                    (
                                                      flag_small state.trace,
                                                      (
                                                        since_to state.halted at rules.recent.since,
                                                        (
                                                          s.cause,
                                                          (
                                                            and_from _ _ (le-leb (length state.answers) 31 (omega (arith, few))) (and_from _ _ s.follows (padded_zeros 32 state.answers)),
                                                            (
                                                              refl,
                                                              (
                                                                refl,
                                                                (
                                                                  left_by_stage (stage_number state.stage) state.transfer ok.transfer s.sampling s.moving,
                                                                  (
                                                                    costs_to state.transfer ok.transfer,
                                                                    (refl, tt),
                                                                  ),
                                                                ),
                                                              ),
                                                            ),
                                                          ),
                                                        ),
                                                      ),
                                                    ),
                                                  ),
                                                ),
                                              ),
                                            ),
                                          ),
                                        ),
                                      ),
                                    ),
                                  ),
                                ),
                              ),
                            ),
                          ),
                        ),
                      ),
                    ),
                  ),
                ),
              ),
            ),
          ),
        ),
      ),
    )

right_to : (at : ℕ) (v : Chip68Value) → IsChip68 v → IsRegs v.state.regs → HasRules at v.state → at ≤ v.state.next → IsRight (chip_fields v.cart at) (numbers_of v.state)
right_to at v ok regs rules late =
    let asks : asks_more v.cart (state_from (numbers_of v.state)) ≡ true =
    ap (λ (s : State68). asks_more v.cart s) (state_again v.state regs) ∙ asks_to v.state.stage v.cart v.state ok.stands in
    none_invalid 0 (chip_fields v.cart at (numbers_of v.state))
    (subst (λ (b : Bool). AllHold (fields_by at b (numbers_of v.state))) (sym asks) (holding at v ok rules late))

-- ---- what is spelled is read again

-- the registers and the cycle of the next event have the bytes that they take
pub record IsInRange (state : State68) : Type 0 where
  pub regs : IsRegs state.regs
  pub d : (k : ℕ) → slice_index state.regs.d k < 2 ^ 32
  pub a : (k : ℕ) → slice_index state.regs.a k < 2 ^ 32
  pub usp : state.regs.usp < 2 ^ 32
  pub ssp : state.regs.ssp < 2 ^ 32
  pub pc : state.regs.pc < 2 ^ 32
  pub sr : state.regs.sr < 2 ^ 16
  pub next : state.next < 2 ^ 64

stage_byte : (stage : Stage) → stage_number stage < 2 ^ 8
stage_byte Sample = omega arith
stage_byte Access = omega arith
stage_byte Word = omega arith

halted_byte : (halted : Option ℕ) → halted_number halted < 2 ^ 8
halted_byte None = omega arith
halted_byte (Some since) = omega arith

since_long : (halted : Option ℕ) (at : ℕ) → at < 2 ^ 64 → IfSome halted (λ since. since < at) → since_of halted < 2 ^ 64
since_long None at h below = omega arith
since_long (Some since) at h below = omega (arith, h, below)

-- what began below the cycle, or begins at the next event
start_long : (stage : Stage) (at : ℕ) (cart : List ℕ) (state : State68) → at < 2 ^ 64 → state.next < 2 ^ 64 → IsAt stage cart state → BeganBelow stage at state.start → state.start < 2 ^ 64
start_long Sample at cart state h next is below = let same = is.0.start in omega (arith, same, next)
start_long Access at cart state h next is below = omega (arith, h, below)
start_long Word at cart state h next is below = let same = is.0.start in omega (arith, same, next)

cause_byte : (cause : ℕ) → IsKnownCause cause → cause < 2 ^ 8
cause_byte cause (inl is) = omega (arith, is)
cause_byte cause (inr (inl is)) = omega (arith, is)
cause_byte cause (inr (inr (inl is))) = omega (arith, is)
cause_byte cause (inr (inr (inr is))) = omega (arith, is)

cause_at : (stage : Stage) (cart : List ℕ) (state : State68) → IsAt stage cart state → state.cause < 2 ^ 8
cause_at Sample cart state is = let none = is.0.cause in omega (arith, none)
cause_at Access cart state is = cause_byte state.cause is.cause
cause_at Word cart state is = let none = is.0.cause in omega (arith, none)

answers_at : (stage : Stage) (cart : List ℕ) (state : State68) → IsAt stage cart state → (k : ℕ) → slice_index state.answers k < 2 ^ 16
answers_at Sample cart state is k = subst (λ (l : List ℕ). slice_index l k < 2 ^ 16) (sym is.0.answers) (omega arith)
answers_at Access cart state is k = answers_small cart state state.cause state.answers is.fit k
answers_at Word cart state is k = subst (λ (l : List ℕ). slice_index l k < 2 ^ 16) (sym is.0.answers) (omega arith)

words_long : (t : Transfer) → IsTransfer t → t.words < 2 ^ 32
words_long t (inl none) = let words = ap (λ (x : Transfer). x.words) none in omega (arith, words)
words_long t (inr started) = let most = started.most in omega (arith, most)

padded_small : (size : ℕ) (l : List ℕ) → ((k : ℕ) → slice_index l k < 2 ^ 16) → AllByRecursion (λ n. n < 2 ^ 16) (padded size l)
padded_small size l h =
    recursion_from_All (λ n. n < 2 ^ 16) (padded size l)
    (All-append (λ n. n < 2 ^ 16) l (replicate (size - length l) 0)
    (All-from_get_or (λ n. n < 2 ^ 16) l 0 (λ k lt. h k)) (All-replicate (λ n. n < 2 ^ 16) (size - length l) 0 (omega arith)))

within : (at : ℕ) (holds : Bool) (v : Chip68Value) → at < 2 ^ 64 → IsChip68 v → HasRules at v.state → IsInRange v.state → AreWithin (fields_by at holds (numbers_of v.state))
unfolding AreWithin
within at holds v h ok rules r =
    let few = few-answers v ok in
    let source = source-low v ok in
    let cost = transfer_cost v.state.transfer ok.transfer in
    let long : length (padded 32 v.state.answers) ≡ 32 = padded_length 32 v.state.answers (omega (arith, few)) in (
      r.next,
      (
        stage_byte v.state.stage,
        (
          start_long v.state.stage at v.cart v.state h r.next ok.stands rules.recent.begun,
          (
            r.d 0,
            (
              r.d 1,
              (
                r.d 2,
                (
                  r.d 3,
                  (
                    r.d 4,
                    (
                      r.d 5,
                      (
                        r.d 6,
                        (
                          r.d 7,
                          (
                            r.a 0,
                            (
                              r.a 1,
                              (
                                r.a 2,
                                (
                                  r.a 3,
                                  (
                                    r.a 4,
                                    (
                                      r.a 5,
                                      (
                                        r.a 6,
                                        (
                                          r.usp,
                                          (
                                            r.ssp,
                                            (
                                              r.pc,
                                              (
                                                r.sr,
                                                (
                                                  flag_byte v.state.stopped,
                                                  (
                                                    halted_byte v.state.halted,
                                                    (
                                                      flag_byte v.state.trace,
                                                      (
                                                        since_long v.state.halted at h rules.recent.since,
                                                        (
                                                          cause_at v.state.stage v.cart v.state ok.stands,
                                                          (
                                                            omega (arith, few),
                                                            (
                                                              (long, padded_small 32 v.state.answers (answers_at v.state.stage v.cart v.state ok.stands)),
                                                              (
                                                                omega (arith, source),
                                                                (
                                                                  words_long v.state.transfer ok.transfer,
                                                                  (
                                                                    omega (arith, cost),
                                                                    (ok.ram, tt),
                                                                  ),
                                                                ),
                                                              ),
                                                            ),
                                                          ),
                                                        ),
                                                      ),
                                                    ),
                                                  ),
                                                ),
                                              ),
                                            ),
                                          ),
                                        ),
                                      ),
                                    ),
                                  ),
                                ),
                              ),
                            ),
                          ),
                        ),
                      ),
                    ),
                  ),
                ),
              ),
            ),
          ),
        ),
      ),
    )

pub spelled_back : (at : ℕ) (v : Chip68Value) → at < 2 ^ 64 → IsChip68 v → IsInRange v.state → HasRules at v.state → at ≤ v.state.next → Spells v.cart at (chip_bytes v.state) v.state
spelled_back at v h ok range rules late =
    let n = numbers_of v.state in
    record {
      keeps = record { within = within at (asks_more v.cart (state_from n)) v h ok rules range; all = same_bytes 0 at true (asks_more v.cart (state_from n)) n };
      right = right_to at v ok range.regs rules late;
      regs = range.regs;
    }

-- ---- what is read has the rules

begun_from : (stage : Stage) (at start next : ℕ) → cond (eqb (stage_number stage) 1) (ltb start at) (eqb start next) ≡ true → BeganBelow stage at start
begun_from Sample at start next e = tt
begun_from Access at start next e = ltb-true start at e
begun_from Word at start next e = tt

since_from : (halted : Option ℕ) (at : ℕ) → cond (eqb (halted_number halted) 1) (ltb (since_of halted) at) (eqb (since_of halted) 0) ≡ true → IfSome halted (λ since. since < at)
since_from None at e = tt
since_from (Some since) at e = ltb-true since at e

pub recent_from : (cart : List ℕ) (at : ℕ) (bytes : List ℕ) (state : State68) → Spells cart at bytes state → IsRecent at state
recent_from cart at bytes state is =
    let rules : Rules at (asks_more cart (state_from (numbers_of state))) (numbers_of state) = rules_of at _ (numbers_of state) is.right in
    let p = and_parts _ _ rules.soon in
    let from = leb-true at state.next p.0 in
    let near = leb-true (state.next - at) 0x10_0000 p.1 in
    record {
      soon = omega (arith, from, near);
      begun = begun_from state.stage at state.start state.next rules.start;
      since = since_from state.halted at rules.since;
    }
