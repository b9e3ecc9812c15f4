-- The rules of the Z80 hold at power-on, and each of its events keeps them.
use Rattle.std.proofs.Common.{◌≡◌, ℕ, ◌<◌, ◌≤◌, inl, inr, Bool, true, false, List, [], ◌∷◌, ◌++◌, length, take, is_some, Result, Ok, Err, refl, sym, ap, subst, length-append, arith, if◌then◌else◌}
use Rattle.std.specs.Prelude.{slice_index}
use Rattle.std.proofs.lemmas.List.{get_or_append_left, get_or_push, take-append-le}
use Rattle.std.proofs.Math.Nat.{eq-or-lt_of_le}
use Rattle.std.proofs.Math.Seq.{take-append_seam}
use Rattle.md_word.specs.declared.pins.Pins80.{Pins80}
use Rattle.md_word.specs.declared.sub_bus.Request80.{Request80}
use Rattle.md_word.specs.declared.sub_bus.Request80.TheVariants as requests
use Rattle.z80_exec.proofs.Bounds.Samples as samples
use Rattle.z80_exec.specs.Sample.Samples.{Ended}
use Rattle.z80_parcel.specs.Requests.{Byte, Fits, Nothing, Returned, AnswerValue80, request_value80_of, value_in}
use Rattle.z80_chip.specs.Cases.{bus_case, case_of, is_interrupted, running_case, seen}
use Rattle.z80_chip.specs.Events.{answered, answered_at, asked_at, asked_in, asked_of, begun, begun_as, came_to, carried_out, handed, kept_at, went_on}
use Rattle.z80_chip.specs.Rules.{AreFit, BeganBelow, HasRules}
use Rattle.z80_chip.specs.Saved.{is_answer, need_after, need_of}
use Rattle.z80_chip.specs.Validity.{Chip80Value, IsAsking, IsAt, IsChip80}
use Rattle.z80_chip.specs.States.{State80, is_sample, next_of, power_on}
use Rattle.z80_chip.specs.declared.case.Case.{Case}
use Rattle.z80_chip.specs.declared.case.Case.TheVariants as cases
use Rattle.z80_chip.specs.declared.stage.Stage.{Stage}
use Rattle.z80_chip.specs.declared.stage.Stage.TheVariants.{Sample, Access, Yield, Take}
use Rattle.z80_chip.proofs.Laws.{StandsAtSample, sampling, seen-at, seen-stays}

-- where there are no answers
none_below : (answers : List ℕ) (k : ℕ) → answers ≡ [] → k < length answers → ⊥
none_below answers k none less = let zero = ap length none in omega (arith, zero, less)

-- ---- an event

came_rules : (at : ℕ) (cart : List ℕ) (state : State80) (cause : ℕ) → state.start < at → cause ≤ 1 → is_some state.store ≡ true → AreFit cart (record state { cause = cause })
    → (r : Result Ended Request80) → carried_out cart state cause ≡ r → HasRules cart at (came_to state cause r)
came_rules at cart state cause below small has fit (Ok ended) e =
    let brief = samples.most cause state.regs _ ended e in
    record {
      recent = record { soon = omega (arith, brief, below); begun = tt };
      cause = omega arith;
      holder = tt;
      fit = λ k less. absurd (omega (arith, less));
    }
came_rules at cart state cause below small has fit (Err request) e =
    let few = samples.waits cause state.regs _ request e in
    record {
      recent = record { soon = omega (arith, few, below); begun = below };
      cause = small;
      holder = has;
      fit = fit;
    }

went_rules : (at : ℕ) (cart : List ℕ) (state : State80) (cause : ℕ) → state.start < at → cause ≤ 1 → is_some state.store ≡ true → AreFit cart (record state { cause = cause })
    → HasRules cart at (went_on cart state cause)
unfolding went_on
went_rules at cart state cause below small has fit = came_rules at cart state cause below small has fit (carried_out cart state cause) refl

-- ---- a sample

-- whether the Z80 has its RAM, where a case depends on it
abbrev HasWhereNeeded : Case → Bool → Type 0
HasWhereNeeded cases.Yield has = has ≡ true
HasWhereNeeded cases.Take has = has ≡ false
HasWhereNeeded cases.Suspended has = Unit {0}
HasWhereNeeded cases.InReset has = Unit {0}
HasWhereNeeded cases.Interrupt has = has ≡ true
HasWhereNeeded cases.Halted has = Unit {0}
HasWhereNeeded cases.Instruction has = has ≡ true

has_running : (a b c : Bool) → HasWhereNeeded (if a then cases.InReset else (if b then cases.Interrupt else (if c then cases.Halted else cases.Instruction))) true
has_running true b c = tt
has_running false true c = refl
has_running false false true = tt
has_running false false false = refl

has_by : (request has : Bool) (running : Case) → HasWhereNeeded running true → HasWhereNeeded (bus_case request has running) has
has_by true true running h = refl
has_by true false running h = tt
has_by false true running h = h
has_by false false running h = refl

has_at : (state : State80) (pins : Pins80) → HasWhereNeeded (case_of state pins) (is_some state.store)
unfolding case_of running_case
has_at state pins =
    has_by pins.request (is_some state.store) (running_case state pins) (has_running pins.reset (is_interrupted state pins) state.halted)

begun_case_ruled : (case : Case) (at : ℕ) (cart : List ℕ) (state : State80) → StandsAtSample cart state → state.next < at → HasWhereNeeded case (is_some state.store) → HasRules cart at (begun_as case cart state)
begun_case_ruled cases.Yield at cart state is below has =
    let start = is.start in
    let none = is.cause in
    record { recent = record { soon = omega (arith, start, below); begun = tt }; cause = omega (arith, none); holder = has; fit = λ k less. absurd (none_below state.answers k is.answers less) }
begun_case_ruled cases.Take at cart state is below has =
    let start = is.start in
    let none = is.cause in
    record { recent = record { soon = omega (arith, start, below); begun = tt }; cause = omega (arith, none); holder = has; fit = λ k less. absurd (none_below state.answers k is.answers less) }
begun_case_ruled cases.Suspended at cart state is below has =
    let start = is.start in
    let none = is.cause in
    record { recent = record { soon = omega (arith, start, below); begun = tt }; cause = omega (arith, none); holder = tt; fit = λ k less. absurd (none_below state.answers k is.answers less) }
begun_case_ruled cases.InReset at cart state is below has =
    let start = is.start in
    let none = is.cause in
    record { recent = record { soon = omega (arith, start, below); begun = tt }; cause = omega (arith, none); holder = tt; fit = λ k less. absurd (none_below state.answers k is.answers less) }
begun_case_ruled cases.Interrupt at cart state is below has =
    let start = is.start in
    went_rules at cart state 1 (omega (arith, start, below)) (omega arith) has (λ k less. absurd (none_below state.answers k is.answers less))
begun_case_ruled cases.Halted at cart state is below has =
    let start = is.start in
    let none = is.cause in
    record { recent = record { soon = omega (arith, start, below); begun = tt }; cause = omega (arith, none); holder = tt; fit = λ k less. absurd (none_below state.answers k is.answers less) }
begun_case_ruled cases.Instruction at cart state is below has =
    let start = is.start in
    went_rules at cart state 0 (omega (arith, start, below)) (omega arith) has (λ k less. absurd (none_below state.answers k is.answers less))

-- a sample below the cycle leaves the rules
pub begun_rules : (at : ℕ) (v : Chip80Value) (pins : Pins80) → IsChip80 v → (next_of v.state).sample ≡ true → v.state.next < at → HasRules v.cart at (begun v.cart v.state pins)
unfolding begun
begun_rules at v pins ok kind below =
    let after : State80 = seen v.state pins in
    let same = seen-stays v.state pins in
    begun_case_ruled (case_of after pins) at v.cart after (seen-at v.cart v.state pins (sampling v ok kind)) (omega (arith, same, below)) (has_at after pins)

-- ---- an answer

is_answered : (request : Request80) (answer : AnswerValue80) → Fits (request_value80_of request) answer → is_answer (need_of (Err request)) (value_in answer) ≡ true
is_answered (requests.Read at) answer fits = refl
is_answered (requests.Write at value) (Byte reported) fits = absurd fits
is_answered (requests.Write at value) Nothing fits = refl
is_answered (requests.Write at value) (Returned store) fits = absurd fits
is_answered (requests.Yield parcel) answer fits = refl
is_answered requests.Take answer fits = refl

fit_more : (cart : List ℕ) (state : State80) (answer : AnswerValue80) → IsAsking cart state → Fits (asked_in (carried_out cart state state.cause)) answer → AreFit cart state
    → AreFit cart (record state { answers = state.answers ++ value_in answer ∷ [] })
fit_more cart state answer is fits fit k less =
    let value : ℕ = value_in answer in
    let counted = length-append state.answers (value ∷ []) in
    elim (eq-or-lt_of_le {n = k} {m = length state.answers} (omega (arith, counted, less))) [
      | inr early ↦
          subst (λ (l : List ℕ). is_answer (need_of (carried_out cart (record state { answers = l }) state.cause)) (slice_index (state.answers ++ value ∷ []) k) ≡ true)
          (sym (take-append-le k state.answers (value ∷ []) (omega (arith, early))))
          (subst (λ (n : ℕ). is_answer (need_after cart state k) n ≡ true) (sym (get_or_append_left state.answers (value ∷ []) 0 k early)) (fit k early))
      | inl last ↦
          subst (λ (j : ℕ). is_answer (need_of (carried_out cart (record state { answers = take j (state.answers ++ value ∷ []) }) state.cause)) (slice_index (state.answers ++ value ∷ []) j) ≡ true)
          (sym last)
          (subst (λ (l : List ℕ). is_answer (need_of (carried_out cart (record state { answers = l }) state.cause)) (slice_index (state.answers ++ value ∷ []) (length state.answers)) ≡ true)
          (sym (take-append_seam state.answers (value ∷ [])))
          (subst (λ (n : ℕ). is_answer (need_of (carried_out cart state state.cause)) n ≡ true) (sym (get_or_push state.answers value 0 (length state.answers) refl))
          (subst (λ (r : Result Ended Request80). is_answer (need_of r) value ≡ true) (sym is.asked)
          (is_answered is.request answer (subst (λ (r : Result Ended Request80). Fits (asked_in r) answer) is.asked fits)))))
    ]

answered_ruled : (stage : Stage) (at : ℕ) (v : Chip80Value) (answer : AnswerValue80) → v.state.stage ≡ stage → IsAt stage v.cart v.state → is_sample stage ≡ false
    → Fits (asked_at stage v.cart (record v.state { store = kept_at stage v.state.store })) answer → v.state.next < at → HasRules v.cart at v.state
    → HasRules v.cart at (answered_at stage v.cart (record v.state { store = kept_at stage v.state.store }) answer)
answered_ruled Sample at v answer same is kind fits below rules = absurd cc
answered_ruled Access at v answer same is kind fits below rules =
    let began : v.state.start < at = subst (λ (s : Stage). BeganBelow s at v.state.start) same rules.recent.begun in
    went_rules at v.cart (record v.state { answers = v.state.answers ++ value_in answer ∷ [] }) v.state.cause began rules.cause is.store
    (fit_more v.cart v.state answer is fits rules.fit)
answered_ruled Yield at v answer same is kind fits below rules =
    let start = is.1 in
    let none = is.0.cause in
    record { recent = record { soon = omega (arith, start, below); begun = tt }; cause = omega (arith, none); holder = tt; fit = λ k less. absurd (none_below v.state.answers k is.0.answers less) }
answered_ruled Take at v answer same is kind fits below rules =
    let start = is.1 in
    let none = is.0.cause in
    record { recent = record { soon = omega (arith, start, below); begun = tt }; cause = omega (arith, none); holder = tt; fit = λ k less. absurd (none_below v.state.answers k is.0.answers less) }

-- an answer to an access below the cycle keeps them; a yield has handed its RAM over
pub answered_rules : (at : ℕ) (v : Chip80Value) (answer : AnswerValue80) → IsChip80 v → (next_of v.state).sample ≡ false → Fits (asked_of v.cart (handed v.state)) answer
    → v.state.next < at → HasRules v.cart at v.state → HasRules v.cart at (answered v.cart (handed v.state) answer)
unfolding answered next_of asked_of handed
answered_rules at v answer ok kind fits below rules = answered_ruled v.state.stage at v answer refl ok.stands kind fits below rules

-- ---- from power-on on

pub power_on_rules : (at : ℕ) (cart : List ℕ) → HasRules cart at power_on
unfolding power_on
power_on_rules at cart = record { recent = record { soon = omega arith; begun = tt }; cause = omega arith; holder = tt; fit = λ k less. absurd (omega (arith, less)) }

began_below_later : (stage : Stage) (at later start : ℕ) → at ≤ later → BeganBelow stage at start → BeganBelow stage later start
began_below_later Sample at later start le h = tt
began_below_later Access at later start le h = omega (arith, h, le)
began_below_later Yield at later start le h = tt
began_below_later Take at later start le h = tt

-- what holds at a cycle holds at each later one
pub later_rules : (cart : List ℕ) (at later : ℕ) (state : State80) → at ≤ later → HasRules cart at state → HasRules cart later state
later_rules cart at later state le h = record {
  recent = record { soon = let soon = h.recent.soon in omega (arith, soon, le); begun = began_below_later state.stage at later state.start le h.recent.begun };
  cause = h.cause;
  holder = h.holder;
  fit = h.fit;
}
