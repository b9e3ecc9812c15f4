-- A 68000 whose rules hold is valid.
use Rattle.std.proofs.Common.{◌≡◌, ◌⊎◌, inl, inr, ℕ, zero, suc, ◌+◌, ◌*◌, ◌%◌, ◌<◌, ◌≤◌, Bool, true, false, not, cond, eqb, leb, ltb, List, length, take, slice_index, Some, None, is_some, IfSome, Result, Ok, Err, refl, sym, ap, subst, arith}
use Rattle.std.specs.Prelude.{◌&&◌, ◌||◌}
use Rattle.std.proofs.lemmas.Bool.{and_parts, both_ways, eq-eqb, eqb-true, leb-true, ltb-true, ne_eqb, or_cases}
use Rattle.std.proofs.lemmas.List.{length-take, nil_from_length}
use Rattle.std.proofs.Math.Nat.{eq-or-lt_of_le}
use Rattle.std.proofs.Math.Seq.{take-length}
use Rattle.md_word.specs.declared.main_bus.Request68.{Request68}
use Rattle.md_word.specs.declared.main_bus.Request68.TheVariants.{Read8, Read16, Write8, Write16, Ack, Word as TransferWord}
use Rattle.rom_header.specs.Cartridge.{IsImage}
use Rattle.m68k_access.specs.Memory.{ram_size}
use Rattle.m68k_exec.specs.Sample.Samples.{Ended}
use Rattle.m68k_access.specs.declared.stop.Stop.{Stop}
use Rattle.m68k_access.specs.declared.stop.Stop.TheVariants.{Ask, Odd}
use Rattle.m68k_chip.specs.Events.{carried_out, step}
use Rattle.m68k_chip.specs.Numbers.{Numbers68, stage_of, state_from}
use Rattle.m68k_chip.specs.Resuming.{are_answered, asked_after, asked_in, asks_at, asks_more, is_answer_to, is_answer}
use Rattle.md_fields.specs.Distances.{is_after}
use Rattle.md_fields.proofs.Distances.{after_is}
use Rattle.m68k_chip.specs.Saved.{is_source}
use Rattle.m68k_chip.specs.Validity.{FitsValue, IsAt, IsKnownCause, IsChip68, IsWordCost, IsStarted, IsTransfer}
use Rattle.m68k_chip.specs.States.{State68, none_left}
use Rattle.m68k_chip.proofs.Laws.{of}
use Rattle.m68k_chip.proofs.SavedLaws.{Rules, count_few}

-- ---- the answers

fits_from : (request : Request68) (value : ℕ) → is_answer_to request value ≡ true → FitsValue request value
fits_from (Read8 at) value e = ltb-true value 0x100 e
fits_from (Read16 at) value e = ltb-true value 0x1_0000 e
fits_from (Write8 at written) value e = eqb-true value 0 e
fits_from (Write16 at written) value e = eqb-true value 0 e
fits_from (Ack level) value e = eqb-true value 0 e
fits_from (TransferWord word) value e = eqb-true value 0 e

asks_for : (r : Result Ended Stop) → is_some (asked_in r) ≡ true → (request : Request68) × (r ≡ Err (Ask request))
asks_for (Ok ended) e = absurd cc
asks_for (Err (Ask request)) e = (request, refl)
asks_for (Err (Odd address read used)) e = absurd cc

pub asked_is : (r : Result Ended Stop) (request : Request68) → asked_in r ≡ Some request → r ≡ Err (Ask request)
asked_is (Ok ended) request e = absurd cc
asked_is (Err (Ask asked)) request e = cc
asked_is (Err (Odd address read used)) request e = absurd cc

fit_for : (r : Result Ended Stop) (value : ℕ) → is_answer (asked_in r) value ≡ true → (request : Request68) × (r ≡ Err (Ask request)) × FitsValue request value
fit_for (Ok ended) value e = absurd cc
fit_for (Err (Ask request)) value e = (request, refl, fits_from request value e)
fit_for (Err (Odd address read used)) value e = absurd cc

each_answered : (cart : List ℕ) (state : State68) (n k : ℕ) → are_answered cart state n ≡ true → k < n → is_answer (asked_after cart state k) (slice_index state.answers k) ≡ true
unfolding are_answered
each_answered cart state zero k e lt = absurd (omega (arith, lt))
each_answered cart state (suc n) k e lt =
    let p = and_parts _ _ e in
    elim (eq-or-lt_of_le {n = k} {m = n} (omega (arith, lt))) [
      | inr early ↦ each_answered cart state n k p.0 early
      | inl last ↦ subst (λ (m : ℕ). is_answer (asked_after cart state m) (slice_index state.answers m) ≡ true) (sym last) p.1
    ]

-- ---- the transfer

abbrev pub are_left : ℕ → ℕ → ℕ → Bool
are_left m s w = cond (eqb w 0) (eqb s 0 && not (eqb m 2)) ((leb w 0x1_0000 && not (eqb m 0)) && is_source s)

abbrev pub costs : ℕ → ℕ → Bool
costs w c = cond (eqb w 0) (eqb c 0) (eqb c 34 || eqb c 380)

then_so : (b x y : Bool) → b ≡ true → cond b x y ≡ true → x ≡ true
then_so true x y e f = f
then_so false x y e f = absurd cc

else_so : (b x y : Bool) → b ≡ false → cond b x y ≡ true → y ≡ true
else_so true x y e f = absurd cc
else_so false x y e f = f

zero_or : (w : ℕ) → (w ≡ 0) ⊎ (1 ≤ w)
zero_or zero = inl refl
zero_or (suc w) = inr (omega arith)

-- what is left where none is, and where some is
left_none : (m s w : ℕ) → w ≡ 0 → are_left m s w ≡ true → (s ≡ 0) × (not (eqb m 2) ≡ true)
left_none m s w z e =
    let p = and_parts (eqb s 0) (not (eqb m 2)) (then_so (eqb w 0) (eqb s 0 && not (eqb m 2)) ((leb w 0x1_0000 && not (eqb m 0)) && is_source s) (eq-eqb w 0 z) e) in
    (eqb-true s 0 p.0, p.1)

record IsSome (m s w : ℕ) : Type 0 where
  pub most : leb w 0x1_0000 ≡ true
  pub later : not (eqb m 0) ≡ true
  pub even : eqb (s % 2) 0 ≡ true
  pub on_bus : ltb s 0x100_0000 ≡ true

left_some : (m s w : ℕ) → 1 ≤ w → are_left m s w ≡ true → IsSome m s w
left_some m s w some e =
    let no : eqb w 0 ≡ false = ne_eqb w 0 (λ z. omega (arith, z, some)) in
    let p = and_parts (leb w 0x1_0000 && not (eqb m 0)) (is_source s) (else_so (eqb w 0) (eqb s 0 && not (eqb m 2)) ((leb w 0x1_0000 && not (eqb m 0)) && is_source s) no e) in
    let q = and_parts (leb w 0x1_0000) (not (eqb m 0)) p.0 in
    let r = and_parts (eqb (s % 2) 0) (ltb s 0x100_0000) p.1 in
    record { most = q.0; later = q.1; even = r.0; on_bus = r.1 }

no_cost : (w c : ℕ) → w ≡ 0 → costs w c ≡ true → c ≡ 0
no_cost w c z f = eqb-true c 0 (then_so (eqb w 0) (eqb c 0) (eqb c 34 || eqb c 380) (eq-eqb w 0 z) f)

no_transfer : (m s w c : ℕ) → w ≡ 0 → are_left m s w ≡ true → costs w c ≡ true → record { source = s; words = w; cost = c } ≡ none_left
no_transfer m s w c z e f =
    let no_source = (left_none m s w z e).0 in
    let free = no_cost w c z f in
    λ i. record { source = no_source i; words = z i; cost = free i }

none_by : (m s w c : ℕ) → m ≡ 0 → are_left m s w ≡ true → costs w c ≡ true → record { source = s; words = w; cost = c } ≡ none_left
none_by m s w c at e f =
    elim (zero_or w) [
      | inl z ↦ no_transfer m s w c z e f
      | inr some ↦ absurd (both_ways (not (eqb m 0)) (ap (λ (k : ℕ). not (eqb k 0)) at) (left_some m s w some e).later)
    ]

some_by : (m s w : ℕ) → m ≡ 2 → are_left m s w ≡ true → 1 ≤ w
some_by m s w at e =
    elim (zero_or w) [
      | inl z ↦ absurd (both_ways (not (eqb m 2)) (ap (λ (k : ℕ). not (eqb k 2)) at) (left_none m s w z e).1)
      | inr some ↦ some
    ]

cost_by : (c : ℕ) → (eqb c 34 || eqb c 380) ≡ true → IsWordCost c
cost_by c e =
    elim (or_cases (eqb c 34) (eqb c 380) e) [
      | inl few ↦ inl (eqb-true c 34 few)
      | inr many ↦ inr (eqb-true c 380 many)
    ]

some_transfer : (m s w c : ℕ) → 1 ≤ w → are_left m s w ≡ true → costs w c ≡ true → IsStarted (record { source = s; words = w; cost = c })
some_transfer m s w c some e f =
    let p = left_some m s w some e in
    record {
      some = some;
      most = leb-true w 0x1_0000 p.most;
      even = eqb-true (s % 2) 0 p.even;
      on_bus = ltb-true s 0x100_0000 p.on_bus;
      cost = cost_by c (else_so (eqb w 0) (eqb c 0) (eqb c 34 || eqb c 380) (ne_eqb w 0 (λ z. omega (arith, z, some))) f);
    }

transfer_by : (m s w c : ℕ) → are_left m s w ≡ true → costs w c ≡ true → IsTransfer (record { source = s; words = w; cost = c })
transfer_by m s w c e f =
    elim (zero_or w) [
      | inl z ↦ inl (no_transfer m s w c z e f)
      | inr some ↦ inr (some_transfer m s w c some e f)
    ]

-- ---- the stages

cause_none : (c : ℕ) → (eqb c 0 || false) ≡ true → c ≡ 0
cause_none c e =
    elim (or_cases (eqb c 0) false e) [
      | inl none ↦ eqb-true c 0 none
      | inr other ↦ absurd cc
    ]

some_cause : (c : ℕ) → (eqb c 0 || (eqb c 4 || (eqb c 6 || eqb c 8))) ≡ true → IsKnownCause c
some_cause c e =
    elim (or_cases (eqb c 0) _ e) [
      | inl none ↦ inl (eqb-true c 0 none)
      | inr f ↦ elim (or_cases (eqb c 4) _ f) [
        | inl four ↦ inr (inl (eqb-true c 4 four))
        | inr g ↦ elim (or_cases (eqb c 6) (eqb c 8) g) [
          | inl six ↦ inr (inr (inl (eqb-true c 6 six)))
          | inr eight ↦ inr (inr (inr (eqb-true c 8 eight)))
        ]
      ]
    ]

stands_at : (cart : List ℕ) (at m : ℕ) (state : State68) → m ≤ 2
    → cond (eqb m 1) (ltb state.start at) (eqb state.start state.next) ≡ true
    → (eqb state.cause 0 || (eqb m 1 && (eqb state.cause 4 || (eqb state.cause 6 || eqb state.cause 8)))) ≡ true
    → cond (eqb m 1) (is_after state.next state.start (step * (length state.answers + 1))) (eqb (length state.answers) 0) ≡ true
    → (eqb m 1 ≡ true → state.halted ≡ None)
    → (m ≡ 0 → state.transfer ≡ none_left)
    → (m ≡ 2 → 1 ≤ state.transfer.words)
    → asks_at (stage_of m) cart state ≡ true
    → IsAt (stage_of m) cart state
stands_at cart at zero state le start cause count running none some asks =
    (record { start = eqb-true state.start state.next start; cause = cause_none state.cause cause; answers = nil_from_length state.answers (eqb-true (length state.answers) 0 count) }, none refl)
stands_at cart at (suc zero) state le start cause count running none some asks =
    let place = after_is state.next state.start (step * (length state.answers + 1)) count in
    let p = and_parts _ _ asks in
    let asked = asks_for (carried_out cart state state.cause state.answers) (subst (λ (l : List ℕ). is_some (asked_in (carried_out cart state state.cause l)) ≡ true) (take-length state.answers) p.0) in
    record {
      place = omega (arith, place);
      cause = some_cause state.cause cause;
      running = running refl;
      request = asked.0;
      asked = asked.1;
      fit = λ k lt. fit_for (carried_out cart state state.cause (take k state.answers)) (slice_index state.answers k) (each_answered cart state (length state.answers) k p.1 lt);
    }
stands_at cart at (suc (suc zero)) state le start cause count running none some asks =
    (record { start = eqb-true state.start state.next start; cause = cause_none state.cause cause; answers = nil_from_length state.answers (eqb-true (length state.answers) 0 count) }, some refl)
stands_at cart at (suc (suc (suc m))) state le start cause count running none some asks = absurd (omega (arith, le))

running_by : (m h since : ℕ) → (eqb h 0 || not (eqb m 1)) ≡ true → eqb m 1 ≡ true → cond (eqb h 1) (Some since) None ≡ None
running_by m h since e one =
    elim (or_cases (eqb h 0) (not (eqb m 1)) e) [
      | inl runs ↦ ap (λ (k : ℕ). cond (eqb k 1) (Some since) None) (eqb-true h 0 runs)
      | inr other ↦ absurd (both_ways (not (eqb m 1)) (ap not one) other)
    ]

halted_by : (at next : ℕ) (b : Bool) (since : ℕ) → cond b (ltb since at) (eqb since 0) ≡ true → at ≤ next → IfSome (cond b (Some since) None) (λ since. since < next)
halted_by at next true since e le = let below = ltb-true since at e in omega (arith, below, le)
halted_by at next false since e le = tt

pub valid : (cart : List ℕ) (at : ℕ) (n : Numbers68) → IsImage cart → length n.ram ≡ ram_size → length n.answers ≡ 32 → Rules at true n → asks_more cart (state_from n) ≡ true
    → IsChip68 (of cart (state_from n))
valid cart at n image ram long rules asks =
    let state : State68 = state_from n in
    let few = count_few at true n rules in
    let counted : n.count ≡ length state.answers = omega (arith, length-take n.count n.answers, long, few) in
    let follows = (and_parts _ _ (and_parts _ _ rules.answers).1).0 in
    let count = subst (λ (k : ℕ). cond (eqb n.stage 1) (is_after n.next n.start (step * (k + 1))) (eqb k 0) ≡ true) counted follows in
    let late : at ≤ n.next = leb-true at n.next (and_parts _ _ rules.soon).0 in
    record {
      image = image;
      ram = ram;
      status = rules.status;
      transfer = transfer_by n.stage n.source n.words n.cost rules.words rules.cost;
      halted = halted_by at n.next (eqb n.halted 1) n.since rules.since late;
      stands = stands_at cart at n.stage state rules.stage rules.start rules.cause count
          (running_by n.stage n.halted n.since (and_parts _ _ rules.halted).1)
          (λ zero. none_by n.stage n.source n.words n.cost zero rules.words rules.cost)
          (λ two. some_by n.stage n.source n.words two rules.words)
          asks;
    }
