-- What a source's fault says of its line.
use Rattle.std.proofs.Common.{◌≡◌, inl, inr, ℕ, ◌+◌, ◌≤◌, ◌==◌, ◌%◌, Bool, true, false, ◌&&◌, List, [], ◌∷◌, ◌++◌, length, refl, ap, sym, arith, Option, Some, None, if◌then◌else◌}
use Rattle.md_asm_text.specs.Tokens as tokens
use Rattle.md_asm_text.specs.Lines.{Line, line_of}
use Rattle.text_lines.specs.Lines.{lines_of}
use Rattle.md_asm.specs.Contents.{Far, Good, Settled, Unfit, Unknown, content, is_unfit, size, sized}
use Rattle.md_asm.specs.Numbers.{Names, has_name, resolved}
use Rattle.md_asm.specs.Assembly.{Failed, assembly, assembly_of, number_of, second}
use Rattle.md_asm.specs.Places.{any_written, blank, is_sub, is_too_large}
use Rattle.md_asm.specs.Rounds.{Faulty, Filled, Hit, On, Onto, Outcome, Patched, Read, Refused, Round, Slot, Step, Stop, Whole, fill_on, go_on, has_bytes, is_twice, line_step, put_settled, round_one, round_two, settled_slot, start, wants_even, with_slot}
use Rattle.asm_laws.specs.Faults.{IsFaulty, IsRead, IsSlot}
use Rattle.md_asm.proofs.Apart.{IsPut, read_round}
use Rattle.asm_laws.proofs.Far.{IsSized, all_sized, bool_cases, far_means, none_or, slot_among}
use Rattle.asm_laws.proofs.Unfit.{bad_is, unfit_is}

-- ---- the first round

-- a line is refused, for a kind
abbrev StopsAs : Step → ℕ → Type 0
StopsAs (On next) kind = ⊥
StopsAs (Stop own) kind = number_of own ≡ kind

abbrev RefusesAs : Outcome → ℕ → ℕ → Type 0
RefusesAs (Read round) line kind = ⊥
RefusesAs (Refused own reason) line kind = (own ≡ line) × (number_of reason ≡ kind)

-- where the lines are refused, there is a first one that is
record IsStop (ls : List (List ℕ)) (round : Round) (first line kind : ℕ) : Type 0 where
  front : List (List ℕ)
  text : List ℕ
  following : List (List ℕ)
  lines : ls ≡ front ++ text ∷ following
  number : line ≡ first + length front
  stopped : Round
  read : round_one round first front ≡ Read stopped
  stops : StopsAs (line_step stopped line (line_of text)) kind

stop_at : (ls : List (List ℕ)) (round : Round) (first line kind : ℕ) → RefusesAs (round_one round first ls) line kind → IsStop ls round first line kind
unfolding round_one
stop_at [] round first line kind h = absurd h
stop_at (text ∷ more) round first line kind h = by (line_step round first (line_of text)) refl (λ next r. stop_at more next (first + 1) line kind r) h
  where
    by : (s : Step) → line_step round first (line_of text) ≡ s
        → ((next : Round) → RefusesAs (round_one next (first + 1) more) line kind → IsStop more next (first + 1) line kind)
        → RefusesAs (go_on first (line_step round first (line_of text)) (λ next. round_one next (first + 1) more)) line kind → IsStop (text ∷ more) round first line kind
    by (On next) is later r =
        let there = later next (rw is at r) in
        let n = there.number in record {
          front = text ∷ there.front;
          text = there.text;
          following = there.following;
          lines = ap (λ (l : List (List ℕ)). text ∷ l) there.lines;
          number = omega (arith, n);
          stopped = there.stopped;
          read = rw is there.read;
          stops = there.stops;
        }
    by (Stop own) is later r =
        let stop : (first ≡ line) × (number_of own ≡ kind) = rw is at r in
        let n = stop.0 in record {
          front = [];
          text = text;
          following = more;
          lines = refl;
          number = omega (arith, n);
          stopped = round;
          read = refl;
          stops = rw (sym stop.0, is) stop.1;
        }

-- a line that is refused has no length where the kind is 1, and a number that does not fit where it is 2; the kind is below 7
record StepMeans (z80 : Bool) (line : Line) (kind : ℕ) : Type 0 where
  bad : kind ≡ 1 → size z80 line.body (tokens.tokens line.text) ≡ None
  unfit : kind ≡ 2 → is_unfit z80 line.body (tokens.tokens line.text) ≡ true
  first : kind ≤ 6

other_kind : (z80 : Bool) (line : Line) (own kind : ℕ) → own ≡ kind → 3 ≤ own → own ≤ 6 → StepMeans z80 line kind
other_kind z80 line own kind is low high = record {
  bad = λ one. absurd (omega (arith, one));
  unfit = λ two. absurd (omega (arith, two));
  first = omega arith;
}

step_means : (round : Round) (number : ℕ) (line : Line) (kind : ℕ) → StopsAs (line_step round number line) kind → StepMeans (is_sub round.processor) line kind
step_means round number line kind h =
    elim (none_or (size (is_sub round.processor) line.body (tokens.tokens line.text))) [
      | inl none ↦ (let own : 1 ≡ kind = rw none at h in record { bad = λ one. none; unfit = λ two. absurd (omega (arith, two)); first = omega (arith, own) })
      | inr some ↦ (let sized_on = rw some.1 at h in
          elim (bool_cases (is_unfit (is_sub round.processor) line.body (tokens.tokens line.text))) [
            | inl a ↦ (let own : 2 ≡ kind = rw a at sized_on in record { bad = λ one. absurd (omega (arith, one)); unfit = λ two. a; first = omega (arith, own) })
            | inr a ↦ (let fit_on = rw a at sized_on in
                elim (bool_cases (is_twice round.names line.label)) [
                  | inl b ↦ other_kind (is_sub round.processor) line 3 kind (rw b at fit_on) (omega arith) (omega arith)
                  | inr b ↦ (let once_on = rw b at fit_on in
                      elim (bool_cases (wants_even (is_sub round.processor) line.body && round.place % 2 == 1)) [
                        | inl c ↦ other_kind (is_sub round.processor) line 4 kind (rw c at once_on) (omega arith) (omega arith)
                        | inr c ↦ (let even_on = rw c at once_on in
                            elim (bool_cases (any_written round.written round.place some.0)) [
                              | inl d ↦ other_kind (is_sub round.processor) line 5 kind (rw d at even_on) (omega arith) (omega arith)
                              | inr d ↦ (let free_on = rw d at even_on in
                                  elim (bool_cases (has_bytes line.body && is_too_large round.place some.0)) [
                                    | inl e ↦ other_kind (is_sub round.processor) line 6 kind (rw e at free_on) (omega arith) (omega arith)
                                    | inr e ↦ absurd (rw e at free_on)
                                  ])
                            ])
                      ])
                ])
          ])
    ]

-- ---- the second round

abbrev HitsAs : Patched → ℕ → Type 0
HitsAs (Onto memory) kind = ⊥
HitsAs (Hit own) kind = number_of own ≡ kind

abbrev FaultyAs : Filled → ℕ → ℕ → Type 0
FaultyAs (Whole memory) line kind = ⊥
FaultyAs (Faulty own reason) line kind = (own ≡ line) × (number_of reason ≡ kind)

record IsHit (names : Names) (slots : List Slot) (line kind : ℕ) : Type 0 where
  front : List Slot
  slot : Slot
  following : List Slot
  are : slots ≡ front ++ slot ∷ following
  number : slot.line ≡ line
  memory : List ℕ
  hits : HitsAs (with_slot names memory slot) kind

hit_at : (names : Names) (slots : List Slot) (memory : List ℕ) (line kind : ℕ) → FaultyAs (round_two names memory slots) line kind → IsHit names slots line kind
unfolding round_two
hit_at names [] memory line kind h = absurd h
hit_at names (slot ∷ more) memory line kind h = by (with_slot names memory slot) refl (λ next r. hit_at names more next line kind r) h
  where
    by : (p : Patched) → with_slot names memory slot ≡ p → ((next : List ℕ) → FaultyAs (round_two names next more) line kind → IsHit names more line kind)
        → FaultyAs (fill_on slot.line (with_slot names memory slot) (λ next. round_two names next more)) line kind → IsHit names (slot ∷ more) line kind
    by (Onto next) is later r =
        let there = later next (rw is at r) in record {
          front = slot ∷ there.front;
          slot = there.slot;
          following = there.following;
          are = ap (λ (l : List Slot). slot ∷ l) there.are;
          number = there.number;
          memory = there.memory;
          hits = there.hits;
        }
    by (Hit own) is later r =
        let stop : (slot.line ≡ line) × (number_of own ≡ kind) = rw is at r in record {
          front = [];
          slot = slot;
          following = more;
          are = refl;
          number = stop.0;
          memory = memory;
          hits = rw is stop.1;
        }

-- what comes of a line has the kind 8 only where a number does not fit, and 9 only where it is out of reach
record PutMeans (settled : Settled) (kind : ℕ) : Type 0 where
  second : 7 ≤ kind
  unfit : kind ≡ 8 → settled ≡ Unfit
  far : kind ≡ 9 → settled ≡ Far

put_means : (memory : List ℕ) (place kind : ℕ) (settled : Settled) → HitsAs (put_settled memory place settled) kind → PutMeans settled kind
put_means memory place kind (Good bytes) h = absurd h
put_means memory place kind Unknown h =
    let e : 7 ≡ kind = h in record { second = omega (arith, e); unfit = λ eight. absurd (omega (arith, eight, e)); far = λ nine. absurd (omega (arith, nine, e)) }
put_means memory place kind Unfit h =
    let e : 8 ≡ kind = h in record { second = omega (arith, e); unfit = λ eight. refl; far = λ nine. absurd (omega (arith, nine, e)) }
put_means memory place kind Far h =
    let e : 9 ≡ kind = h in record { second = omega (arith, e); unfit = λ eight. absurd (omega (arith, eight, e)); far = λ nine. refl }

sized_means : (long : ℕ) (found : Option (List ℕ)) → sized long found ≡ Unfit → ⊥
sized_means long None is = cc
sized_means long (Some bytes) is = by (length bytes == long) is
  where
    by : (b : Bool) → (if b then Good bytes else Far) ≡ Unfit → ⊥
    by true e = cc
    by false e = cc

settled_means : (named unfit : Bool) (long : ℕ) (found : Option (List ℕ)) → (if named then Unknown else (if unfit then Unfit else sized long found)) ≡ Unfit → unfit ≡ true
settled_means true unfit long found is = cc
settled_means false true long found is = refl
settled_means false false long found is = absurd (sized_means long found is)

slot_means : (names : Names) (slot : Slot) → settled_slot names slot ≡ Unfit → is_unfit slot.sub slot.body (resolved names (tokens.tokens slot.text)) ≡ true
slot_means names slot is =
    settled_means (has_name (resolved names (tokens.tokens slot.text))) _ slot.long (content slot.sub slot.body (resolved names (tokens.tokens slot.text)) slot.address) is

-- ---- the source

filled_as : (round : Round) (filled : Filled) (line kind : ℕ) → assembly_of round filled ≡ Failed line kind → FaultyAs filled line kind
filled_as round (Whole memory) line kind is = cc
filled_as round (Faulty own reason) line kind is = (cc, cc)

module _ (source : List ℕ) (line kind : ℕ) where
  from_first : IsStop (lines_of source) start 1 line kind → IsFaulty source line kind
  from_first stop =
      let means = step_means stop.stopped line (line_of stop.text) kind stop.stops in
      let read : IsRead source line stop.stopped stop.text
      = record { front = stop.front; following = stop.following; lines = stop.lines; number = stop.number; read = stop.read } in record {
        bad_line = λ one. (stop.stopped, stop.text, read, bad_is (is_sub stop.stopped.processor) (line_of stop.text) (means.bad one));
        bad_number = λ two. (stop.stopped, stop.text, read, unfit_is (is_sub stop.stopped.processor) (line_of stop.text).body (tokens.tokens (line_of stop.text).text) (means.unfit two));
        does_not_fit = λ eight. let f = means.first in absurd (omega (arith, eight, f));
        far = λ nine. let f = means.first in absurd (omega (arith, nine, f));
      }

  from_second : (round : Round) → round_one start 1 (lines_of source) ≡ Read round → IsHit round.names round.slots line kind → IsFaulty source line kind
  from_second round is hit =
      let means = put_means hit.memory hit.slot.place kind (settled_slot round.names hit.slot) hit.hits in
      let low = means.second in
      let slot : IsSlot source line round hit.slot = record { read = is; front = hit.front; following = hit.following; slots = hit.are; number = hit.number } in record {
        bad_line = λ one. absurd (omega (arith, one, low));
        bad_number = λ two. absurd (omega (arith, two, low));
        does_not_fit = λ eight.
            (round, hit.slot, slot, unfit_is hit.slot.sub hit.slot.body (resolved round.names (tokens.tokens hit.slot.text)) (slot_means round.names hit.slot (means.unfit eight)));
        far = λ nine.
            let out = far_means round.names hit.slot (slot_among IsSized hit.front hit.slot hit.following (rw hit.are at (all_sized round (lines_of source) is)))
            (slot_among (IsPut round.written round.end) hit.front hit.slot hit.following (rw hit.are at ((read_round round (lines_of source) is).put))).addressed (means.far nine) in
            (round, hit.slot, slot, out.0, out.1);
      }

  pub faulty : assembly source ≡ Failed line kind → IsFaulty source line kind
  unfolding assembly
  faulty h = by (round_one start 1 (lines_of source)) refl h
    where
      by : (o : Outcome) → round_one start 1 (lines_of source) ≡ o → second (round_one start 1 (lines_of source)) ≡ Failed line kind → IsFaulty source line kind
      by (Read round) is e =
          let own : assembly_of round (round_two round.names blank round.slots) ≡ Failed line kind = rw is at e in
          from_second round is (hit_at round.names round.slots blank line kind (filled_as round (round_two round.names blank round.slots) line kind own))
      by (Refused own reason) is e =
          let same : Failed own (number_of reason) ≡ Failed line kind = rw is at e in
          from_first (stop_at (lines_of source) start 1 line kind (rw is (cc, cc)))
