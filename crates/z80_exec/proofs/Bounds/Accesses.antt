-- What holds of each action: how many answers it takes at most, what it waits for, and that later
-- answers change nothing.
use Rattle.std.proofs.Common.{◌≡◌, ℕ, ◌+◌, ◌<◌, ◌≤◌, ◌∙◌, ◌%◌, ◌/◌, Bool, true, false, nat_lt, List, length, Result, Ok, Err, refl, ap, sym, subst, arith, slice_index}
use Rattle.std.specs.Prelude.{◌||◌, if◌then◌else◌}
use Rattle.std.proofs.lemmas.Bool.Decides.{nat_tests}
use Rattle.md_word.proofs.Answered.{lower, written-used}
use Rattle.md_word.specs.Answers.{Done}
use Rattle.md_word.specs.declared.sub_bus.Request80.TheVariants.{Read, Write}
use Rattle.md_word.specs.declared.sub_bus.Request80.{Request80}
use Rattle.z80_exec.specs.Access.Actions as actions
use Rattle.z80_exec.specs.Access.Actions.{Act, ◌>>=◌, go_on}
use Rattle.z80_exec.specs.Access.Memory.{Memory, answers_of, private_of, bank_after, byte_at, is_bank, is_ram, is_shared_read, is_shared_write, next, ram_after}
use Rattle.z80_exec.specs.Laws.{IgnoresLaterAnswers, SameBelow}
use Rattle.z80_exec.specs.Sample.Bounds.{IsAccess}

-- it takes at most so many answers, none that is not there; it waits only for one of them, with a
-- shared access; and later answers change nothing
pub record Sound {A : Type 0} (most : ℕ) (act : Act A) : Type 0 where
  pub value : (memory : Memory) (before : Done) (x : A) (after : Done) → act memory before ≡ Ok (x, after) → before.used ≤ length memory.answers → (after.used ≤ before.used + most) × (after.used ≤ length memory.answers)
  pub asks : (memory : Memory) (before : Done) (request : Request80) → act memory before ≡ Err request → before.used ≤ length memory.answers → (length memory.answers < before.used + most) × IsAccess request
  pub later : IgnoresLaterAnswers act

-- what looks at the private memory alone sees the same
pub private_same : {A : Type 0} (f : List ℕ → List ℕ → ℕ → A) (count : ℕ) (one other : Memory) → SameBelow count one other → f other.rom other.ram other.bank ≡ f one.rom one.ram one.bank
private_same f count one other same = ap (λ (m : Memory). f m.rom m.ram m.bank) same.same

used_of : {A : Type 0} → Result (A × Done) Request80 → ℕ
used_of (Ok x) = x.1.used
used_of (Err request) = 0

pub more : {A : Type 0} (fewer most : ℕ) (act : Act A) → fewer ≤ most → Sound fewer act → Sound most act
more fewer most act few h = record {
  value = λ memory before x after e in_range. (let r = h.value memory before x after e in_range in (omega (arith, r.0, few), r.1));
  asks = λ memory before request e in_range. (let r = h.asks memory before request e in_range in (omega (arith, r.0, few), r.1));
  later = h.later;
}

-- what looks at the private memory, and takes no answer
private_later : {A : Type 0} (f : List ℕ → List ℕ → ℕ → Done → A) (g : Done → Done) → ((done : Done) → (g done).used ≡ done.used) → IgnoresLaterAnswers (λ memory done. Ok (f memory.rom memory.ram memory.bank done, g done))
unfolding used_of
private_later {A} f g kept = record {
  value = λ one other before y after e same. private_same {A = Result (A × Done) Request80} (λ rom ram bank. Ok (f rom ram bank before, g before)) after.used one other same ∙ e;
  taken = λ memory before y after e. (let u : (g before).used ≡ after.used = ap used_of e in let k = kept before in omega arith);
}

private : {A : Type 0} (f : List ℕ → List ℕ → ℕ → Done → A) (g : Done → Done) → ((done : Done) → (g done).used ≡ done.used) → Sound 0 (λ memory done. Ok (f memory.rom memory.ram memory.bank done, g done))
unfolding used_of
private {A} f g kept = record {
  value = λ memory before y after e in_range. (let u : (g before).used ≡ after.used = ap (used_of {A = A}) e in let k = kept before in (omega (arith, u, k), omega (arith, u, k, in_range)));
  asks = λ memory before request e in_range. absurd (cc);
  later = private_later f g kept;
}

pub give : {A : Type 0} (x : A) → Sound 0 (actions.give x)
give x = private (λ rom ram bank done. x) (λ done. done) (λ done. refl)

pub choice : {A : Type 0} (most : ℕ) (test : Bool) (one other : Act A) → (test ≡ true → Sound most one) → (test ≡ false → Sound most other) → Sound most (λ memory done. if test then one memory done else other memory done)
choice most true one other h k = h refl
choice most false one other h k = k refl

-- one action, then another
bind_value : {A B : Type 0} (m n : ℕ) (act : Act A) (following : A → Act B) → Sound m act → ((x : A) → Sound n (following x)) → (memory : Memory) (before : Done) (y : B) (after : Done) (first : Result (A × Done) Request80) → act memory before ≡ first → go_on first (λ x mid. following x memory mid) ≡ Ok (y, after) → before.used ≤ length memory.answers → (after.used ≤ before.used + (m + n)) × (after.used ≤ length memory.answers)
bind_value m n act following h k memory before y after (Ok p) e g in_range =
    let one = h.value memory before p.0 p.1 e in_range in
    let two = (k p.0).value memory p.1 y after g one.1 in
    (omega (arith, one.0, two.0), two.1)
bind_value m n act following h k memory before y after (Err stop) e g in_range = absurd (cc)

bind_asks : {A B : Type 0} (m n : ℕ) (act : Act A) (following : A → Act B) → Sound m act → ((x : A) → Sound n (following x)) → (memory : Memory) (before : Done) (request : Request80) (first : Result (A × Done) Request80) → act memory before ≡ first → go_on first (λ x mid. following x memory mid) ≡ Err request → before.used ≤ length memory.answers → (length memory.answers < before.used + (m + n)) × IsAccess request
bind_asks m n act following h k memory before request (Ok p) e g in_range =
    let one = h.value memory before p.0 p.1 e in_range in
    let two = (k p.0).asks memory p.1 request g one.1 in
    (omega (arith, one.0, two.0), two.1)
bind_asks m n act following h k memory before request (Err stop) e g in_range =
    let is : stop ≡ request = cc in
    let r = h.asks memory before request (e ∙ ap Err is) in_range in
    (omega (arith, r.0), r.1)

bind_same : {A B : Type 0} (act : Act A) (following : A → Act B) → IgnoresLaterAnswers act → ((x : A) → IgnoresLaterAnswers (following x)) → (one other : Memory) (before : Done) (y : B) (after : Done) (first : Result (A × Done) Request80) → act one before ≡ first → go_on first (λ x mid. following x one mid) ≡ Ok (y, after) → SameBelow after.used one other → go_on (act other before) (λ x mid. following x other mid) ≡ Ok (y, after)
bind_same act following h k one other before y after (Ok p) e g same =
    let more = (k p.0).taken one p.1 y after g in
    let again = h.value one other before p.0 p.1 e (lower private_of answers_of p.1.used after.used one other more same) in
    rw again ((k p.0).value one other p.1 y after g same)
bind_same act following h k one other before y after (Err stop) e g same = absurd (cc)

bind_taken : {A B : Type 0} (act : Act A) (following : A → Act B) → IgnoresLaterAnswers act → ((x : A) → IgnoresLaterAnswers (following x)) → (one : Memory) (before : Done) (y : B) (after : Done) (first : Result (A × Done) Request80) → act one before ≡ first → go_on first (λ x mid. following x one mid) ≡ Ok (y, after) → before.used ≤ after.used
bind_taken act following h k one before y after (Ok p) e g =
    let least = h.taken one before p.0 p.1 e in
    let more = (k p.0).taken one p.1 y after g in
    omega arith
bind_taken act following h k one before y after (Err stop) e g = absurd (cc)

bind_later : {A B : Type 0} (act : Act A) (following : A → Act B) → IgnoresLaterAnswers act → ((x : A) → IgnoresLaterAnswers (following x)) → IgnoresLaterAnswers (act >>= following)
bind_later act following h k = record {
  value = λ one other before y after e same. bind_same act following h k one other before y after (act one before) refl e same;
  taken = λ memory before y after e. bind_taken act following h k memory before y after (act memory before) refl e;
}

pub bind : {A B : Type 0} (m n : ℕ) (act : Act A) (following : A → Act B) → Sound m act → ((x : A) → Sound n (following x)) → Sound (m + n) (act >>= following)
bind m n act following h k = record {
  value = λ memory before y after e in_range. bind_value m n act following h k memory before y after (act memory before) refl e in_range;
  asks = λ memory before request e in_range. bind_asks m n act following h k memory before request (act memory before) refl e in_range;
  later = bind_later act following h.later (λ x. (k x).later);
}

-- an action, and a value by it
pub last : {A B : Type 0} (m : ℕ) (act : Act A) (f : A → B) → Sound m act → Sound m (act >>= (λ x. actions.give (f x)))
last m act f h = more (m + 0) m _ (omega arith) (bind m 0 act _ h (λ x. give (f x)))

-- a shared access
pub answered : (request : Request80) (memory : Memory) (before : Done) → nat_lt before.used (length memory.answers) ≡ true → actions.asked request memory before ≡ Ok (slice_index memory.answers before.used, record before { used = before.used + 1 })
unfolding actions.asked
answered request memory before e = rw e

unanswered : (request : Request80) (memory : Memory) (before : Done) → nat_lt before.used (length memory.answers) ≡ false → actions.asked request memory before ≡ Err request
unfolding actions.asked
unanswered request memory before e = rw e

asked_value : (request : Request80) (memory : Memory) (before : Done) (x : ℕ) (after : Done) (test : Bool) → nat_lt before.used (length memory.answers) ≡ test → actions.asked request memory before ≡ Ok (x, after) → (after.used ≡ before.used + 1) × (after.used ≤ length memory.answers)
unfolding used_of
asked_value request memory before x after true t e =
    let first = answered request memory before t in
    let u : before.used + 1 ≡ after.used = ap used_of (sym first ∙ e) in
    let below : before.used < length memory.answers = grind (arith, nat_tests) in
    (sym u, omega (arith, u, below))
asked_value request memory before x after false t e = let first = unanswered request memory before t in absurd (cc)

asked_asks : (request : Request80) (memory : Memory) (before : Done) (r : Request80) (test : Bool) → IsAccess request → nat_lt before.used (length memory.answers) ≡ test → actions.asked request memory before ≡ Err r → (length memory.answers < before.used + 1) × IsAccess r
asked_asks request memory before r true is t e = let first = answered request memory before t in absurd (cc)
asked_asks request memory before r false is t e =
    let first = unanswered request memory before t in
    let same : request ≡ r = cc in
    (grind (arith, nat_tests), subst IsAccess same is)

asked_same : (request : Request80) (one other : Memory) (before : Done) (x : ℕ) (after : Done) (test : Bool) → nat_lt before.used (length one.answers) ≡ test → actions.asked request one before ≡ Ok (x, after) → SameBelow after.used one other → actions.asked request other before ≡ Ok (x, after)
unfolding used_of
asked_same request one other before x after true t e same =
    let first = answered request one before t in
    let u : before.used + 1 ≡ after.used = ap used_of (sym first ∙ e) in
    let enough : before.used < length other.answers = omega (arith, same.enough) in
    let more : nat_lt before.used (length other.answers) ≡ true = grind (arith, nat_tests) in
    let value : slice_index other.answers before.used ≡ slice_index one.answers before.used = same.answers before.used (omega arith) in
    let answering : ℕ → Result (ℕ × Done) Request80 = λ n. Ok (n, record before { used = before.used + 1 }) in
    answered request other before more ∙ (ap answering value ∙ (sym first ∙ e))
asked_same request one other before x after false t e same = let first = unanswered request one before t in absurd (cc)

asked_later : (request : Request80) → IgnoresLaterAnswers (actions.asked request)
asked_later request = record {
  value = λ one other before x after e same. asked_same request one other before x after (nat_lt before.used (length one.answers)) refl e same;
  taken = λ memory before x after e. (let r = asked_value request memory before x after (nat_lt before.used (length memory.answers)) refl e in omega (arith, r.0));
}

asked : (request : Request80) → IsAccess request → Sound 1 (actions.asked request)
asked request is = record {
  value = λ memory before x after e in_range. (let r = asked_value request memory before x after (nat_lt before.used (length memory.answers)) refl e in (omega (arith, r.0), r.1));
  asks = λ memory before r e in_range. asked_asks request memory before r (nat_lt before.used (length memory.answers)) is refl e;
  later = asked_later request;
}

reported : (request : Request80) → IsAccess request → Sound 1 (actions.reported request)
unfolding actions.reported
reported request is = last 1 _ _ (asked request is)

-- private reads and writes
byte_seen : (at : ℕ) → Sound 1 (λ memory done. Ok (actions.byte_seen at memory done, done))
unfolding actions.byte_seen
byte_seen at =
    more 0 1 _ (omega arith) (private (λ rom ram bank done. byte_at rom (ram_after ram done.writes) (bank_after bank done.writes) at) (λ done. done) (λ done. refl))

byte_put : (at value : ℕ) → Sound {A = Unit {0}} 1 (λ memory done. Ok (tt, actions.with_byte at value done))
unfolding actions.with_byte
byte_put at value = more 0 1 _ (omega arith) (private (λ rom ram bank done. tt) (actions.with_byte at value) (written-used (is_ram at || is_bank at) at value))

pub read : (at : ℕ) → Sound 1 (actions.read at)
unfolding actions.read
read at = choice 1 (is_shared_read at) _ _ (λ e. asked (Read at) e) (λ e. byte_seen at)

pub write : (at value : ℕ) → Sound 1 (actions.write at value)
unfolding actions.write
write at value = choice 1 (is_shared_write at) _ _ (λ e. reported (Write at value) e) (λ e. byte_put at value)

pub read_word : (at : ℕ) → Sound 2 (actions.read_word at)
unfolding actions.read_word
read_word at = bind 1 1 (actions.read at) _ (read at) (λ low. last 1 (actions.read (next at)) _ (read (next at)))

pub write_word : (at value : ℕ) → Sound 2 (actions.write_word at value)
unfolding actions.write_word
write_word at value = bind 1 1 (actions.write at (value % 0x100)) _ (write at (value % 0x100)) (λ written. write (next at) (value / 0x100))
