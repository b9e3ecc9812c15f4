-- A sample of the instruction at an even program counter follows its footprint, and the frame of an
-- exception in which it ends.
use Rattle.std.proofs.Common.{◌≡◌, ◌≢◌, ℕ, ◌%◌, ◌<◌, ◌==◌, ◌∙◌, ◌⊎◌, Bool, true, false, List, [], ◌∷◌, ◌++◌, All, length, Result, Ok, Err, refl, ap, sym, subst, arith, inl, inr}
use Rattle.std.specs.Prelude.{IsFalse, IsTrue}
use Rattle.std.proofs.lemmas.Bool.Decides.{nat_tests}
use Rattle.std.proofs.lemmas.List.Elements.{All-head, All-tail}
use Rattle.md_word.specs.declared.main_bus.Request68.{Request68}
use Rattle.md_word.specs.declared.regs.Regs.{Regs}
use Rattle.m68k_decode.specs.Fields.{opcode}
use Rattle.m68k_access.specs.Actions as actions
use Rattle.md_word.specs.Answers.{Done}
use Rattle.m68k_access.specs.Memory.{Memory, instruction_words}
use Rattle.m68k_access.specs.Outcomes.{Outcome}
use Rattle.m68k_exec.specs.Sample.Bounds.{Fits}
use Rattle.m68k_exec.specs.Sample.Execution as execution
use Rattle.m68k_exec.specs.Sample.Samples as samples
use Rattle.m68k_exec.specs.Sample.Samples.{Ended, named, nothing}
use Rattle.m68k_access.specs.declared.stop.Stop.{Stop}
use Rattle.m68k_access.specs.declared.stop.Stop.TheVariants.{Ask, Odd}
use Rattle.m68k_exec.specs.declared.sample.exception.Exception.TheVariants.{AddressError, Numbered}
use Rattle.m68k_laws.proofs.Causes as causes
use Rattle.m68k_laws.proofs.Causes.{LeavesAt}
use Rattle.m68k_laws.proofs.Decoding.{words_known}
use Rattle.m68k_laws.proofs.Exceptions.{Caused, Reaches, Other, exception, exception_caused, exception_other}
use Rattle.m68k_laws.proofs.Follows.{AsksAlong, EndsAlong, GoesAlong}
use Rattle.m68k_laws.proofs.Instructions.{row_along, completed, faulted, waited}
use Rattle.m68k_laws.specs.Accesses.{Access, IsEven, is_odd, shared, words}
use Rattle.m68k_laws.specs.Frames.{frame, left_by}
use Rattle.m68k_laws.specs.Laws.{FaultsAt, IsComplete, WaitsAt}
use Rattle.m68k_laws.specs.Samples.{AfterAll, AfterFault, ReachesFrame, SamplesFollowFootprints, started, words_at}

-- the result of its row
abbrev result_at : Regs → Memory → Result (Outcome × Done) Stop
result_at regs memory = execution.row (named regs memory) regs.pc (started regs memory) memory nothing

abbrev sample_after : Regs → Memory → Result (Outcome × Done) Stop → Result Ended Stop
sample_after regs memory result = samples.answered_by (named regs memory) (opcode (instruction_words regs.pc memory)) regs memory result

sample_is : (regs : Regs) (memory : Memory) → actions.is_odd regs.pc ≡ false → samples.sampled 0 regs memory ≡ sample_after regs memory (result_at regs memory)
unfolding samples.sampled samples.instruction
sample_is regs memory e = rw e refl

even_start : (at : ℕ) → at % 2 ≡ 0 → actions.is_odd at ≡ false
even_start at h = rw h refl

-- what is known of its result
pub record Known (regs : Regs) (memory : Memory) (result : Result (Outcome × Done) Stop) : Type 0 where
  pub along : GoesAlong (words_at regs memory) (length memory.answers) 0 result
  pub left : LeavesAt (left_by (named regs memory) (started regs memory)).ssp result

result_known : (regs : Regs) (memory : Memory) → Fits memory → Known regs memory (result_at regs memory)
result_known regs memory fits = record {
  along = row_along _ regs.pc _ memory (words_known memory regs.pc fits);
  left = (causes.row (named regs memory) regs.pc (started regs memory)).at memory nothing;
}

-- none of a list is odd
middle_even : (before : List Access) (access : Access) (following : List Access) → All IsEven (before ++ access ∷ following) → IsEven access
middle_even [] access following h = All-head IsEven access following h
middle_even (first ∷ more) access following h = middle_even more access following (All-tail IsEven first (more ++ access ∷ following) h)

no_fault : (list : List Access) (taken address : ℕ) (read : Bool) → All IsEven list → FaultsAt list taken address read → ⊥
no_fault list taken address read even h =
    let aligned : IsEven h.access = middle_even h.leads.before h.access h.leads.following (subst (λ list. All IsEven list) h.leads.split even) in
    let odd : IsTrue (is_odd h.access) = h.odd in
    cc

-- it waits for the next shared word
waits_by : (regs : Regs) (memory : Memory) (result : Result (Outcome × Done) Stop) → Known regs memory result → All IsEven (words_at regs memory) → length memory.answers < length (shared (words_at regs memory)) → (request : Request68) × (sample_after regs memory result ≡ Err (Ask request)) × WaitsAt (words_at regs memory) (length memory.answers) request
waits_by regs memory (Ok x) h even fewer = absurd (omega (arith, h.along.used, h.along.enough, h.along.completes.counted, fewer))
waits_by regs memory (Err (Ask request)) h even fewer = (request, refl, waited _ _ request h.along)
waits_by regs memory (Err (Odd address read used)) h even fewer = absurd (no_fault _ _ address read even h.along.faults)

-- an exception after all words
frame_same : (number : ℕ) (memory : Memory) (one two : Regs) → one.ssp ≡ two.ssp → frame number one memory ≡ frame number two memory
frame_same number memory one two e = ap (λ stack. frame number (record one { ssp = stack }) memory) e

known_after_all : (regs : Regs) (memory : Memory) (outcome : Outcome) (done : Done) → Known regs memory (Ok (outcome, done)) → outcome.vector ≢ 0 → AfterAll regs memory done.used outcome.vector (words (frame outcome.vector outcome.regs memory))
known_after_all regs memory outcome done h some = record {
  completes = completed _ (length memory.answers) done.used h.along;
  pushes = ap words (frame_same outcome.vector memory outcome.regs (left_by (named regs memory) (started regs memory)) (h.left some));
}

known_after_fault : (regs : Regs) (memory : Memory) (address : ℕ) (read : Bool) (used : ℕ) → Known regs memory (Err (Odd address read used)) → AfterFault regs memory used 3 (words (frame 3 regs memory))
known_after_fault regs memory address read used h = record {
  address = address;
  read = read;
  faults = faulted _ _ used address read h.along;
  error = refl;
  pushes = refl;
}

-- where it waits
asks_all : (regs : Regs) (memory : Memory) (outcome : Outcome) (done : Done) (request : Request68) (test : Bool) → Known regs memory (Ok (outcome, done)) → (outcome.vector == 0) ≡ test → samples.ended_by (named regs memory) regs outcome memory done ≡ Err (Ask request) → (number : ℕ) × ReachesFrame regs memory (length memory.answers) number (λ list pushed. WaitsAt list pushed request)
unfolding samples.ended_by
asks_all regs memory outcome done request true h is e = absurd (let wrong = rw is at e in cc)
asks_all regs memory outcome done request false h is e =
    let some : outcome.vector ≢ 0 = grind (arith, nat_tests) in
    let list = words (frame outcome.vector outcome.regs memory) in
    let asks : AsksAlong list (length memory.answers) done.used request = subst (λ sample. Reaches list (length memory.answers) done.used sample) (rw is at e) (exception (named regs memory) (Numbered outcome.vector) (samples.leaves_trace regs outcome.vector) regs outcome.regs memory done h.along.enough) in (
      outcome.vector,
      record {
        taken = done.used;
        pushed = asks.taken;
        list = list;
        counted = asks.used;
        reaches = inr (known_after_all regs memory outcome done h some);
        holds = asks.waits;
      },
    )

asks_by : (regs : Regs) (memory : Memory) (result : Result (Outcome × Done) Stop) (request : Request68) → Known regs memory result → sample_after regs memory result ≡ Err (Ask request) → WaitsAt (words_at regs memory) (length memory.answers) request ⊎ ((number : ℕ) × ReachesFrame regs memory (length memory.answers) number (λ list pushed. WaitsAt list pushed request))
asks_by regs memory (Ok x) request h e = inr (asks_all regs memory x.0 x.1 request (x.0.vector == 0) h refl e)
asks_by regs memory (Err (Ask asked)) request h e =
    let is : asked ≡ request = cc in inl (subst (λ asked. WaitsAt (words_at regs memory) (length memory.answers) asked) is (waited _ _ asked h.along))
asks_by regs memory (Err (Odd address read used)) request h e =
    let list = words (frame 3 regs memory) in
    let asks : AsksAlong list (length memory.answers) used request = subst (λ sample. Reaches list (length memory.answers) used sample) e (exception (named regs memory) (AddressError (opcode (instruction_words regs.pc memory)) address read) false regs regs memory (record { used = used; writes = [] }) h.along.enough) in
    inr (
      3,
      record {
        taken = used;
        pushed = asks.taken;
        list = list;
        counted = asks.used;
        reaches = inl (known_after_fault regs memory address read used h);
        holds = asks.waits;
      },
    )

-- where it ends
accesses_of : Result Ended Stop → ℕ
accesses_of (Ok ended) = ended.spent.accesses
accesses_of (Err stop) = 0

cause_of : Result Ended Stop → ℕ
cause_of (Ok ended) = ended.spent.cause
cause_of (Err stop) = 0

completes_all : (regs : Regs) (memory : Memory) (outcome : Outcome) (done : Done) (ended : Ended) (test : Bool) → (outcome.vector == 0) ≡ test → samples.ended_by (named regs memory) regs outcome memory done ≡ Ok ended → ended.spent.cause ≡ 0 → done.used ≡ ended.spent.accesses
unfolding samples.ended_by accesses_of
completes_all regs memory outcome done ended true is e none = ap accesses_of (rw is at e)
completes_all regs memory outcome done ended false is e none =
    let some : outcome.vector ≢ 0 = grind (arith, nat_tests) in
    let not_0 : ended.spent.cause ≢ 0 = subst Other (rw is at e) (exception_other (named regs memory) (Numbered outcome.vector) (samples.leaves_trace regs outcome.vector) regs outcome.regs memory done some) in
    absurd (not_0 none)

completes_by : (regs : Regs) (memory : Memory) (result : Result (Outcome × Done) Stop) (ended : Ended) → Known regs memory result → sample_after regs memory result ≡ Ok ended → ended.spent.cause ≡ 0 → IsComplete (words_at regs memory) ended.spent.accesses
completes_by regs memory (Ok x) ended h e none =
    let used = completes_all regs memory x.0 x.1 ended (x.0.vector == 0) refl e none in
    subst (λ taken. IsComplete (words_at regs memory) taken) used (completed _ (length memory.answers) x.1.used h.along)
completes_by regs memory (Err (Ask request)) ended h e none = absurd (cc)
completes_by regs memory (Err (Odd address read used)) ended h e none =
    let not_0 : ended.spent.cause ≢ 0 = subst Other e (exception_other (named regs memory) (AddressError (opcode (instruction_words regs.pc memory)) address read) false regs regs memory (record { used = used; writes = [] }) (omega arith)) in
    absurd (not_0 none)

ends_all : (regs : Regs) (memory : Memory) (outcome : Outcome) (done : Done) (ended : Ended) (test : Bool) → Known regs memory (Ok (outcome, done)) → (outcome.vector == 0) ≡ test → samples.ended_by (named regs memory) regs outcome memory done ≡ Ok ended → ended.spent.cause ≢ 0 → (number : ℕ) × ReachesFrame regs memory ended.spent.accesses number IsComplete × (IsFalse ended.halted → ended.spent.cause ≡ number)
unfolding samples.ended_by cause_of
ends_all regs memory outcome done ended true h is e other_ = absurd (other_ (sym (ap cause_of (rw is at e))))
ends_all regs memory outcome done ended false h is e other_ =
    let some : outcome.vector ≢ 0 = grind (arith, nat_tests) in
    let list = words (frame outcome.vector outcome.regs memory) in
    let trace = samples.leaves_trace regs outcome.vector in
    let ends : EndsAlong list (length memory.answers) done.used ended.spent.accesses = subst (λ sample. Reaches list (length memory.answers) done.used sample) (rw is at e) (exception (named regs memory) (Numbered outcome.vector) trace regs outcome.regs memory done h.along.enough) in (
      outcome.vector,
      record {
        taken = done.used;
        pushed = ends.taken;
        list = list;
        counted = ends.used;
        reaches = inr (known_after_all regs memory outcome done h some);
        holds = ends.completes;
      },
      subst (Caused outcome.vector) (rw is at e) (exception_caused (named regs memory) (Numbered outcome.vector) trace regs outcome.regs memory done),
    )

ends_by : (regs : Regs) (memory : Memory) (result : Result (Outcome × Done) Stop) (ended : Ended) → Known regs memory result → sample_after regs memory result ≡ Ok ended → ended.spent.cause ≢ 0 → (number : ℕ) × ReachesFrame regs memory ended.spent.accesses number IsComplete × (IsFalse ended.halted → ended.spent.cause ≡ number)
ends_by regs memory (Ok x) ended h e some = ends_all regs memory x.0 x.1 ended (x.0.vector == 0) h refl e some
ends_by regs memory (Err (Ask request)) ended h e some = absurd (cc)
ends_by regs memory (Err (Odd address read used)) ended h e some =
    let list = words (frame 3 regs memory) in
    let kind = AddressError (opcode (instruction_words regs.pc memory)) address read in
    let before : Done = record { used = used; writes = [] } in
    let ends : EndsAlong list (length memory.answers) used ended.spent.accesses = subst (λ sample. Reaches list (length memory.answers) used sample) e (exception (named regs memory) kind false regs regs memory before h.along.enough) in (
      3,
      record {
        taken = used;
        pushed = ends.taken;
        list = list;
        counted = ends.used;
        reaches = inl (known_after_fault regs memory address read used h);
        holds = ends.completes;
      },
      subst (Caused 3) e (exception_caused (named regs memory) kind false regs regs memory before),
    )

pub samples_follow : SamplesFollowFootprints
samples_follow = record {
  waits = λ regs memory fits even aligned fewer.
      subst (λ sample. (request : Request68) × (sample ≡ Err (Ask request)) × WaitsAt (words_at regs memory) (length memory.answers) request) (sym (sample_is regs memory (even_start regs.pc even)))
      (waits_by regs memory (result_at regs memory) (result_known regs memory fits) aligned fewer);
  asks = λ regs memory request fits even e. asks_by regs memory (result_at regs memory) request (result_known regs memory fits) (sym (sample_is regs memory (even_start regs.pc even)) ∙ e);
  completes = λ regs memory ended fits even e none. completes_by regs memory (result_at regs memory) ended (result_known regs memory fits) (sym (sample_is regs memory (even_start regs.pc even)) ∙ e) none;
  ends = λ regs memory ended fits even e some. ends_by regs memory (result_at regs memory) ended (result_known regs memory fits) (sym (sample_is regs memory (even_start regs.pc even)) ∙ e) some;
}
