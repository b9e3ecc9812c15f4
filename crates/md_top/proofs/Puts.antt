-- Texts that are put one after the other.
use Rattle.std.proofs.Common.{◌≡◌, ℕ, List, ◌++◌, Result, Ok, Err, Option, ◌⊎◌, inl, inr, ap, ◌∙◌, sym, subst, append_assoc, arith}
use Rattle.std.specs.Prelude.{OnErr, OnOk}
use Rattle.md_top.specs.Answers.{PutsAll, PutsCommandOutcome, PutsLine, PutsPart, Reports}
use Rattle.md_top.specs.CommandOutcomes.{failed_status, status_of}
use Rattle.md_top.specs.Texts.{text_of}
use Rattle.md_top.specs.declared.command_outcome.CommandOutcome.{CommandOutcome}
use Rattle.md_top.specs.declared.command_outcome.CommandOutcome.TheVariants.{Played, ReplyFault}
use Rattle.md_args.specs.Words.{Command}
use Rattle.md_debug.proofs.Scripts.{puts_more}
use Rattle.md_outer.specs.Outside.{IsPrefix, PutsText, SinkState}
use Rattle.md_outer.specs.declared.sink.Failed.{Failed}
use Rattle.run_command.proofs.Ends.{rose_later}
use Rattle.run_command.proofs.Writes.{prefix-append}

prefix_longer : (front first second : List ℕ) → IsPrefix front first → IsPrefix front (first ++ second)
prefix_longer front first second (rest, is) = (rest ++ second, sym (append_assoc front rest second) ∙ ap (λ (l : List ℕ). l ++ second) is)

-- a second text after one that was put
pub puts_on : {E F : Type 0} (observable : Type 0) (first second : List ℕ) (old mid new : SinkState) (result : Result (Unit {0}) F)
    → PutsText {E = E} observable first old mid (Ok tt) → PutsText observable second mid new result → PutsText observable (first ++ second) old new result
puts_on observable first second old mid new (Ok done) one two = puts_more observable first second old mid new one two
puts_on observable first second old mid new (Err fault) one two = record {
  later = omega (arith, one.later, two.later);
  whole = tt;
  failed = rose_later old.faults mid.faults new.faults one.later two.failed;
  part = λ t. (
    first ++ (two.part t).0,
    prefix-append first (two.part t).0 second (two.part t).1,
    (two.part t).2 ∙ ap (λ (l : List ℕ). l ++ (two.part t).0) (one.whole t) ∙ append_assoc old.bytes first (two.part t).0,
  );
}

-- no second text after one that failed
pub puts_stop : {E F : Type 0} (observable : Type 0) (first second : List ℕ) (old new : SinkState) (e : E) (f : F)
    → PutsText observable first old new (Err e) → PutsText observable (first ++ second) old new (Err f)
puts_stop observable first second old new e f one = record {
  later = one.later;
  whole = tt;
  failed = one.failed;
  part = λ t. ((one.part t).0, prefix_longer (one.part t).0 first second (one.part t).1, (one.part t).2);
}

-- a line that was put, or within which the sink failed, and the status after it
line_put : {E : Type 0} (observable : Type 0) (text : List ℕ) (old new : SinkState) (put : Result (Unit {0}) E) (of status : ℕ) → PutsText observable text old new put
    → OnOk put (status ≡ of) → OnErr put (status ≡ failed_status of) → PutsLine observable text of old new status
line_put observable text old new (Ok done) of status puts whole failed = inl (whole, record { later = puts.later; bytes = puts.whole })
line_put observable text old new (Err fault) of status puts whole failed = inr (failed, record { rose = puts.failed; bytes = puts.part })

none_put : {E : Type 0} (put : Result (Unit {0}) E) (of status : ℕ) → put ≡ Ok tt → OnOk put (status ≡ of) → status ≡ of
none_put {E} put of status is whole = subst (λ (r : Result (Unit {0}) E). OnOk r (status ≡ of)) is whole

-- what was put of an outcome, and the status after it
pub command_outcome_put : (observable : Type 0) (command : Option Command) (command_outcome : CommandOutcome) (old new : SinkState) (put : Result (Unit {0}) Failed) (of status : ℕ)
    → PutsCommandOutcome observable command command_outcome old new put → of ≡ status_of command_outcome → OnOk put (status ≡ of) → OnErr put (status ≡ failed_status of) → Reports observable command command_outcome old new status
command_outcome_put observable command Played old new put of status puts is whole failed = (none_put put of status puts.0 whole ∙ is, puts.1)
command_outcome_put observable command ReplyFault old new put of status puts is whole failed = (none_put put of status puts.0 whole ∙ is, puts.1)
command_outcome_put observable command other old new put of status puts is whole failed =
    subst (λ (n : ℕ). PutsLine observable (text_of command other) n old new status) is (line_put observable (text_of command other) old new put of status puts whole failed)

-- the line of a refusal
pub line_of : (observable : Type 0) (text : List ℕ) (of : ℕ) (old new : SinkState) (status : ℕ) → status ≡ of → of ≡ failed_status of
    → PutsAll observable text old new ⊎ PutsPart observable text old new → PutsLine observable text of old new status
line_of observable text of old new status is same (inl whole) = inl (is, whole)
line_of observable text of old new status is same (inr part) = inr (is ∙ same, part)
