use Rattle.std.proofs.Common.{refl, inl, inr}
use Rattle.md_rollback.proofs.outcome_laws.states_may_be_kept.Goals as goal

pub returns : goal.returns
returns c = λ cart. record {
  first = λ recording. inl (refl, (recording, refl));
  later = λ at m some near same reached. inr (c.reached_may_be_kept.ensures at m some near reached);
}
