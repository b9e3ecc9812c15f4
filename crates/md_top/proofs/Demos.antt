-- The run of a demonstration cartridge: what its outcome says.
use Rattle.std.proofs.Common.{◌≡◌, ◌⊎◌, inl, inr, ◌<◌, ◌≤◌, Bool, cond, Some, refl, sym, ap, ◌∙◌, arith}
use Rattle.std.proofs.lemmas.Bool.{le-ltb, lt-ltb, le-leb, lt-leb}
use Rattle.md_outer.specs.Outside.{DepotState, Files}
use Rattle.md_vgm.specs.Outcomes.{Outcome}
use Rattle.md_args.specs.Words.{Demo, RunDemo}
use Rattle.run_command.specs.Demos.{demo_start, summary_from}
use Rattle.md_top.specs.Demos.{DemoEnds}
use Rattle.md_top.specs.CommandOutcomes.{status_of}
use Rattle.md_top.specs.Refusals.{Findings, demo_command_outcome, right_completion}
use Rattle.md_top.specs.Inputs.{Verdict}
use Rattle.md_word.specs.Clock.{last_cycle}
use Rattle.run_command.specs.Limits.{IsEnd}
use Rattle.md_top.specs.declared.command_outcome.CommandOutcome.{CommandOutcome}
use Rattle.md_top.specs.declared.command_outcome.CommandOutcome.TheVariants.{Behind, DemoDone, Memory, TooFar}
use Rattle.md_top.proofs.Statuses.{Says}

-- WHAT AN ENDING SAYS

pub demo_says : (observable : Type 0) (demo : Demo) (old new : DepotState) (command_outcome : CommandOutcome) → DemoEnds demo command_outcome → Says observable (RunDemo demo) old new command_outcome
demo_says observable demo old new Memory ends = tt
demo_says observable demo old new TooFar ends = ends
demo_says observable demo old new (Behind from) ends = ends.0
demo_says observable demo old new (DemoDone summary) ends = tt
demo_says observable demo old new _ ends = absurd ends

-- where the end is too far no other outcome comes
pub demo_far : (demo : Demo) (command_outcome : CommandOutcome) → DemoEnds demo command_outcome → last_cycle < demo.cycles → (status_of command_outcome ≡ 11) ⊎ (status_of command_outcome ≡ 10)
demo_far demo TooFar ends far = inl refl
demo_far demo Memory ends far = inr refl
demo_far demo (Behind from) ends far = absurd (omega (arith, ends.0, far))
demo_far demo (DemoDone summary) ends far = absurd (omega (arith, ends.0.1, far))
demo_far demo _ ends far = absurd ends

-- WITHOUT A FAULT

right_demo_far : (demo : Demo) (files : Files) (verdict : Verdict) (found : Findings) (outcome : Outcome) → last_cycle < demo.cycles
    → right_completion (Some (RunDemo demo)) files verdict found outcome ≡ TooFar
right_demo_far demo files verdict found outcome far = ap (λ (b : Bool). cond b TooFar (demo_command_outcome demo)) (lt-ltb last_cycle demo.cycles far)

right_demo_near : (demo : Demo) (files : Files) (verdict : Verdict) (found : Findings) (outcome : Outcome) → demo.cycles ≤ last_cycle
    → right_completion (Some (RunDemo demo)) files verdict found outcome ≡ demo_command_outcome demo
right_demo_near demo files verdict found outcome near = ap (λ (b : Bool). cond b TooFar (demo_command_outcome demo)) (le-ltb last_cycle demo.cycles near)

demo_command_outcome_after : (demo : Demo) → demo.cycles ≤ 0 → demo_command_outcome demo ≡ Behind 0
demo_command_outcome_after demo none =
    ap (λ (b : Bool). cond b (Behind 0) (DemoDone (summary_from (demo_start demo) demo.cycles))) (le-leb demo.cycles 0 none)

demo_command_outcome_done : (demo : Demo) → 0 < demo.cycles → demo_command_outcome demo ≡ DemoDone (summary_from (demo_start demo) demo.cycles)
demo_command_outcome_done demo some =
    ap (λ (b : Bool). cond b (Behind 0) (DemoDone (summary_from (demo_start demo) demo.cycles))) (lt-leb demo.cycles 0 some)

-- a run with an end within the limits ends well
pub right_demo_done : (demo : Demo) (files : Files) (verdict : Verdict) (found : Findings) (outcome : Outcome) → IsEnd demo.cycles
    → status_of (right_completion (Some (RunDemo demo)) files verdict found outcome) ≡ 0
right_demo_done demo files verdict found outcome end =
    ap status_of (right_demo_near demo files verdict found outcome end.1 ∙ demo_command_outcome_done demo (omega (arith, end.0)))

-- the outcome is the right one, or memory runs out
pub demo_right : (demo : Demo) (files : Files) (verdict : Verdict) (found : Findings) (outcome : Outcome) (command_outcome : CommandOutcome) → DemoEnds demo command_outcome
    → (status_of command_outcome ≡ status_of (right_completion (Some (RunDemo demo)) files verdict found outcome)) ⊎ (status_of command_outcome ≡ 10)
demo_right demo files verdict found outcome TooFar ends = inl (sym (ap status_of (right_demo_far demo files verdict found outcome ends)))
demo_right demo files verdict found outcome Memory ends = inr refl
demo_right demo files verdict found outcome (Behind from) ends =
    inl (sym (ap status_of (right_demo_near demo files verdict found outcome (omega (arith, ends.0)) ∙ demo_command_outcome_after demo (omega (arith, ends.0)))))
demo_right demo files verdict found outcome (DemoDone summary) ends = inl (sym (right_demo_done demo files verdict found outcome ends.0))
demo_right demo files verdict found outcome _ ends = absurd ends
