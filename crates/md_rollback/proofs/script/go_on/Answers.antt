use Rattle.std.proofs.Common.{refl, sym, subst, ℕ, ◌+◌, ◌<◌, ◌≤◌}
use Rattle.md_rollback.specs.Inputs.{most_frames}
use Rattle.md_rollback.specs.Scripts.{IsFault, advanced}
use Rattle.md_rollback.proofs.Followed.{frame-followed, goes-on, no-fault, refused-advance}
use Rattle.md_rollback.proofs.script.go_on.Goals as goal

pub returns-in-Ok-clause-obeyed : goal.returns-in-Ok-clause-obeyed
returns-in-Ok-clause-obeyed g c = λ cart old follows.
    let e = c.in-Ok.ensures in
    let s = c.args.session.now in
    let on = goes-on s.frames s.confirmed s.window (subst (λ (n : ℕ). n ≤ most_frames) c.frames.ensures.frames c.frames.ensures.few) (λ all. no-fault _ (e.ended.1 all)) (λ late. no-fault _ ((e.waiting s.confirmed s.frames).1 (late.0, late.1, refl, refl))) in (
      advanced old,
      (s.confirmed, follows.confirmed_is, subst (λ (n : ℕ). n < most_frames) follows.frames_are on.0, subst (λ (n : ℕ). n < s.confirmed + s.window) follows.frames_are on.1, refl),
      frame-followed cart s c.advance.new.self old follows e.stays e.frames e.cart e.machine,
    )

pub returns-in-Err-clause-refused : goal.returns-in-Err-clause-refused
returns-in-Err-clause-refused g c =
    let s = c.args.session.now in
    let e = c.in-Err.ensures in (
      e.err,
      λ cart old line follows is. subst (IsFault s.window old line) (sym c.fault_at.ensures) (refused-advance cart s old line c.in-Err.fault follows is e.waiting e.ended),
    )
