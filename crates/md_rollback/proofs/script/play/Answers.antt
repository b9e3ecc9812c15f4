use Rattle.std.proofs.Common.{◌∙◌, ◌++◌, ◌∷◌, [], List, ℕ, length, refl, sym, ap, subst, length-append, ◌+◌, arith}
use Rattle.text_lines.specs.Lines.{lines_of}
use Rattle.debug_text.specs.Scripts.{ObeysFirst}
use Rattle.debug_text.proofs.Scripts.{all_obeyed, first_more, first_none}
use Rattle.md_rollback.specs.Sessions.{SessionValue}
use Rattle.md_rollback.specs.Following.{Follows}
use Rattle.md_rollback.specs.Scripts.{IsFault, Obeys, ObeysLine, Plays}
use Rattle.md_rollback.proofs.Scripts.{plays_stopped}
use Rattle.md_rollback.proofs.script.play.Goals as goal

pub loop-line-init : goal.loop-line-init
loop-line-init g c = record {
  window_is = refl;
  fits = omega (arith, c.of-lines.ensures.number, ap (λ (l : List ℕ). length l) c.of-lines.ensures.rest);
  so_far = λ cart old follows. (
    [],
    old,
    subst (λ (l : List ℕ). ObeysFirst (ObeysLine c.args.session.now.window) (lines_of c.args.script.now) [] (lines_of l) old old) (sym c.of-lines.ensures.rest)
        (first_none (ObeysLine c.args.session.now.window) (lines_of c.args.script.now) old),
    follows,
    c.of-lines.ensures.number,
  );
}

pub loop-line-preserved : goal.loop-line-preserved
loop-line-preserved g c =
    let i = c.loop-line.invariant in
    let window = c.args.session.now.window in
    let lines = lines_of c.args.script.now in
    let line = c.in-Some.line.now in
    let after = c.next.new.self.rest.now in
    let taken = c.in-Some.ensures.line in
    record {
      window_is = c.obey.ensures.window ∙ i.window_is;
      fits = omega (arith, i.fits, taken.1, taken.2);
      so_far = λ cart old follows.
          let was = i.so_far cart old follows in
          let done = c.in-Ok.ensures.obeyed cart was.1 was.3 in (
            was.0 ++ line ∷ [],
            done.1,
            first_more (ObeysLine window) lines was.0 (lines_of after) line old was.1 done.1
                (subst (λ (l : List (List ℕ)). ObeysFirst (ObeysLine window) lines was.0 l old was.1) taken.0 was.2)
                (done.0, done.2, subst (λ (w : ℕ). Obeys w was.1 done.0 done.1) i.window_is done.3),
            done.4,
            omega (arith, was.4, taken.1, length-append was.0 (line ∷ [])),
          );
    }

pub returns-in-Err : goal.returns-in-Err
returns-in-Err g c = λ cart old follows.
    let i = c.loop-line.invariant in
    let window = c.args.session.now.window in
    let lines = lines_of c.args.script.now in
    let line = c.in-Some.line.now in
    let after = c.next.new.self.rest.now in
    let taken = c.in-Some.ensures.line in
    let was = i.so_far cart old follows in
    let refused = c.in-Err.ensures.refused in (
      was.1,
      subst (Plays window lines old was.1) (sym c.script_outcome_of.ensures)
          (plays_stopped window lines was.0 (lines_of after) line old was.1 c.next.new.self.number c.in-Err.fault
          (subst (λ (l : List (List ℕ)). ObeysFirst (ObeysLine window) lines was.0 l old was.1) taken.0 was.2)
          (omega (arith, was.4, taken.1)) (subst (λ (w : ℕ). IsFault w was.1 line c.in-Err.fault) i.window_is (refused.1 cart was.1 was.3))),
      subst (λ (s : SessionValue). Follows cart s was.1) (sym refused.0) was.3,
    )

pub returns : goal.returns
returns g c = λ cart old follows.
    let was = c.loop-line.invariant.so_far cart old follows in (
      was.1,
      all_obeyed (ObeysLine c.args.session.now.window) (lines_of c.args.script.now) was.0 (lines_of c.loop-line.lines.rest.now) old was.1
          (c.next.ensures.none c.in_default.is) was.2,
      was.3,
    )
