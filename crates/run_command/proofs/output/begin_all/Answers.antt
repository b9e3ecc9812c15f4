use Rattle.std.proofs.Common.{◌≡◌, ◌∙◌, [], None, Some, refl, ap}
use Rattle.md_outer.specs.Outside.{Files}
use Rattle.run_command.specs.Outputs.{with_part}
use Rattle.md_args.specs.Shown.{shown_run}
use Rattle.md_args.specs.Words.{Run}
use Rattle.run_command.proofs.Ends.{all-begun, begun-one, goes-far, untouched, unwritten-before}
use Rattle.run_command.proofs.output.begin_all.Goals as goal

-- three outputs begun one after the other
begun-three : (run : Run) (old one two three : Files) → one ≡ with_part old run.frames (Some []) → two ≡ with_part one run.sound (Some []) → three ≡ with_part two run.journal (Some [])
    → three ≡ with_part (with_part (with_part old run.frames (Some [])) run.sound (Some [])) run.journal (Some [])
begun-three run old one two three frames sound journal =
    journal ∙ ap (λ (files : Files). with_part files run.journal (Some [])) (sound ∙ ap (λ (files : Files). with_part files run.sound (Some [])) frames)

pub returns-in-Err-clause-err_files : goal.returns-in-Err-clause-err_files
returns-in-Err-clause-err_files g c = λ t.
    untouched (shown_run c.args.run.now) (g.D.Depot.state c.args.depot.now).files (g.D.Depot.state c.begin.new.depot).files (c.in-Err.ensures.err_files t)

pub returns-in-Err-begin-clause-err : goal.returns-in-Err-begin-clause-err
returns-in-Err-begin-clause-err g c =
    unwritten-before (shown_run c.args.run.now) (g.D.Depot.state c.args.depot.now) (g.D.Depot.state c.begin.new.depot) (g.D.Depot.state c.begin-2.new.depot) c.in-Err-begin.outcome
    c.begin.ensures.goes_on c.in-Err-begin.ensures.err

pub returns-in-Err-begin-clause-err_files : goal.returns-in-Err-begin-clause-err_files
returns-in-Err-begin-clause-err_files g c = λ t. record {
  parts = record { frames = Some []; sound = None; journal = None; state = None };
  frames = ([], refl);
  sound = tt;
  journal = tt;
  state = tt;
  files = c.in-Err-begin.ensures.err_files t ∙ c.in-Ok.ensures.files t;
}

pub returns-in-Err-begin-2-clause-err : goal.returns-in-Err-begin-2-clause-err
returns-in-Err-begin-2-clause-err g c =
    unwritten-before (shown_run c.args.run.now) (g.D.Depot.state c.args.depot.now) (g.D.Depot.state c.begin-2.new.depot) (g.D.Depot.state c.begin-3.new.depot) c.in-Err-begin-2.outcome
    (goes-far (g.D.Depot.state c.args.depot.now) (g.D.Depot.state c.begin.new.depot) (g.D.Depot.state c.begin-2.new.depot) c.begin.ensures.goes_on c.begin-2.ensures.goes_on)
    c.in-Err-begin-2.ensures.err

pub returns-in-Err-begin-2-clause-err_files : goal.returns-in-Err-begin-2-clause-err_files
returns-in-Err-begin-2-clause-err_files g c = λ t. record {
  parts = record { frames = Some []; sound = Some []; journal = None; state = None };
  frames = ([], refl);
  sound = ([], refl);
  journal = tt;
  state = tt;
  files = c.in-Err-begin-2.ensures.err_files t ∙ c.in-Ok-begin.ensures.files t
      ∙ ap (λ (files : Files). with_part files (shown_run c.args.run.now).sound (Some [])) (c.in-Ok.ensures.files t);
}

pub returns-in-Err-begin-3-clause-err : goal.returns-in-Err-begin-3-clause-err
returns-in-Err-begin-3-clause-err g c =
    let old = g.D.Depot.state c.args.depot.now in
    let two = g.D.Depot.state c.begin-2.new.depot in
    unwritten-before (shown_run c.args.run.now) old (g.D.Depot.state c.begin-3.new.depot) (g.D.Depot.state c.begin-4.new.depot) c.in-Err-begin-3.outcome
    (goes-far old two (g.D.Depot.state c.begin-3.new.depot)
    (goes-far old (g.D.Depot.state c.begin.new.depot) two c.begin.ensures.goes_on c.begin-2.ensures.goes_on) c.begin-3.ensures.goes_on)
    c.in-Err-begin-3.ensures.err

pub returns-in-Err-begin-3-clause-err_files : goal.returns-in-Err-begin-3-clause-err_files
returns-in-Err-begin-3-clause-err_files g c = λ t. record {
  parts = record { frames = Some []; sound = Some []; journal = Some []; state = None };
  frames = ([], refl);
  sound = ([], refl);
  journal = ([], refl);
  state = tt;
  files = c.in-Err-begin-3.ensures.err_files t ∙ begun-three (shown_run c.args.run.now) (g.D.Depot.state c.args.depot.now).files (g.D.Depot.state c.begin.new.depot).files
      (g.D.Depot.state c.begin-2.new.depot).files (g.D.Depot.state c.begin-3.new.depot).files (c.in-Ok.ensures.files t) (c.in-Ok-begin.ensures.files t) (c.in-Ok-begin-2.ensures.files t);
}

pub returns-in-Ok-begin-3-clause-begun : goal.returns-in-Ok-begin-3-clause-begun
returns-in-Ok-begin-3-clause-begun g c =
    let run = shown_run c.args.run.now in
    let one = g.D.Depot.state c.begin.new.depot in
    let two = g.D.Depot.state c.begin-2.new.depot in
    let three = g.D.Depot.state c.begin-3.new.depot in
    let four = g.D.Depot.state c.begin-4.new.depot in
    let last = c.begin-4.ensures.goes_on in
    all-begun run four.begun _
    (begun-one one four c.in-Ok.frames run.frames (goes-far one three four (goes-far one two three c.begin-2.ensures.goes_on c.begin-3.ensures.goes_on) last) c.in-Ok.ensures.begun)
    (begun-one two four c.in-Ok-begin.sound run.sound (goes-far two three four c.begin-3.ensures.goes_on last) c.in-Ok-begin.ensures.begun)
    (begun-one three four c.in-Ok-begin-2.journal run.journal last c.in-Ok-begin-2.ensures.begun)
    c.in-Ok-begin-3.ensures.begun

pub returns-in-Ok-begin-3-clause-files : goal.returns-in-Ok-begin-3-clause-files
returns-in-Ok-begin-3-clause-files g c = λ t.
    c.in-Ok-begin-3.ensures.files t
    ∙ ap (λ (files : Files). with_part files (shown_run c.args.run.now).save (Some []))
    (begun-three (shown_run c.args.run.now) (g.D.Depot.state c.args.depot.now).files (g.D.Depot.state c.begin.new.depot).files
    (g.D.Depot.state c.begin-2.new.depot).files (g.D.Depot.state c.begin-3.new.depot).files (c.in-Ok.ensures.files t) (c.in-Ok-begin.ensures.files t) (c.in-Ok-begin-2.ensures.files t))
