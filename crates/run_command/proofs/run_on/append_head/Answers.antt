use Rattle.std.proofs.Common.{◌≡◌, List, ℕ, ◌++◌, ap, ◌∙◌, arith}
use Rattle.md_files.specs.Wav.{wav_head}
use Rattle.md_chips.specs.Starts.{Start}
use Rattle.run_command.specs.Courses.{start_in}
use Rattle.run_command.specs.Counts.{pairs_between}
use Rattle.run_command.specs.Outputs.{nothing}
use Rattle.run_command.specs.Runs.{sound_until}
use Rattle.md_args.specs.Shown.{shown_run}
use Rattle.run_command.proofs.Ends.{head-held, head-parts, on-err, on-ok}
use Rattle.run_command.proofs.Segments.{head-first}
use Rattle.run_command.proofs.run_on.append_head.Goals as goal

pub returns-clause-files : goal.returns-clause-files
returns-clause-files g c =
    let start : Start = start_in c.args.course.now in
    let end : ℕ = c.args.run.now.cycles in
    let head : c.as_slice.result.now ≡ sound_until start end start.at =
    c.as_slice.ensures.value ∙ c.wav_head.ensures.bytes ∙ ap (λ (l : List ℕ). l ++ wav_head c.pairs_between-pairs.result c.pal.result) c.clear.ensures.items
    ∙ ap (λ (pairs : ℕ). wav_head pairs c.pal.result) c.pairs_between-pairs.ensures ∙ ap (λ (from : ℕ). wav_head (pairs_between from end) c.pal.result) c.at.ensures
    ∙ ap (wav_head (pairs_between start.at end)) c.pal.ensures.value
    ∙ head-first start end c.requires.start.from c.requires.start.laws (omega (arith, c.requires.before, c.requires.end.1)) c.requires.end in
    on-ok c.append.result
    (λ adds t first holds.
    head-held (shown_run c.args.run.now) start first (g.D.Depot.state c.append.new.depot).files c.as_slice.result.now c.requires.start.from c.requires.start.laws
    (omega (arith, c.requires.before, c.requires.end.1)) head (adds t first nothing holds))
    c.append.ensures.files

pub returns-clause-err_files : goal.returns-clause-err_files
returns-clause-err_files g c =
    let start : Start = start_in c.args.course.now in
    let end : ℕ = c.args.run.now.cycles in
    let head : c.as_slice.result.now ≡ sound_until start end start.at =
    c.as_slice.ensures.value ∙ c.wav_head.ensures.bytes ∙ ap (λ (l : List ℕ). l ++ wav_head c.pairs_between-pairs.result c.pal.result) c.clear.ensures.items
    ∙ ap (λ (pairs : ℕ). wav_head pairs c.pal.result) c.pairs_between-pairs.ensures ∙ ap (λ (from : ℕ). wav_head (pairs_between from end) c.pal.result) c.at.ensures
    ∙ ap (wav_head (pairs_between start.at end)) c.pal.ensures.value
    ∙ head-first start end c.requires.start.from c.requires.start.laws (omega (arith, c.requires.before, c.requires.end.1)) c.requires.end in
    on-err c.append.result
    (λ adds t first holds.
    head-parts (shown_run c.args.run.now) start first (g.D.Depot.state c.append.new.depot).files c.as_slice.result.now c.requires.start.from c.requires.start.laws
    (omega (arith, c.requires.before)) (omega (arith, c.requires.end.1)) head (adds t first nothing holds))
    c.append.ensures.err_files
