use Rattle.std.proofs.Common.{rules, ◌≡◌, ℕ, List, [], ◌++◌, take, refl, ap, subst, ◌∙◌, append_assoc}
use Rattle.std.proofs.lemmas.List.{take-append-drop}
use Rattle.run_command.specs.Outputs.{Adds, AddsParts, nothing}
use Rattle.md_args.specs.Shown.{shown_run}
use Rattle.run_command.proofs.Appends.{adds-nothing, adds-state_on, parts-state_front, parts-state_on}
use Rattle.run_command.proofs.Ends.{begun-on, goes-far, on-err, on-ok}
use Rattle.run_command.proofs.saving.append_pieces.Goals as goal

pub pieces-init : goal.pieces-init
pieces-init g c = (search rules, search rules, ([], refl, λ t. adds-nothing (shown_run c.args.run.now) (g.D.Depot.state c.args.depot.now).files))

pub pieces-preserved : goal.pieces-preserved
pieces-preserved g c =
    let front = c.pieces.invariant.2 in
    let split : c.split_at.result.0.now ++ c.split_at.result.1.now ≡ c.pieces.rest.now =
    ap (λ (l : List ℕ). l ++ c.split_at.result.1.now) c.split_at.ensures.front ∙ ap (λ (l : List ℕ). take 65536 c.pieces.rest.now ++ l) c.split_at.ensures.back
    ∙ take-append-drop 65536 c.pieces.rest.now in (
      begun-on (shown_run c.args.run.now) (g.D.Depot.state c.pieces.depot) (g.D.Depot.state c.append.new.depot) c.args.outputs.now c.in_default.ensures.goes_on c.pieces.invariant.0,
      goes-far (g.D.Depot.state c.args.depot.now) (g.D.Depot.state c.pieces.depot) (g.D.Depot.state c.append.new.depot) c.pieces.invariant.1 c.in_default.ensures.goes_on,
      (
        front.0 ++ c.split_at.result.0.now,
        append_assoc front.0 c.split_at.result.0.now c.split_at.result.1.now ∙ ap (λ (l : List ℕ). front.0 ++ l) split ∙ front.1,
        λ t. adds-state_on (shown_run c.args.run.now) (g.D.Depot.state c.args.depot.now).files (g.D.Depot.state c.pieces.depot).files (g.D.Depot.state c.append.new.depot).files
            front.0 c.split_at.result.0.now (front.2 t) (c.in_default.ensures.files t),
      ),
    )

pub returns-in-Err-clause-err_files : goal.returns-in-Err-clause-err_files
returns-in-Err-clause-err_files g c = λ t.
    let front = c.pieces.invariant.2 in
    let split : c.split_at.result.0.now ++ c.split_at.result.1.now ≡ c.pieces.rest.now =
    ap (λ (l : List ℕ). l ++ c.split_at.result.1.now) c.split_at.ensures.front ∙ ap (λ (l : List ℕ). take 65536 c.pieces.rest.now ++ l) c.split_at.ensures.back
    ∙ take-append-drop 65536 c.pieces.rest.now in
    let whole : (front.0 ++ c.split_at.result.0.now) ++ c.split_at.result.1.now ≡ c.args.bytes.now =
    append_assoc front.0 c.split_at.result.0.now c.split_at.result.1.now ∙ ap (λ (l : List ℕ). front.0 ++ l) split ∙ front.1 in
    subst (λ (l : List ℕ). AddsParts (shown_run c.args.run.now) (g.D.Depot.state c.args.depot.now).files (g.D.Depot.state c.append.new.depot).files (record nothing { state = l })) whole
    (parts-state_front (shown_run c.args.run.now) (g.D.Depot.state c.args.depot.now).files (g.D.Depot.state c.append.new.depot).files (front.0 ++ c.split_at.result.0.now) c.split_at.result.1.now
    (parts-state_on (shown_run c.args.run.now) (g.D.Depot.state c.args.depot.now).files (g.D.Depot.state c.pieces.depot).files (g.D.Depot.state c.append.new.depot).files
    front.0 c.split_at.result.0.now (front.2 t) (c.in-Err.ensures.err_files t)))

pub returns-in-Err-clause-goes_on : goal.returns-in-Err-clause-goes_on
returns-in-Err-clause-goes_on g c =
    goes-far (g.D.Depot.state c.args.depot.now) (g.D.Depot.state c.pieces.depot) (g.D.Depot.state c.append.new.depot) c.pieces.invariant.1 c.in-Err.ensures.goes_on

pub returns-clause-files : goal.returns-clause-files
returns-clause-files g c =
    let front = c.pieces.invariant.2 in
    on-ok c.append-2.result
    (λ adds t. subst (λ (l : List ℕ). Adds (shown_run c.args.run.now) (g.D.Depot.state c.args.depot.now).files (g.D.Depot.state c.append-2.new.depot).files (record nothing { state = l })) front.1
    (adds-state_on (shown_run c.args.run.now) (g.D.Depot.state c.args.depot.now).files (g.D.Depot.state c.pieces.depot).files (g.D.Depot.state c.append-2.new.depot).files
    front.0 c.pieces.rest.now (front.2 t) (adds t)))
    c.append-2.ensures.files

pub returns-clause-err_files : goal.returns-clause-err_files
returns-clause-err_files g c =
    let front = c.pieces.invariant.2 in
    on-err c.append-2.result
    (λ adds t. subst (λ (l : List ℕ). AddsParts (shown_run c.args.run.now) (g.D.Depot.state c.args.depot.now).files (g.D.Depot.state c.append-2.new.depot).files (record nothing { state = l })) front.1
    (parts-state_on (shown_run c.args.run.now) (g.D.Depot.state c.args.depot.now).files (g.D.Depot.state c.pieces.depot).files (g.D.Depot.state c.append-2.new.depot).files
    front.0 c.pieces.rest.now (front.2 t) (adds t)))
    c.append-2.ensures.err_files
