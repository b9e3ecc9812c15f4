use Rattle.std.proofs.Common.{◌≤◌, List, ℕ, Some, length, subst}
use Rattle.std.proofs.lemmas.Result.{IfErr-weaker, IfOk-weaker}
use Rattle.md_outer.specs.Outside.{DepotState}
use Rattle.run_command.specs.Courses.{start_at}
use Rattle.md_top.specs.Loads.{IsFound, IsFoundIn, IsRefused, StateCause, state_limit}
use Rattle.state_laws.specs.Verdicts.{Keeps}
use Rattle.md_top.proofs.Fetched.{held}
use Rattle.md_top.proofs.Kept.{refused-cause}
use Rattle.md_top.proofs.loading.load_machine.Goals as goal

pub returns-in-Ok-clause-begins : goal.returns-in-Ok-clause-begins
returns-in-Ok-clause-begins g c =
    let inputs = c.args.inputs in
    let file = (g.D.Depot.state c.args.depot.now).files c.args.name.now in
    IfOk-weaker c.kept_machine.result
    (λ machine. IsFound inputs c.as_slice.result.now (Keeps (start_at machine)))
    (λ machine. g.D.Depot.observable → IsFoundIn file inputs (Keeps (start_at machine)))
    (λ machine found observable.
    held (λ bytes. (length bytes ≤ state_limit) × IsFound inputs bytes (Keeps (start_at machine))) file c.in-Ok.bytes.items
    (c.in-Ok.ensures.bytes observable)
    (c.in-Ok.ensures.within, subst (λ (bytes : List ℕ). IsFound inputs bytes (Keeps (start_at machine))) c.as_slice.ensures.value found))
    c.kept_machine.ensures.found

pub returns-in-Ok-clause-err : goal.returns-in-Ok-clause-err
returns-in-Ok-clause-err g c =
    let inputs = c.args.inputs in
    let old : DepotState = g.D.Depot.state c.args.depot.now in
    let new : DepotState = g.D.Depot.state c.fetch.new.self in
    IfErr-weaker c.kept_machine.result (IsRefused inputs c.as_slice.result.now) (StateCause g.D.Depot.observable (Some c.args.name.now) inputs old new)
    (λ command_outcome refused.
    refused-cause g.D.Depot.observable c.args.name.now inputs old new c.in-Ok.bytes.items command_outcome c.in-Ok.ensures.bytes c.in-Ok.ensures.within
    (subst (λ (bytes : List ℕ). IsRefused inputs bytes command_outcome) c.as_slice.ensures.value refused))
    c.kept_machine.ensures.err
