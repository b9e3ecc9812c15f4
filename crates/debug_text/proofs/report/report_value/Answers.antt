use Rattle.std.proofs.Common.{ap, ◌∙◌, codes}
use Rattle.serde_json.specs.Data.{object}
use Rattle.serde_json.specs.View.{members_view}
use Rattle.serde_json.proofs.Views.{view-Object}
use Rattle.serde_json.proofs.OnLiterals.{serde_json_on_literals}
use Rattle.debug_text.specs.Report.{with_addresses, with_data, with_number}
use Rattle.debug_text.proofs.report.report_value.Goals as goal

pub returns : goal.returns
unfolding with_addresses with_data serde_json_on_literals
returns c =
    let regs = c.args.regs.now in
    let none = ap members_view c.new-object.ensures.empty in
    let addresses = c.in_ok-put_addresses.ensures {u = tt} ∙ ap (with_addresses regs) none in
    let at = c.in_ok-put_number.ensures {u = tt} ∙ ap (with_number (codes "at") c.args.cycle) addresses in
    let numbers = c.in_ok-put_data.ensures {u = tt} ∙ ap (with_data regs) at in
    let pc = c.in_ok-put_number-2.ensures {u = tt} ∙ (λ i. with_number (codes "pc") (c.from.ensures i) (numbers i)) in
    let sr = c.in_ok-put_number-3.ensures {u = tt} ∙ (λ i. with_number (codes "sr") (c.from-2.ensures i) (pc i)) in
    view-Object c.put_number-3.new.object ∙ ap object sr
