use Rattle.std.proofs.Common.{codes, ◌∙◌}
use Rattle.serde_json.specs.View.{members_view}
use Rattle.debug_text.specs.Report.{with_data, with_number}
use Rattle.debug_text.proofs.report.put_data.Goals as goal

pub returns : goal.returns
unfolding with_data
returns c =
    let n1 = c.in_ok-put_number.ensures {u = tt} ∙ (λ i. with_number (codes "d0") (c.from.ensures i) (members_view c.args.object.now.entries)) in
    let n2 = c.in_ok-put_number-2.ensures {u = tt} ∙ (λ i. with_number (codes "d1") (c.from-2.ensures i) (n1 i)) in
    let n3 = c.in_ok-put_number-3.ensures {u = tt} ∙ (λ i. with_number (codes "d2") (c.from-3.ensures i) (n2 i)) in
    let n4 = c.in_ok-put_number-4.ensures {u = tt} ∙ (λ i. with_number (codes "d3") (c.from-4.ensures i) (n3 i)) in
    let n5 = c.in_ok-put_number-5.ensures {u = tt} ∙ (λ i. with_number (codes "d4") (c.from-5.ensures i) (n4 i)) in
    let n6 = c.in_ok-put_number-6.ensures {u = tt} ∙ (λ i. with_number (codes "d5") (c.from-6.ensures i) (n5 i)) in
    let n7 = c.in_ok-put_number-7.ensures {u = tt} ∙ (λ i. with_number (codes "d6") (c.from-7.ensures i) (n6 i)) in
    let n8 = c.in_ok-put_number-8.ensures {u = tt} ∙ (λ i. with_number (codes "d7") (c.from-8.ensures i) (n7 i)) in
    n8
