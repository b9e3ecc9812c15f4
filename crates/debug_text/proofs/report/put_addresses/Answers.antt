use Rattle.std.proofs.Common.{codes, ◌∙◌}
use Rattle.serde_json.specs.View.{members_view}
use Rattle.debug_text.specs.Report.{with_addresses, with_number}
use Rattle.debug_text.proofs.report.put_addresses.Goals as goal

pub returns : goal.returns
unfolding with_addresses
returns c =
    let n1 = c.in_ok-put_number.ensures {u = tt} ∙ (λ i. with_number (codes "a0") (c.from.ensures i) (members_view c.args.object.now.entries)) in
    let n2 = c.in_ok-put_number-2.ensures {u = tt} ∙ (λ i. with_number (codes "a1") (c.from-2.ensures i) (n1 i)) in
    let n3 = c.in_ok-put_number-3.ensures {u = tt} ∙ (λ i. with_number (codes "a2") (c.from-3.ensures i) (n2 i)) in
    let n4 = c.in_ok-put_number-4.ensures {u = tt} ∙ (λ i. with_number (codes "a3") (c.from-4.ensures i) (n3 i)) in
    let n5 = c.in_ok-put_number-5.ensures {u = tt} ∙ (λ i. with_number (codes "a4") (c.from-5.ensures i) (n4 i)) in
    let n6 = c.in_ok-put_number-6.ensures {u = tt} ∙ (λ i. with_number (codes "a5") (c.from-6.ensures i) (n5 i)) in
    let n7 = c.in_ok-put_number-7.ensures {u = tt} ∙ (λ i. with_number (codes "a6") (c.from-7.ensures i) (n6 i)) in
    let n8 = c.in_ok-put_number-8.ensures {u = tt} ∙ (λ i. with_number (codes "a7") ((c.from-8.ensures ∙ c.address.ensures) i) (n7 i)) in
    n8
