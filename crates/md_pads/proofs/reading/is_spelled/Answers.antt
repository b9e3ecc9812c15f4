use Rattle.std.proofs.Common.{◌≡◌, ◌∙◌, ap, sym, arith}
use Rattle.std.proofs.lemmas.Bool.{eqb-true, eq-eqb}
use Rattle.md_pads.specs.Reading.{whole_len}
use Rattle.md_pads.proofs.Opening.{start}
use Rattle.md_pads.proofs.Whole.{spelled_len, whole_spelled}
use Rattle.md_pads.proofs.reading.is_spelled.Goals as goal

pub returns-then-prefix-bytes : goal.returns-then-prefix-bytes
returns-then-prefix-bytes c =
    let all = c.if-prefix-bytes.true in
    let len : c.whole_len.result ≡ whole_len (start c.args.version) c.args.bytes.now = c.whole_len.ensures ∙ ap (λ n. whole_len n c.args.bytes.now) c.start.ensures.place in (
      λ test. whole_spelled c.args.version c.args.bytes.now c.args.prefix (λ i. omega (arith, c.type_inv.bytes i)) c.requires all (eqb-true _ _ test ∙ len),
      λ spelled. eq-eqb _ _ (all ∙ (spelled_len c.args.version c.args.bytes.now spelled).0 ∙ sym len),
    )
