use Rattle.std.proofs.Common.{arith}
use Rattle.std.proofs.lemmas.Bool.{ltb-true}
use Rattle.md_pads.proofs.Steps.{At, magic_step, count_step, word_goes, word_kept}
use Rattle.md_pads.proofs.reading.goes_on.Goals as goal

pub returns-then-place-start : goal.returns-then-place-start
returns-then-place-start c =
    let early = c.if-place-start.true in
    rw c.lead.ensures (magic_step c.args.version c.args.bytes.now c.args.place (record { small = λ i. omega (arith, c.type_inv.bytes i); within = c.requires.within; begun = c.requires.begins }) (omega (arith, c.start-start.ensures.place)))

pub returns-then-place-start-2 : goal.returns-then-place-start-2
returns-then-place-start-2 c =
    let late = c.if-place-start.false in
    let early = c.if-place-start-2.true in
    rw (c.least_count.ensures, c.start-start.ensures.place) (count_step c.args.version c.args.bytes.now c.args.place (record { small = λ i. omega (arith, c.type_inv.bytes i); within = c.requires.within; begun = c.requires.begins }) (omega (arith, c.start-start.ensures.place)) (omega (arith, c.start-start.ensures.place)))

pub returns-then-place-whole_len : goal.returns-then-place-whole_len
returns-then-place-whole_len c =
    let at : At c.args.version c.args.bytes.now c.args.place = record { small = λ i. omega (arith, c.type_inv.bytes i); within = c.requires.within; begun = c.requires.begins } in
    let inside = c.if-place-whole_len.true in
    let late = c.if-place-start-2.false in
    let place = c.start-start.ensures.place in
    let byte = c.is_frame_byte.ensures in (
      λ test. word_goes c.args.version c.args.bytes.now c.args.place at (omega (arith, place)) (rw (← place) (omega (arith, c.whole_len.ensures))) (rw (← place) (byte.0 test)),
      λ more. byte.1 (rw place ((word_kept c.args.version c.args.bytes.now c.args.place at (omega (arith, place)) more).1)),
    )

pub returns-else-place-whole_len : goal.returns-else-place-whole_len
returns-else-place-whole_len c =
    let at : At c.args.version c.args.bytes.now c.args.place = record { small = λ i. omega (arith, c.type_inv.bytes i); within = c.requires.within; begun = c.requires.begins } in
    let outside = c.if-place-whole_len.false in
    let late = c.if-place-start-2.false in
    let place = c.start-start.ensures.place in (
      λ test. let inside = ltb-true _ _ test in absurd (omega arith),
      λ more. let inside = (word_kept c.args.version c.args.bytes.now c.args.place at (omega (arith, place)) more).0 in let lies = rw (← place) at inside in absurd (omega (arith, c.whole_len.ensures)),
    )
