use Rattle.std.proofs.Common.{rules, arith, ◌≡◌, get_or}
use Rattle.md_asm_text.specs.Tokens.{digit_value}
use Rattle.md_asm_text.proofs.Values.{grown}
use Rattle.md_asm_text.proofs.words.+value_after.Goals as goal

pub overflow_mul-before : goal.overflow_mul-before
overflow_mul-before t c =
    let g = grown c.args.text.now c.args.before (omega arith) c.requires.few c.requires.digits c.requires.room in
    let h = g.fits in omega (arith, h)

pub overflow_add-before : goal.overflow_add-before
overflow_add-before t c =
    let g = grown c.args.text.now c.args.before (omega arith) c.requires.few c.requires.digits c.requires.room in
    let e : c.from.result ≡ digit_value (get_or c.args.text.now 0 0) = search rules in
    let h = g.fits in omega (arith, h, e)

pub value_after-requires : goal.value_after-requires
value_after-requires t c =
    let g = grown c.args.text.now c.args.before (omega arith) c.requires.few c.requires.digits c.requires.room in
    let e : c.from.result ≡ digit_value (get_or c.args.text.now 0 0) = search rules in
    let h = g.room in
    (search rules, (g.few, (g.digits, omega (arith, h, e))))
