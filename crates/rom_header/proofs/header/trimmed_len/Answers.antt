use Rattle.std.proofs.Common.{◌≡◌, ◌<◌, ◌-◌, ◌∙◌, false, get_or, sym, arith}
use Rattle.std.proofs.lemmas.List.Sums.{suffix_len_is}
use Rattle.rom_header.specs.Header.{is_blank}
use Rattle.rom_header.proofs.header.trimmed_len.Goals as goal

pub returns-else-is_blank-clause-value : goal.returns-else-is_blank-clause-value
returns-else-is_blank-clause-value c =
    let stops : 0 < c.blanks.len → is_blank (get_or c.args.field.now (c.blanks.len - 1) 0) ≡ false = λ some. sym c.is_blank.ensures ∙ c.if-is_blank.false in
    omega (arith, suffix_len_is is_blank c.args.field.now c.blanks.len 0 c.blanks.invariant.within c.blanks.invariant.blanks stops, c.blanks.invariant.within)

pub returns-after-blanks-clause-value : goal.returns-after-blanks-clause-value
returns-after-blanks-clause-value c =
    omega (arith, suffix_len_is is_blank c.args.field.now c.blanks.len 0 c.blanks.invariant.within c.blanks.invariant.blanks (λ some. absurd (omega arith)), c.blanks.invariant.within)
