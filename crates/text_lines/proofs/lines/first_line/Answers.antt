use Rattle.std.proofs.Common.{◌≡◌, ℕ, ◌+◌, ◌-◌, List, [], ◌∷◌, length, take, drop, sym, ap, ◌∙◌, arith}
use Rattle.std.proofs.lemmas.List.{length-drop, take_all}
use Rattle.text_lines.specs.Lines.{lines_of}
use Rattle.text_lines.proofs.FirstLine.{last_line, line_cut, no_line}
use Rattle.text_lines.proofs.lines.first_line.Goals as goal

pub returns-then-end-text-clause-lines : goal.returns-then-end-text-clause-lines
returns-then-end-text-clause-lines c =
    let text = c.args.text.now in
    let end = c.line_end-end.result in
    let rest : take (length text - (end + 1)) (drop (end + 1) text) ≡ drop (end + 1) text = take_all (length text - (end + 1)) (drop (end + 1) text) (omega (arith, length-drop (end + 1) text)) in
    line_cut text end c.if-end-text.true (c.line_end-end.ensures.found c.if-end-text.true) c.line_end-end.ensures.before
    ∙ ap (λ (l : List ℕ). take end text ∷ lines_of l) (sym rest)

pub returns-else-end-text-clause-lines : goal.returns-else-end-text-clause-lines
returns-else-end-text-clause-lines c =
    let text = c.args.text.now in
    let end = c.line_end-end.result in
    let within = c.line_end-end.ensures.within in
    let late = c.if-end-text.false in
    let whole : end ≡ length text = omega arith in
    let none : take (length text - end) (drop end text) ≡ [] = nothing (length text - end) (drop end text) (omega arith) in
    last_line text c.requires (λ k below. c.line_end-end.ensures.before k (omega (arith, below, whole)))
    ∙ ap (λ (l : List (List ℕ)). text ∷ l) (sym no_line ∙ ap lines_of (sym none)) where
      nothing : (n : ℕ) (l : List ℕ) → n ≡ 0 → take n l ≡ []
      nothing n l is = ap (λ (k : ℕ). take k l) is
