use Rattle.std.proofs.Common.{◌≡◌, length}
use Rattle.text_lines.specs.Digits.{is_hexadecimal}
use Rattle.md_asm_text.specs.Tokens.{every}
use Rattle.md_asm_text.proofs.words.are_hexadecimal.Given as goal

abbrev pub invariant-loop-rest : goal.invariant-loop-rest
invariant-loop-rest l = every is_hexadecimal l.fn.text ≡ every is_hexadecimal l.rest

abbrev pub decreases-loop-rest : goal.decreases-loop-rest
decreases-loop-rest l = length l.rest
