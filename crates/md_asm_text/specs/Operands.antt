-- The operands of an instruction's text: a comma is between them.
use Rattle.std.specs.Prelude.{Bool, true, false, ◌&&◌, ◌==◌, not, if◌then◌else◌, List, [], ◌∷◌}
use Rattle.md_asm_text.specs.Tokens as tokens
use Rattle.md_asm_text.specs.Tokens.{Token}

-- whether brackets are open after a token
abbrev pub opens : Bool → Token → Bool
opens inside (tokens.Mark c) = if c == 40 then true else (if c == 41 then false else inside)
opens inside _ = inside

abbrev pub is_comma : Token → Bool
is_comma (tokens.Mark c) = c == 44
is_comma _ = false

-- the operand before the first comma outside brackets, and the one after it
abbrev pub Operands : Type 0
Operands = List Token × List Token

unfoldable pub operands_of : Bool → List Token → Operands
operands_of inside [] = ([], [])
operands_of inside (p ∷ ps) =
    if not inside && is_comma p then ([], ps) else (p ∷ (operands_of (opens inside p) ps).0, (operands_of (opens inside p) ps).1)
