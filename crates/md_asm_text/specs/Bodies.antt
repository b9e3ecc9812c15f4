-- What the tokens of a line are: a directive, or else what has to be an instruction.
use Rattle.std.specs.Prelude.{ℕ, Bool, true, false, ◌&&◌, ◌==◌, if◌then◌else◌, List, [], ◌∷◌, codes}
use Rattle.std.specs.Str.{bytes_eq}
use Rattle.md_asm_text.specs.Operands.{is_comma}
use Rattle.md_asm_text.specs.Tokens as tokens
use Rattle.md_asm_text.specs.Tokens.{Token}
use Rattle.md_asm_text.specs.declared.body.Body.{Body}
use Rattle.md_asm_text.specs.declared.body.Body.TheVariants.{Org, Main, Sub, Words, Bytes, Instruction}

-- the tokens after a space, or none
abbrev pub spaced : List Token → List Token
spaced (tokens.Mark c ∷ ps) = if c == 32 then ps else []
spaced ps = []

-- after `org`: a number
abbrev pub org : List Token → Body
org (tokens.Number n ∷ []) = Org n
org ps = Instruction

-- after `cpu z80`: a number
abbrev pub sub : List Token → Body
sub (tokens.Number n ∷ []) = Sub n
sub ps = Instruction

-- after `cpu`: which processor
abbrev pub cpu : List Token → Body
cpu (tokens.Word word ∷ []) = if bytes_eq word (codes "68000") then Main else Instruction
cpu (tokens.Name word ∷ ps) = if bytes_eq word (codes "z80") then sub (spaced ps) else Instruction
cpu ps = Instruction

abbrev pub is_value : Token → Bool
is_value (tokens.Number n) = true
is_value (tokens.Name name) = true
is_value token = false

-- numbers and names with commas between, one at least
unfoldable pub are_values : List Token → Bool
are_values [] = false
are_values (p ∷ []) = is_value p
are_values (p ∷ q ∷ ps) = is_value p && is_comma q && are_values ps

-- after `dc`
abbrev pub dc : List Token → Body
dc (tokens.Mark c ∷ tokens.Word word ∷ ps) =
    if c == 46 && bytes_eq word (codes "w") && are_values (spaced ps) then Words else Instruction
dc ps = Instruction

-- after `db`
abbrev pub db : List Token → Body
db ps = if are_values (spaced ps) then Bytes else Instruction

-- after the first word
abbrev pub named : List ℕ → List Token → Body
named word ps =
    if bytes_eq word (codes "org") then org (spaced ps)
    else (if bytes_eq word (codes "cpu") then cpu (spaced ps)
    else (if bytes_eq word (codes "dc") then dc ps
    else (if bytes_eq word (codes "db") then db ps else Instruction)))

unfoldable pub directive_of : List Token → Body
directive_of (tokens.Word word ∷ ps) = named word ps
directive_of ps = Instruction
