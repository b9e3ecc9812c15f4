-- How long a line is, whether its numbers fit, and its bytes.
use Rattle.std.specs.Prelude.{ℕ, ◌+◌, ◌*◌, ◌%◌, Bool, true, false, not, ◌||◌, ◌==◌, nat_le, if◌then◌else◌, List, [], ◌∷◌, length, Option, Some, None, option_map, is_some}
use Rattle.md_asm_text.specs.Tokens as tokens
use Rattle.md_asm_text.specs.Tokens.{Token}
use Rattle.md_asm_text.specs.declared.body.Body.{Body}
use Rattle.md_asm_text.specs.declared.body.Body.TheVariants as bodies
use Rattle.md_asm.specs.Codes.{code}
use Rattle.md_asm.specs.Numbers.{alone, any_over, bytes_of, count, filled, has_name, words_of}

-- The length of a line, or none where it is no line: its numbers do not matter, so each is 8, at an
-- address from which 8 is in reach of every branch.
abbrev pub size : Bool → Body → List Token → Option ℕ
size z80 bodies.Bad line_tokens = None
size z80 bodies.Words line_tokens = Some (2 * count line_tokens)
size z80 bodies.Bytes line_tokens = Some (count line_tokens)
size z80 bodies.Instruction line_tokens = option_map length (code z80 (filled line_tokens) 4)
size z80 bodies.Nothing line_tokens = Some 0
size z80 (bodies.Org place) line_tokens = Some 0
size z80 bodies.Main line_tokens = Some 0
size z80 (bodies.Sub at) line_tokens = Some 0

-- the address 4 below, from which a branch to a number is in its reach
abbrev pub under : Bool → ℕ → ℕ
under true n = (n + 65532) % 65536
under false n = (n + 4294967292) % 4294967296

-- a number does not fit: with 8 for all others there is no such instruction
abbrev pub misfit : Bool → List Token → ℕ → Token → Bool
misfit z80 line_tokens i (tokens.Number n) = not (is_some (code z80 (alone line_tokens i (tokens.Number n)) (under z80 n)))
misfit z80 line_tokens i token = false

-- one from a place on does not
unfoldable pub misfits : Bool → List Token → ℕ → List Token → Bool
misfits z80 line_tokens i [] = false
misfits z80 line_tokens i (token ∷ more) = misfit z80 line_tokens i token || misfits z80 line_tokens (i + 1) more

-- a number of a line does not fit
abbrev pub is_unfit : Bool → Body → List Token → Bool
is_unfit z80 (bodies.Sub at) line_tokens = nat_le 65536 at
is_unfit z80 bodies.Words line_tokens = any_over 65536 line_tokens
is_unfit z80 bodies.Bytes line_tokens = any_over 256 line_tokens
is_unfit z80 bodies.Instruction line_tokens = misfits z80 line_tokens 0 line_tokens
is_unfit z80 bodies.Bad line_tokens = false
is_unfit z80 bodies.Nothing line_tokens = false
is_unfit z80 (bodies.Org place) line_tokens = false
is_unfit z80 bodies.Main line_tokens = false

-- the bytes of a line without names, or none where no instruction's text is the line's at its address
abbrev pub content : Bool → Body → List Token → ℕ → Option (List ℕ)
content z80 bodies.Words line_tokens at = Some (words_of line_tokens)
content z80 bodies.Bytes line_tokens at = Some (bytes_of line_tokens)
content z80 bodies.Instruction line_tokens at = code z80 line_tokens at
content z80 bodies.Bad line_tokens at = Some []
content z80 bodies.Nothing line_tokens at = Some []
content z80 (bodies.Org place) line_tokens at = Some []
content z80 bodies.Main line_tokens at = Some []
content z80 (bodies.Sub n) line_tokens at = Some []

-- the outcome of a line once all names have their values
pub data Settled : Type 0 where
  Good : List ℕ → Settled
  Unknown : Settled
  Unfit : Settled
  Far : Settled

-- bytes of the line's length
abbrev pub sized : ℕ → Option (List ℕ) → Settled
sized long None = Far
sized long (Some bytes) = if length bytes == long then Good bytes else Far

-- A name that has no value is unknown. The line's own numbers fit already, so that a number which does not is a
-- name's. Else its bytes are those of its length.
abbrev pub settled_line : Bool → Body → ℕ → List Token → ℕ → Settled
settled_line z80 body long line_tokens at =
    if has_name line_tokens then Unknown else (if is_unfit z80 body line_tokens then Unfit else sized long (content z80 body line_tokens at))
