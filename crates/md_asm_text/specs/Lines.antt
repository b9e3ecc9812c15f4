-- What a line of a source is.
use Rattle.std.specs.Prelude.{ℕ, if◌then◌else◌, List, [], ◌∷◌, Option, Some, None}
use Rattle.md_asm_text.specs.Tokens.{is_name, tokens}
use Rattle.md_asm_text.specs.Bodies.{directive_of}
use Rattle.md_asm_text.specs.Texts.{before, following, cut_back, has, unblanked}
use Rattle.md_asm_text.specs.declared.body.Body.{Body}
use Rattle.md_asm_text.specs.declared.body.Body.TheVariants.{Nothing, Bad}

-- a label, if any; the text after it, without blanks at either end; and what this is
pub record Line : Type 0 where
  pub label : Option (List ℕ)
  pub text : List ℕ
  pub body : Body

-- what a text without blanks at either end is
abbrev pub body_of : List ℕ → Body
body_of [] = Nothing
body_of (c ∷ cs) = directive_of (tokens (c ∷ cs))

abbrev pub with_body : Option (List ℕ) → List ℕ → Line
with_body label text = record { label = label; text = text; body = body_of text }

abbrev pub bad : Line
bad = record { label = None; text = []; body = Bad }

-- before the first colon is a name
abbrev pub labelled : List ℕ → Line
labelled text =
    if has 58 text then (if is_name (before 58 text) then with_body (Some (before 58 text)) (unblanked (following 58 text)) else bad)
    else with_body None text

-- a line: the comment is cut off, then the blanks at both ends, then the label
unfoldable pub line_of : List ℕ → Line
line_of text = labelled (cut_back (unblanked (before 59 text)))
