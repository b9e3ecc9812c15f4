-- A line of such a text.
use Rattle.std.proofs.Common.{◌≡◌, ℕ, Bool, true, false, not, ◌&&◌, List, [], ◌∷◌, refl, codes, None}
use Rattle.std.specs.Str.{bytes_eq}
use Rattle.std.proofs.lemmas.Bool.{and_parts, not-true}
use Rattle.md_asm_text.specs.Tokens as tokens
use Rattle.md_asm_text.specs.Tokens.{Token, every, is_worded}
use Rattle.md_asm_text.specs.Bodies.{named, directive_of}
use Rattle.md_asm_text.specs.Lines.{Line, body_of, line_of}
use Rattle.md_asm_text.specs.Texts.{before, has}
use Rattle.md_asm_text.specs.declared.body.Body.{Body}
use Rattle.md_asm_text.specs.declared.body.Body.TheVariants as bodies
use Rattle.md_asm.proofs.Solid.{IsText, before_all, cut_same, has_none, opens, solid, unblanked_same}

-- a line of an instruction, without a label
abbrev pub instruction_line : List ℕ → Line
instruction_line text = record { label = None; text = text; body = bodies.Instruction }

body_is : (text : List ℕ) (body : Body) → opens text ≡ true → directive_of (tokens.tokens text) ≡ body → body_of text ≡ body
body_is [] body h is = cc
body_is (c ∷ cs) body h is = is

-- a line of a text is the text
pub line_is : (text : List ℕ) (body : Body) → IsText text → directive_of (tokens.tokens text) ≡ body → line_of text ≡ record { label = None; text = text; body = body }
unfolding line_of
line_is text body is reports =
    let front : before 59 text ≡ text = before_all 59 text is.clean refl in
    let none : has 58 text ≡ false = has_none 58 text is.clean refl in
    rw (front, unblanked_same text is.front, cut_same text is.back, none, body_is text body is.front reports) refl

-- a name is a word and no directive's
abbrev pub is_free : List ℕ → Bool
is_free name =
    solid name && (every is_worded name
    && (not (bytes_eq name (codes "org")) && (not (bytes_eq name (codes "cpu")) && (not (bytes_eq name (codes "dc")) && not (bytes_eq name (codes "db"))))))

pub record IsFree (name : List ℕ) : Type 0 where
  pub solid_too : solid name ≡ true
  pub worded : every is_worded name ≡ true
  pub body : (ps : List Token) → named name ps ≡ bodies.Instruction

pub free : (name : List ℕ) → is_free name ≡ true → IsFree name
free name h =
    let a = and_parts (solid name) _ h in
    let b = and_parts (every is_worded name) _ a.1 in
    let c = and_parts (not (bytes_eq name (codes "org"))) _ b.1 in
    let d = and_parts (not (bytes_eq name (codes "cpu"))) _ c.1 in
    let e = and_parts (not (bytes_eq name (codes "dc"))) (not (bytes_eq name (codes "db"))) d.1 in record {
      solid_too = a.0;
      worded = b.0;
      body = λ ps. rw (not-true (bytes_eq name (codes "org")) c.0, not-true (bytes_eq name (codes "cpu")) d.0, not-true (bytes_eq name (codes "dc")) e.0, not-true (bytes_eq name (codes "db")) e.1) refl;
    }
