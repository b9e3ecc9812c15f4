-- What holds of the lines that are kept for the second round.
use Rattle.std.specs.Prelude.{ℕ, ◌≡◌, ◌+◌, ◌<◌, ◌≤◌, Bool, true, List, [], ◌∷◌, Option, Some, IfSome, Vec, length, vec_len}
use Rattle.std.specs.declared.alloc.Global.{Global}
use Rattle.md_asm_text.specs.Lines.{Line}
use Rattle.md_asm_text.specs.Tokens.{Token, tokens}
use Rattle.md_asm_text.specs.declared.body.Body.{Body}
use Rattle.md_asm.specs.Contents.{Far, Good, Settled, Unfit, Unknown, is_unfit, settled_line, size}
use Rattle.md_asm.specs.Numbers.{Names, resolved}
use Rattle.md_asm.specs.declared.entry.Entry.{Entry}
use Rattle.md_asm.specs.declared.measuring.Measured.{Measured}
use Rattle.md_asm.specs.declared.pass.Pass.{Pass}
use Rattle.md_asm.specs.Places.{address, image_limit, is_sub}
use Rattle.md_asm.specs.Rounds.{Round}

-- a line results in these bytes whatever values names have
abbrev pub SettlesOn : Bool → Body → ℕ → List Token → ℕ → List ℕ → Type 0
SettlesOn sub body long line_tokens at bytes = (names : Names) → settled_line sub body long (resolved names line_tokens) at ≡ Good bytes

-- a line's length, whether a number that is written in it does not fit, and the bytes that it has whatever names mean
pub record IsMeasured (sub : Bool) (body : Body) (line_tokens : List Token) (at : ℕ) (measured : Measured) : Type 0 where
  pub long : size sub body line_tokens ≡ Some measured.long
  pub unfit : measured.unfit ≡ is_unfit sub body line_tokens
  pub known : IfSome measured.bytes (λ bytes. SettlesOn sub body measured.long line_tokens at bytes.items)

-- it ends below 400000h, has an address of its processor, and the bytes that it has are its own
pub record IsKept (entry : Entry) : Type 0 where
  pub low : entry.place + entry.long ≤ image_limit
  pub addressed : entry.z80 ≡ true → entry.address < 65536
  pub known : IfSome entry.bytes (λ bytes. SettlesOn entry.z80 entry.body entry.long (tokens entry.text.now) entry.address bytes.items)

abbrev pub AreKept : List Entry → Type 0
AreKept [] = Unit {0}
AreKept (entry ∷ more) = IsKept entry × AreKept more

pub record IsPass (pass : Pass) : Type 0 where
  pub whole : vec_len pass.cells.marks ≡ image_limit
  pub kept : AreKept pass.entries.items

-- the bytes that a line has after the lines so far are its own
abbrev pub IsKnown : Round → Line → ℕ → Option (Vec ℕ Global) → Type 0
IsKnown round line long bytes =
    IfSome bytes (λ own. SettlesOn (is_sub round.processor) line.body long (tokens line.text) (address round.processor round.place) own.items)

-- the bytes of a line have room at its place
abbrev pub FitsAt : Settled → ℕ → ℕ → Type 0
FitsAt (Good bytes) place room = place + length bytes ≤ room
FitsAt Unknown place room = Unit {0}
FitsAt Unfit place room = Unit {0}
FitsAt Far place room = Unit {0}
