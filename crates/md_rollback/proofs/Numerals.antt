-- Bytes that are no text are no line.
use Rattle.std.proofs.Common.{◌≡◌, ℕ, Bool, true, false, if◌then◌else◌, refl, ap, List, None}
use Rattle.std.specs.List.{list_all}
use Rattle.std.specs.Str.{IsUtf8}
use Rattle.std.proofs.lemmas.Str.{IsUtf8-from_ascii}
use Rattle.debug_text.specs.Commands.{is_seven_bit}
use Rattle.text_lines.proofs.Ascii.{ascii_of}
use Rattle.md_rollback.specs.Lines.{line_in, line_of}

-- bytes that are no text have one that is not ASCII
pub no-text : (line : List ℕ) → ¬ IsUtf8 line → line_of line ≡ None
no-text line other = by (list_all is_seven_bit line) refl where
  by : (b : Bool) → list_all is_seven_bit line ≡ b → line_of line ≡ None
  by true all = absurd (other (IsUtf8-from_ascii line (ascii_of line all)))
  by false some = ap (λ (b : Bool). if b then line_in line else None) some
