-- Whether texts have the same tokens, as a test.
use Rattle.std.specs.Prelude.{Bool, true, false, ◌&&◌, ◌==◌, List, [], ◌∷◌}
use Rattle.std.specs.Str.{bytes_eq}
use Rattle.md_asm_text.specs.Tokens.{Token, Word, Number, Name, Mark}

abbrev pub alike : Token → Token → Bool
alike (Word a) (Word b) = bytes_eq a b
alike (Number a) (Number b) = a == b
alike (Name a) (Name b) = bytes_eq a b
alike (Mark a) (Mark b) = a == b
alike _ _ = false

unfoldable pub all_alike : List Token → List Token → Bool
all_alike [] [] = true
all_alike (p ∷ ps) (q ∷ qs) = alike p q && all_alike ps qs
all_alike _ _ = false
