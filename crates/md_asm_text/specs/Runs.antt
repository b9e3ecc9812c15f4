-- A text after the word that it begins with.
use Rattle.std.specs.Prelude.{ℕ, ◌+◌, List, [], ◌∷◌, if◌then◌else◌}
use Rattle.md_asm_text.specs.Tokens.{Token, Mark, is_worded, split}

-- how many characters of a word a text begins with
abbrev pub run : List ℕ → ℕ
run [] = 0
run (c ∷ cs) = if is_worded c then 1 + run cs else 0

-- the tokens from a character on that belongs to no word
abbrev pub marks : List ℕ → List Token
marks [] = []
marks (c ∷ cs) = Mark c ∷ split [] cs
