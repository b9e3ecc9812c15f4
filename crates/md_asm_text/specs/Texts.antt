-- Parts of a text: what is before a character and after it, and what is left without blanks at either end.
use Rattle.std.specs.Prelude.{ℕ, Bool, false, ◌||◌, ◌==◌, if◌then◌else◌, List, [], ◌∷◌, reverse}

-- the text before the first such character
unfoldable pub before : ℕ → List ℕ → List ℕ
before mark [] = []
before mark (c ∷ cs) = if c == mark then [] else c ∷ before mark cs

-- the text after it
unfoldable pub following : ℕ → List ℕ → List ℕ
following mark [] = []
following mark (c ∷ cs) = if c == mark then cs else following mark cs

-- whether there is one
unfoldable pub has : ℕ → List ℕ → Bool
has mark [] = false
has mark (c ∷ cs) = c == mark || has mark cs

-- a space or a tab
abbrev pub is_blank : ℕ → Bool
is_blank c = c == 32 || c == 9

-- a text without the blanks at the start
unfoldable pub unblanked : List ℕ → List ℕ
unblanked [] = []
unblanked (c ∷ cs) = if is_blank c then unblanked cs else c ∷ cs

-- a text without the blanks at its end
abbrev pub cut_back : List ℕ → List ℕ
cut_back text = reverse (unblanked (reverse text))
