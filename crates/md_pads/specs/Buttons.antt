-- The buttons of a pad, and their bits in its word. This project's profile.
use Rattle.std.specs.Prelude.{ℕ, ◌^◌, List, [], ◌∷◌, codes}
use Rattle.md_pads.specs.declared.buttons.Buttons.{Buttons}

-- the word of a set of buttons
abbrev pub word_of : Buttons → ℕ
word_of buttons = buttons.0

-- the places of the buttons in the word of a pad, where a pressed one is 1
abbrev pub up : ℕ
up = 0

-- the place of Down
abbrev pub down : ℕ
down = 1

-- the place of Left
abbrev pub left : ℕ
left = 2

-- the place of Right
abbrev pub right : ℕ
right = 3

-- the place of B
abbrev pub button_b : ℕ
button_b = 4

-- the place of C
abbrev pub button_c : ℕ
button_c = 5

-- the place of A
abbrev pub button_a : ℕ
button_a = 6

-- the place of Start
abbrev pub start : ℕ
start = 7

-- the place of Z, which a six-button pad has, as the three below
abbrev pub button_z : ℕ
button_z = 8

-- the place of Y
abbrev pub button_y : ℕ
button_y = 9

-- the place of X
abbrev pub button_x : ℕ
button_x = 10

-- the place of Mode
abbrev pub mode : ℕ
mode = 11

-- the name and the bit of each button
abbrev pub button_table : List (List ℕ × ℕ)
button_table =
    (codes "UP", 2 ^ up) ∷ (codes "DOWN", 2 ^ down) ∷ (codes "LEFT", 2 ^ left) ∷ (codes "RIGHT", 2 ^ right)
    ∷ (codes "B", 2 ^ button_b) ∷ (codes "C", 2 ^ button_c) ∷ (codes "A", 2 ^ button_a) ∷ (codes "START", 2 ^ start)
    ∷ (codes "Z", 2 ^ button_z) ∷ (codes "Y", 2 ^ button_y) ∷ (codes "X", 2 ^ button_x) ∷ (codes "MODE", 2 ^ mode) ∷ []
