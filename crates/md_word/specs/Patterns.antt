-- The patterns of a manual's table of opcodes, as text: 0 and 1 stand for themselves, a letter for any
-- bit, and a blank for nothing.
use Rattle.std.specs.Prelude.{ℕ, Bool, true, List, [], ◌∷◌, ◌+◌, ◌*◌, ◌==◌, nat_le, if◌then◌else◌}

-- the bits that a pattern fixes
abbrev pub mask_of : List ℕ → ℕ → ℕ
mask_of [] so_far = so_far
mask_of (c ∷ cs) so_far = mask_of cs (if c == 32 then so_far else (if nat_le c 49 then (so_far * 2 + 1) else (so_far * 2)))

-- what a pattern fixes them to; every other bit is 0
abbrev pub bits_of : List ℕ → ℕ → ℕ
bits_of [] so_far = so_far
bits_of (c ∷ cs) so_far = bits_of cs (if c == 32 then so_far else (if c == 49 then (so_far * 2 + 1) else (so_far * 2)))

-- what is allowed of the other bits: all of it
abbrev pub all : ℕ → Bool
all w = true
