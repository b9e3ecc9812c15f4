-- Bytes that are written to a memory are there, and leave all others.
use Rattle.std.proofs.Common.{◌≡◌, ℕ, ◌+◌, ◌-◌, ◌<◌, ◌≤◌, ◌⊎◌, inl, inr, List, ◌++◌, length, get_or, take, drop, length-append, length-drop, ap, ◌∙◌, arith}
use Rattle.std.proofs.lemmas.List.{get_or_append_left, get_or-append_right, get_or-drop, get_or-take, length-replicate, length-take-le}
use Rattle.md_asm.specs.Held.{StandsAt}
use Rattle.md_asm.specs.Places.{put, zeros}

pub zeros_long : (count : ℕ) → length (zeros count) ≡ count
unfolding zeros
zeros_long count = length-replicate count 0

-- the length of the prefix and the bytes
front_long : (memory : List ℕ) (place : ℕ) (bytes : List ℕ) → place + length bytes ≤ length memory → length (take place memory ++ bytes) ≡ place + length bytes
front_long memory place bytes h =
    let front = length-take-le place memory (omega arith) in
    omega (arith, front, length-append (take place memory) bytes)

pub put_long : (memory : List ℕ) (place : ℕ) (bytes : List ℕ) → place + length bytes ≤ length memory → length (put memory place bytes) ≡ length memory
unfolding put
put_long memory place bytes h =
    let front = front_long memory place bytes h in
    omega (arith, front, length-append (take place memory ++ bytes) (drop (place + length bytes) memory), length-drop (place + length bytes) memory)

after_by : (a b : ℕ) → a + b - a ≡ b
after_by a b = omega arith

pub put_stands : (memory : List ℕ) (place : ℕ) (bytes : List ℕ) → place + length bytes ≤ length memory → StandsAt (put memory place bytes) place bytes
unfolding put
put_stands memory place bytes h k within =
    let long = front_long memory place bytes h in
    let front = length-take-le place memory (omega arith) in
    get_or_append_left (take place memory ++ bytes) (drop (place + length bytes) memory) 0 (place + k) (omega arith)
    ∙ get_or-append_right (take place memory) bytes place (place + k) 0 front (omega arith)
    ∙ ap (λ (n : ℕ). get_or bytes n 0) (after_by place k)

-- a place before the bytes or after them is left
pub put_leaves : (memory : List ℕ) (place : ℕ) (bytes : List ℕ) (k : ℕ) → place + length bytes ≤ length memory → (k < place) ⊎ (place + length bytes ≤ k)
    → get_or (put memory place bytes) k 0 ≡ get_or memory k 0
unfolding put
put_leaves memory place bytes k h (inl below) =
    let long = front_long memory place bytes h in
    let front = length-take-le place memory (omega arith) in
    get_or_append_left (take place memory ++ bytes) (drop (place + length bytes) memory) 0 k (omega arith)
    ∙ get_or_append_left (take place memory) bytes 0 k (omega arith)
    ∙ get_or-take place memory k 0 below
put_leaves memory place bytes k h (inr above) =
    let long = front_long memory place bytes h in
    let back : place + length bytes + (k - (place + length bytes)) ≡ k = omega arith in
    get_or-append_right (take place memory ++ bytes) (drop (place + length bytes) memory) (place + length bytes) k 0 long above
    ∙ get_or-drop (place + length bytes) memory (k - (place + length bytes)) 0
    ∙ ap (λ (n : ℕ). get_or memory n 0) back

-- the prefix of a memory that the bytes end in has them too
pub take_stands : (memory : List ℕ) (place end : ℕ) (bytes : List ℕ) → place + length bytes ≤ end → StandsAt memory place bytes → StandsAt (take end memory) place bytes
take_stands memory place end bytes h stands k within =
    get_or-take end memory (place + k) 0 (omega arith) ∙ stands k within
