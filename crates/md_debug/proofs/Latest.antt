-- The instructions that are remembered.
use Rattle.std.proofs.Common.{◌≡◌, ℕ, ◌+◌, ◌-◌, ◌≤◌, List, [], ◌++◌, length, drop, sym, ap, ◌∙◌, append-nil, append_assoc, length-append, length-drop, arith}
use Rattle.std.proofs.lemmas.List.{drop-append-le, drop-drop}
use Rattle.circular_buffer.specs.Buffer.{keep_last}
use Rattle.md_debug.specs.Going.{latest, most_begun}

-- as many as there may be are all kept
all_last : (n : ℕ) (xs : List ℕ) → length xs ≤ n → keep_last n xs ≡ xs
all_last n xs few = ap (λ (k : ℕ). drop k xs) none where
  none : length xs - n ≡ 0
  none = omega arith

last_of_last : (n : ℕ) (xs ys : List ℕ) → keep_last n (keep_last n xs ++ ys) ≡ keep_last n (xs ++ ys)
last_of_last n xs ys =
    let k : ℕ = length xs - n in
    let part : drop k xs ++ ys ≡ drop k (xs ++ ys) = sym (drop-append-le k xs ys (omega arith)) in
    let sizes : k + (length (drop k xs ++ ys) - n) ≡ length (xs ++ ys) - n = omega (arith, length-append (drop k xs) ys, length-drop k xs, length-append xs ys) in
    ap (drop (length (drop k xs ++ ys) - n)) part
    ∙ drop-drop (length (drop k xs ++ ys) - n) k (xs ++ ys)
    ∙ ap (λ (j : ℕ). drop j (xs ++ ys)) sizes

pub latest_same : (xs : List ℕ) → length xs ≤ most_begun → xs ≡ latest (xs ++ [])
latest_same xs few = sym (ap latest (append-nil xs) ∙ all_last most_begun xs few)

-- those of two runs one after another
pub latest_more : (start mid after first later : List ℕ) → mid ≡ latest (start ++ first) → after ≡ latest (mid ++ later) → after ≡ latest (start ++ (first ++ later))
latest_more start mid after first later so_far next =
    next ∙ ap (λ (l : List ℕ). latest (l ++ later)) so_far ∙ last_of_last most_begun (start ++ first) later
    ∙ ap latest (append_assoc start first later)
