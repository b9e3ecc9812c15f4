-- What a push and a drop leave of the images.
use Rattle.std.proofs.Common.{◌≡◌, ◌∙◌, refl, sym, ap, ℕ, zero, suc, ◌+◌, ◌-◌, ◌≤◌, ◌⊎◌, inl, inr, min, List, [], ◌∷◌, ◌++◌, length, map, take, drop, arith, length-append, length-drop}
use Rattle.std.proofs.lemmas.List.{drop-map, drop-take, length-map, length-take, take-append-le, take-map, take_all}

taken : {A : Type 0} (a b : ℕ) (xs : List A) → a ≤ b → take a (take b xs) ≡ take a xs
taken zero b xs less = refl
taken (suc a) zero xs less = absurd (omega (arith, less))
taken (suc a) (suc b) [] less = refl
taken (suc a) (suc b) (x ∷ xs) less = ap (λ ys. x ∷ ys) (taken a b xs (omega (arith, less)))

-- the lesser of two counts
taken-least : {A : Type 0} (a b k : ℕ) (xs : List A) → k ≤ a → k ≤ b → (a ≤ k) ⊎ (b ≤ k) → take a (take b xs) ≡ take k xs
taken-least a b k xs one two (inl most) = let same : a ≡ k = omega arith in ap (λ n. take n (take b xs)) same ∙ taken k b xs two
taken-least a b k xs one two (inr most) =
    let same : b ≡ k = omega arith in
    ap (λ n. take a (take n xs)) same ∙ take_all a (take k xs) (omega (arith, length-take k xs))

least-of : (m count k : ℕ) → k + 1 ≡ min (count + 1) (m + 1) → (m ≤ k) ⊎ (count ≤ k)
least-of m count k is = grind (arith, is)

pushed-by : {A B : Type 0} (f : A → B) (m k count : ℕ) (xs : List A) (x : A) → k + 1 ≡ min (count + 1) (m + 1)
    → map f (take (suc k) (x ∷ take m xs)) ≡ take (suc m) (f x ∷ map f (take count xs))
pushed-by f m k count xs x is =
    ap (λ ys. f x ∷ ys)
    (ap (map f) (taken k m xs (omega (arith, is)))
    ∙ sym (take-map f m (take count xs) ∙ ap (map f) (taken-least m count k xs (omega (arith, is)) (omega (arith, is)) (least-of m count k is))))

-- one more in front, of which as many stay as there are places
pub pushed : {A B : Type 0} (f : A → B) (most count kept : ℕ) (xs : List A) (x : A) → 1 ≤ most → kept ≡ min (count + 1) most
    → map f (take kept (x ∷ take (most - 1) xs)) ≡ take most (f x ∷ map f (take count xs))
pushed f most count kept xs x some is =
    let m : ℕ = most - 1 in
    let k : ℕ = kept - 1 in
    let all : most ≡ suc m = omega (arith, some) in
    let left : kept ≡ suc k = omega (arith, some, is) in
    ap (λ (n : ℕ). map f (take n (x ∷ take m xs))) left
    ∙ pushed-by f m k count xs x (omega (arith, some, is))
    ∙ ap (λ (n : ℕ). take n (f x ∷ map f (take count xs))) (sym all)

-- some of the first ones less
pub dropped : {A B : Type 0} (f : A → B) (count n : ℕ) (xs : List A) → n ≤ count → count ≤ length xs
    → map f (take (count - n) (drop n xs ++ take n xs)) ≡ drop n (map f (take count xs))
dropped f count n xs few within =
    let parts : n + (count - n) ≡ count = omega (arith, few) in
    ap (map f) (take-append-le (count - n) (drop n xs) (take n xs) (omega (arith, within, length-drop n xs)))
    ∙ ap (map f) (sym (drop-take n (count - n) xs) ∙ ap (λ (k : ℕ). drop n (take k xs)) parts)
    ∙ sym (drop-map f n (take count xs))

pub turned-long : {A : Type 0} (n : ℕ) (xs : List A) → length (drop n xs ++ take n xs) ≡ length xs
turned-long n xs = omega (arith, length-append (drop n xs) (take n xs), length-drop n xs, length-take n xs)

pub few-kept : {A B : Type 0} (f : A → B) (count : ℕ) (xs : List A) → length (map f (take count xs)) ≤ count
few-kept f count xs = omega (arith, length-map (take count xs) f, length-take count xs)

pub one-more-long : {A : Type 0} (x : A) (xs : List A) → 1 ≤ length xs → length (x ∷ take (length xs - 1) xs) ≡ length xs
one-more-long x xs some = omega (arith, length-take (length xs - 1) xs, some)
