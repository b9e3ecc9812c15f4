-- A padded list gives its numbers back, and the numbers of a padded list give it again.
use Rattle.std.proofs.Common.{◌≡◌, ◌≢◌, ℕ, zero, suc, ◌+◌, ◌-◌, ◌≤◌, Bool, true, false, ◌&&◌, eqb, List, [], ◌∷◌, ◌++◌, length, take, drop, replicate, refl, sym, ap, ◌∙◌, arith}
use Rattle.std.specs.Int.{w64, from_be_bytes, to_be_bytes}
use Rattle.std.proofs.lemmas.Nat.{be_bytes_8}
use Rattle.std.proofs.lemmas.Bool.{eqb-true, and_parts}
use Rattle.std.proofs.lemmas.List.{drop-drop, length-take, length-drop, take-append-drop, take_at, drop_at, length-append, length-replicate}
use Rattle.md_fields.specs.Padding.{padded, are_zeros}
use Rattle.md_fields.specs.Places.{IsBytes, number_at}
use Rattle.md_fields.proofs.Standing.{IsBytes-drop, IsBytes-take}

zeros_are : (ns : List ℕ) → are_zeros ns ≡ true → replicate (length ns) 0 ≡ ns
zeros_are [] e = refl
zeros_are (n ∷ ns) e =
    let p = and_parts (eqb n 0) (are_zeros ns) e in
    let h : 0 ≡ n = sym (eqb-true n 0 p.0) in
    λ i. h i ∷ zeros_are ns p.1 i

are_zeros_replicate : (n : ℕ) → are_zeros (replicate n 0) ≡ true
are_zeros_replicate zero = refl
are_zeros_replicate (suc n) = are_zeros_replicate n

-- where zeros are after the first numbers, these padded are the list
pub padded_back : (size count : ℕ) (ns : List ℕ) → length ns ≡ size → count ≤ size → are_zeros (drop count ns) ≡ true → padded size (take count ns) ≡ ns
padded_back size count ns len le e =
    let rest : size - length (take count ns) ≡ length (drop count ns) = omega (arith, len, le, length-take count ns, length-drop count ns) in
    ap (λ (k : ℕ). take count ns ++ replicate k 0) rest ∙ ap (λ (l : List ℕ). take count ns ++ l) (zeros_are (drop count ns) e) ∙ take-append-drop count ns

-- the first numbers of a padded list are those that were padded
pub padded_again : (size : ℕ) (ns : List ℕ) → take (length ns) (padded size ns) ≡ ns
padded_again size ns = take_at ns (replicate (size - length ns) 0) (length ns) refl

-- what is after them is zero
pub padded_zeros : (size : ℕ) (ns : List ℕ) → are_zeros (drop (length ns) (padded size ns)) ≡ true
padded_zeros size ns = ap are_zeros (drop_at ns (replicate (size - length ns) 0) (length ns) refl) ∙ are_zeros_replicate (size - length ns)

-- a padded list has the size
pub padded_length : (size : ℕ) (ns : List ℕ) → length ns ≤ size → length (padded size ns) ≡ size
padded_length size ns le = omega (arith, le, length-append ns (replicate (size - length ns) 0), length-replicate {A = ℕ} (size - length ns) 0)

-- ---- eight at a time

and_joined : (a b c : Bool) → (a && (b && c)) ≡ ((a && b) && c)
and_joined true b c = refl
and_joined false b c = refl

zeros_joined : (a b : List ℕ) → are_zeros (a ++ b) ≡ (are_zeros a && are_zeros b)
zeros_joined [] b = refl
zeros_joined (n ∷ ns) b = ap (λ (x : Bool). eqb n 0 && x) (zeros_joined ns b) ∙ and_joined (eqb n 0) (are_zeros ns) (are_zeros b)

zeros_split : (place : ℕ) (bytes : List ℕ) → are_zeros (drop place bytes) ≡ (are_zeros (take 8 (drop place bytes)) && are_zeros (drop (place + 8) bytes))
zeros_split place bytes =
    ap are_zeros (sym (take-append-drop 8 (drop place bytes))) ∙ zeros_joined (take 8 (drop place bytes)) (drop 8 (drop place bytes))
    ∙ ap (λ (l : List ℕ). are_zeros (take 8 (drop place bytes)) && are_zeros l) (drop-drop 8 place bytes)

eight_long : (place : ℕ) (bytes : List ℕ) → place + 8 ≤ length bytes → length (take 8 (drop place bytes)) ≡ 8
eight_long place bytes room = omega (arith, room, length-take 8 (drop place bytes), length-drop place bytes)

-- eight bytes that are the number 0 are zeros, and what is after them decides the rest
pub eight_more : (place : ℕ) (bytes : List ℕ) → IsBytes bytes → place + 8 ≤ length bytes → number_at w64 place bytes ≡ 0 → are_zeros (drop (place + 8) bytes) ≡ are_zeros (drop place bytes)
unfolding number_at
eight_more place bytes fits room e =
    let zeros : to_be_bytes w64 0 ≡ take 8 (drop place bytes) = be_bytes_8 (take 8 (drop place bytes)) 0 (eight_long place bytes room) (IsBytes-take 8 _ (IsBytes-drop place bytes fits)) (sym e) in
    sym (zeros_split place bytes ∙ ap (λ (l : List ℕ). are_zeros l && are_zeros (drop (place + 8) bytes)) (sym zeros))

-- eight bytes that are another number are not zeros
pub eight_not : (place : ℕ) (bytes : List ℕ) → place + 8 ≤ length bytes → number_at w64 place bytes ≢ 0 → are_zeros (drop place bytes) ≡ false
unfolding number_at
eight_not place bytes room other = zeros_split place bytes ∙ by (are_zeros (take 8 (drop place bytes))) refl where
  by : (b : Bool) → are_zeros (take 8 (drop place bytes)) ≡ b → (b && are_zeros (drop (place + 8) bytes)) ≡ false
  by false e = refl
  by true e = absurd (other (ap (from_be_bytes w64) (sym (zeros_are (take 8 (drop place bytes)) e) ∙ ap (λ (n : ℕ). replicate n 0) (eight_long place bytes room))))
