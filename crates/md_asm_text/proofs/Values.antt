-- The value of at most eight digits fits.
use Rattle.std.proofs.Common.{◌≡◌, ℕ, zero, suc, ◌+◌, ◌*◌, ◌<◌, ◌≤◌, true, List, [], ◌∷◌, ◌-◌, length, take, drop, get_or, arith}
use Rattle.std.proofs.lemmas.Grind.{common_steps}
use Rattle.std.proofs.lemmas.Bool.Decides.{nat_tests}
use Rattle.std.proofs.lemmas.Bool.{and_parts}
use Rattle.md_asm_text.specs.Bounds.{limit}
use Rattle.text_lines.specs.Digits.{is_hexadecimal}
use Rattle.md_asm_text.specs.Tokens.{digit_value, every}

-- one digit more
pub limit_step : (k v d : ℕ) → v < limit (suc k) → d < 16 → v * 16 + d < limit k
unfolding limit
limit_step k v d h few = omega arith

pub limit_most : (k : ℕ) → limit k ≤ 4294967296
unfolding limit
limit_most zero = omega arith
limit_most (suc k) = let h = limit_most k in omega (arith, h)

pub limit_eight : (k : ℕ) → k ≤ 8 → 0 < limit k
unfolding limit
limit_eight zero h = omega arith
limit_eight (suc zero) h = omega arith
limit_eight (suc (suc zero)) h = omega arith
limit_eight (suc (suc (suc zero))) h = omega arith
limit_eight (suc (suc (suc (suc zero)))) h = omega arith
limit_eight (suc (suc (suc (suc (suc zero))))) h = omega arith
limit_eight (suc (suc (suc (suc (suc (suc zero)))))) h = omega arith
limit_eight (suc (suc (suc (suc (suc (suc (suc zero))))))) h = omega arith
limit_eight (suc (suc (suc (suc (suc (suc (suc (suc zero)))))))) h = omega arith
limit_eight (suc (suc (suc (suc (suc (suc (suc (suc (suc k))))))))) h = absurd (omega arith)

pub digit_few : (c : ℕ) → is_hexadecimal c ≡ true → digit_value c < 16
digit_few c is = grind (arith, nat_tests)

pub first_hexadecimal : (c : ℕ) (cs : List ℕ) → every is_hexadecimal (c ∷ cs) ≡ true → is_hexadecimal c ≡ true
first_hexadecimal c cs h = (and_parts (is_hexadecimal c) (every is_hexadecimal cs) h).0

pub rest_hexadecimal : (c : ℕ) (cs : List ℕ) → every is_hexadecimal (c ∷ cs) ≡ true → every is_hexadecimal cs ≡ true
rest_hexadecimal c cs h = (and_parts (is_hexadecimal c) (every is_hexadecimal cs) h).1

tail_taken : (c : ℕ) (cs : List ℕ) → take (length (c ∷ cs) - 1) (drop 1 (c ∷ cs)) ≡ cs
tail_taken c cs = grind (arith, common_steps)

-- what holds after a digit
pub record Grows (text rest : List ℕ) (before : ℕ) : Type 0 where
  pub fits : before * 16 + digit_value (get_or text 0 0) < 4294967296
  pub few : length rest ≤ 8
  pub digits : every is_hexadecimal rest ≡ true
  pub room : before * 16 + digit_value (get_or text 0 0) < limit (length rest)

value_grows : (c : ℕ) (cs : List ℕ) (before : ℕ) → length (c ∷ cs) ≤ 8 → every is_hexadecimal (c ∷ cs) ≡ true → before < limit (length (c ∷ cs)) → Grows (c ∷ cs) cs before
value_grows c cs before few all room =
    let digit = digit_few c (first_hexadecimal c cs all) in
    let more = limit_step (length cs) before (digit_value c) room digit in
    let most = limit_most (length cs) in
    record { fits = omega (arith, more, most); few = omega arith; digits = rest_hexadecimal c cs all; room = more }

pub grown : (text : List ℕ) (before : ℕ) → 0 < length text → length text ≤ 8 → every is_hexadecimal text ≡ true → before < limit (length text)
    → Grows text (take (length text - 1) (drop 1 text)) before
grown [] before some few all room = absurd (omega arith)
grown (c ∷ cs) before some few all room = rw (tail_taken c cs) (value_grows c cs before few all room)
