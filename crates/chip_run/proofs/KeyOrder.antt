-- Two keys that are not below one another.
use Rattle.std.proofs.Common.{◌≡◌, ℕ, true, false, ap₂, arith}
use Rattle.std.proofs.lemmas.Bool.Decides.{nat_tests}
use Rattle.md_word.specs.declared.key.Key.{Key}
use Rattle.md_word.specs.Keys.{key_lt}

-- no key is below another that is below it
pub not-both : (a b : Key) → key_lt a b ≡ true → key_lt b a ≡ true → ⊥
not-both a b p q = grind (arith, nat_tests)

same-cycle : (a b : Key) → a.chip ≡ b.chip → key_lt a b ≡ false → key_lt b a ≡ false → a.cycle ≡ b.cycle
same-cycle a b chip p q = grind (arith, nat_tests)

-- keys of one chip of which none is below the other are one
pub same-key : (a b : Key) → a.chip ≡ b.chip → key_lt a b ≡ false → key_lt b a ≡ false → a ≡ b
same-key a b chip p q = ap₂ {C = Key} (λ (c n : ℕ). record { cycle = c; chip = n }) (same-cycle a b chip p q) chip
