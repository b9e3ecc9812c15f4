-- After CP the conditions compare A with the operand.
use Rattle.std.proofs.Common.{◌≡◌, ℕ, pos, ◌+◌, ◌-◌, ◌%◌, ◌<◌, ◌==◌, ◌∙◌, ◌-ℤ◌, false, nat_le, nat_lt, ap, arith}
use Rattle.std.specs.Prelude.{not}
use Rattle.std.proofs.lemmas.Bool.Decides.{nat_tests}
use Rattle.std.proofs.lemmas.Int.{ints}
use Rattle.md_word.specs.Coding.{flag_number}
use Rattle.md_word.specs.Width.{word_of}
use Rattle.z80_alu.proofs.FlagBits.{flags_of-byte}
use Rattle.z80_alu.specs.Arithmetic.{compared, subtracted}
use Rattle.z80_alu.specs.Flags.{flags_of, shown, sign, reported}
use Rattle.z80_alu.specs.declared.flags80.Flags80.{Flags80}
use Rattle.z80_exec.specs.Access.Conditions.{holds}
use Rattle.z80_exec.specs.Laws.{ConditionsCompare, f_after}

-- the difference within a byte
abbrev difference : ℕ → ℕ → ℕ
difference a b = word_of 0x100 (pos a -ℤ pos b -ℤ pos (flag_number false))

differs : (a b : ℕ) → a < 0x100 → b < 0x100 → difference a b ≡ (a + 0x100 - b) % 0x100
differs a b h k = grind (arith, ints, nat_tests)

same : (a b : ℕ) → a < 0x100 → b < 0x100 → ((a + 0x100 - b) % 0x100 == 0) ≡ (a == b)
same a b h k = grind (arith, nat_tests)

less : (a b : ℕ) → nat_lt a (b + flag_number false) ≡ nat_lt a b
less a b = grind (arith, nat_tests)

not_less : (a b : ℕ) → not (nat_lt a b) ≡ nat_le b a
not_less a b = grind (arith, nat_tests)

-- the flags of a difference
flags : ℕ → ℕ → ℕ → Flags80
flags a b f = flags_of (f_after a b f)

zero : (a b f : ℕ) → (flags a b f).z ≡ (difference a b == 0)
unfolding flags compared subtracted shown reported
zero a b f = ap (λ (flags : Flags80). flags.z) (flags_of-byte _)

carry : (a b f : ℕ) → (flags a b f).c ≡ nat_lt a (b + flag_number false)
unfolding flags compared subtracted shown reported
carry a b f = ap (λ (flags : Flags80). flags.c) (flags_of-byte _)

negative : (a b f : ℕ) → (flags a b f).s ≡ sign (difference a b)
unfolding flags compared subtracted shown reported
negative a b f = ap (λ (flags : Flags80). flags.s) (flags_of-byte _)

pub compares : (a b f : ℕ) → a < 0x100 → b < 0x100 → ConditionsCompare a b f
unfolding holds flags
compares a b f h k =
    let z : (flags a b f).z ≡ (a == b) = zero a b f ∙ (ap (λ n. n == 0) (differs a b h k) ∙ same a b h k) in
    let c : (flags a b f).c ≡ nat_lt a b = carry a b f ∙ less a b in
    let s : (flags a b f).s ≡ nat_le 0x80 ((a + 0x100 - b) % 0x100) = negative a b f ∙ ap sign (differs a b h k) in
    record {
      zero = z;
      non_zero = ap not z;
      carry = c;
      non_carry = ap not c ∙ not_less a b;
      negative = s;
      positive = ap not s;
    }
