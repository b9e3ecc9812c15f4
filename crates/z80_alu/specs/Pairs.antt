-- Sums and differences of 16 bits with their flags: H is of the low 12 bits.
-- Zilog UM0080, "16-Bit Arithmetic Group".
use Rattle.std.specs.Prelude.{ℕ, pos, ◌+◌, ◌%◌, ◌-ℤ◌, Bool, false, true, ◌==◌, nat_le, nat_lt}
use Rattle.md_word.specs.Coding.{flag_number}
use Rattle.md_word.specs.Width.{difference_overflows, sum_overflows, word_of}
use Rattle.md_word.specs.declared.size.Size.TheVariants.{Word}
use Rattle.z80_alu.specs.declared.out16.Out16.{Out16}
use Rattle.z80_alu.specs.Flags.{byte_of, flags_of}

-- ADD HL,ss: S, Z and P/V as they were
unfoldable pub pair_added : ℕ → ℕ → ℕ → Out16
pair_added left right f = record {
  value = (left + right) % 0x1_0000;
  f = byte_of (record (flags_of f) { h = nat_le 0x1000 (left % 0x1000 + right % 0x1000); n = false; c = nat_le 0x1_0000 (left + right) });
}

-- S and Z by the value
unfoldable pub pair_shown : ℕ → Bool → Bool → Bool → Bool → Out16
pair_shown value h pv n c = record {
  value = value;
  f = byte_of (record { s = nat_le 0x8000 value; z = value == 0; h = h; pv = pv; n = n; c = c });
}

-- ADC HL,ss
unfoldable pub pair_added_with_carry : ℕ → ℕ → Bool → Out16
pair_added_with_carry left right carry =
    pair_shown ((left + right + flag_number carry) % 0x1_0000) (nat_le 0x1000 (left % 0x1000 + right % 0x1000 + flag_number carry)) (sum_overflows Word left right carry) false (nat_le 0x1_0000 (left + right + flag_number carry))

-- SBC HL,ss
unfoldable pub pair_subtracted : ℕ → ℕ → Bool → Out16
pair_subtracted left right borrow =
    pair_shown (word_of 0x1_0000 (pos left -ℤ pos right -ℤ pos (flag_number borrow))) (nat_lt (left % 0x1000) (right % 0x1000 + flag_number borrow)) (difference_overflows Word left right borrow) true (nat_lt left (right + flag_number borrow))
