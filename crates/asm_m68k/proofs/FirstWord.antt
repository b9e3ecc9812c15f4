-- The first word of what a word decodes to is the word: shown by computing it for all words, whatever
-- follows them.
use Rattle.std.proofs.Common.{◌≡◌, ℕ, ◌/◌, ◌<◌, List, ◌∷◌, map, zero, suc, refl, arith}
use Rattle.md_word.proofs.Agree.{range, same_at}
use Rattle.m68k_decode.specs.Nested.{nested, group_0, by_register, by_number, to_status, immediates, group_1, group_2_or_3, group_4, with_register, with_status, unaries, tests, group_48, group_4e, controls, group_5, group_6, group_7, group_8, sums, group_b, group_c, exchanges, group_e}
use Rattle.m68k_decode.specs.Fields.{high_register, low_register, size_of, word_or_long, mode_of, low_mode, high_mode, paired, quick, condition_of, displacement_of, shift_of, number_at}
use Rattle.m68k_decode.specs.Instructions.{made, unmatched, instruction_of, picked}
use Rattle.m68k_decode.proofs.Table.{decoded_is_picked}
use Rattle.asm_m68k.specs.Encoding.{first_word}

-- the first word of what a word decodes to, with these words after it
abbrev again : List ℕ → ℕ → ℕ
again tail w = first_word (picked (nested w) (w ∷ tail)).op

agree_0 : (tail : List ℕ) → map (again tail) (range 4096 0x0000) ≡ map (λ w. w) (range 4096 0x0000)
unfolding range nested made unmatched first_word group_0 by_register by_number to_status immediates high_register low_register size_of word_or_long mode_of low_mode high_mode paired quick condition_of displacement_of shift_of number_at
agree_0 tail = refl

agree_1 : (tail : List ℕ) → map (again tail) (range 4096 0x1000) ≡ map (λ w. w) (range 4096 0x1000)
unfolding range nested made unmatched first_word group_1 high_register low_register size_of word_or_long mode_of low_mode high_mode paired quick condition_of displacement_of shift_of number_at
agree_1 tail = refl

agree_2 : (tail : List ℕ) → map (again tail) (range 4096 0x2000) ≡ map (λ w. w) (range 4096 0x2000)
unfolding range nested made unmatched first_word group_2_or_3 high_register low_register size_of word_or_long mode_of low_mode high_mode paired quick condition_of displacement_of shift_of number_at
agree_2 tail = refl

agree_3 : (tail : List ℕ) → map (again tail) (range 4096 0x3000) ≡ map (λ w. w) (range 4096 0x3000)
unfolding range nested made unmatched first_word group_2_or_3 high_register low_register size_of word_or_long mode_of low_mode high_mode paired quick condition_of displacement_of shift_of number_at
agree_3 tail = refl

agree_4 : (tail : List ℕ) → map (again tail) (range 4096 0x4000) ≡ map (λ w. w) (range 4096 0x4000)
unfolding range nested made unmatched first_word group_4 with_register with_status unaries tests group_48 group_4e controls high_register low_register size_of word_or_long mode_of low_mode high_mode paired quick condition_of displacement_of shift_of number_at
agree_4 tail = refl

agree_5 : (tail : List ℕ) → map (again tail) (range 4096 0x5000) ≡ map (λ w. w) (range 4096 0x5000)
unfolding range nested made unmatched first_word group_5 high_register low_register size_of word_or_long mode_of low_mode high_mode paired quick condition_of displacement_of shift_of number_at
agree_5 tail = refl

agree_6 : (tail : List ℕ) → map (again tail) (range 4096 0x6000) ≡ map (λ w. w) (range 4096 0x6000)
unfolding range nested made unmatched first_word group_6 high_register low_register size_of word_or_long mode_of low_mode high_mode paired quick condition_of displacement_of shift_of number_at
agree_6 tail = refl

agree_7 : (tail : List ℕ) → map (again tail) (range 4096 0x7000) ≡ map (λ w. w) (range 4096 0x7000)
unfolding range nested made unmatched first_word group_7 high_register low_register size_of word_or_long mode_of low_mode high_mode paired quick condition_of displacement_of shift_of number_at
agree_7 tail = refl

agree_8 : (tail : List ℕ) → map (again tail) (range 4096 0x8000) ≡ map (λ w. w) (range 4096 0x8000)
unfolding range nested made unmatched first_word group_8 high_register low_register size_of word_or_long mode_of low_mode high_mode paired quick condition_of displacement_of shift_of number_at
agree_8 tail = refl

agree_9 : (tail : List ℕ) → map (again tail) (range 4096 0x9000) ≡ map (λ w. w) (range 4096 0x9000)
unfolding range nested made unmatched first_word sums high_register low_register size_of word_or_long mode_of low_mode high_mode paired quick condition_of displacement_of shift_of number_at
agree_9 tail = refl

agree_a : (tail : List ℕ) → map (again tail) (range 4096 0xa000) ≡ map (λ w. w) (range 4096 0xa000)
unfolding range nested made unmatched first_word high_register low_register size_of word_or_long mode_of low_mode high_mode paired quick condition_of displacement_of shift_of number_at
agree_a tail = refl

agree_b : (tail : List ℕ) → map (again tail) (range 4096 0xb000) ≡ map (λ w. w) (range 4096 0xb000)
unfolding range nested made unmatched first_word group_b high_register low_register size_of word_or_long mode_of low_mode high_mode paired quick condition_of displacement_of shift_of number_at
agree_b tail = refl

agree_c : (tail : List ℕ) → map (again tail) (range 4096 0xc000) ≡ map (λ w. w) (range 4096 0xc000)
unfolding range nested made unmatched first_word group_c exchanges high_register low_register size_of word_or_long mode_of low_mode high_mode paired quick condition_of displacement_of shift_of number_at
agree_c tail = refl

agree_d : (tail : List ℕ) → map (again tail) (range 4096 0xd000) ≡ map (λ w. w) (range 4096 0xd000)
unfolding range nested made unmatched first_word sums high_register low_register size_of word_or_long mode_of low_mode high_mode paired quick condition_of displacement_of shift_of number_at
agree_d tail = refl

agree_e : (tail : List ℕ) → map (again tail) (range 4096 0xe000) ≡ map (λ w. w) (range 4096 0xe000)
unfolding range nested made unmatched first_word group_e high_register low_register size_of word_or_long mode_of low_mode high_mode paired quick condition_of displacement_of shift_of number_at
agree_e tail = refl

agree_f : (tail : List ℕ) → map (again tail) (range 4096 0xf000) ≡ map (λ w. w) (range 4096 0xf000)
unfolding range nested made unmatched first_word high_register low_register size_of word_or_long mode_of low_mode high_mode paired quick condition_of displacement_of shift_of number_at
agree_f tail = refl

-- the same for any digit
again_at : (d w : ℕ) (tail : List ℕ) → w < 65536 → w / 4096 ≡ d → again tail w ≡ w
again_at zero w tail below h = same_at (again tail) (λ w. w) 4096 0x0000 (agree_0 tail) w (omega arith) (omega arith)
again_at (suc zero) w tail below h = same_at (again tail) (λ w. w) 4096 0x1000 (agree_1 tail) w (omega arith) (omega arith)
again_at (suc (suc zero)) w tail below h = same_at (again tail) (λ w. w) 4096 0x2000 (agree_2 tail) w (omega arith) (omega arith)
again_at (suc (suc (suc zero))) w tail below h = same_at (again tail) (λ w. w) 4096 0x3000 (agree_3 tail) w (omega arith) (omega arith)
again_at (suc (suc (suc (suc zero)))) w tail below h = same_at (again tail) (λ w. w) 4096 0x4000 (agree_4 tail) w (omega arith) (omega arith)
again_at (suc (suc (suc (suc (suc zero))))) w tail below h = same_at (again tail) (λ w. w) 4096 0x5000 (agree_5 tail) w (omega arith) (omega arith)
again_at (suc (suc (suc (suc (suc (suc zero)))))) w tail below h = same_at (again tail) (λ w. w) 4096 0x6000 (agree_6 tail) w (omega arith) (omega arith)
again_at (suc (suc (suc (suc (suc (suc (suc zero))))))) w tail below h = same_at (again tail) (λ w. w) 4096 0x7000 (agree_7 tail) w (omega arith) (omega arith)
again_at (suc (suc (suc (suc (suc (suc (suc (suc zero)))))))) w tail below h = same_at (again tail) (λ w. w) 4096 0x8000 (agree_8 tail) w (omega arith) (omega arith)
again_at (suc (suc (suc (suc (suc (suc (suc (suc (suc zero))))))))) w tail below h = same_at (again tail) (λ w. w) 4096 0x9000 (agree_9 tail) w (omega arith) (omega arith)
again_at (suc (suc (suc (suc (suc (suc (suc (suc (suc (suc zero)))))))))) w tail below h = same_at (again tail) (λ w. w) 4096 0xa000 (agree_a tail) w (omega arith) (omega arith)
again_at (suc (suc (suc (suc (suc (suc (suc (suc (suc (suc (suc zero))))))))))) w tail below h = same_at (again tail) (λ w. w) 4096 0xb000 (agree_b tail) w (omega arith) (omega arith)
again_at (suc (suc (suc (suc (suc (suc (suc (suc (suc (suc (suc (suc zero)))))))))))) w tail below h = same_at (again tail) (λ w. w) 4096 0xc000 (agree_c tail) w (omega arith) (omega arith)
again_at (suc (suc (suc (suc (suc (suc (suc (suc (suc (suc (suc (suc (suc zero))))))))))))) w tail below h = same_at (again tail) (λ w. w) 4096 0xd000 (agree_d tail) w (omega arith) (omega arith)
again_at (suc (suc (suc (suc (suc (suc (suc (suc (suc (suc (suc (suc (suc (suc zero)))))))))))))) w tail below h = same_at (again tail) (λ w. w) 4096 0xe000 (agree_e tail) w (omega arith) (omega arith)
again_at (suc (suc (suc (suc (suc (suc (suc (suc (suc (suc (suc (suc (suc (suc (suc zero))))))))))))))) w tail below h = same_at (again tail) (λ w. w) 4096 0xf000 (agree_f tail) w (omega arith) (omega arith)
again_at (suc (suc (suc (suc (suc (suc (suc (suc (suc (suc (suc (suc (suc (suc (suc (suc d)))))))))))))))) w tail below h = absurd (omega arith)

pub first_again : (w : ℕ) (tail : List ℕ) → w < 65536 → first_word (instruction_of (w ∷ tail)).op ≡ w
first_again w tail below = rw (decoded_is_picked (w ∷ tail) below) (again_at (w / 4096) w tail below refl)
