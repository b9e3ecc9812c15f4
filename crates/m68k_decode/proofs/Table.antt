-- The rows of the table that a word matches are the one that the code finds, or none: shown for
-- each first digit by computing both for its 4,096 words.
use Rattle.std.proofs.Common.{◌≡◌, ℕ, ◌/◌, ◌<◌, ◌≤◌, List, map, Option, Some, None, zero, suc, refl, length, arith}
use Rattle.std.specs.Option.{option_to_list}
use Rattle.md_word.specs.declared.size.Size.TheVariants.{Word, Long}
use Rattle.md_word.specs.declared.task.Task.TheVariants as tasks
use Rattle.md_word.proofs.Agree.{range, same_at}
use Rattle.m68k_decode.specs.Lines.{rows_of, lines_of, matching, matches}
use Rattle.m68k_decode.specs.Nested.{nested, group_0, by_register, by_number, to_status, immediates, group_1, group_2_or_3, group_4, with_register, with_status, unaries, tests, group_48, group_4e, controls, group_5, group_6, group_7, group_8, sums, group_b, group_c, exchanges, group_e}
use Rattle.m68k_decode.specs.Fields.{opcode}
use Rattle.m68k_decode.specs.Instructions.{instruction_of, chosen, picked}
use Rattle.m68k_decode.specs.Rows.{Row}
use Rattle.m68k_decode.proofs.Masks.{masks_0, lines_0-masks, masks_1, lines_1-masks, masks_2, lines_2-masks, masks_3, lines_3-masks, masks_4, lines_4-masks, masks_5, lines_5-masks, masks_6, lines_6-masks, masks_7, lines_7-masks, masks_8, lines_8-masks, masks_9, lines_9-masks, masks_b, lines_b-masks, masks_c, lines_c-masks, masks_d, lines_d-masks, masks_e, lines_e-masks}

agree_0 : map (matching masks_0) (range 4096 0x0) ≡ map (λ w. option_to_list (group_0 w)) (range 4096 0x0)
unfolding range matching matches masks_0 group_0 by_register by_number to_status immediates
agree_0 = refl

rows_0 : (w : ℕ) → w / 4096 ≡ 0 → rows_of w ≡ option_to_list (nested w)
unfolding rows_of lines_of nested
rows_0 w h = rw (h, lines_0-masks) (same_at (matching masks_0) (λ w. option_to_list (group_0 w)) 4096 0x0 agree_0 w (omega arith) (omega arith))

agree_1 : map (matching masks_1) (range 4096 0x1000) ≡ map (λ w. option_to_list (group_1 w)) (range 4096 0x1000)
unfolding range matching matches masks_1 group_1
agree_1 = refl

rows_1 : (w : ℕ) → w / 4096 ≡ 1 → rows_of w ≡ option_to_list (nested w)
unfolding rows_of lines_of nested
rows_1 w h = rw (h, lines_1-masks) (same_at (matching masks_1) (λ w. option_to_list (group_1 w)) 4096 0x1000 agree_1 w (omega arith) (omega arith))

agree_2 : map (matching masks_2) (range 4096 0x2000) ≡ map (λ w. option_to_list (group_2_or_3 Long w)) (range 4096 0x2000)
unfolding range matching matches masks_2 group_2_or_3
agree_2 = refl

rows_2 : (w : ℕ) → w / 4096 ≡ 2 → rows_of w ≡ option_to_list (nested w)
unfolding rows_of lines_of nested
rows_2 w h = rw (h, lines_2-masks) (same_at (matching masks_2) (λ w. option_to_list (group_2_or_3 Long w)) 4096 0x2000 agree_2 w (omega arith) (omega arith))

agree_3 : map (matching masks_3) (range 4096 0x3000) ≡ map (λ w. option_to_list (group_2_or_3 Word w)) (range 4096 0x3000)
unfolding range matching matches masks_3 group_2_or_3
agree_3 = refl

rows_3 : (w : ℕ) → w / 4096 ≡ 3 → rows_of w ≡ option_to_list (nested w)
unfolding rows_of lines_of nested
rows_3 w h = rw (h, lines_3-masks) (same_at (matching masks_3) (λ w. option_to_list (group_2_or_3 Word w)) 4096 0x3000 agree_3 w (omega arith) (omega arith))

agree_4 : map (matching masks_4) (range 4096 0x4000) ≡ map (λ w. option_to_list (group_4 w)) (range 4096 0x4000)
unfolding range matching matches masks_4 group_4 with_register with_status unaries tests group_48 group_4e controls
agree_4 = refl

rows_4 : (w : ℕ) → w / 4096 ≡ 4 → rows_of w ≡ option_to_list (nested w)
unfolding rows_of lines_of nested
rows_4 w h = rw (h, lines_4-masks) (same_at (matching masks_4) (λ w. option_to_list (group_4 w)) 4096 0x4000 agree_4 w (omega arith) (omega arith))

agree_5 : map (matching masks_5) (range 4096 0x5000) ≡ map (λ w. option_to_list (group_5 w)) (range 4096 0x5000)
unfolding range matching matches masks_5 group_5
agree_5 = refl

rows_5 : (w : ℕ) → w / 4096 ≡ 5 → rows_of w ≡ option_to_list (nested w)
unfolding rows_of lines_of nested
rows_5 w h = rw (h, lines_5-masks) (same_at (matching masks_5) (λ w. option_to_list (group_5 w)) 4096 0x5000 agree_5 w (omega arith) (omega arith))

agree_6 : map (matching masks_6) (range 4096 0x6000) ≡ map (λ w. option_to_list (group_6 w)) (range 4096 0x6000)
unfolding range matching matches masks_6 group_6
agree_6 = refl

rows_6 : (w : ℕ) → w / 4096 ≡ 6 → rows_of w ≡ option_to_list (nested w)
unfolding rows_of lines_of nested
rows_6 w h = rw (h, lines_6-masks) (same_at (matching masks_6) (λ w. option_to_list (group_6 w)) 4096 0x6000 agree_6 w (omega arith) (omega arith))

agree_7 : map (matching masks_7) (range 4096 0x7000) ≡ map (λ w. option_to_list (group_7 w)) (range 4096 0x7000)
unfolding range matching matches masks_7 group_7
agree_7 = refl

rows_7 : (w : ℕ) → w / 4096 ≡ 7 → rows_of w ≡ option_to_list (nested w)
unfolding rows_of lines_of nested
rows_7 w h = rw (h, lines_7-masks) (same_at (matching masks_7) (λ w. option_to_list (group_7 w)) 4096 0x7000 agree_7 w (omega arith) (omega arith))

agree_8 : map (matching masks_8) (range 4096 0x8000) ≡ map (λ w. option_to_list (group_8 w)) (range 4096 0x8000)
unfolding range matching matches masks_8 group_8
agree_8 = refl

rows_8 : (w : ℕ) → w / 4096 ≡ 8 → rows_of w ≡ option_to_list (nested w)
unfolding rows_of lines_of nested
rows_8 w h = rw (h, lines_8-masks) (same_at (matching masks_8) (λ w. option_to_list (group_8 w)) 4096 0x8000 agree_8 w (omega arith) (omega arith))

agree_9 : map (matching masks_9) (range 4096 0x9000) ≡ map (λ w. option_to_list (sums tasks.Sub tasks.Subx w)) (range 4096 0x9000)
unfolding range matching matches masks_9 sums
agree_9 = refl

rows_9 : (w : ℕ) → w / 4096 ≡ 9 → rows_of w ≡ option_to_list (nested w)
unfolding rows_of lines_of nested
rows_9 w h = rw (h, lines_9-masks) (same_at (matching masks_9) (λ w. option_to_list (sums tasks.Sub tasks.Subx w)) 4096 0x9000 agree_9 w (omega arith) (omega arith))

agree_b : map (matching masks_b) (range 4096 0xb000) ≡ map (λ w. option_to_list (group_b w)) (range 4096 0xb000)
unfolding range matching matches masks_b group_b
agree_b = refl

rows_b : (w : ℕ) → w / 4096 ≡ 11 → rows_of w ≡ option_to_list (nested w)
unfolding rows_of lines_of nested
rows_b w h = rw (h, lines_b-masks) (same_at (matching masks_b) (λ w. option_to_list (group_b w)) 4096 0xb000 agree_b w (omega arith) (omega arith))

agree_c : map (matching masks_c) (range 4096 0xc000) ≡ map (λ w. option_to_list (group_c w)) (range 4096 0xc000)
unfolding range matching matches masks_c group_c exchanges
agree_c = refl

rows_c : (w : ℕ) → w / 4096 ≡ 12 → rows_of w ≡ option_to_list (nested w)
unfolding rows_of lines_of nested
rows_c w h = rw (h, lines_c-masks) (same_at (matching masks_c) (λ w. option_to_list (group_c w)) 4096 0xc000 agree_c w (omega arith) (omega arith))

agree_d : map (matching masks_d) (range 4096 0xd000) ≡ map (λ w. option_to_list (sums tasks.Add tasks.Addx w)) (range 4096 0xd000)
unfolding range matching matches masks_d sums
agree_d = refl

rows_d : (w : ℕ) → w / 4096 ≡ 13 → rows_of w ≡ option_to_list (nested w)
unfolding rows_of lines_of nested
rows_d w h = rw (h, lines_d-masks) (same_at (matching masks_d) (λ w. option_to_list (sums tasks.Add tasks.Addx w)) 4096 0xd000 agree_d w (omega arith) (omega arith))

agree_e : map (matching masks_e) (range 4096 0xe000) ≡ map (λ w. option_to_list (group_e w)) (range 4096 0xe000)
unfolding range matching matches masks_e group_e
agree_e = refl

rows_e : (w : ℕ) → w / 4096 ≡ 14 → rows_of w ≡ option_to_list (nested w)
unfolding rows_of lines_of nested
rows_e w h = rw (h, lines_e-masks) (same_at (matching masks_e) (λ w. option_to_list (group_e w)) 4096 0xe000 agree_e w (omega arith) (omega arith))

rows_a : (w : ℕ) → w / 4096 ≡ 10 → rows_of w ≡ option_to_list (nested w)
unfolding rows_of lines_of nested matching
rows_a w h = rw h refl

rows_f : (w : ℕ) → w / 4096 ≡ 15 → rows_of w ≡ option_to_list (nested w)
unfolding rows_of lines_of nested matching
rows_f w h = rw h refl

-- the same for any digit
rows_at : (d w : ℕ) → w < 65536 → w / 4096 ≡ d → rows_of w ≡ option_to_list (nested w)
rows_at zero w below h = rows_0 w h
rows_at (suc zero) w below h = rows_1 w h
rows_at (suc (suc zero)) w below h = rows_2 w h
rows_at (suc (suc (suc zero))) w below h = rows_3 w h
rows_at (suc (suc (suc (suc zero)))) w below h = rows_4 w h
rows_at (suc (suc (suc (suc (suc zero))))) w below h = rows_5 w h
rows_at (suc (suc (suc (suc (suc (suc zero)))))) w below h = rows_6 w h
rows_at (suc (suc (suc (suc (suc (suc (suc zero))))))) w below h = rows_7 w h
rows_at (suc (suc (suc (suc (suc (suc (suc (suc zero)))))))) w below h = rows_8 w h
rows_at (suc (suc (suc (suc (suc (suc (suc (suc (suc zero))))))))) w below h = rows_9 w h
rows_at (suc (suc (suc (suc (suc (suc (suc (suc (suc (suc zero)))))))))) w below h = rows_a w h
rows_at (suc (suc (suc (suc (suc (suc (suc (suc (suc (suc (suc zero))))))))))) w below h = rows_b w h
rows_at (suc (suc (suc (suc (suc (suc (suc (suc (suc (suc (suc (suc zero)))))))))))) w below h = rows_c w h
rows_at (suc (suc (suc (suc (suc (suc (suc (suc (suc (suc (suc (suc (suc zero))))))))))))) w below h = rows_d w h
rows_at (suc (suc (suc (suc (suc (suc (suc (suc (suc (suc (suc (suc (suc (suc zero)))))))))))))) w below h = rows_e w h
rows_at (suc (suc (suc (suc (suc (suc (suc (suc (suc (suc (suc (suc (suc (suc (suc zero))))))))))))))) w below h = rows_f w h
rows_at (suc (suc (suc (suc (suc (suc (suc (suc (suc (suc (suc (suc (suc (suc (suc (suc d)))))))))))))))) w below h = absurd (omega arith)

table_is_nested : (w : ℕ) → w < 65536 → rows_of w ≡ option_to_list (nested w)
table_is_nested w below = rows_at (w / 4096) w below refl

chosen_is_picked : (row : Option Row) (words : List ℕ) → chosen (option_to_list row) words ≡ picked row words
chosen_is_picked None words = refl
chosen_is_picked (Some row) words = refl

pub decoded_is_picked : (words : List ℕ) → opcode words < 65536 → instruction_of words ≡ picked (nested (opcode words)) words
unfolding instruction_of
decoded_is_picked words below = rw (table_is_nested (opcode words) below) (chosen_is_picked (nested (opcode words)) words)

at_most_one : (row : Option Row) → length (option_to_list row) ≤ 1
at_most_one None = omega arith
at_most_one (Some row) = omega arith

-- no word matches two rows
pub one_row : (w : ℕ) → w < 65536 → length (rows_of w) ≤ 1
one_row w below = rw (table_is_nested w below) (at_most_one (nested w))
