-- The numbers in what words decode to are small: a law on the definition, for any words.
use Rattle.std.proofs.Common.{ℕ, ◌<◌, ◌≤◌, ◌==◌, ◌/◌, Bool, true, false, List, [], ◌∷◌, arith}
use Rattle.std.specs.Prelude.{if◌then◌else◌, slice_index}
use Rattle.m68k_decode.specs.declared.decoded.Decoded.{Decoded}
use Rattle.m68k_decode.specs.Bounds.{HasNumbers}
use Rattle.m68k_decode.specs.Fields.{high_register, number_at, opcode, quick}
use Rattle.md_word.specs.declared.size.Size.TheVariants.{Word}
use Rattle.m68k_decode.specs.Instructions.{chosen, instruction_of, made, unmatched}
use Rattle.m68k_decode.specs.Lines.{rows_of}
use Rattle.m68k_decode.specs.Rows.{Row, MovemToMemory, MovemToRegisters, ShiftByNumber}

-- the number of the second word
pub second : (words : List ℕ) → slice_index words 1 < 65536 → number_at Word 1 words < 65536
unfolding number_at
second words h = h

quick_cases : (b : Bool) (n : ℕ) → n ≤ 8 → (if b then 8 else n) ≤ 8
quick_cases true n h = omega arith
quick_cases false n h = h

quick_most : (words : List ℕ) → quick words ≤ 8
unfolding quick high_register
quick_most words = quick_cases (high_register words == 0) (high_register words) (omega arith)

made_numbers : (row : Row) (words : List ℕ) → slice_index words 1 < 65536 → HasNumbers (made row words).op
unfolding made
made_numbers MovemToMemory words h = second words h
made_numbers MovemToRegisters words h = second words h
made_numbers ShiftByNumber words h = quick_most words
made_numbers row words h = tt

either : (b : Bool) (one other : Decoded) → HasNumbers one.op → HasNumbers other.op → HasNumbers (if b then one else other).op
either true one other h k = h
either false one other h k = k

none_numbers : (words : List ℕ) → HasNumbers (unmatched words).op
unfolding unmatched
none_numbers words = either (opcode words / 4096 == 10) _ _ tt (either (opcode words / 4096 == 15) _ _ tt tt)

chosen_numbers : (found : List Row) (words : List ℕ) → slice_index words 1 < 65536 → HasNumbers (chosen found words).op
chosen_numbers [] words h = none_numbers words
chosen_numbers (row ∷ more) words h = made_numbers row words h

pub decoded_numbers : (words : List ℕ) → slice_index words 1 < 65536 → HasNumbers (instruction_of words).op
unfolding instruction_of
decoded_numbers words h = chosen_numbers (rows_of (opcode words)) words h
