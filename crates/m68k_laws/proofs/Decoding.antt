-- What the decoder gives has its MOVEM of words or longs, with a list of 16 bits.
use Rattle.std.proofs.Common.{◌≢◌, ℕ, ◌/◌, ◌<◌, ◌==◌, Bool, true, false, List, [], ◌∷◌}
use Rattle.std.specs.Prelude.{if◌then◌else◌, slice_index}
use Rattle.md_word.specs.Fields.{bit_of}
use Rattle.md_word.specs.declared.size.Size.TheVariants.{Byte, Word, Long}
use Rattle.m68k_decode.specs.Fields.{opcode, word_or_long}
use Rattle.m68k_decode.specs.Instructions.{chosen, instruction_of, made, unmatched}
use Rattle.m68k_decode.specs.Lines.{rows_of}
use Rattle.m68k_decode.specs.Rows.{Row, MovemToMemory, MovemToRegisters}
use Rattle.m68k_decode.specs.declared.decoded.Decoded.{Decoded}
use Rattle.m68k_decode.proofs.DecodedNumbers.{second}
use Rattle.m68k_access.specs.Memory.{Memory, instruction_words}
use Rattle.m68k_exec.specs.Sample.Bounds.{Fits}
use Rattle.m68k_exec.proofs.Bounds.CountsFew.{second_small}
use Rattle.m68k_laws.specs.Footprints.{MovesWords}

no_byte : (long : Bool) → (if long then Long else Word) ≢ Byte
no_byte true e = cc
no_byte false e = cc

larger : (words : List ℕ) → word_or_long 64 words ≢ Byte
unfolding word_or_long
larger words = no_byte (bit_of (opcode words) 64)

made_words : (row : Row) (words : List ℕ) → slice_index words 1 < 65536 → MovesWords (made row words).op
unfolding made
made_words MovemToMemory words h = (larger words, second words h)
made_words MovemToRegisters words h = (larger words, second words h)
made_words row words h = tt

either : (test : Bool) (one other : Decoded) → MovesWords one.op → MovesWords other.op → MovesWords (if test then one else other).op
either true one other h k = h
either false one other h k = k

none_words : (words : List ℕ) → MovesWords (unmatched words).op
unfolding unmatched
none_words words = either (opcode words / 4096 == 10) _ _ tt (either (opcode words / 4096 == 15) _ _ tt tt)

chosen_words : (found : List Row) (words : List ℕ) → slice_index words 1 < 65536 → MovesWords (chosen found words).op
chosen_words [] words h = none_words words
chosen_words (row ∷ more) words h = made_words row words h

pub decoded_words : (words : List ℕ) → slice_index words 1 < 65536 → MovesWords (instruction_of words).op
unfolding instruction_of
decoded_words words h = chosen_words (rows_of (opcode words)) words h

pub words_known : (memory : Memory) (address : ℕ) → Fits memory → MovesWords (instruction_of (instruction_words address memory)).op
words_known memory address fits = decoded_words (instruction_words address memory) (second_small memory address fits)
