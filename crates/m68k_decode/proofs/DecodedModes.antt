-- What words decode to has modes of its classes: a law on the definition, for any words.
use Rattle.std.proofs.Common.{◌≡◌, ℕ, zero, suc, ◌/◌, ◌%◌, ◌<◌, ◌==◌, Bool, true, false, List, [], ◌∷◌, map, cond, refl, arith}
use Rattle.std.proofs.lemmas.Bool.{and_parts}
use Rattle.std.specs.Prelude.{filter, bit_and, if◌then◌else◌}
use Rattle.md_word.specs.Fields.{bit_of}
use Rattle.md_word.specs.declared.mode.Mode.TheVariants as modes
use Rattle.md_word.specs.declared.size.Size.{Size}
use Rattle.md_word.specs.declared.size.Size.TheVariants.{Long}
use Rattle.m68k_decode.specs.declared.decoded.Decoded.{Decoded}
use Rattle.m68k_decode.specs.Bounds.{HasModes}
use Rattle.m68k_decode.specs.Addressing.{control, control_alterable_or_predecrement, control_or_postincrement, low_mode_number, mode_number}
use Rattle.m68k_decode.specs.Fields.{low_mode, mode_of, opcode, paired}
use Rattle.m68k_decode.specs.Instructions.{chosen, instruction_of, made, unmatched}
use Rattle.m68k_decode.specs.Lines.{TableLine, lines_0, lines_1, lines_2, lines_3, lines_4, lines_5, lines_6, lines_7, lines_8, lines_9, lines_b, lines_c, lines_d, lines_e, lines_of, matches, matching, rows_of}
use Rattle.m68k_decode.specs.Operands.{ArePaired, number_of}
use Rattle.m68k_decode.specs.Rows.{Row, Decimal, Extended, Jmp, Jsr, Lea, MovemToMemory, MovemToRegisters, Pea}
use Rattle.m68k_decode.proofs.Classes.{control-below, loads-below, stores-below}

-- what a row says of the low six bits of a word that matches it
abbrev Permits : ℕ → Row → Type 0
Permits w Pea = control (low_mode_number w) ≡ true
Permits w MovemToMemory = control_alterable_or_predecrement (low_mode_number w) ≡ true
Permits w MovemToRegisters = control_or_postincrement (low_mode_number w) ≡ true
Permits w Jsr = control (low_mode_number w) ≡ true
Permits w Jmp = control (low_mode_number w) ≡ true
Permits w Lea = control (low_mode_number w) ≡ true
Permits w row = Unit {0}

abbrev AllAllow : List TableLine → Type 0
AllAllow [] = Unit {0}
AllAllow (l ∷ ls) = ((w : ℕ) → l.allowed w ≡ true → Permits w l.row) × AllAllow ls

lines_0-allow : AllAllow lines_0
unfolding lines_0
lines_0-allow = (λ w h. tt, (λ w h. tt, (λ w h. tt, (λ w h. tt, (λ w h. tt, (λ w h. tt, (λ w h. tt, (λ w h. tt, (λ w h. tt, (λ w h. tt, (λ w h. tt, (λ w h. tt, (λ w h. tt, (λ w h. tt, (λ w h. tt, (λ w h. tt, (λ w h. tt, (λ w h. tt, (λ w h. tt, (λ w h. tt, (λ w h. tt, (λ w h. tt, tt))))))))))))))))))))))

lines_1-allow : AllAllow lines_1
unfolding lines_1
lines_1-allow = (λ w h. tt, tt)

lines_2-allow : AllAllow lines_2
unfolding lines_2
lines_2-allow = (λ w h. tt, (λ w h. tt, tt))

lines_3-allow : AllAllow lines_3
unfolding lines_3
lines_3-allow = (λ w h. tt, (λ w h. tt, tt))

lines_4-allow : AllAllow lines_4
unfolding lines_4
lines_4-allow = (λ w h. tt, (λ w h. tt, (λ w h. tt, (λ w h. tt, (λ w h. tt, (λ w h. tt, (λ w h. tt, (λ w h. tt, (λ w h. tt, (λ w h. tt, (λ w h. h, (λ w h. h, (λ w h. h, (λ w h. tt, (λ w h. tt, (λ w h. tt, (λ w h. tt, (λ w h. tt, (λ w h. tt, (λ w h. tt, (λ w h. tt, (λ w h. tt, (λ w h. tt, (λ w h. tt, (λ w h. tt, (λ w h. tt, (λ w h. tt, (λ w h. tt, (λ w h. h, (λ w h. h, (λ w h. h, (λ w h. tt, tt))))))))))))))))))))))))))))))))

lines_5-allow : AllAllow lines_5
unfolding lines_5
lines_5-allow = (λ w h. tt, (λ w h. tt, (λ w h. tt, (λ w h. tt, tt))))

lines_6-allow : AllAllow lines_6
unfolding lines_6
lines_6-allow = (λ w h. tt, (λ w h. tt, (λ w h. tt, tt)))

lines_7-allow : AllAllow lines_7
unfolding lines_7
lines_7-allow = (λ w h. tt, tt)

lines_8-allow : AllAllow lines_8
unfolding lines_8
lines_8-allow = (λ w h. tt, (λ w h. tt, (λ w h. tt, (λ w h. tt, (λ w h. tt, tt)))))

lines_9-allow : AllAllow lines_9
unfolding lines_9
lines_9-allow = (λ w h. tt, (λ w h. tt, (λ w h. tt, (λ w h. tt, tt))))

lines_b-allow : AllAllow lines_b
unfolding lines_b
lines_b-allow = (λ w h. tt, (λ w h. tt, (λ w h. tt, (λ w h. tt, tt))))

lines_c-allow : AllAllow lines_c
unfolding lines_c
lines_c-allow = (λ w h. tt, (λ w h. tt, (λ w h. tt, (λ w h. tt, (λ w h. tt, (λ w h. tt, (λ w h. tt, (λ w h. tt, tt))))))))

lines_d-allow : AllAllow lines_d
unfolding lines_d
lines_d-allow = (λ w h. tt, (λ w h. tt, (λ w h. tt, (λ w h. tt, tt))))

lines_e-allow : AllAllow lines_e
unfolding lines_e
lines_e-allow = (λ w h. tt, (λ w h. tt, (λ w h. tt, tt)))

choice : (b : Bool) (one other : List TableLine) → AllAllow one → AllAllow other → AllAllow (if b then one else other)
choice true one other h k = h
choice false one other h k = k

lines-allow : (digit : ℕ) → AllAllow (lines_of digit)
unfolding lines_of
lines-allow digit = choice (digit == 0) _ _ lines_0-allow (choice (digit == 1) _ _ lines_1-allow (choice (digit == 2) _ _ lines_2-allow (choice (digit == 3) _ _ lines_3-allow (choice (digit == 4) _ _ lines_4-allow (choice (digit == 5) _ _ lines_5-allow (choice (digit == 6) _ _ lines_6-allow (choice (digit == 7) _ _ lines_7-allow (choice (digit == 8) _ _ lines_8-allow (choice (digit == 9) _ _ lines_9-allow (choice (digit == 11) _ _ lines_b-allow (choice (digit == 12) _ _ lines_c-allow (choice (digit == 13) _ _ lines_d-allow (choice (digit == 14) _ _ lines_e-allow (tt))))))))))))))

-- the first of the rows that a word matches
abbrev FirstPermits : ℕ → List Row → Type 0
FirstPermits w [] = Unit {0}
FirstPermits w (row ∷ more) = Permits w row

allowed : (w : ℕ) (l : TableLine) → matches w l ≡ true → l.allowed w ≡ true
unfolding matches
allowed w l h = (and_parts (bit_and w l.mask == l.bits) (l.allowed w) h).1

one_more : (b : Bool) (w : ℕ) (l : TableLine) (rest : List TableLine) → (b ≡ true → Permits w l.row) → FirstPermits w (map (λ (l : TableLine). l.row) rest) → FirstPermits w (map (λ (l : TableLine). l.row) (cond b (l ∷ rest) rest))
one_more true w l rest h k = h refl
one_more false w l rest h k = k

matching-permits : (lines : List TableLine) (w : ℕ) → AllAllow lines → FirstPermits w (matching lines w)
unfolding matching
matching-permits [] w h = tt
matching-permits (l ∷ ls) w h = one_more (matches w l) w l (filter (matches w) ls) (λ e. h.0 w (allowed w l e)) (matching-permits ls w h.1)

rows-permit : (w : ℕ) → FirstPermits w (rows_of w)
unfolding rows_of
rows-permit w = matching-permits (lines_of (w / 4096)) w (lines-allow (w / 4096))

-- MODES

number-of-mode : (m r : ℕ) (size : Size) (k : ℕ) (words : List ℕ) → m < 8 → mode_number m r < 12 → number_of (mode_of m r size k words) ≡ mode_number m r
unfolding mode_of
number-of-mode zero r size k words h below = refl
number-of-mode (suc zero) r size k words h below = refl
number-of-mode (suc (suc zero)) r size k words h below = refl
number-of-mode (suc (suc (suc zero))) r size k words h below = refl
number-of-mode (suc (suc (suc (suc zero)))) r size k words h below = refl
number-of-mode (suc (suc (suc (suc (suc zero))))) r size k words h below = refl
number-of-mode (suc (suc (suc (suc (suc (suc zero)))))) r size k words h below = refl
number-of-mode (suc (suc (suc (suc (suc (suc (suc zero))))))) zero size k words h below = refl
number-of-mode (suc (suc (suc (suc (suc (suc (suc zero))))))) (suc zero) size k words h below = refl
number-of-mode (suc (suc (suc (suc (suc (suc (suc zero))))))) (suc (suc zero)) size k words h below = refl
number-of-mode (suc (suc (suc (suc (suc (suc (suc zero))))))) (suc (suc (suc zero))) size k words h below = refl
number-of-mode (suc (suc (suc (suc (suc (suc (suc zero))))))) (suc (suc (suc (suc zero)))) size k words h below = refl
number-of-mode (suc (suc (suc (suc (suc (suc (suc zero))))))) (suc (suc (suc (suc (suc r))))) size k words h below = absurd (omega arith)
number-of-mode (suc (suc (suc (suc (suc (suc (suc (suc m)))))))) r size k words h below = absurd (omega arith)

pub low-number : (size : Size) (k : ℕ) (words : List ℕ) → low_mode_number (opcode words) < 12 → number_of (low_mode size k words) ≡ low_mode_number (opcode words)
unfolding low_mode
low-number size k words below = number-of-mode (opcode words / 8 % 8) (opcode words % 8) size k words (omega arith) below

kept : (class : ℕ → Bool) (size : Size) (k : ℕ) (words : List ℕ) → low_mode_number (opcode words) < 12 → class (low_mode_number (opcode words)) ≡ true → class (number_of (low_mode size k words)) ≡ true
kept class size k words below is = rw (low-number size k words below) is

pair_cases : (b : Bool) (n m : ℕ) → ArePaired (if b then modes.PreDec n else modes.Data n) (if b then modes.PreDec m else modes.Data m)
pair_cases true n m = record { alike = refl; direct_or_below = refl }
pair_cases false n m = record { alike = refl; direct_or_below = refl }

pair : (words : List ℕ) (n m : ℕ) → ArePaired (paired words n) (paired words m)
unfolding paired
pair words n m = pair_cases (bit_of (opcode words) 8) n m

-- WHAT WORDS DECODE TO

made_modes : (row : Row) (words : List ℕ) → Permits (opcode words) row → HasModes (made row words).op
unfolding made
made_modes Pea words h = kept (λ n. control n) Long 1 words (control-below _ h) h
made_modes MovemToMemory words h = kept (λ n. control_alterable_or_predecrement n) _ 2 words (stores-below _ h) h
made_modes MovemToRegisters words h = kept (λ n. control_or_postincrement n) _ 2 words (loads-below _ h) h
made_modes Jsr words h = kept (λ n. control n) Long 1 words (control-below _ h) h
made_modes Jmp words h = kept (λ n. control n) Long 1 words (control-below _ h) h
made_modes Lea words h = kept (λ n. control n) Long 1 words (control-below _ h) h
made_modes (Decimal operation) words h = pair words _ _
made_modes (Extended operation) words h = pair words _ _
made_modes row words h = tt

either : (b : Bool) (one other : Decoded) → HasModes one.op → HasModes other.op → HasModes (if b then one else other).op
either true one other h k = h
either false one other h k = k

none_modes : (words : List ℕ) → HasModes (unmatched words).op
unfolding unmatched
none_modes words = either (opcode words / 4096 == 10) _ _ tt (either (opcode words / 4096 == 15) _ _ tt tt)

chosen_modes : (found : List Row) (words : List ℕ) → FirstPermits (opcode words) found → HasModes (chosen found words).op
chosen_modes [] words h = none_modes words
chosen_modes (row ∷ more) words h = made_modes row words h

pub decoded_modes : (words : List ℕ) → HasModes (instruction_of words).op
unfolding instruction_of
decoded_modes words = chosen_modes (rows_of (opcode words)) words (rows-permit (opcode words))
