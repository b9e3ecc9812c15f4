-- Lines at no fault, and a source without one.
use Rattle.std.proofs.Common.{◌≡◌, ℕ, ◌+◌, ◌≤◌, Bool, true, false, ◌&&◌, nat_lt, List, [], ◌∷◌, length, Some, None, refl, arith, if◌then◌else◌}
use Rattle.std.specs.Prelude.{◌==◌, ◌%◌}
use Rattle.std.proofs.lemmas.Bool.Decides.{nat_tests}
use Rattle.md_asm_text.specs.Tokens.{tokens}
use Rattle.md_asm_text.specs.Lines.{Line}
use Rattle.text_lines.specs.Lines.{lines_of}
use Rattle.md_asm.specs.Contents.{is_unfit}
use Rattle.md_asm.specs.Places.{any_written, image_limit, is_sub, is_too_large}
use Rattle.md_asm.specs.Rounds.{Read, Round, fault_of, has_bytes, is_twice, round_one, wants_even}
use Rattle.md_asm.specs.declared.kind.Kind.{Kind}
use Rattle.md_asm.specs.declared.kind.Kind.TheVariants as kinds

last : (a b c d e : Bool) (first second third fourth fifth : Kind)
    → (if a then Some first else (if b then Some second else (if c then Some third else (if d then Some fourth else (if e then Some fifth else None))))) ≡ None → e ≡ false
last true b c d e first second third fourth fifth is = cc
last false true c d e first second third fourth fifth is = cc
last false false true d e first second third fourth fifth is = cc
last false false false true e first second third fourth fifth is = cc
last false false false false true first second third fourth fifth is = cc
last false false false false false first second third fourth fifth is = refl

low : (b : Bool) (place long : ℕ) → (b && nat_lt image_limit (place + long)) ≡ false → b ≡ true → place + long ≤ image_limit
low true place long off is = grind (arith, nat_tests)
low false place long off is = cc

-- a line at no fault that has bytes ends below 400000h
pub within : (round : Round) (line : Line) (long : ℕ) → fault_of round line long ≡ None → has_bytes line.body ≡ true → round.place + long ≤ image_limit
within round line long none is =
    low (has_bytes line.body) round.place long
    (last (is_unfit (is_sub round.processor) line.body (tokens line.text)) (is_twice round.names line.label)
    (wants_even (is_sub round.processor) line.body && round.place % 2 == 1) (any_written round.written round.place long)
    (has_bytes line.body && is_too_large round.place long) kinds.BadNumber kinds.Twice kinds.Odd kinds.Overlap kinds.TooLarge none) is

-- no line is left
pub all_read : (round : Round) (number : ℕ) (rest : List ℕ) → length rest ≡ 0 → round_one round number (lines_of rest) ≡ Read round
unfolding round_one lines_of
all_read round number [] none = refl
all_read round number (c ∷ cs) none = absurd (omega arith)
