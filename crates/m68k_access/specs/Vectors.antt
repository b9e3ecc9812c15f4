-- The vector numbers of the exceptions in which an instruction can end.
-- M68000 User's Manual, section 6.2.1.
use Rattle.std.specs.Prelude.{ℕ, ◌+◌}

-- ILLEGAL, and first words that are no instruction
abbrev pub illegal_instruction : ℕ
illegal_instruction = 4

-- DIVU and DIVS by 0
abbrev pub zero_divide : ℕ
zero_divide = 5

-- CHK
abbrev pub out_of_bounds : ℕ
out_of_bounds = 6

-- TRAPV
abbrev pub overflow : ℕ
overflow = 7

-- a privileged instruction in user mode
abbrev pub privilege_violation : ℕ
privilege_violation = 8

-- a first word whose bits 15 to 12 are 1010
abbrev pub line_a : ℕ
line_a = 10

-- a first word whose bits 15 to 12 are 1111
abbrev pub line_f : ℕ
line_f = 11

-- TRAP, with its number
abbrev pub trap_vector : ℕ → ℕ
trap_vector number = 32 + number
