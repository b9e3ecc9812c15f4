-- The addressing modes by number, and the classes that instructions allow.
-- M68000 Programmer's Reference Manual, table 2-4.
use Rattle.std.specs.Prelude.{ℕ, Bool, ◌+◌, ◌/◌, ◌%◌, ◌==◌, ◌&&◌, ◌||◌, not, nat_lt, nat_le, if◌then◌else◌}

-- 0 Dn, 1 An, 2 (An), 3 (An)+, 4 −(An), 5 d16(An), 6 d8(An,Xn), 7 xxx.W, 8 xxx.L, 9 d16(PC),
-- 10 d8(PC,Xn), 11 #; above, no mode. A mode and its register are in the low six bits of a word
abbrev pub mode_number : ℕ → ℕ → ℕ
mode_number m r = if nat_lt m 7 then m else 7 + r

-- the number of the mode in the low six bits of a word
abbrev pub low_mode_number : ℕ → ℕ
low_mode_number w = mode_number (w / 8 % 8) (w % 8)

-- the four categories of the manual, and all modes
abbrev pub any : ℕ → Bool
any n = nat_lt n 12

-- all modes but An
abbrev pub data_mode : ℕ → Bool
data_mode n = any n && not (n == 1)

-- all modes but Dn and An
abbrev pub memory : ℕ → Bool
memory n = any n && nat_le 2 n

-- the modes that name memory and move no register
abbrev pub control : ℕ → Bool
control n = n == 2 || (nat_le 5 n && nat_le n 10)

-- the modes that can be written to
abbrev pub alterable : ℕ → Bool
alterable n = nat_le n 8

-- their combinations
abbrev pub data_alterable : ℕ → Bool
data_alterable n = data_mode n && alterable n

-- memory that can be written to
abbrev pub memory_alterable : ℕ → Bool
memory_alterable n = memory n && alterable n

-- control modes that can be written to
abbrev pub control_alterable : ℕ → Bool
control_alterable n = control n && alterable n

-- the classes of BTST by a number, and of MOVEM
abbrev pub data_but_immediate : ℕ → Bool
data_but_immediate n = data_mode n && not (n == 11)

-- the modes of MOVEM to memory
abbrev pub control_alterable_or_predecrement : ℕ → Bool
control_alterable_or_predecrement n = control_alterable n || n == 4

-- the modes of MOVEM to registers
abbrev pub control_or_postincrement : ℕ → Bool
control_or_postincrement n = control n || n == 3
