-- What the code has put of a register list on its way through the registers.
use Rattle.std.specs.Prelude.{ℕ, zero, suc, Bool, true, ◌&&◌, not, if◌then◌else◌, List, [], ◌++◌, codes}
use Rattle.md_disasm.specs.Operands68.{is_listed, register_name}

-- a register of a list, after a slash where it is not the first
abbrev pub next : Bool → ℕ → List ℕ
next first n = (if first then [] else codes "/") ++ register_name n

-- no register below a number is in a list
unfoldable pub are_absent : Bool → ℕ → ℕ → Bool
are_absent turned list zero = true
are_absent turned list (suc n) = are_absent turned list n && not (is_listed turned list n)

-- what is put of the registers below a number
unfoldable pub listed : Bool → ℕ → ℕ → List ℕ
listed turned list zero = []
listed turned list (suc n) = listed turned list n ++ (if is_listed turned list n then next (are_absent turned list n) n else [])
