-- What holds of the operands that the decoder reads.
use Rattle.std.specs.Prelude.{ℕ, ◌≡◌, ◌<◌, Bool, true, ◌==◌, ◌||◌}
use Rattle.md_word.specs.Modes.{IsMode}
use Rattle.md_word.specs.Width.{modulus_of}
use Rattle.md_word.specs.declared.mode.Mode.{Mode}
use Rattle.md_word.specs.declared.mode.Mode.TheVariants as modes
use Rattle.md_word.specs.declared.size.Size.{Size}

-- a number that is in the instruction is of the size
abbrev pub FitsSize : Size → Mode → Type 0
FitsSize size (modes.Immediate value) = value < modulus_of size
FitsSize size _ = Unit {0}

-- an operand of a size: its registers are some that there are, and its number is of the size
abbrev pub IsOperand : Size → Mode → Type 0
IsOperand size mode = IsMode mode × FitsSize size mode

-- the number of a mode, by which the classes of modes go
abbrev pub number_of : Mode → ℕ
number_of (modes.Data n) = 0
number_of (modes.Address n) = 1
number_of (modes.Indirect n) = 2
number_of (modes.PostInc n) = 3
number_of (modes.PreDec n) = 4
number_of (modes.Displaced n by) = 5
number_of (modes.Indexed n index long by) = 6
number_of (modes.AbsShort at) = 7
number_of (modes.AbsLong at) = 8
number_of (modes.PcDisplaced by) = 9
number_of (modes.PcIndexed index long by) = 10
number_of (modes.Immediate value) = 11

-- a mode is one of a class
abbrev pub IsOf : (ℕ → Bool) → Mode → Type 0
IsOf class mode = class (number_of mode) ≡ true

-- both operands are Dn, or both −(An)
pub record ArePaired (source target : Mode) : Type 0 where
  pub alike : number_of target ≡ number_of source
  pub direct_or_below : IsOf (λ n. n == 0 || n == 4) source
