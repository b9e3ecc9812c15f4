-- Which addressing modes name registers that there are.
use Rattle.std.specs.Prelude.{◌<◌}
use Rattle.md_word.specs.declared.mode.Mode.{Mode}
use Rattle.md_word.specs.declared.mode.Mode.TheVariants.{Data, Address, Indirect, PostInc, PreDec, Displaced, Indexed, AbsShort, AbsLong, PcDisplaced, PcIndexed, Immediate}

-- there are eight registers of a kind, and sixteen that can be an index
abbrev pub IsMode : Mode → Type 0
IsMode (Data n) = n < 8
IsMode (Address n) = n < 8
IsMode (Indirect n) = n < 8
IsMode (PostInc n) = n < 8
IsMode (PreDec n) = n < 8
IsMode (Displaced n by) = n < 8
IsMode (Indexed n index long by) = (n < 8) × (index < 16)
IsMode (AbsShort at) = Unit {0}
IsMode (AbsLong at) = Unit {0}
IsMode (PcDisplaced by) = Unit {0}
IsMode (PcIndexed index long by) = index < 16
IsMode (Immediate value) = Unit {0}
