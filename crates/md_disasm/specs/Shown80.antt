-- What the code picks, as a row of the definition.
use Rattle.md_disasm.specs.Rows80.{Row80}
use Rattle.md_disasm.specs.declared.syntax80.Syntax80.{Syntax80}

-- the row that was picked
abbrev pub shown80 : Syntax80 → Row80
shown80 syntax = record { name = syntax.name.now; first = syntax.first; second = syntax.second }
