-- What the code picks, as a row of the definition.
use Rattle.std.specs.Prelude.{◌++◌}
use Rattle.md_disasm.specs.Rows68.{Row68}
use Rattle.md_disasm.specs.declared.syntax68.Syntax68.{Syntax68}

-- the row that was picked
abbrev pub shown68 : Syntax68 → Row68
shown68 syntax =
    record { name = syntax.mnemonic.now ++ syntax.ending.now; size = syntax.size; first = syntax.first; second = syntax.second }
