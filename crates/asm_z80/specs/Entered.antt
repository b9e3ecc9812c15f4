-- A name of the code's table, as the definition has it.
use Rattle.asm_z80.specs.Building.{Entry, entry_for}
use Rattle.asm_z80.specs.declared.stems.Named.{Named}

abbrev pub entered : Named → Entry
entered named = entry_for named.0.now named.1
