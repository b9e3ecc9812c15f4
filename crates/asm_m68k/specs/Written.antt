-- What the code read, as the definition has it.
use Rattle.asm_m68k.specs.Reading as reading
use Rattle.asm_m68k.specs.declared.reader.Source.{Source}

abbrev pub source_seen : Source → reading.Source
source_seen s = record { mnemonic = s.mnemonic.now; size = s.size; first = s.first; second = s.second }
