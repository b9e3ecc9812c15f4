-- What the code read, as the definition has it.
use Rattle.asm_z80.specs.Forms.{seen}
use Rattle.asm_z80.specs.Reading as reading
use Rattle.asm_z80.specs.declared.reader.Source80.{Source80}

abbrev pub source_seen : Source80 → reading.Source
source_seen s = record { mnemonic = s.mnemonic.now; first = seen s.first; second = seen s.second }
