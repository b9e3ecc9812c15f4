-- What the code keeps, as the definitions have it.
use Rattle.asm_m68k.specs.Reading as reading
use Rattle.asm_m68k.specs.declared.reading.Masks.{Masks}

abbrev pub masks_seen : Masks → reading.Masks
masks_seen m = (m.up, m.down)
