-- The addresses of the 68000 that it shares with other chips.
-- Genesis Technical Overview, the memory map of the 68000.
use Rattle.std.specs.Prelude.{ℕ, Bool, ◌&&◌, nat_le, if◌then◌else◌, Option, Some, None, is_some}
use Rattle.md_word.specs.declared.area.Area.{Area}
use Rattle.md_word.specs.declared.area.Area.TheVariants.{Z80Space, InputOutput, BusRequest, Z80Reset, VideoPorts}

-- whether an address is one of first to last
abbrev pub is_within : ℕ → ℕ → ℕ → Bool
is_within first last at = nat_le first at && nat_le at last

-- the area of an address on the bus, where it is shared
unfoldable pub area_of : ℕ → Option Area
area_of at =
    if is_within 0xa0_0000 0xa0_ffff at then Some Z80Space
    else (if is_within 0xa1_0000 0xa1_001f at then Some InputOutput
    else (if is_within 0xa1_1100 0xa1_1101 at then Some BusRequest
    else (if is_within 0xa1_1200 0xa1_1201 at then Some Z80Reset
    else (if is_within 0xc0_0000 0xc0_001f at then Some VideoPorts else None))))

-- whether an address on the bus is shared
unfoldable pub is_shared : ℕ → Bool
is_shared at = is_some (area_of at)
