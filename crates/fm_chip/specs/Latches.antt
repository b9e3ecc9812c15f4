-- The latches of the high halves of frequencies: of channels 1 to 6, then of the three that channel
-- 3's operators have of their own. Yamaha, YM2608 Application Manual, F-number and block.
use Rattle.std.specs.Prelude.{ℕ, ◌+◌, ◌-◌, ◌*◌, ◌==◌, nat_lt, nat_le, ◌&&◌, if◌then◌else◌, Option, None, Some}

-- the latch that a register takes when it is written: A0 to A2 do, and for port 0 A8 to AA
unfoldable pub taken_latch : ℕ → ℕ → Option ℕ
taken_latch port register =
    if nat_le 0xa0 register && nat_lt register 0xa3 then Some (3 * port + (register - 0xa0)) else (
    if (port == 0) && (nat_le 0xa8 register && nat_lt register 0xab) then Some (6 + (register - 0xa8)) else None)

-- the latch that a register is: A4 to A6 are, and for port 0 AC to AE
unfoldable pub own_latch : ℕ → ℕ → Option ℕ
own_latch port register =
    if nat_le 0xa4 register && nat_lt register 0xa7 then Some (3 * port + (register - 0xa4)) else (
    if (port == 0) && (nat_le 0xac register && nat_lt register 0xaf) then Some (6 + (register - 0xac)) else None)
