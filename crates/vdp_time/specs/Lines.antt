-- Lines, frames, counters and blanking by the cycle, and the event of a line. Genesis Technical
-- Overview, the HV counter, the status and the interrupts; the cycles are this project's profile.
use Rattle.std.specs.Prelude.{ℕ, ◌+◌, ◌-◌, ◌*◌, ◌/◌, ◌%◌, ◌==◌, nat_lt, nat_le, Bool, true, false, not, ◌||◌, ◌&&◌, if◌then◌else◌}
use Rattle.md_word.specs.Clock.{line}
use Rattle.md_word.specs.Region.{frame_cycles, height, lines}
use Rattle.vdp_ports.specs.Vdp.{Vdp, register}

-- the line of a cycle in its frame
unfoldable pub line_of : ℕ → Bool → ℕ
line_of cycle pal = cycle / line % lines pal

-- the frame of a cycle
unfoldable pub frame_of : ℕ → Bool → ℕ
frame_of cycle pal = cycle / frame_cycles pal

-- a counter that jumps: where it would reach `last`, it continues from `again`
unfoldable pub jumping : ℕ → ℕ → ℕ → ℕ
jumping last again k = if nat_lt k last then k else again + (k - last)

-- the V counter counts lines, and jumps back so that the frame's last line has 255: on NTSC 229 comes
-- after 234, on PAL 202 after 258, or 210 after 266 where the display is tall
unfoldable pub v_count : Bool → Bool → ℕ → ℕ
v_count false tall = jumping 235 229
v_count true false = jumping 259 202
v_count true true = jumping 267 210

-- its low byte is read
unfoldable pub v_counter : ℕ → Bool → Bool → ℕ
v_counter cycle pal tall = v_count pal tall (line_of cycle pal) % 256

-- the H counter counts 211 or 171 steps a line: after 182 comes 228 in the 320 mode, after 147
-- comes 233 in the 256 mode
unfoldable pub h_counter : ℕ → Bool → ℕ
h_counter cycle wide = if wide then jumping 183 228 (cycle % line * 211 / line) else jumping 148 233 (cycle % line / 20)

-- both counters as a word
unfoldable pub hv : ℕ → Bool → Bool → Bool → ℕ
hv cycle wide pal tall = v_counter cycle pal tall * 256 + h_counter cycle wide

-- HB: from cycle 2,560 of the line on
unfoldable pub h_blank : ℕ → Bool
h_blank cycle = nat_le 2560 (cycle % line)

-- VB: after the lines of the display, and where the display is off
unfoldable pub v_blank : ℕ → Bool → Bool → Bool → Bool
v_blank cycle display pal tall = nat_le (height tall) (line_of cycle pal) || not display

-- the display's height is latched with line 0, on PAL alone: it is tall by bit 3 of register 1
unfoldable pub heightened : ℕ → Vdp → Vdp
heightened number s = if number == 0 then record s { tall = s.pal && (register s 1 / 8 % 2 == 1) } else s

-- the line counter and the horizontal interrupt at the event of a line
unfoldable pub counted : ℕ → Vdp → Vdp
counted number s =
    if nat_lt number (height s.tall) then (if s.line_counter == 0 then record s { horizontal = true; line_counter = register s 10 } else record s { line_counter = s.line_counter - 1 })
    else record s { line_counter = register s 10 }

-- the vertical interrupt comes on the line after the display, and the Z80's is asked for during it
unfoldable pub raised : ℕ → ℕ → Vdp → Vdp
raised cycle number s = if number == height s.tall then record s { vertical = true; int_from = cycle; int_to = cycle + line } else s

-- the VDP after the event of the line that begins at a cycle
unfoldable pub line_started : ℕ → Vdp → Vdp
line_started cycle s = let number = line_of cycle s.pal in raised cycle number (counted number (heightened number s))
