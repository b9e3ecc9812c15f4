-- The bytes of a saved state that keep the VDP. This project's profile.
use Rattle.std.specs.Prelude.{◌≡◌, ℕ, ◌+◌, ◌*◌, ◌<◌, ◌≤◌, Bool, false, List}
use Rattle.md_fields.specs.Fields.{spelling}
use Rattle.md_fields.specs.Items.{IsRefused, IsRight, Keeps}
use Rattle.vdp_ports.specs.Numbers.{numbers_of}
use Rattle.vdp_ports.specs.Rules.{HasRules}
use Rattle.vdp_ports.specs.Saved.{vdp_fields}
use Rattle.vdp_ports.specs.Vdp.{Vdp, vram_size}

-- how many bytes there are: registers, VRAM, colours, vertical scroll values, and the numbers after them
abbrev pub vdp_size : ℕ
vdp_size = 24 + vram_size + 2 * 64 + 2 * 40 + 45

-- the bytes that keep a VDP; the rules, and so the cycle and the region, have no part in them
abbrev pub vdp_bytes : Vdp → List ℕ
vdp_bytes s = spelling (vdp_fields 0 false (numbers_of s))

-- the bytes of a state at a cycle and of a region keep the VDP, whose rules hold
pub record Spells (at : ℕ) (pal : Bool) (bytes : List ℕ) (s : Vdp) : Type 0 where
  pub keeps : Keeps (vdp_fields at pal) bytes (numbers_of s)
  pub right : IsRight (vdp_fields at pal) (numbers_of s)
  pub region : s.pal ≡ pal

-- bytes of a state at a cycle and of a region that keep no VDP are invalid at this offset: by their
-- length, or by the first rule that fails
abbrev pub InvalidAt : ℕ → Bool → List ℕ → ℕ → Type 0
InvalidAt at pal bytes place = IsRefused vdp_size (vdp_fields at pal) bytes place

-- the values that a state at a cycle may have: those that the ports keep, where a fill or copy is
-- settled to it
pub record IsSettled (at : ℕ) (s : Vdp) : Type 0 where
  pub rules : HasRules at s
  pub settled : 0 < s.left → at ≤ s.next_stamp
