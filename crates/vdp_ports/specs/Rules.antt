-- What holds of a VDP's values from power-on on, and of every saved one. Each holds at a cycle that
-- is after all that has happened.
use Rattle.std.specs.Prelude.{◌≡◌, ℕ, ◌+◌, ◌%◌, ◌<◌, ◌≤◌, ◌⊎◌, true, All, bit_and}
use Rattle.md_word.specs.Clock.{line}
use Rattle.vdp_ports.specs.Vdp.{Vdp}

-- a fill or copy that was settled below a cycle, or a little before it: its next byte is not far
pub record IsGoing (at kind byte source address left next : ℕ) : Type 0 where
  pub known : kind ≤ 2
  pub none : kind ≡ 0 → (byte ≡ 0) × (source ≡ 0) × (address ≡ 0) × (left ≡ 0) × (next ≡ 0)
  pub fill : kind ≡ 1 → (source ≡ 0) × (0 < left) × (left ≤ 0x1_0000) × (next < at + 17)
  pub copy : kind ≡ 2 → (byte ≡ 0) × (0 < left) × (left ≤ 0x1_0000) × (next < at + 34)

-- the Z80's interrupt is asked for during the line after the display: none came yet, or the last began below the cycle
abbrev pub IsInterruptInterval : ℕ → ℕ → ℕ → Type 0
IsInterruptInterval at from to = ((from ≡ 0) × (to ≡ 0)) ⊎ ((from % line ≡ 0) × (from < at) × (to ≡ from + line))

-- the code is CD5 to CD0, colours and scrolls have only their bits, and only on PAL the display is tall
pub record HasRules (at : ℕ) (s : Vdp) : Type 0 where
  pub code : s.code < 64
  pub cram : All (λ w. bit_and w 0x0eee ≡ w) s.cram
  pub vsram : All (λ w. bit_and w 0x07ff ≡ w) s.vsram
  pub going : IsGoing at s.dma_kind s.byte s.source s.address s.left s.next_stamp
  pub interval : IsInterruptInterval at s.int_from s.int_to
  pub region : s.tall ≡ true → s.pal ≡ true
