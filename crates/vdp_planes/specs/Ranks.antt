-- The order of dots as numbers: the one in front has the greatest.
use Rattle.std.specs.Prelude.{ℕ, ◌+◌, ◌*◌, max, if◌then◌else◌}
use Rattle.vdp_planes.specs.Dots.{Dot}
use Rattle.vdp_planes.specs.Mixing.{is_opaque}

-- a dot's place in the order with its colour; a transparent one has none
unfoldable pub rank_key : ℕ → Dot → ℕ
rank_key rank d = if is_opaque d then (if d.priority then rank + 4 else rank) * 64 + d.colour else 0

-- the greatest of backdrop, B and A
abbrev pub after_key : ℕ → Dot → Dot → ℕ
after_key back a b = max (max back (rank_key 1 b)) (rank_key 2 a)
