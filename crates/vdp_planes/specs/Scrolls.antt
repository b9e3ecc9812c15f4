-- What stays the same along a line of a plane.
use Rattle.std.specs.Prelude.{◌≡◌, ℕ, ◌-◌, ◌/◌, ◌%◌, ◌<◌, ◌≤◌, nat_le, nat_lt, if◌then◌else◌}
use Rattle.vdp_ports.specs.Vdp.{vram_size}
use Rattle.vdp_planes.specs.declared.scroll.Scroll.{Scroll}
use Rattle.vdp_planes.specs.declared.window.Split.{Split}
use Rattle.vdp_planes.specs.declared.view.LineView.{LineView}
use Rattle.vdp_planes.specs.View.{has_bit, register}
use Rattle.vdp_planes.specs.Planes.{across, in_window, plane_base, plane_number, width_of}

-- a line's scroll as the view has it
pub record IsScroll (view : LineView) (scroll : Scroll) : Type 0 where
  pub base : scroll.base ≡ plane_base view scroll.second
  pub shift : scroll.shift ≡ 65536 - across view scroll.second scroll.y
  pub wide : scroll.across ≡ register view 16 % 4
  pub tall : scroll.down ≡ register view 16 / 16 % 4
  pub number : scroll.number ≡ plane_number scroll.second
  pub columns : scroll.by_columns ≡ has_bit (register view 11) 4
  pub base_below : scroll.base < vram_size
  pub base_even : scroll.base % 2 ≡ 0
  pub shift_most : scroll.shift ≤ 65536
  pub number_below : scroll.number < 2
  pub line_below : scroll.y < 240

-- the window is exactly one side of the line
pub record IsSplit (view : LineView) (y : ℕ) (split : Split) : Type 0 where
  pub within : split.edge ≤ width_of view
  pub covers : (x : ℕ) → x < width_of view → in_window view y x ≡ (if split.left then nat_lt x split.edge else nat_le split.edge x)
