-- Dots of one cell.
use Rattle.std.proofs.Common.{◌≡◌, ◌∙◌, refl, sym, ap, ℕ, ◌+◌, ◌-◌, ◌*◌, ◌/◌, ◌%◌, ◌<◌, ◌≤◌, Bool, true, false, ◌⊎◌, inl, inr, arith, List}
use Rattle.vdp_planes.specs.Dots.{Dot}
use Rattle.vdp_planes.specs.declared.view.LineView.{LineView}
use Rattle.vdp_planes.specs.View.{IsFilled, clear, register, word_at, has_bit}
use Rattle.vdp_planes.specs.Planes.{across, cell_dot, cells_of, down, name_place, pattern_index, pixel_dot, pixel_of, point_x, point_y, run_dot, scrolled_dot, turned, window_dot, window_place}
use Rattle.vdp_planes.proofs.Filled.{filled_as}
use Rattle.vdp_planes.proofs.Masks.{cells_three}

-- within a cell a place rises with x
rises : (w n k : ℕ) → (w ≡ 32) ⊎ (w ≡ 64) ⊎ (w ≡ 128) → n % (w * 8) % 8 + k < 8 → (n + k) % (w * 8) ≡ n % (w * 8) + k
rises w n k (inl e) h = let h' = rw e at h in rw e (omega arith)
rises w n k (inr (inl e)) h = let h' = rw e at h in rw e (omega arith)
rises w n k (inr (inr e)) h = let h' = rw e at h in rw e (omega arith)

point_x-rises : (view : LineView) (second : Bool) (y x i : ℕ) → x ≤ i → i < x + 8 - point_x view second y x % 8
    → point_x view second y i ≡ point_x view second y x + (i - x)
unfolding point_x
point_x-rises view second y x i low high =
    let n = x + (65536 - across view second y) in
    let w = cells_of (register view 16 % 4) in
    let near : n % (w * 8) % 8 + (i - x) < 8 = omega (arith, high) in
    let place : i + (65536 - across view second y) ≡ n + (i - x) = omega arith in
    ap (λ m. m % (w * 8)) place ∙ rises w n (i - x) (cells_three (register view 16 % 4)) near

down-same : (view : LineView) (second : Bool) (x i : ℕ) → i / 16 ≡ x / 16 → down view second i ≡ down view second x
unfolding down
down-same view second x i e = rw e

down-flat : (view : LineView) (second : Bool) (x i : ℕ) → has_bit (register view 11) 4 ≡ false → down view second i ≡ down view second x
unfolding down
down-flat view second x i e = rw e

-- the vertical scroll stays the same within a column, and all along the line where there are none
down-run : (view : LineView) (second columns : Bool) (x i end : ℕ) → columns ≡ has_bit (register view 11) 4 → (columns ≡ true → end ≤ x + 16 - x % 16) → x ≤ i → i < end
    → down view second i ≡ down view second x
down-run view second true x i end e h low high = let near = h refl in let pair : i / 16 ≡ x / 16 = omega arith in down-same view second x i pair
down-run view second false x i end e h low high = down-flat view second x i (sym e)

-- so does the point of the plane down
pub point_y-run : (view : LineView) (second columns : Bool) (y x i end py : ℕ) → columns ≡ has_bit (register view 11) 4 → (columns ≡ true → end ≤ x + 16 - x % 16)
    → py ≡ point_y view second y x → x ≤ i → i < end → py ≡ point_y view second y i
unfolding point_y
point_y-run view second columns y x i end py e h f low high = rw (down-run view second columns x i end e h low high) f

pub scrolled_run : (view : LineView) (second : Bool) (y x i : ℕ) → x ≤ i → i < x + 8 - point_x view second y x % 8 → point_y view second y i ≡ point_y view second y x
    → run_dot view (word_at view (name_place view second (point_x view second y x) (point_y view second y x))) (point_x view second y x % 8) (point_y view second y x % 8) x i
    ≡ scrolled_dot view second y i
unfolding scrolled_dot name_place
scrolled_run view second y x i low near below =
    let px = point_x view second y x in
    let rise = point_x-rises view second y x i low near in
    let cell : (px + (i - x)) / 8 ≡ px / 8 = omega (arith, near) in
    let at : (px + (i - x)) % 8 ≡ px % 8 + (i - x) = omega (arith, near) in
    rw (rise, below, cell, at)

pub window_run : (view : LineView) (y x i : ℕ) → x ≤ i → i < x + 8 - x % 8
    → run_dot view (word_at view (window_place view y x)) (x % 8) (y % 8) x i ≡ window_dot view y i
unfolding window_dot window_place
window_run view y x i low near =
    let cell : i / 8 ≡ x / 8 = omega arith in
    let at : i % 8 ≡ x % 8 + (i - x) = omega arith in
    rw (cell, at)

pub scrolled_drawn : (view : LineView) (second : Bool) (y x next name px py : ℕ) (old new : List Dot)
    → px ≡ point_x view second y x → ((i : ℕ) → x ≤ i → i < next → py ≡ point_y view second y i) → name ≡ word_at view (name_place view second px py)
    → next ≤ x + 8 - px % 8 → x < next
    → IsFilled clear x next old new (run_dot view name (px % 8) (py % 8) x)
    → IsFilled clear x next old new (scrolled_dot view second y)
scrolled_drawn view second y x next name px py old new e f n near further h =
    let here = f x (omega arith) further in
    filled_as clear x next old new (run_dot view name (px % 8) (py % 8) x) (scrolled_dot view second y) h
    (λ i low high. let whole = scrolled_run view second y x i low (omega (arith, ap (λ m. m % 8) e)) (sym (f i low high) ∙ here) in cc)

pub window_drawn : (view : LineView) (y x next name at : ℕ) (old new : List Dot)
    → at ≡ window_place view y x → name ≡ word_at view at → next ≤ x + 8 - x % 8
    → IsFilled clear x next old new (run_dot view name (x % 8) (y % 8) x)
    → IsFilled clear x next old new (window_dot view y)
window_drawn view y x next name at old new e n near h =
    filled_as clear x next old new (run_dot view name (x % 8) (y % 8) x) (window_dot view y) h
    (λ i low high. let whole = window_run view y x i low (omega arith) in cc)

-- dots made from the pixels of a cell's row are dots of the cell
pub pixels_drawn : (view : LineView) (name pixels column row from to : ℕ) (a b : List Dot) → column + to ≤ from + 8
    → ((c : ℕ) → c < 8 → pixel_of pixels c ≡ pattern_index view (name % 2048) (turned (has_bit name 2048) c) (turned (has_bit name 4096) row))
    → IsFilled clear from to a b (pixel_dot name pixels column from) → IsFilled clear from to a b (run_dot view name column row from)
unfolding cell_dot
pixels_drawn view name pixels column row from to a b cell same drawn =
    filled_as clear from to a b (pixel_dot name pixels column from) (run_dot view name column row from) drawn
    (λ x low high. let here : column + (x - from) < 8 = omega arith in rw (same (column + (x - from)) here) refl)
