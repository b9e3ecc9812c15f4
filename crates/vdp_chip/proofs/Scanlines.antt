-- A row from the bytes that mixing writes, and a picture with another row.
use Rattle.std.proofs.Common.{◌≡◌, ◌∙◌, refl, sym, ap, subst, lit<, replicate, ℕ, ◌+◌, ◌-◌, ◌*◌, ◌/◌, ◌%◌, ◌<◌, ◌≤◌, ◌==◌, inl, inr, Bool, true, false, List, ◌++◌, length, arith, get_or, take, drop}
use Rattle.std.specs.Prelude.{slice_index, slice_set}
use Rattle.std.proofs.Math.ListN.{get_or-eq_default}
use Rattle.std.proofs.lemmas.Bool.{cases_lt, le-ltb, ne_eqb}
use Rattle.std.proofs.lemmas.List.{append_assoc, drop-drop, ext_get_or, get_or-append_right, get_or-drop, get_or-replicate, get_or-set_same, length-append, length-drop, length-set, length-take-le}
use Rattle.std.proofs.lemmas.List.FromFn.{get_or-map-range_with_len, length-map-range_with_len}
use Rattle.md_word.specs.Region.{picture_width, scanline_length}
use borrow.Rule.Slice.PartMut.{put_mid}
use Rattle.vdp_planes.specs.Dots.{Dot}
use Rattle.vdp_planes.specs.declared.view.LineView.{LineView}
use Rattle.vdp_planes.specs.View.{AllColours, clear, display_height, dot_at, has_bit, register}
use Rattle.vdp_planes.specs.Planes.{plane_dot}
use Rattle.vdp_planes.specs.Mixing.{border_of, in_picture, line_byte, shown_at}
use Rattle.vdp_chip.specs.Picture.{hidden, line_scanline, memory_length, on_scanline, plane_dots, scanline_of, with_scanline, without_bit_6}

-- clear dots, and that they are colours
pub all_clear : (d : Dot) → d ≡ clear → (x : ℕ) → x < picture_width → dot_at (replicate picture_width d) x ≡ clear
all_clear d e x below = get_or-replicate picture_width x d clear below ∙ e

pub scanline_colours : (d : Dot) → d ≡ clear → AllColours (replicate picture_width d)
scanline_colours d e x below = subst (λ (dot : Dot). dot.colour < 64) (sym (all_clear d e x below)) (lit< tt)

-- a byte of a line reads the dots of the line alone
line_byte_same : (view : LineView) (a b c d s : List Dot) (n : ℕ) → n < scanline_length
    → ((x : ℕ) → x < picture_width → dot_at a x ≡ dot_at c x) → ((x : ℕ) → x < picture_width → dot_at b x ≡ dot_at d x)
    → line_byte view a b s n ≡ line_byte view c d s n
unfolding line_byte shown_at
line_byte_same view a b c d s n h first second =
    let dot : ℕ = n / 3 - border_of view in
    let u : dot < picture_width = omega arith in
    rw (first dot u, second dot u) refl

-- with the display off it reads none
line_byte_off : (view : LineView) (a b c d s : List Dot) (n : ℕ) → has_bit (register view 1) 64 ≡ false
    → line_byte view a b s n ≡ line_byte view c d s n
unfolding line_byte shown_at in_picture
line_byte_off view a b c d s n off = rw (off) refl

plane_dots-at : (view : LineView) (second : Bool) (y x : ℕ) → x < picture_width → dot_at (plane_dots view second y) x ≡ plane_dot view second y x
unfolding plane_dots
plane_dots-at view second y x h = get_or-map-range_with_len (plane_dot view second y) 0 picture_width x x clear h (omega arith)

pub length-line_scanline : (view : LineView) (s : List Dot) (y : ℕ) → length (line_scanline view s y) ≡ scanline_length
unfolding line_scanline
length-line_scanline view s y = length-map-range_with_len (line_byte view (plane_dots view false y) (plane_dots view true y) s) 0 scanline_length

pub length-scanline_of : (view : LineView) (s : List Dot) (y : ℕ) → length (scanline_of view s y) ≡ scanline_length
unfolding scanline_of
length-scanline_of view s y = length-line_scanline (on_scanline y view) s y

-- a byte of a line reads the sprites' dots of the line alone
sprites_byte_same : (view : LineView) (a b s t : List Dot) (n : ℕ) → n < scanline_length → ((x : ℕ) → x < picture_width → dot_at s x ≡ dot_at t x) → line_byte view a b s n ≡ line_byte view a b t n
unfolding line_byte shown_at
sprites_byte_same view a b s t n h same =
    let dot : ℕ = n / 3 - border_of view in
    let within : dot < picture_width = omega arith in
    rw (same dot within) refl

-- with the display off a line reads no dot of the sprites
line_byte_none : (view : LineView) (a b s t : List Dot) (n : ℕ) → has_bit (register view 1) 64 ≡ false → line_byte view a b s n ≡ line_byte view a b t n
unfolding line_byte shown_at in_picture
line_byte_none view a b s t n off = rw (off) refl

bit_6 : (byte : ℕ) → (without_bit_6 byte / 64 % 2 == 1) ≡ false
bit_6 byte = ne_eqb (without_bit_6 byte / 64 % 2) 1 (λ e. omega (arith, e))

hidden_off : (view : LineView) → has_bit (register (hidden view) 1) 64 ≡ false
unfolding hidden
hidden_off view = elim (cases_lt 1 (length view.registers)) [
  | inl some ↦ (ap (λ (r : ℕ). r / 64 % 2 == 1) (get_or-set_same view.registers 1 (without_bit_6 (register view 1)) 0 some) ∙ bit_6 (register view 1))
  | inr none ↦ (let few : length (slice_set view.registers 1 (without_bit_6 (register view 1))) ≤ 1 = omega (arith, none, length-set view.registers 1 (without_bit_6 (register view 1))) in
      ap (λ (r : ℕ). r / 64 % 2 == 1) (get_or-eq_default (slice_set view.registers 1 (without_bit_6 (register view 1))) 0 few))
]

-- rows whose bytes are the same are the same
line_scanline_same : (view : LineView) (s t : List Dot) (y : ℕ)
    → ((n : ℕ) → n < scanline_length → line_byte view (plane_dots view false y) (plane_dots view true y) s n ≡ line_byte view (plane_dots view false y) (plane_dots view true y) t n)
    → line_scanline view s y ≡ line_scanline view t y
unfolding line_scanline
line_scanline_same view s t y same =
    let a : List Dot = plane_dots view false y in
    let b : List Dot = plane_dots view true y in
    ext_get_or 0 (line_scanline view s y) (line_scanline view t y) (length-line_scanline view s y ∙ sym (length-line_scanline view t y))
    (λ n h.
    let within : n < scanline_length = omega (arith, h, length-line_scanline view s y) in
    get_or-map-range_with_len (line_byte view a b s) 0 scanline_length n n 0 within (omega arith)
    ∙ same n within
    ∙ sym (get_or-map-range_with_len (line_byte view a b t) 0 scanline_length n n 0 within (omega arith)))

-- after the lines of the display no dot of the sprites is seen
pub scanline_hidden : (view : LineView) (s t : List Dot) (y : ℕ) → display_height view ≤ y → scanline_of view s y ≡ scanline_of view t y
unfolding scanline_of on_scanline
scanline_hidden view s t y past =
    rw (le-ltb y (display_height view) past) (line_scanline_same (hidden view) s t y (λ n within.
    line_byte_none (hidden view) (plane_dots (hidden view) false y) (plane_dots (hidden view) true y) s t n (hidden_off view)))

-- a row reads the dots of the line alone
pub scanline_same : (view : LineView) (s t : List Dot) (y : ℕ) → ((x : ℕ) → x < picture_width → dot_at s x ≡ dot_at t x) → scanline_of view s y ≡ scanline_of view t y
unfolding scanline_of
scanline_same view s t y same =
    let v = on_scanline y view in
    line_scanline_same v s t y (λ n within. sprites_byte_same v (plane_dots v false y) (plane_dots v true y) s t n within same)

-- a byte of a line whose dots are those of the planes, or of which none shows
line_byte_drawn : (view : LineView) (a b s : List Dot) (y n : ℕ) (on : Bool) → has_bit (register view 1) 64 ≡ on → n < scanline_length
    → (on ≡ true → (x : ℕ) → x < picture_width → dot_at a x ≡ plane_dot view false y x) → (on ≡ true → (x : ℕ) → x < picture_width → dot_at b x ≡ plane_dot view true y x)
    → line_byte view a b s n ≡ line_byte view (plane_dots view false y) (plane_dots view true y) s n
line_byte_drawn view a b s y n false is h first second = line_byte_off view a b (plane_dots view false y) (plane_dots view true y) s n is
line_byte_drawn view a b s y n true is h first second =
    line_byte_same view a b (plane_dots view false y) (plane_dots view true y) s n h
    (λ x i. first refl x i ∙ sym (plane_dots-at view false y x i)) (λ x i. second refl x i ∙ sym (plane_dots-at view true y x i))

pub scanline_made : (view : LineView) (a b s : List Dot) (y : ℕ) (scanline : List ℕ) → length scanline ≡ scanline_length
    → (has_bit (register view 1) 64 ≡ true → (x : ℕ) → x < picture_width → dot_at a x ≡ plane_dot view false y x)
    → (has_bit (register view 1) 64 ≡ true → (x : ℕ) → x < picture_width → dot_at b x ≡ plane_dot view true y x)
    → ((n : ℕ) → n < scanline_length → slice_index scanline n ≡ line_byte view a b s n)
    → scanline ≡ line_scanline view s y
unfolding line_scanline
scanline_made view a b s y scanline whole first second bytes =
    let c = plane_dots view false y in
    let d = plane_dots view true y in
    ext_get_or 0 scanline (line_scanline view s y) (whole ∙ sym (length-line_scanline view s y)) (λ n h.
    let u : n < scanline_length = omega (arith, whole, h) in
    bytes n u
    ∙ line_byte_drawn view a b s y n (has_bit (register view 1) 64) refl u first second
    ∙ sym (get_or-map-range_with_len (line_byte view c d s) 0 scanline_length n n 0 u (omega arith)))

pub scanline_put : (y k : ℕ) (old scanline : List ℕ) → k ≡ scanline_length → put_mid (y * scanline_length) k old scanline ≡ with_scanline y scanline old
unfolding with_scanline
scanline_put y k old scanline e =
    let at : y * scanline_length ≡ scanline_length * y = omega arith in
    rw (e, at) (ap (λ (rest : List ℕ). take (scanline_length * y) old ++ (scanline ++ rest)) (drop-drop scanline_length (scanline_length * y) old) ∙ sym (append_assoc (take (scanline_length * y) old) scanline (drop (scanline_length * y + scanline_length) old)))

before_scanline : (y : ℕ) (scanline old : List ℕ) → y < 240 → length scanline ≡ scanline_length → length old ≡ memory_length → length (take (scanline_length * y) old ++ scanline) ≡ scanline_length * y + scanline_length
before_scanline y scanline old h r o =
    let both = length-append (take (scanline_length * y) old) scanline in
    let front = length-take-le (scanline_length * y) old (omega (arith, o)) in
    omega (arith, both, front, r)

pub length-with_scanline : (y : ℕ) (scanline old : List ℕ) → y < 240 → length scanline ≡ scanline_length → length old ≡ memory_length → length (with_scanline y scanline old) ≡ memory_length
unfolding with_scanline
length-with_scanline y scanline old h r o =
    let all = length-append (take (scanline_length * y) old ++ scanline) (drop (scanline_length * y + scanline_length) old) in
    let front = before_scanline y scanline old h r o in
    let following = length-drop (scanline_length * y + scanline_length) old in
    omega (arith, all, front, following, o)

-- the scanlines after it stay
pub with_scanline-following : (y n : ℕ) (scanline old : List ℕ) → y < 240 → length scanline ≡ scanline_length → length old ≡ memory_length → scanline_length * y + scanline_length ≤ n
    → slice_index (with_scanline y scanline old) n ≡ slice_index old n
unfolding with_scanline
with_scanline-following y n scanline old h r o following =
    let place : scanline_length * y + scanline_length + (n - (scanline_length * y + scanline_length)) ≡ n = omega arith in
    get_or-append_right (take (scanline_length * y) old ++ scanline) (drop (scanline_length * y + scanline_length) old) (scanline_length * y + scanline_length) n 0 (before_scanline y scanline old h r o) following
    ∙ get_or-drop (scanline_length * y + scanline_length) old (n - (scanline_length * y + scanline_length)) 0
    ∙ ap (λ (m : ℕ). get_or old m 0) place
