-- What holds after the event of a line.
use Rattle.std.proofs.Common.{◌≡◌, ◌⊎◌, ◌∙◌, refl, ap, ℕ, ◌+◌, ◌-◌, ◌*◌, ◌/◌, ◌%◌, ◌<◌, ◌≤◌, ◌==◌, min, if◌then◌else◌, nat_lt, Bool, true, false, inl, inr, List, length, arith, IfSome, Option, rules}
use Rattle.std.specs.Prelude.{slice_index}
use Rattle.std.proofs.Math.Nat.{min-eq_left, min-eq_right}
use Rattle.std.proofs.lemmas.Bool.{cases_Bool, cases_lt, le-ltb, ltb-false, ltb-true, ne_eqb}
use Rattle.std.proofs.lemmas.List.{get_or-replicate, length-replicate, length-take-le}
use Rattle.md_word.specs.Clock.{line}
use Rattle.vdp_time.specs.Lines.{line_of}
use Rattle.vdp_planes.specs.Dots.{Dot}
use Rattle.vdp_planes.specs.declared.view.LineView.{LineView}
use Rattle.vdp_planes.specs.declared.view.SpriteNote.{SpriteNote}
use Rattle.vdp_chip.specs.declared.kept.Kept.{Kept}
use Rattle.vdp_chip.specs.declared.kept.Kept.TheVariants as kinds
use Rattle.md_word.specs.Region.{lines, picture_length, rows, scanline_length}
use Rattle.md_word.proofs.Regions.{picture-rows}
use Rattle.vdp_chip.specs.Picture.{blank, cleared, drawn, finished, frame_of, memory_length, scanline_of}
use Rattle.vdp_chip.specs.RendererState.{RendererState, IsRendererState, at_power_on, line_drawn, picture_after, undrawn_from}
use Rattle.vdp_chip.specs.Kept.{IsKept}
use Rattle.vdp_chip.proofs.Scanlines.{length-scanline_of, length-with_scanline, with_scanline-following}

pub blank-zero : (n : ℕ) → n < memory_length → slice_index blank n ≡ 0
blank-zero n h = get_or-replicate memory_length n 0 0 h

pub blank-length : length blank ≡ memory_length
blank-length = length-replicate {A = ℕ} memory_length 0

pub renderer_state_begun : (pal : Bool) → IsRendererState (at_power_on pal)
renderer_state_begun pal = record {
  picture = blank-length;
  frame = search rules;
  at_line = refl;
  undrawn = λ n low high. blank-zero n high;
}

-- ---- the next line

line_next : (pal : Bool) (next : ℕ) → next % line ≡ 0 → (line_of (next + line) pal ≡ 0) ⊎ (line_of (next + line) pal ≡ line_of next pal + 1)
unfolding line_of
line_next true next h = elim (cases_lt (line_of next true) 312) [
  | inl less ↦ inr (omega (arith, h, less))
  | inr more ↦ inl (omega (arith, h, more))
]
line_next false next h = elim (cases_lt (line_of next false) 261) [
  | inl less ↦ inr (omega (arith, h, less))
  | inr more ↦ inl (omega (arith, h, more))
]

chosen : (b : Bool) (x y : ℕ) → b ≡ false → (if b then x else y) ≡ y
chosen true x y e = absurd cc
chosen false x y e = refl

-- the line of the last cycle below another
pub scanline_above : (cycle : ℕ) (pal : Bool) → 0 < cycle → undrawn_from cycle pal ≡ min ((cycle - 1) / line % lines pal + 1) (rows pal)
unfolding undrawn_from line_of
scanline_above cycle pal some = chosen (cycle == 0) 0 (min ((cycle - 1) / line % lines pal + 1) (rows pal)) (ne_eqb cycle 0 (λ e. omega (arith, e, some)))

line-ended : (next : ℕ) → next % line ≡ 0 → (next + line - 1) / line ≡ next / line
line-ended next h = omega (arith, h)

undrawn_next : (pal : Bool) (next : ℕ) → next % line ≡ 0 → undrawn_from (next + line) pal ≡ min (line_of next pal + 1) (rows pal)
unfolding line_of
undrawn_next pal next h =
    scanline_above (next + line) pal (omega arith) ∙ ap (λ (n : ℕ). min (n % lines pal + 1) (rows pal)) (line-ended next h)

line-before : (pal : Bool) (next : ℕ) → next % line ≡ 0 → 0 < line_of next pal → (next - 1) / line % lines pal + 1 ≡ line_of next pal
unfolding line_of
line-before true next h some = omega (arith, h, some)
line-before false next h some = omega (arith, h, some)

some-line : (pal : Bool) (next : ℕ) → 0 < line_of next pal → 0 < next
unfolding line_of
some-line true next some = omega (arith, some)
some-line false next some = omega (arith, some)

undrawn_now : (pal : Bool) (next : ℕ) → next % line ≡ 0 → 0 < line_of next pal → undrawn_from next pal ≡ min (line_of next pal) (rows pal)
undrawn_now pal next h some = scanline_above next pal (some-line pal next some) ∙ ap (λ (n : ℕ). min n (rows pal)) (line-before pal next h some)

pub kept_next : (pal : Bool) (next : ℕ) (kept : Kept) (aside : List ℕ) → next % line ≡ 0 → length aside ≡ memory_length
    → (kept ≡ kinds.Picture → rows pal ≤ line_of next pal) → IsKept pal kept (next + line) aside
kept_next pal next kept aside at whole free = record {
  whole = whole;
  free = λ e some. let low = free e in elim (line_next pal next at) [
    | inl zero ↦ omega (arith, zero, some)
    | inr more ↦ omega (arith, more, low)
  ];
}

-- ---- the picture

pub cleared-length : (number : ℕ) (picture : List ℕ) → length picture ≡ memory_length → length (cleared number picture) ≡ memory_length
unfolding cleared
cleared-length number picture h = elim (cases_Bool (number == 0)) [
  | inl e ↦ rw e blank-length
  | inr e ↦ rw e h
]

-- a picture has some rows, and at most 240
some-scanlines : (pal : Bool) → 0 < rows pal
some-scanlines true = omega arith
some-scanlines false = omega arith

pub few-scanlines : (pal : Bool) → rows pal ≤ 240
few-scanlines true = omega arith
few-scanlines false = omega arith

drawn-length : (pal : Bool) (number : ℕ) (scanline picture : List ℕ) → length scanline ≡ scanline_length → length picture ≡ memory_length → length (drawn pal number scanline picture) ≡ memory_length
unfolding drawn
drawn-length pal number scanline picture r h = elim (cases_Bool (nat_lt number (rows pal))) [
  | inl e ↦ rw e (length-with_scanline number scanline picture (omega (arith, ltb-true number (rows pal) e, few-scanlines pal)) r h)
  | inr e ↦ rw e h
]

pub after-length : (view : LineView) (s : List Dot) (d : RendererState) → IsRendererState d → length (picture_after view s d) ≡ memory_length
unfolding picture_after
after-length view s d h =
    let number = line_of d.next d.pal in
    drawn-length d.pal number (scanline_of view s number) (cleared number d.picture) (length-scanline_of view s number) (cleared-length number d.picture h.picture)

-- after the scanline that is drawn all is 0
cleared-undrawn : (d : RendererState) → IsRendererState d → (n : ℕ) → scanline_length * min (line_of d.next d.pal) (rows d.pal) ≤ n → n < memory_length
    → slice_index (cleared (line_of d.next d.pal) d.picture) n ≡ 0
unfolding cleared
cleared-undrawn d h n low high = elim (cases_Bool (line_of d.next d.pal == 0)) [
  | inl e ↦ rw e (blank-zero n high)
  | inr e ↦ rw e (
      let some : 0 < line_of d.next d.pal = grind arith in
      let from = undrawn_now d.pal d.next h.at_line some in
      h.undrawn n (omega (arith, from, low)) high)
]

after-undrawn : (view : LineView) (s : List Dot) (d : RendererState) → IsRendererState d → (n : ℕ) → scanline_length * undrawn_from (d.next + line) d.pal ≤ n → n < memory_length
    → slice_index (picture_after view s d) n ≡ 0
unfolding picture_after drawn
after-undrawn view s d h n low high =
    let number = line_of d.next d.pal in
    let next = undrawn_next d.pal d.next h.at_line in
    let picture = cleared number d.picture in
    elim (cases_Bool (nat_lt number (rows d.pal))) [
      | inl test ↦
          (let less : number < rows d.pal = ltb-true number (rows d.pal) test in
          let more : min (number + 1) (rows d.pal) ≡ number + 1 = min-eq_left (omega (arith, less)) in
          let here : min number (rows d.pal) ≡ number = min-eq_left (omega (arith, less)) in
          let following : scanline_length * number + scanline_length ≤ n = omega (arith, next, more, low) in
          rw test (
          with_scanline-following number n (scanline_of view s number) picture (omega (arith, less, few-scanlines d.pal)) (length-scanline_of view s number) (cleared-length number d.picture h.picture) following
          ∙ cleared-undrawn d h n (omega (arith, following, here)) high))
      | inr test ↦
          (let past : rows d.pal ≤ number = ltb-false number (rows d.pal) test in
          let more : min (number + 1) (rows d.pal) ≡ rows d.pal = min-eq_right (omega (arith, past)) in
          let here : min number (rows d.pal) ≡ rows d.pal = min-eq_right past in
          rw test (cleared-undrawn d h n (omega (arith, next, more, here, low)) high))
    ]

front-length : (pal : Bool) (picture : List ℕ) → length picture ≡ memory_length → length (frame_of pal picture) ≡ picture_length pal
front-length pal picture p = length-take-le (picture_length pal) picture (omega (arith, p, picture-rows pal, few-scanlines pal))

finished-length : (pal : Bool) (number : ℕ) (picture : List ℕ) (frame : Option (List ℕ)) → length picture ≡ memory_length
    → IfSome frame (λ bytes. length bytes ≡ picture_length pal) → IfSome (finished pal number picture frame) (λ bytes. length bytes ≡ picture_length pal)
unfolding finished
finished-length pal number picture frame p f = elim (cases_Bool (number == rows pal)) [
  | inl e ↦ rw e (front-length pal picture p)
  | inr e ↦ rw e f
]

pub renderer_state_drawn : (view : LineView) (s : List Dot) (note : SpriteNote) (d : RendererState) → IsRendererState d → IsRendererState (line_drawn view s note d)
unfolding line_drawn
renderer_state_drawn view s note d h = record {
  picture = after-length view s d h;
  frame = finished-length d.pal (line_of d.next d.pal) (picture_after view s d) d.frame (after-length view s d h) h.frame;
  at_line = omega (arith, h.at_line);
  undrawn = after-undrawn view s d h;
}

-- lines after the picture leave it as it is
pub undrawn_after : (pal : Bool) (number : ℕ) (scanline picture : List ℕ) → rows pal ≤ number → picture ≡ drawn pal number scanline (cleared number picture)
unfolding drawn cleared
undrawn_after pal number scanline picture h =
    let test : nat_lt number (rows pal) ≡ false = le-ltb number (rows pal) h in
    let some : (number == 0) ≡ false = ne_eqb number 0 (λ e. omega (arith, e, h, some-scanlines pal)) in
    rw (test, some) refl

-- the same of a picture and a frame that are those after the event
pub renderer_state_reported : (pal : Bool) (view : LineView) (s : List Dot) (next number : ℕ) (was note : SpriteNote) (has_view : Bool) (old picture : List ℕ) (kept frame : Option (List ℕ))
    → IsRendererState (record { next = next; note = was; has_view = has_view; picture = old; frame = kept; pal = pal })
    → number ≡ line_of next pal → picture ≡ drawn pal number (scanline_of view s number) (cleared number old) → frame ≡ finished pal number picture kept
    → IsRendererState (record { next = next + line; note = note; has_view = has_view; picture = picture; frame = frame; pal = pal })
unfolding line_drawn picture_after
renderer_state_reported pal view s next number was note has_view old picture kept frame h e p f =
    let d : RendererState = record { next = next; note = was; has_view = has_view; picture = old; frame = kept; pal = pal } in
    rw (f, p, e) (renderer_state_drawn view s note d h)
