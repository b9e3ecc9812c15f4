-- The rows of the lines drawn so far, up to a whole frame.
use Rattle.std.proofs.Common.{◌≡◌, ◌∙◌, refl, sym, ap, ℕ, ◌+◌, ◌-◌, ◌*◌, ◌%◌, ◌<◌, ◌≤◌, ◌==◌, nat_lt, false, true, Bool, List, [], ◌∷◌, ◌++◌, length, arith, Some, take, drop}
use Rattle.std.specs.Prelude.{replicate}
use Rattle.std.proofs.Math.Seq.{drop-append-add}
use Rattle.std.proofs.lemmas.Bool.{eq-eqb, le-ltb, lt-ltb}
use Rattle.std.proofs.lemmas.List.{append-nil, append_assoc, drop-replicate, length-append, take_at}
use Rattle.md_word.specs.Clock.{line}
use Rattle.vdp_time.specs.Lines.{line_of}
use Rattle.md_word.specs.Region.{picture_length, rows, scanline_length}
use Rattle.md_word.proofs.Regions.{picture-rows}
use Rattle.vdp_chip.specs.Picture.{cleared, drawn, finished, frame_of, memory_length, scanline_of, with_scanline}
use Rattle.vdp_chip.specs.RendererState.{RendererState, IsRendererState, line_drawn, picture_after}
use Rattle.vdp_chip.specs.Frames.{IsItsScanlines, Line, after, scanlines_from}
use Rattle.vdp_chip.proofs.Scanlines.{length-scanline_of}

-- a picture of which these lines are drawn
abbrev picture_of : List Line → List ℕ
picture_of lines = scanlines_from 0 lines ++ replicate (memory_length - scanline_length * length lines) 0

-- these lines of the frame are drawn, and the next one comes
record HasScanlines (lines : List Line) (d : RendererState) : Type 0 where
  number : line_of d.next d.pal ≡ length lines
  at_line : d.next % line ≡ 0
  picture : cleared (length lines) d.picture ≡ picture_of lines

length-scanlines_from : (y : ℕ) (lines : List Line) → length (scanlines_from y lines) ≡ scanline_length * length lines
unfolding scanlines_from
length-scanlines_from y [] = refl
length-scanlines_from y (first ∷ rest) =
    let both = length-append (scanline_of first.view first.sprites y) (scanlines_from (y + 1) rest) in
    let one = length-scanline_of first.view first.sprites y in
    let more = length-scanlines_from (y + 1) rest in
    omega (arith, both, one, more)

scanlines_from-append : (y : ℕ) (lines : List Line) (l : Line) → scanlines_from y (lines ++ (l ∷ [])) ≡ scanlines_from y lines ++ scanline_of l.view l.sprites (y + length lines)
unfolding scanlines_from
scanlines_from-append y [] l =
    let same : y + 0 ≡ y = omega arith in
    append-nil (scanline_of l.view l.sprites y) ∙ sym (ap (λ (n : ℕ). scanline_of l.view l.sprites n) same)
scanlines_from-append y (first ∷ rest) l =
    let scanline = scanline_of first.view first.sprites y in
    let place : y + 1 + length rest ≡ y + length (first ∷ rest) = omega arith in
    ap (λ (rows : List ℕ). scanline ++ rows) (scanlines_from-append (y + 1) rest l)
    ∙ sym (append_assoc scanline (scanlines_from (y + 1) rest) (scanline_of l.view l.sprites (y + 1 + length rest)))
    ∙ ap (λ (n : ℕ). scanline ++ scanlines_from (y + 1) rest ++ scanline_of l.view l.sprites n) place

scanline_more : (lines : List Line) (l : Line) → with_scanline (length lines) (scanline_of l.view l.sprites (length lines)) (picture_of lines) ≡ picture_of (lines ++ (l ∷ []))
unfolding with_scanline
scanline_more lines l =
    let n = length lines in
    let before = scanlines_from 0 lines in
    let scanline = scanline_of l.view l.sprites n in
    let rest = replicate (memory_length - scanline_length * n) 0 in
    let long = length-scanlines_from 0 lines in
    let count = length-append lines (l ∷ []) in
    let left : memory_length - scanline_length * n - scanline_length ≡ memory_length - scanline_length * length (lines ++ (l ∷ [])) = omega (arith, count) in
    let number : 0 + n ≡ n = omega arith in
    let front : take (scanline_length * n) (before ++ rest) ≡ before = take_at before rest (scanline_length * n) long in
    let following : drop (scanline_length * n + scanline_length) (before ++ rest) ≡ replicate (memory_length - scanline_length * length (lines ++ (l ∷ []))) 0 =
    ap (λ (k : ℕ). drop (k + scanline_length) (before ++ rest)) (sym long) ∙ drop-append-add before rest scanline_length
    ∙ drop-replicate scanline_length (memory_length - scanline_length * n) 0 ∙ ap (λ (k : ℕ). replicate k 0) left in
    let made : before ++ scanline ≡ scanlines_from 0 (lines ++ (l ∷ [])) =
    ap (λ (k : ℕ). before ++ scanline_of l.view l.sprites k) (sym number) ∙ sym (scanlines_from-append 0 lines l) in
    rw (front, following, made) refl

line_more : (pal : Bool) (next : ℕ) → next % line ≡ 0 → line_of next pal < rows pal → line_of (next + line) pal ≡ line_of next pal + 1
unfolding line_of
line_more true next h u = omega (arith, h, u)
line_more false next h u = omega (arith, h, u)

drawn_more : (lines : List Line) (l : Line) (d : RendererState) → HasScanlines lines d → length lines < rows d.pal
    → picture_after l.view l.sprites d ≡ picture_of (lines ++ (l ∷ []))
unfolding picture_after drawn
drawn_more lines l d h u =
    let test : nat_lt (length lines) (rows d.pal) ≡ true = lt-ltb (length lines) (rows d.pal) u in
    rw (h.number, test, h.picture) (scanline_more lines l)

scanline_drawn : (lines : List Line) (l : Line) (d : RendererState) → HasScanlines lines d → length lines < rows d.pal
    → HasScanlines (lines ++ (l ∷ [])) (line_drawn l.view l.sprites l.note d)
unfolding line_drawn cleared
scanline_drawn lines l d h u =
    let count = length-append lines (l ∷ []) in
    let more = line_more d.pal d.next h.at_line (rw h.number u) in
    let some : (length (lines ++ (l ∷ [])) == 0) ≡ false = grind (arith, count) in
    record {
      number = omega (arith, more, h.number, count);
      at_line = omega (arith, h.at_line);
      picture = rw some (drawn_more lines l d h u);
    }

scanlines_drawn : (rest lines : List Line) (d : RendererState) → HasScanlines lines d → length lines + length rest ≤ rows d.pal → HasScanlines (lines ++ rest) (after rest d)
unfolding after line_drawn
scanlines_drawn [] lines d h u = rw (append-nil lines) h
scanlines_drawn (l ∷ rest) lines d h u =
    let count = length-append lines (l ∷ []) in
    let few : length (lines ++ (l ∷ [])) + length rest ≤ rows d.pal = omega (arith, count, u) in
    rw (append_assoc lines (l ∷ []) rest) at
    (scanlines_drawn rest (lines ++ (l ∷ [])) (line_drawn l.view l.sprites l.note d) (scanline_drawn lines l d h (omega (arith, u))) few)

after-append : (lines : List Line) (last : Line) (d : RendererState) → after (lines ++ (last ∷ [])) d ≡ line_drawn last.view last.sprites last.note (after lines d)
unfolding after
after-append [] last d = refl
after-append (l ∷ rest) last d = after-append rest last (line_drawn l.view l.sprites l.note d)

after-region : (lines : List Line) (d : RendererState) → (after lines d).pal ≡ d.pal
unfolding after line_drawn
after-region [] d = refl
after-region (l ∷ rest) d = after-region rest (line_drawn l.view l.sprites l.note d)

scanlines_begun : (d : RendererState) → d.next % line ≡ 0 → line_of d.next d.pal ≡ 0 → HasScanlines [] d
unfolding cleared scanlines_from
scanlines_begun d at zero = record { number = zero; at_line = at; picture = refl }

-- the rows of the region are the front of the picture
front : (pal : Bool) (lines : List Line) → length lines ≡ rows pal → frame_of pal (picture_of lines) ≡ scanlines_from 0 lines
front pal lines e =
    let long : length (scanlines_from 0 lines) ≡ picture_length pal = omega (arith, length-scanlines_from 0 lines, e, picture-rows pal) in
    take_at (scanlines_from 0 lines) (replicate (memory_length - scanline_length * length lines) 0) (picture_length pal) long

-- a line is not below itself, and is itself
not_below : (n : ℕ) → nat_lt n n ≡ false
not_below n = le-ltb n n (omega arith)

frame_made : (lines : List Line) (last : Line) (d : RendererState) → HasScanlines lines d → length lines ≡ rows d.pal
    → (line_drawn last.view last.sprites last.note d).frame ≡ Some (scanlines_from 0 lines)
unfolding line_drawn picture_after drawn finished
frame_made lines last d h e =
    let number : line_of d.next d.pal ≡ rows d.pal = h.number ∙ e in
    let picture : cleared (rows d.pal) d.picture ≡ picture_of lines = ap (λ (n : ℕ). cleared n d.picture) (sym e) ∙ h.picture in
    rw (number, not_below (rows d.pal), eq-eqb (rows d.pal) (rows d.pal) refl)
    (ap (λ (bytes : List ℕ). Some (frame_of d.pal bytes)) picture ∙ ap (λ (bytes : List ℕ). Some bytes) (front d.pal lines e))

pub frame_scanlines : (d : RendererState) → IsRendererState d → IsItsScanlines d
frame_scanlines d h lines last zero count =
    let all : length lines ≡ rows (after lines d).pal = count ∙ ap rows (sym (after-region lines d)) in
    rw (after-append lines last d) (frame_made lines last (after lines d) (scanlines_drawn lines [] d (scanlines_begun d h.at_line zero) (omega (arith, count))) all)
