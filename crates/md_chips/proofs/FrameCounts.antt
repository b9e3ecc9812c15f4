-- How many frames a run makes: one for each start of the line after the picture.
use Rattle.std.proofs.Common.{◌≡◌, ◌⊎◌, ℕ, zero, suc, ◌+◌, ◌-◌, ◌*◌, ◌/◌, ◌%◌, ◌<◌, ◌≤◌, ◌==◌, cond, Bool, true, false, List, [], length, length-append, Some, None, refl, sym, ap, ◌∙◌, subst, arith, lit<, inl, inr}
use Rattle.std.proofs.lemmas.Bool.{eq-eqb, eqb-true, true≢false}
use Rattle.md_word.specs.Clock as clock
use Rattle.md_word.specs.declared.event.Entry.{Entry}
use Rattle.m68k_chip.specs.States.{next_of}
use Rattle.z80_chip.specs.States.{next_of as sub_next_of}
use Rattle.vdp_time.specs.Lines.{line_of}
use Rattle.vdp_chip.specs.RendererState.{line_drawn}
use Rattle.md_word.specs.Region.{finishes, lines, rows}
use Rattle.md_word.proofs.Regions.{finishes-below, none-more-by, one-more-by}
use Rattle.vdp_chip.specs.Picture.{finished}
use Rattle.md_chips.specs.Console.{AllBelow, Console, IsRunTo, fm_moved, key_in, line_done, line_moved, main_moved, media_after, moved, mover, psg_moved, ran, rendered, sub_moved}
use Rattle.md_chips.specs.Lines.{drawn_from, frames_of}
use Rattle.md_chips.specs.Media.{Media}
use Rattle.md_chips.specs.Movers.{mover-lt}
use Rattle.md_chips.specs.Starts.{IsStart, Start, first_line, frames_below}
use Rattle.md_chips.proofs.Moves.{five-each}
use Rattle.md_chips.proofs.Regions.{ran_stays}

-- a move, by whether it is the event of a line
data LineMove (z : Console) (i : ℕ) : Type 0 where
  made : (key_in z i).cycle ≡ z.line → (moved z i).line ≡ z.line + clock.line → length (rendered z i).frames ≡ cond (line_of z.line z.pal == rows z.pal) 1 0 → LineMove z i
  none : (moved z i).line ≡ z.line → (rendered z i).frames ≡ [] → LineMove z i

line-leaves : (b : Bool) (x y : Console) (c : ℕ) → x.line ≡ c → y.line ≡ c → (cond b x y).line ≡ c
line-leaves true x y c first second = first
line-leaves false x y c first second = second

one_by : (b : Bool) (picture : List ℕ) → length (frames_of (cond b (Some picture) None)) ≡ cond b 1 0
one_by true picture = refl
one_by false picture = refl

frames-long : (z : Console) → length (frames_of (line_done z).frame) ≡ cond (line_of z.line z.pal == rows z.pal) 1 0
unfolding drawn_from line_drawn finished
frames-long z = one_by (line_of z.line z.pal == rows z.pal) _

move-by-line : (z : Console) (i : ℕ) → i < 5 → LineMove z i
unfolding key_in moved rendered main_moved sub_moved line_moved fm_moved psg_moved
move-by-line z =
    five-each (LineMove z) (none (line-leaves (next_of z.main).sample _ _ z.line refl refl) refl) (none (line-leaves (sub_next_of z.sub.state).sample _ _ z.line refl refl) refl)
    (made refl refl (frames-long z)) (none refl refl) (none refl refl)

-- a line more
one-more : (b pal : Bool) (lines : ℕ) → (line_of (clock.line * lines) pal == rows pal) ≡ b → finishes pal lines + cond b 1 0 ≡ finishes pal (lines + 1)
unfolding line_of
one-more true pal n is =
    let at : clock.line * n / clock.line % lines pal ≡ rows pal = eqb-true _ _ is in
    let same : clock.line * n / clock.line ≡ n = omega arith in
    one-more-by pal n (subst (λ (k : ℕ). k % lines pal ≡ rows pal) same at)
one-more false pal n is =
    let other : clock.line * n / clock.line % lines pal ≡ rows pal → ⊥ = λ e. absurd (true≢false (sym (eq-eqb _ _ e) ∙ is)) in
    let same : clock.line * n / clock.line ≡ n = omega arith in
    let here : finishes pal n ≡ finishes pal (n + 1) = none-more-by pal n (subst (λ (k : ℕ). k % lines pal ≡ rows pal → ⊥) same other) in
    omega (arith, here)

-- how many lines begin below a cycle
abbrev lines_below : ℕ → ℕ
lines_below at = (at + 3419) / clock.line

-- the lines of the first n moves from a start
record Lines (start : Start) (end n : ℕ) : Type 0 where
  lines : ℕ
  later : lines_below start.at ≤ lines
  next : (ran start.console n).line ≡ clock.line * lines
  count : finishes start.console.pal (lines_below start.at) + length (media_after start.console n).frames ≡ finishes start.console.pal lines
  last : (lines ≡ lines_below start.at) ⊎ (clock.line * (lines - 1) < end)

longer : (m : Console) (n : ℕ) → length (media_after m (suc n)).frames ≡ length (media_after m n).frames + length (rendered (ran m n) (mover (ran m n))).frames
unfolding media_after
longer m n = length-append (media_after m n).frames (rendered (ran m n) (mover (ran m n))).frames

-- with what is added to it
counted_on : (first old new lines fresh next : ℕ) → new ≡ old + fresh → first + old ≡ lines → lines + fresh ≡ next → first + new ≡ next
counted_on first old new lines fresh next more count one = omega (arith, more, count, one)

line-more : (start : Start) (end n : ℕ) → Lines start end n
    → (key_in (ran start.console n) (mover (ran start.console n))).cycle < end
    → LineMove (ran start.console n) (mover (ran start.console n)) → Lines start end (suc n)
unfolding ran
line-more start end n before below (made at next one) =
    let m : Console = start.console in
    let pal : Bool = m.pal in
    let line : (ran m n).line ≡ clock.line * before.lines = before.next in
    let fresh : length (rendered (ran m n) (mover (ran m n))).frames ≡ cond (line_of (clock.line * before.lines) pal == rows pal) 1 0 =
    one ∙ ap (λ (c : ℕ). cond (line_of c (ran m n).pal == rows (ran m n).pal) 1 0) line
    ∙ ap (λ (q : Bool). cond (line_of (clock.line * before.lines) q == rows q) 1 0) (ran_stays m n).pal in
    record {
      lines = before.lines + 1;
      later = omega (arith, before.later);
      next = omega (arith, next, line);
      count = counted_on (finishes pal (lines_below start.at)) (length (media_after m n).frames) (length (media_after m (suc n)).frames) (finishes pal before.lines) (length (rendered (ran m n) (mover (ran m n))).frames)
          (finishes pal (before.lines + 1)) (longer m n) before.count (ap (λ (k : ℕ). finishes pal before.lines + k) fresh ∙ one-more (line_of (clock.line * before.lines) pal == rows pal) pal before.lines refl);
      last = inr (omega (arith, at, line, below));
    }
line-more start end n before below (none next silent) = record {
  lines = before.lines;
  later = before.later;
  next = next ∙ before.next;
  count = counted_on (finishes start.console.pal (lines_below start.at)) (length (media_after start.console n).frames) (length (media_after start.console (suc n)).frames)
      (finishes start.console.pal before.lines) 0 (finishes start.console.pal before.lines)
      (longer start.console n ∙ ap (λ (k : ℕ). length (media_after start.console n).frames + k) (ap (λ (l : List (List ℕ)). length l) silent)) before.count (omega arith);
  last = before.last;
}

plus_none : (n : ℕ) → n + 0 ≡ n
plus_none n = omega arith

lines-to : (start : Start) (end n : ℕ) → IsStart start → AllBelow start.console end n → Lines start end n
unfolding ran media_after
lines-to start end zero is below = record { lines = lines_below start.at; later = omega arith; next = is.line; count = plus_none (finishes start.console.pal (lines_below start.at)); last = inl refl }
lines-to start end (suc n) is below =
    line-more start end n (lines-to start end n is (λ k earlier. below k (omega arith))) (below n (omega arith))
    (move-by-line (ran start.console n) (mover (ran start.console n)) (mover-lt (ran start.console n)))

-- more lines have no fewer ends of a frame
finishes-rise : (pal : Bool) (n m : ℕ) → n ≤ m → finishes pal n ≤ finishes pal m
finishes-rise true n m l = omega (arith, l)
finishes-rise false n m l = omega (arith, l)

none-left : (n : ℕ) → n - n ≡ 0
none-left n = omega arith

none-over : (n m : ℕ) → n ≤ m → n - m ≡ 0
none-over n m l = omega (arith, l)

counted : (pal : Bool) (at end lines : ℕ) → end ≤ clock.line * lines → lines_below at ≤ lines → (lines ≡ lines_below at) ⊎ (clock.line * (lines - 1) < end)
    → finishes pal lines - finishes pal (lines_below at) ≡ frames_below pal end - frames_below pal at
counted pal at end lines late later (inl first) =
    let within : lines_below end ≤ lines_below at = omega (arith, late, first) in
    let fewer : frames_below pal end ≤ frames_below pal at = subst (λ (n : ℕ). n ≤ frames_below pal at) (finishes-below pal end)
    (subst (λ (n : ℕ). finishes pal (lines_below end) ≤ n) (finishes-below pal at) (finishes-rise pal (lines_below end) (lines_below at) within)) in
    ap (λ (n : ℕ). finishes pal n - finishes pal (lines_below at)) first ∙ none-left (finishes pal (lines_below at)) ∙ sym (none-over (frames_below pal end) (frames_below pal at) fewer)
counted pal at end lines late later (inr last) =
    let same : lines ≡ lines_below end = omega (arith, late, last) in
    ap (λ (n : ℕ). finishes pal n - finishes pal (lines_below at)) same
    ∙ ap (λ (n : ℕ). n - finishes pal (lines_below at)) (finishes-below pal end) ∙ ap (λ (n : ℕ). frames_below pal end - n) (finishes-below pal at)

what_came : (first more all : ℕ) → first + more ≡ all → more ≡ all - first
what_came first more all e = omega (arith, e)

pub counts-frames : (start : Start) (z : Console) (end : ℕ) (entries : List Entry) (output : Media) → IsStart start
    → IsRunTo start.console end z entries output → length output.frames ≡ frames_below start.console.pal end - frames_below start.console.pal start.at
unfolding key_in
counts-frames start z end entries output is run =
    let made : Lines start end run.moves = lines-to start end run.moves is run.below in
    let late : end ≤ z.line = run.quiet 2 (lit< tt) in
    let at : z.line ≡ clock.line * made.lines = ap (λ (m : Console). m.line) run.console ∙ made.next in
    let pal : Bool = start.console.pal in
    let few : length (media_after start.console run.moves).frames ≡ finishes pal made.lines - finishes pal (lines_below start.at) =
    what_came (finishes pal (lines_below start.at)) (length (media_after start.console run.moves).frames) (finishes pal made.lines) made.count in
    ap (λ (m : Media). length m.frames) run.rendered_to ∙ few ∙ counted pal start.at end made.lines (subst (λ (n : ℕ). end ≤ n) at late) made.later made.last

-- the next line after a run is the first from its end on
next_first : (at end lines : ℕ) → at ≤ end → end ≤ clock.line * lines → (lines ≡ lines_below at) ⊎ (clock.line * (lines - 1) < end) → clock.line * lines ≡ first_line end
next_first at end lines later late (inl first) = omega (arith, later, late, first)
next_first at end lines later late (inr last) = omega (arith, later, late, last)

pub line-goes-on : (start : Start) (z : Console) (end : ℕ) (entries : List Entry) (output : Media) → IsStart start → start.at ≤ end
    → IsRunTo start.console end z entries output → z.line ≡ first_line end
unfolding key_in
line-goes-on start z end entries output is later run =
    let made : Lines start end run.moves = lines-to start end run.moves is run.below in
    let late : end ≤ z.line = run.quiet 2 (lit< tt) in
    let at : z.line ≡ clock.line * made.lines = ap (λ (m : Console). m.line) run.console ∙ made.next in
    at ∙ next_first start.at end made.lines later (subst (λ (n : ℕ). end ≤ n) at late) made.last
