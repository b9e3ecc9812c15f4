-- The frame that the drawing half keeps is that of the record's run: over a segment there is one at most.
use Rattle.std.proofs.Common.{◌≡◌, ◌⊎◌, ℕ, zero, suc, ◌+◌, ◌<◌, ◌≤◌, ◌==◌, ◌%◌, cond, Bool, true, false, List, [], ◌∷◌, ◌++◌, refl, sym, ap, ◌∙◌, arith, subst, lit<, inl, inr, Option, Some, None, eqb-true}
use Rattle.std.proofs.lemmas.List.{append-nil}
use Rattle.md_word.specs.Clock as clock
use Rattle.chip_core.specs.Machines as machines
use Rattle.chip_core.specs.Machines.{AllBelow, IsValid, Machine, is_sample, key_of, move, put, run}
use Rattle.vdp_time.specs.Lines.{line_of}
use Rattle.vdp_planes.specs.View.{view_of}
use Rattle.vdp_planes.specs.declared.view.LineView.{LineView}
use Rattle.vdp_chip.specs.RendererState.{RendererState, line_drawn, picture_after}
use Rattle.md_word.specs.Region.{frame_cycles, rows}
use Rattle.md_word.proofs.Regions.{only_one}
use Rattle.vdp_chip.specs.Picture.{finished, frame_of}
use Rattle.bus_shared.specs.Accesses.{line_board}
use Rattle.bus_shared.specs.Board.{Board, IsBoard}
use Rattle.md_chips.specs.Console.{Console, media_after, mover, ran, rendered}
use Rattle.md_chips.specs.LineLaws.{reported-drawn}
use Rattle.md_chips.specs.Lines.{drawn_from, frames_of}
use Rattle.md_chips.specs.Media.{Media}
use Rattle.md_chips.specs.Parts.{RendererValue, IsRenderer}
use Rattle.md_chips.specs.Refinement.{console_of, renderer_of}
use Rattle.md_chips.specs.Rules.{IsChip, advance, renderer_advance, renderer_perform, five, next, perform}
use Rattle.md_chips.specs.declared.chips.Chip.{Chip}
use Rattle.md_chips.specs.declared.chips.Chip.TheVariants.{Renderer}
use Rattle.md_chips.proofs.Lifts.{Movers, ValidTo, mover-same, ran-same}
use Rattle.md_chips.proofs.Moves.{five-each, kind2, move-access}
use Rattle.md_chips.proofs.Samples.{other_by}

-- the drawing half of a machine
abbrev renderer_state_of : Machine Chip Board → RendererState
renderer_state_of m = (renderer_of (m.chip 2)).chip

-- a frame was finished at a line after a cycle, and before the next line
record Finished (pal : Bool) (from next : ℕ) : Type 0 where
  at : ℕ
  following : from ≤ at
  before : at < next
  line : line_of at pal ≡ rows pal
  whole : at % clock.line ≡ 0

-- no frame is kept but one that was finished after a cycle
abbrev Once : Bool → ℕ → ℕ → Option (List ℕ) → Type 0
Once pal from next frame = (frames_of frame ≡ []) ⊎ Finished pal from next

-- within a frame's cycles none follows
none-follows : (pal : Bool) (from next : ℕ) → Finished pal from next → line_of next pal ≡ rows pal → next % clock.line ≡ 0 → next < from + frame_cycles pal → ⊥
unfolding line_of
none-follows pal from next f line whole near = only_one pal from f.at next f.following f.before f.line f.whole line whole near

none-before : (pal : Bool) (from next : ℕ) (frame : Option (List ℕ)) → Once pal from next frame → line_of next pal ≡ rows pal → next % clock.line ≡ 0 → next < from + frame_cycles pal → frames_of frame ≡ []
none-before pal from next frame (inl none) line whole near = none
none-before pal from next frame (inr f) line whole near = absurd (none-follows pal from next f line whole near)

-- the frame after a line, by whether that is the first after the picture
framed_by : (b : Bool) (old : Option (List ℕ)) (picture : List ℕ) (frames : List (List ℕ)) → frames_of old ≡ frames → (b ≡ true → frames_of old ≡ [])
    → frames_of (cond b (Some picture) old) ≡ frames ++ frames_of (cond b (Some picture) None)
framed_by true old picture frames same none = ap (λ (l : List (List ℕ)). l ++ (picture ∷ [])) (sym (none refl) ∙ same)
framed_by false old picture frames same none = same ∙ sym (append-nil frames)

once_by : (b pal : Bool) (old : Option (List ℕ)) (picture : List ℕ) (from next : ℕ) → (b ≡ true → line_of next pal ≡ rows pal) → next % clock.line ≡ 0 → from ≤ next → Once pal from next old
    → Once pal from (next + clock.line) (cond b (Some picture) old)
once_by true pal old picture from next line whole following once =
    inr (record { at = next; following = following; before = omega arith; line = line refl; whole = whole })
once_by false pal old picture from next line whole following (inl none) = inl none
once_by false pal old picture from next line whole following (inr f) =
    inr (record { at = f.at; following = f.following; before = omega (arith, f.before); line = f.line; whole = f.whole })

-- the first stages of a run, seen from a cycle on
record Framed (pal : Bool) (m : Machine Chip Board) (frames : List (List ℕ)) (from : ℕ) : Type 0 where
  region : (renderer_state_of m).pal ≡ pal
  same : frames_of (renderer_state_of m).frame ≡ frames
  following : from ≤ (renderer_state_of m).next
  once : Once pal from (renderer_state_of m).next (renderer_state_of m).frame

-- the event of a line: the picture that it leaves, the frame, and the next line
abbrev view_on : RendererValue → Board → LineView
view_on v s = view_of v.chip.pal (line_board s v.chip.next v.chip.note).vdp

abbrev picture_on : RendererValue → Board → List ℕ
picture_on v s = frame_of v.chip.pal (drawn_from (view_on v s) v.chip).picture

frame-after : (v : RendererValue) (s : Board)
    → (renderer_advance (renderer_perform v s).chip).chip.frame ≡ cond (line_of v.chip.next v.chip.pal == rows v.chip.pal) (Some (picture_on v s)) v.chip.frame
unfolding drawn_from line_drawn picture_after finished
frame-after v s = ap (λ (d : RendererState). d.frame) (reported-drawn (view_on v s) (record v.chip { has_view = false }) refl)

next-after : (v : RendererValue) (s : Board) → (renderer_advance (renderer_perform v s).chip).chip.next ≡ v.chip.next + clock.line
unfolding drawn_from line_drawn
next-after v s = refl

abbrev unframed : RendererState → RendererState
unframed d = record { next = d.next; note = d.note; has_view = true; picture = d.picture; frame = None; pal = d.pal }

region-after : (v : RendererValue) (s : Board) → (renderer_advance (renderer_perform v s).chip).chip.pal ≡ v.chip.pal
unfolding drawn_from line_drawn
region-after v s = refl

frames-made : (v : RendererValue) (s : Board) → frames_of (drawn_from (view_on v s) (unframed v.chip)).frame ≡ frames_of (cond (line_of v.chip.next v.chip.pal == rows v.chip.pal) (Some (picture_on v s)) None)
unfolding drawn_from line_drawn picture_after finished
frames-made v s = refl

line-made : (m : Machine Chip Board) (v : RendererValue) → m.chip 2 ≡ Renderer v
    → (rendered (console_of m) 2).frames ≡ frames_of (cond (line_of v.chip.next v.chip.pal == rows v.chip.pal) (Some (picture_on v m.shared)) None)
unfolding rendered console_of
line-made m v is =
    ap (λ (c : Chip). frames_of (drawn_from (view_on (renderer_of c) m.shared) (unframed (renderer_of c).chip)).frame) is ∙ frames-made v m.shared

line-left : (m : Machine Chip Board) (v : RendererValue) → m.chip 2 ≡ Renderer v → renderer_state_of (move five m 2) ≡ (renderer_advance (renderer_perform v m.shared).chip).chip
unfolding put
line-left m v is =
    ap renderer_state_of (move-access m 2 (ap (λ (c : Chip). (next c).sample) is)) ∙ ap (λ (c : Chip). (renderer_of (advance (perform c m.shared).chip)).chip) is

-- a line's event with the frame of the first lines kept
line-framed : (pal : Bool) (m : Machine Chip Board) (v : RendererValue) (frames : List (List ℕ)) (from : ℕ) → m.chip 2 ≡ Renderer v → IsRenderer v → v.chip.next < from + frame_cycles pal
    → Framed pal m frames from → Framed pal (move five m 2) (frames ++ (rendered (console_of m) 2).frames) from
line-framed pal m v frames from is ok near before =
    let here : renderer_state_of m ≡ v.chip = ap (λ (c : Chip). (renderer_of c).chip) is in
    let left : renderer_state_of (move five m 2) ≡ (renderer_advance (renderer_perform v m.shared).chip).chip = line-left m v is in
    let frame : (renderer_state_of (move five m 2)).frame ≡ cond (line_of v.chip.next v.chip.pal == rows v.chip.pal) (Some (picture_on v m.shared)) v.chip.frame =
    ap (λ (d : RendererState). d.frame) left ∙ frame-after v m.shared in
    let region : (renderer_advance (renderer_perform v m.shared).chip).chip.pal ≡ v.chip.pal = region-after v m.shared in
    let its : v.chip.pal ≡ pal = subst (λ (d : RendererState). d.pal ≡ pal) here before.region in
    let later : (renderer_state_of (move five m 2)).next ≡ v.chip.next + clock.line = ap (λ (d : RendererState). d.next) left ∙ next-after v m.shared in
    let following : from ≤ v.chip.next = subst (λ (d : RendererState). from ≤ d.next) here before.following in
    let once : Once pal from v.chip.next v.chip.frame = subst (λ (d : RendererState). Once pal from d.next d.frame) here before.once in
    let on_line : (line_of v.chip.next v.chip.pal == rows v.chip.pal) ≡ true → line_of v.chip.next pal ≡ rows pal =
    subst (λ (p : Bool). (line_of v.chip.next v.chip.pal == rows v.chip.pal) ≡ true → line_of v.chip.next p ≡ rows p) its (eqb-true (line_of v.chip.next v.chip.pal) (rows v.chip.pal)) in
    let kept : frames_of v.chip.frame ≡ frames = ap (λ (d : RendererState). frames_of d.frame) (sym here) ∙ before.same in
    record {
      region = ap (λ (d : RendererState). d.pal) left ∙ region ∙ its;
      same =
          ap frames_of frame
          ∙ framed_by (line_of v.chip.next v.chip.pal == rows v.chip.pal) v.chip.frame (picture_on v m.shared) frames kept
          (λ e. none-before pal from v.chip.next v.chip.frame once (on_line e) ok.chip.at_line near)
          ∙ ap (λ (l : List (List ℕ)). frames ++ l) (sym (line-made m v is));
      following = omega (arith, later, following);
      once = subst (λ (n : ℕ). Once pal from n (renderer_state_of (move five m 2)).frame) (sym later)
          (subst (λ (f : Option (List ℕ)). Once pal from (v.chip.next + clock.line) f) (sym frame)
          (once_by (line_of v.chip.next v.chip.pal == rows v.chip.pal) pal v.chip.frame (picture_on v m.shared) from v.chip.next on_line ok.chip.at_line following once));
    }

-- the event of another chip
other-framed : (pal : Bool) (m : Machine Chip Board) (i : ℕ) (frames : List (List ℕ)) (from : ℕ) → (2 == i) ≡ false → (rendered (console_of m) i).frames ≡ []
    → Framed pal m frames from → Framed pal (move five m i) (frames ++ (rendered (console_of m) i).frames) from
other-framed pal m i frames from away none before =
    let left : renderer_state_of (move five m i) ≡ renderer_state_of m = ap (λ (c : Chip). (renderer_of c).chip) (other_by (is_sample five m i) m i 2 refl away) in
    record {
      region = ap (λ (d : RendererState). d.pal) left ∙ before.region;
      same = ap (λ (d : RendererState). frames_of d.frame) left ∙ before.same ∙ sym (append-nil frames) ∙ ap (λ (l : List (List ℕ)). frames ++ l) (sym none);
      following = subst (λ (d : RendererState). from ≤ d.next) (sym left) before.following;
      once = subst (λ (d : RendererState). Once pal from d.next d.frame) (sym left) before.once;
    }

frames-more : (pal : Bool) (m : Machine Chip Board) (frames : List (List ℕ)) (from : ℕ) → IsValid five IsChip IsBoard m → (i : ℕ) → i < 5 → (key_of five m i).cycle < from + frame_cycles pal
    → Framed pal m frames from → Framed pal (move five m i) (frames ++ (rendered (console_of m) i).frames) from
unfolding rendered
frames-more pal m frames from valid =
    let k2 = kind2 (m.chip 2) (valid.number 2 (lit< tt)) in
    five-each (λ i. (key_of five m i).cycle < from + frame_cycles pal → Framed pal m frames from → Framed pal (move five m i) (frames ++ (rendered (console_of m) i).frames) from)
    (λ near before. other-framed pal m 0 frames from refl refl before)
    (λ near before. other-framed pal m 1 frames from refl refl before)
    (λ near before. line-framed pal m k2.0 frames from k2.1 (subst IsChip k2.1 (valid.chip 2 (lit< tt))) (subst (λ (c : Chip). (next c).key.cycle < from + frame_cycles pal) k2.1 near) before)
    (λ near before. other-framed pal m 3 frames from refl refl before)
    (λ near before. other-framed pal m 4 frames from refl refl before)

-- the first moves of a segment, from a machine that keeps no frame
frames-framed : (pal : Bool) (m : Machine Chip Board) (from to n : ℕ) → ValidTo m n → Movers → frames_of (renderer_state_of m).frame ≡ [] → machines.IsQuiet five m from
    → to ≤ from + frame_cycles pal → AllBelow five m to n → Framed pal m [] from → Framed pal (run five m n) (media_after (console_of m) n).frames from
unfolding run media_after
frames-framed pal m from to zero valid movers none quiet near below first = first
frames-framed pal m from to (suc n) valid movers none quiet near below first =
    let stage : IsValid five IsChip IsBoard (run five m n) = valid n (omega arith) in
    let valid' : ValidTo m n = λ k earlier. valid k (omega arith) in
    let below' : AllBelow five m to n = record { each = λ k earlier. below.each k (omega arith) } in
    let before : Framed pal (run five m n) (media_after (console_of m) n).frames from = frames-framed pal m from to n valid' movers none quiet near below' first in
    let here : (key_of five (run five m n) (machines.mover five (run five m n))).cycle < from + frame_cycles pal = omega (arith, below.each n (omega arith), near) in
    let same : rendered (console_of (run five m n)) (machines.mover five (run five m n)) ≡ rendered (ran (console_of m) n) (mover (ran (console_of m) n)) =
    ap (λ (j : ℕ). rendered (console_of (run five m n)) j) (mover-same (run five m n) stage)
    ∙ ap (λ (z : Console). rendered z (mover z)) (ran-same m n valid' movers) in
    subst (λ (output : Media). Framed pal (run five m (suc n)) ((media_after (console_of m) n).frames ++ output.frames) from) same
    (frames-more pal (run five m n) (media_after (console_of m) n).frames from stage (machines.mover five (run five m n)) (movers (run five m n)) here before)

first-framed : (m : Machine Chip Board) (from : ℕ) → IsValid five IsChip IsBoard m → frames_of (renderer_state_of m).frame ≡ [] → machines.IsQuiet five m from → Framed (renderer_state_of m).pal m [] from
first-framed m from valid none quiet =
    let k2 = kind2 (m.chip 2) (valid.number 2 (lit< tt)) in
    let late : from ≤ k2.0.chip.next = subst (λ (c : Chip). from ≤ (next c).key.cycle) k2.1 (quiet 2 (lit< tt)) in
    record {
      region = refl;
      same = none;
      following = subst (λ (c : Chip). from ≤ (renderer_of c).chip.next) (sym k2.1) late;
      once = inl none;
    }

pub frames-kept : (m : Machine Chip Board) (from to n : ℕ) → ValidTo m n → IsValid five IsChip IsBoard m → Movers → frames_of (renderer_state_of m).frame ≡ [] → machines.IsQuiet five m from
    → to ≤ from + frame_cycles (renderer_state_of m).pal → AllBelow five m to n → frames_of (renderer_of ((run five m n).chip 2)).chip.frame ≡ (media_after (console_of m) n).frames
frames-kept m from to n valid here movers none quiet near below =
    (frames-framed (renderer_state_of m).pal m from to n valid movers none quiet near below (first-framed m from here none quiet)).same
