-- A move of a machine whose recording is another.
use Rattle.std.proofs.Common.{◌≡◌, ◌∙◌, refl, sym, ap, ap₂, subst, ℕ, ◌+◌, ◌*◌, ◌/◌, ◌%◌, ◌<◌, ◌==◌, cond, Bool, true, false, List, [], ◌∷◌, arith}
use Rattle.std.proofs.lemmas.Bool.{eqb-true}
use Rattle.md_word.specs.Clock as clock
use Rattle.md_word.specs.Region.{finished_at, frame_cycles}
use Rattle.md_word.specs.declared.event.Entry.{Entry}
use Rattle.md_pads.specs.Recording.{Frame}
use Rattle.m68k_chip.specs.Events.{answered, request_of}
use Rattle.m68k_chip.specs.States.{next_of}
use Rattle.z80_chip.specs.Events as events80
use Rattle.z80_chip.specs.Events.{asked_of, handed}
use Rattle.z80_chip.specs.States.{next_of as sub_next_of}
use Rattle.vdp_chip.specs.RendererState.{RendererState}
use Rattle.vdp_planes.specs.View.{view_of}
use Rattle.vdp_ports.specs.Control.{level}
use Rattle.vdp_ports.specs.Vdp.{Vdp}
use Rattle.bus_shared.specs.Board.{Board}
use Rattle.bus_shared.specs.Entries.{line_entry}
use Rattle.md_chips.specs.Console.{Console, renderer_state_in, fm_moved, key_in, line_done, line_moved, main_moved, moved, psg_moved, rendered, sub_accessed, sub_moved, reported}
use Rattle.md_chips.specs.Lines.{drawn_from, frames_of}
use Rattle.md_chips.proofs.Moves.{five-each}
use Rattle.machine_laws.specs.Recorded.{AreAlikeBelow, board_with, frame_at, with_frames}
use Rattle.machine_laws.proofs.RecordedBoard.{IsSame, answer-is, fm-with, line-region, line-vdp, line-with, line_pal, main-with, psg-with, sub-is, reported-is}

-- ---- the moves

if-consoles : (s : List Frame) (b : Bool) (p q x y : Console) → with_frames s p ≡ x → with_frames s q ≡ y → with_frames s (cond b p q) ≡ cond b x y
if-consoles s true p q x y first second = first
if-consoles s false p q x y first second = second

main-moved : (s : List Frame) (m : Console) → with_frames s (main_moved m) ≡ main_moved (with_frames s m)
unfolding main_moved
main-moved s m =
    if-consoles s (next_of m.main).sample _ _ _ _ refl
    (λ i. record m {
      main = answered m.cart m.main (sym (answer-is s m.shared (next_of m.main).key (request_of m.cart m.main)) i);
      shared = main-with s m.shared (next_of m.main).key (request_of m.cart m.main) i;
    })

sub-moved : (s : List Frame) (m : Console) → with_frames s (sub_moved m) ≡ sub_moved (with_frames s m)
unfolding sub_moved
sub-moved s m =
    let same : IsSame s (sub_accessed m) (sub_accessed (with_frames s m)) = sub-is s m.shared (sub_next_of m.sub.state).key (asked_of m.sub.cart m.sub.state) in
    if-consoles s (sub_next_of m.sub.state).sample _ _ _ _ refl
    (λ i. record m {
      sub = record m.sub { state = events80.answered m.sub.cart (handed m.sub.state) (sym same.answer i) };
      shared = same.board i;
    })

line-done : (s : List Frame) (m : Console) → line_done (with_frames s m) ≡ line_done m
line-done s m =
    ap (λ (v : Vdp). drawn_from (view_of m.pal v) (renderer_state_in m)) (line-vdp m.line (board_with s m.shared) m.note ∙ sym (line-vdp m.line m.shared m.note))

-- the frame of a line that takes the pads' words
frame-of : (pal : Bool) (c end : ℕ) → c < end → c % frame_cycles pal ≡ finished_at pal → frame_cycles pal * (c / frame_cycles pal) + finished_at pal < end
frame-of true c end below rest = omega (arith, below, rest)
frame-of false c end below rest = omega (arith, below, rest)

-- the words that a line below the end takes
taken : (s : List Frame) (end : ℕ) (pal : Bool) (c : ℕ) (r : List Frame) → AreAlikeBelow pal end r s → c < end
    → (c % frame_cycles pal == finished_at pal) ≡ true → frame_at r (c / frame_cycles pal) ≡ frame_at s (c / frame_cycles pal)
taken s end pal c r alike below is = alike (c / frame_cycles pal) (frame-of pal c end below (eqb-true _ _ is))

line-moved : (s : List Frame) (end : ℕ) (m : Console) → AreAlikeBelow m.shared.vdp.pal end m.shared.recording.frames s → m.line < end → with_frames s (line_moved m) ≡ line_moved (with_frames s m)
unfolding line_moved
line-moved s end m alike below =
    let same : AreAlikeBelow (line_pal m.line m.note m.shared) end m.shared.recording.frames s =
    subst (λ (pal : Bool). AreAlikeBelow pal end m.shared.recording.frames s) (sym (line-region m.line m.shared m.note)) alike in
    ap₂ (λ (d : RendererState) (b : Board). record m { note = d.note; picture = d.picture; line = m.line + clock.line; shared = b })
    (sym (line-done s m)) (line-with s m.line m.shared m.note (taken s end (line_pal m.line m.note m.shared) m.line m.shared.recording.frames same below))

fm-moved : (s : List Frame) (m : Console) → with_frames s (fm_moved m) ≡ fm_moved (with_frames s m)
unfolding fm_moved
fm-moved s m = ap (λ (b : Board). record (fm_moved m) { shared = b }) (fm-with s m.fm_cycle m.shared)

psg-moved : (s : List Frame) (m : Console) → with_frames s (psg_moved m) ≡ psg_moved (with_frames s m)
unfolding psg_moved
psg-moved s m = ap (λ (b : Board). record (psg_moved m) { shared = b }) (psg-with s m.psg_cycle m.shared)

pub moved-with : (s : List Frame) (end : ℕ) (m : Console) → AreAlikeBelow m.shared.vdp.pal end m.shared.recording.frames s → (i : ℕ) → i < 5 → (key_in m i).cycle < end → with_frames s (moved m i) ≡ moved (with_frames s m) i
unfolding moved key_in
moved-with s end m alike =
    five-each (λ i. (key_in m i).cycle < end → with_frames s (moved m i) ≡ moved (with_frames s m) i)
    (λ below. main-moved s m) (λ below. sub-moved s m) (line-moved s end m alike) (λ below. fm-moved s m) (λ below. psg-moved s m)

-- ---- what they tell and render

pub reported-with : (s : List Frame) (m : Console) (i : ℕ) → i < 5 → reported (with_frames s m) i ≡ reported m i
unfolding reported
reported-with s m =
    five-each (λ i. reported (with_frames s m) i ≡ reported m i)
    (ap (λ (t : Entry). cond (next_of m.main).sample [] (t ∷ [])) (reported-is s m.shared (next_of m.main).key (request_of m.cart m.main)))
    (ap (λ (t : Entry). cond (sub_next_of m.sub.state).sample [] (t ∷ [])) (sub-is s m.shared (sub_next_of m.sub.state).key (asked_of m.sub.cart m.sub.state)).entry)
    (ap (λ (v : Vdp). line_entry v.pal (record { cycle = m.line; chip = 2 }) (level v) ∷ []) (line-vdp m.line (board_with s m.shared) m.note ∙ sym (line-vdp m.line m.shared m.note)))
    refl
    refl

pub rendered-with : (s : List Frame) (m : Console) (i : ℕ) → i < 5 → rendered (with_frames s m) i ≡ rendered m i
unfolding rendered
rendered-with s m =
    five-each (λ i. rendered (with_frames s m) i ≡ rendered m i)
    refl
    refl
    (ap (λ (d : RendererState). record { frames = frames_of d.frame; sides = []; levels = [] }) (line-done s m))
    refl
    refl
