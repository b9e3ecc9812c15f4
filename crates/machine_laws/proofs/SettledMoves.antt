-- A move of a machine where fill, copy and the timers were settled before.
use Rattle.std.proofs.Common.{◌≡◌, refl, ap, ap₂, ℕ, ◌+◌, ◌<◌, ◌≤◌, cond, Bool, true, false, [], ◌∷◌}
use Rattle.md_word.specs.Clock as clock
use Rattle.md_word.specs.declared.event.Entry.{Entry}
use Rattle.m68k_chip.specs.Events.{answered, begun, request_of}
use Rattle.m68k_chip.specs.States.{next_of}
use Rattle.z80_chip.specs.Events as events80
use Rattle.z80_chip.specs.Events.{asked_of, handed}
use Rattle.z80_chip.specs.States.{next_of as sub_next_of}
use Rattle.vdp_chip.specs.RendererState.{RendererState}
use Rattle.vdp_planes.specs.View.{view_of}
use Rattle.vdp_ports.specs.Vdp.{Vdp}
use Rattle.vdp_ports.specs.Control.{level}
use Rattle.bus_shared.specs.Board.{Board}
use Rattle.bus_shared.specs.Entries.{line_entry}
use Rattle.md_chips.specs.Console.{Console, renderer_state_in, fm_moved, key_in, line_done, line_moved, main_moved, moved, psg_moved, rendered, sub_accessed, sub_moved, reported}
use Rattle.md_chips.specs.Lines.{drawn_from, frames_of}
use Rattle.md_chips.proofs.Moves.{five-each}
use Rattle.save_state.specs.States.{settled_console}
use Rattle.machine_laws.proofs.SettledBoard.{IsSame, again, answer-same, fm-batch-same, level-same, line-same, line-vdp-same, main-same, psg-batch-same, sub-pins-same, sub-same, reported-same}

-- ---- the moves

if-same : (e : ℕ) (b : Bool) (p q x y : Console) → settled_console e p ≡ settled_console e x → settled_console e q ≡ settled_console e y
    → settled_console e (cond b p q) ≡ settled_console e (cond b x y)
if-same e true p q x y first second = first
if-same e false p q x y first second = second

pub console-again : (e : ℕ) (m : Console) → settled_console e (settled_console e m) ≡ settled_console e m
console-again e m = ap (λ (b : Board). record m { shared = b }) (again e m.shared)

main-moved : (e : ℕ) (m : Console) → e ≤ (next_of m.main).key.cycle → settled_console e (main_moved (settled_console e m)) ≡ settled_console e (main_moved m)
unfolding main_moved
main-moved e m order =
    if-same e (next_of m.main).sample _ _ _ _
    (ap₂ (λ (n : ℕ) (b : Board). record m { main = begun m.cart m.main n; shared = b }) (level-same e m.shared) (again e m.shared))
    (λ i. record m {
      main = answered m.cart m.main (answer-same e m.shared (next_of m.main).key (request_of m.cart m.main) order i);
      shared = main-same e m.shared (next_of m.main).key (request_of m.cart m.main) order i;
    })

sub-moved : (e : ℕ) (m : Console) → e ≤ (sub_next_of m.sub.state).key.cycle → settled_console e (sub_moved (settled_console e m)) ≡ settled_console e (sub_moved m)
unfolding sub_moved
sub-moved e m order =
    let same : IsSame e (sub_accessed (settled_console e m)) (sub_accessed m) = sub-same e m.shared (sub_next_of m.sub.state).key (asked_of m.sub.cart m.sub.state) order in
    if-same e (sub_next_of m.sub.state).sample _ _ _ _
    (λ i. record m {
      sub = record m.sub { state = events80.begun m.sub.cart m.sub.state (sub-pins-same e m.shared i) };
      shared = again e m.shared i;
    })
    (λ i. record m {
      sub = record m.sub { state = events80.answered m.sub.cart (handed m.sub.state) (same.answer i) };
      shared = same.board i;
    })

line-done-same : (e : ℕ) (m : Console) → e ≤ m.line → line_done (settled_console e m) ≡ line_done m
line-done-same e m order = ap (λ (v : Vdp). drawn_from (view_of m.pal v) (renderer_state_in m)) (line-vdp-same e m.line m.shared m.note order)

line-moved : (e : ℕ) (m : Console) → e ≤ m.line → settled_console e (line_moved (settled_console e m)) ≡ settled_console e (line_moved m)
unfolding line_moved
line-moved e m order =
    ap₂ (λ (d : RendererState) (b : Board). record m { note = d.note; picture = d.picture; line = m.line + clock.line; shared = b })
    (line-done-same e m order) (line-same e m.line m.shared m.note order)

fm-moved : (e : ℕ) (m : Console) → settled_console e (fm_moved (settled_console e m)) ≡ settled_console e (fm_moved m)
unfolding fm_moved
fm-moved e m = ap (λ (b : Board). record (fm_moved m) { shared = b }) (fm-batch-same e m.fm_cycle m.shared)

psg-moved : (e : ℕ) (m : Console) → settled_console e (psg_moved (settled_console e m)) ≡ settled_console e (psg_moved m)
unfolding psg_moved
psg-moved e m = ap (λ (b : Board). record (psg_moved m) { shared = b }) (psg-batch-same e m.psg_cycle m.shared)

pub moved-same : (m : Console) (e i : ℕ) → i < 5 → e ≤ (key_in m i).cycle → settled_console e (moved (settled_console e m) i) ≡ settled_console e (moved m i)
unfolding moved key_in
moved-same m e i =
    five-each (λ i. e ≤ (key_in m i).cycle → settled_console e (moved (settled_console e m) i) ≡ settled_console e (moved m i))
    (main-moved e m) (sub-moved e m) (line-moved e m) (λ order. fm-moved e m) (λ order. psg-moved e m) i

-- ---- what they tell and render

pub reported-alike : (m : Console) (e i : ℕ) → i < 5 → e ≤ (key_in m i).cycle → reported (settled_console e m) i ≡ reported m i
unfolding reported key_in
reported-alike m e i =
    five-each (λ i. e ≤ (key_in m i).cycle → reported (settled_console e m) i ≡ reported m i)
    (λ order. ap (λ (t : Entry). cond (next_of m.main).sample [] (t ∷ [])) (reported-same e m.shared (next_of m.main).key (request_of m.cart m.main) order))
    (λ order. ap (λ (t : Entry). cond (sub_next_of m.sub.state).sample [] (t ∷ []))
    (sub-same e m.shared (sub_next_of m.sub.state).key (asked_of m.sub.cart m.sub.state) order).entry)
    (λ order. ap (λ (v : Vdp). line_entry v.pal (record { cycle = m.line; chip = 2 }) (level v) ∷ []) (line-vdp-same e m.line m.shared m.note order))
    (λ order. refl)
    (λ order. refl)
    i

pub rendered-alike : (m : Console) (e i : ℕ) → i < 5 → e ≤ (key_in m i).cycle → rendered (settled_console e m) i ≡ rendered m i
unfolding rendered key_in
rendered-alike m e i =
    five-each (λ i. e ≤ (key_in m i).cycle → rendered (settled_console e m) i ≡ rendered m i)
    (λ order. refl)
    (λ order. refl)
    (λ order. ap (λ (d : RendererState). record { frames = frames_of d.frame; sides = []; levels = [] }) (line-done-same e m order))
    (λ order. refl)
    (λ order. refl)
    i
