-- A move keeps what holds of the VDP and its renderer, at each cycle above its own.
use Rattle.std.proofs.Common.{ℕ, zero, suc, ◌<◌, ◌≤◌, Bool, true, false, cond, List, sym, subst, arith}
use Rattle.md_word.specs.Clock as clock
use Rattle.md_pads.specs.Recording.{Recorded}
use Rattle.md_word.specs.declared.event.Entry.{Entry}
use Rattle.m68k_chip.specs.Events.{request_of}
use Rattle.m68k_chip.specs.States.{next_of}
use Rattle.z80_chip.specs.Events.{asked_of}
use Rattle.z80_chip.specs.States.{next_of as sub_next_of}
use Rattle.vdp_chip.proofs.Lined.{renderer_state_begun}
use Rattle.vdp_chip.proofs.SavedLaws.{spelled_back, spelled_renderer_state, spelled_ready}
use Rattle.vdp_chip.specs.RendererState.{IsRendererState, line_drawn}
use Rattle.vdp_chip.specs.Spelling as renderer_states
use Rattle.vdp_chip.specs.Spelling.{IsReady, renderer_state_bytes}
use Rattle.vdp_dma.proofs.Kept.{later_kept}
use Rattle.vdp_planes.specs.View.{view_of}
use Rattle.vdp_ports.proofs.Kept.{power_on_rules}
use Rattle.vdp_ports.proofs.RuleLaws.{settled_from}
use Rattle.vdp_ports.specs.Spelling as vdps
use Rattle.md_fields.specs.Items.{IsRight}
use Rattle.vdp_ports.specs.Numbers.{numbers_of}
use Rattle.vdp_ports.specs.Saved.{vdp_fields}
use Rattle.bus_shared.proofs.Ruled.{batch_ruled, fm_batch_ruled, line_ruled, main_ruled, sub_ruled}
use Rattle.bus_shared.specs.Accesses.{line_board}
use Rattle.md_chips.specs.Console.{AllBelow, Console, IsQuiet, IsRunTo, renderer_state_in, fm_moved, key_in, line_done, line_moved, main_moved, moved, mover, power_on, psg_moved, ran, sub_moved}
use Rattle.md_chips.specs.LineLaws.{renderer_state-ok}
use Rattle.md_chips.specs.Lines.{drawn_from}
use Rattle.md_chips.specs.Media.{Media}
use Rattle.md_chips.specs.Movers.{mover-lt}
use Rattle.md_chips.proofs.Moves.{five-each}
use Rattle.machine_laws.specs.Video.{HasVideo}

-- ---- the moves, chip by chip

one_of : (b : Bool) (at : ℕ) (x y : Console) → HasVideo at x → HasVideo at y → HasVideo at (cond b x y)
one_of true at x y first second = first
one_of false at x y first second = second

main_keeps : (at : ℕ) (z : Console) → (next_of z.main).key.cycle < at → HasVideo at z → HasVideo at (main_moved z)
unfolding main_moved
main_keeps at z below has =
    one_of (next_of z.main).sample at _ _ (record { rules = has.rules; renderer_state = has.renderer_state; near = has.near })
    (record {
      rules = main_ruled at z.shared (next_of z.main).key (request_of z.cart z.main) below has.rules;
      renderer_state = has.renderer_state;
      near = has.near;
    })

sub_keeps : (at : ℕ) (z : Console) → HasVideo at z → HasVideo at (sub_moved z)
unfolding sub_moved
sub_keeps at z has =
    one_of (sub_next_of z.sub.state).sample at _ _ (record { rules = has.rules; renderer_state = has.renderer_state; near = has.near })
    (record {
      rules = sub_ruled at z.shared (sub_next_of z.sub.state).key (asked_of z.sub.cart z.sub.state) has.rules;
      renderer_state = has.renderer_state;
      near = has.near;
    })

fm_keeps : (at : ℕ) (z : Console) → HasVideo at z → HasVideo at (fm_moved z)
unfolding fm_moved
fm_keeps at z has = record { rules = fm_batch_ruled at z.shared z.fm_cycle has.rules; renderer_state = has.renderer_state; near = has.near }

psg_keeps : (at : ℕ) (z : Console) → HasVideo at z → HasVideo at (psg_moved z)
unfolding psg_moved
psg_keeps at z has = record { rules = batch_ruled at z.shared z.psg_cycle has.rules; renderer_state = has.renderer_state; near = has.near }

-- the event of a line leaves a picture of which no frame is kept
line_keeps : (at : ℕ) (z : Console) → z.line < at → HasVideo at z → HasVideo at (line_moved z)
unfolding line_moved drawn_from line_drawn
line_keeps at z below has =
    let done : IsRendererState (line_done z) = renderer_state-ok (view_of z.pal (line_board z.shared z.line z.note).vdp) (renderer_state_in z) has.renderer_state in
    record {
      rules = line_ruled at z.shared z.line z.note below has.renderer_state.at_line has.rules;
      renderer_state = record { picture = done.picture; frame = tt; at_line = done.at_line; undrawn = done.undrawn };
      near = omega (arith, below);
    }

move_keeps : (at : ℕ) (z : Console) → HasVideo at z → (i : ℕ) → i < 5 → (key_in z i).cycle < at → HasVideo at (moved z i)
unfolding moved key_in
move_keeps at z has =
    five-each (λ i. (key_in z i).cycle < at → HasVideo at (moved z i))
    (λ below. main_keeps at z below has)
    (λ below. sub_keeps at z has)
    (λ below. line_keeps at z below has)
    (λ below. fm_keeps at z has)
    (λ below. psg_keeps at z has)

-- ---- a run

ran_keeps : (at : ℕ) (m : Console) (n : ℕ) → HasVideo at m → AllBelow m at n → HasVideo at (ran m n)
unfolding ran
ran_keeps at m zero has below = has
ran_keeps at m (suc n) has below =
    move_keeps at (ran m n) (ran_keeps at m n has (λ k less. below k (omega arith))) (mover (ran m n)) (mover-lt (ran m n)) (below n (omega arith))

-- what holds at a cycle holds at each later one
later : (at end : ℕ) (m : Console) → at ≤ end → HasVideo at m → HasVideo end m
later at end m more has = record { rules = later_kept at end m.shared.vdp more has.rules; renderer_state = has.renderer_state; near = omega (arith, more, has.near) }

pub run_keeps : (m z : Console) (at end : ℕ) (entries : List Entry) (output : Media) → HasVideo at m → at ≤ end → IsRunTo m end z entries output → HasVideo end z
run_keeps m z at end entries output has more run = subst (HasVideo end) (sym run.console) (ran_keeps end m run.moves (later at end m more has) run.below)

pub power_on_has : (cart : List ℕ) (recording : Recorded) (pal : Bool) (at : ℕ) → HasVideo at (power_on cart recording pal)
power_on_has cart recording pal at = record { rules = power_on_rules at pal; renderer_state = renderer_state_begun pal; near = omega arith }

-- ---- what is kept of it

pub renderer_state_ready : (at : ℕ) (m : Console) → HasVideo at m → IsQuiet at m → IsReady at (renderer_state_in m)
unfolding key_in
renderer_state_ready at m has quiet = record { from = quiet 2 (omega arith); near = has.near }

pub spells_renderer_state : (at : ℕ) (m : Console) → at ≤ clock.cycle_limit → HasVideo at m → IsQuiet at m → renderer_states.Spells at m.pal (renderer_state_bytes (renderer_state_in m)) (renderer_state_in m)
spells_renderer_state at m small has quiet =
    spelled_back at (renderer_state_in m) has.renderer_state (omega (arith, small, has.near)) (renderer_state_ready at m has quiet)

pub spelled_has : (at : ℕ) (pal : Bool) (bytes drawn : List ℕ) (m : Console) → vdps.Spells at pal bytes m.shared.vdp → renderer_states.Spells at pal drawn (renderer_state_in m) → HasVideo at m
spelled_has at pal bytes drawn m vdp renderer_state = record {
  rules = (settled_from at m.shared.vdp
      (subst (λ (b : Bool). IsRight (vdp_fields at b) (numbers_of m.shared.vdp)) (sym vdp.region) vdp.right)).rules;
  renderer_state = spelled_renderer_state at pal drawn (renderer_state_in m) renderer_state;
  near = (spelled_ready at pal drawn (renderer_state_in m) renderer_state).near;
}
