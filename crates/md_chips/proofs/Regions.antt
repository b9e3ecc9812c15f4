-- A run leaves the region.
use Rattle.std.proofs.Common.{◌∙◌, ℕ, zero, suc, cond, Bool, true, false, refl, sym, ap, subst, List, ◌<◌}
use Rattle.md_word.specs.declared.event.Entry.{Entry}
use Rattle.m68k_chip.specs.Events.{request_of}
use Rattle.m68k_chip.specs.States.{next_of}
use Rattle.vdp_ports.specs.Vdp.{Vdp}
use Rattle.z80_chip.specs.Events.{asked_of}
use Rattle.z80_chip.specs.States.{next_of as sub_next_of}
use Rattle.bus_shared.proofs.Touches.{left_by_batch, left_by_line, left_by_main, left_by_sub}
use Rattle.bus_shared.specs.Fm.{fm_board}
use Rattle.md_chips.specs.Console.{Console, IsRunTo, fm_moved, line_moved, main_moved, moved, mover, psg_moved, ran, sub_moved}
use Rattle.md_chips.specs.Media.{Media}
use Rattle.md_chips.specs.Movers.{mover-lt}
use Rattle.md_chips.specs.Regions.{Stays}
use Rattle.md_chips.proofs.Moves.{five-each}

one_of : (b : Bool) (old x y : Console) → Stays old x → Stays old y → Stays old (cond b x y)
one_of true old x y first second = first
one_of false old x y first second = second

pub main_stays : (z : Console) → Stays z (main_moved z)
unfolding main_moved
main_stays z =
    one_of (next_of z.main).sample z _ _ (record { pal = refl; region = refl })
    (record { pal = refl; region = (left_by_main z.shared (next_of z.main).key).region (request_of z.cart z.main) })

pub sub_stays : (z : Console) → Stays z (sub_moved z)
unfolding sub_moved
sub_stays z =
    let leaves = left_by_sub z.shared (sub_next_of z.sub.state).key (asked_of z.sub.cart z.sub.state) in
    one_of (sub_next_of z.sub.state).sample z _ _ (record { pal = refl; region = refl })
    (record { pal = refl; region = ap (λ (vdp : Vdp). vdp.pal) leaves.vdp })

pub line_stays : (z : Console) → Stays z (line_moved z)
unfolding line_moved
line_stays z = record { pal = refl; region = (left_by_line z.shared z.line z.note).region }

pub fm_stays : (z : Console) → Stays z (fm_moved z)
unfolding fm_moved fm_board
fm_stays z = record { pal = refl; region = refl }

pub psg_stays : (z : Console) → Stays z (psg_moved z)
unfolding psg_moved
psg_stays z = record { pal = refl; region = ap (λ (vdp : Vdp). vdp.pal) (left_by_batch z.shared z.psg_cycle).vdp }

moved-stays : (z : Console) (i : ℕ) → i < 5 → Stays z (moved z i)
unfolding moved
moved-stays z = five-each (λ i. Stays z (moved z i)) (main_stays z) (sub_stays z) (line_stays z) (fm_stays z) (psg_stays z)

pub ran_stays : (m : Console) (n : ℕ) → Stays m (ran m n)
unfolding ran
ran_stays m zero = record { pal = refl; region = refl }
ran_stays m (suc n) =
    let before = ran_stays m n in
    let move = moved-stays (ran m n) (mover (ran m n)) (mover-lt (ran m n)) in
    record { pal = move.pal ∙ before.pal; region = move.region ∙ before.region }

pub run_stays : (m w : Console) (end : ℕ) (entries : List Entry) (output : Media) → IsRunTo m end w entries output → Stays m w
run_stays m w end entries output run = subst (Stays m) (sym run.console) (ran_stays m run.moves)
