-- What no move changes: the recording.
use Rattle.std.proofs.Common.{◌≡◌, ℕ, zero, suc, ◌<◌, cond, Bool, true, false, refl, ◌∙◌}
use Rattle.md_pads.specs.Recording.{Recorded}
use Rattle.m68k_chip.specs.Events.{request_of}
use Rattle.m68k_chip.specs.States.{next_of}
use Rattle.z80_chip.specs.Events.{asked_of}
use Rattle.z80_chip.specs.States.{next_of as sub_next_of}
use Rattle.bus_shared.proofs.Touches.{left_by_batch, left_by_line, left_by_main, left_by_sub}
use Rattle.bus_shared.specs.Fm.{fm_board}
use Rattle.md_chips.specs.Console.{Console, fm_moved, line_moved, main_moved, moved, mover, psg_moved, ran, sub_moved}
use Rattle.md_chips.specs.Movers.{mover-lt}
use Rattle.md_chips.proofs.Moves.{five-each}

one_of : (b : Bool) (x y : Console) (recording : Recorded) → x.shared.recording ≡ recording → y.shared.recording ≡ recording → (cond b x y).shared.recording ≡ recording
one_of true x y recording first second = first
one_of false x y recording first second = second

moved_recording : (z : Console) (i : ℕ) → i < 5 → (moved z i).shared.recording ≡ z.shared.recording
unfolding moved main_moved sub_moved line_moved fm_moved psg_moved fm_board
moved_recording z =
    five-each (λ i. (moved z i).shared.recording ≡ z.shared.recording)
    (one_of (next_of z.main).sample _ _ z.shared.recording refl ((left_by_main z.shared (next_of z.main).key).recording (request_of z.cart z.main)))
    (one_of (sub_next_of z.sub.state).sample _ _ z.shared.recording refl ((left_by_sub z.shared (sub_next_of z.sub.state).key (asked_of z.sub.cart z.sub.state)).recording))
    (left_by_line z.shared z.line z.note).recording
    refl
    (left_by_batch z.shared z.psg_cycle).recording

pub recording_stays : (m : Console) (n : ℕ) → (ran m n).shared.recording ≡ m.shared.recording
unfolding ran
recording_stays m zero = refl
recording_stays m (suc n) = moved_recording (ran m n) (mover (ran m n)) (mover-lt (ran m n)) ∙ recording_stays m n
