-- What holds of a machine that a run reaches holds of it once it is settled.
use Rattle.std.proofs.Common.{◌≡◌, ◌∙◌, refl, sym, ℕ, zero, suc, ◌/◌, ◌%◌, ◌≤◌, ◌==◌, Bool, true, false, arith}
use Rattle.std.specs.Prelude.{All, nat_lt}
use Rattle.std.proofs.lemmas.Bool.{true≢false, and_parts, ltb-true}
use Rattle.fm_port.specs.Timed.{AreTimed, IsTimed}
use Rattle.fm_port.specs.Timers.{both_settled, is_due, overflowed, period_a, period_b, settled, settled_by}
use Rattle.fm_port.specs.declared.timer.Timer.{Timer}
use Rattle.fm_port.specs.declared.timers.Timers.{Timers}
use Rattle.md_pads.specs.Recording.{IsFrame, Recorded}
use Rattle.vdp_dma.proofs.Kept.{settled_kept}
use Rattle.md_chips.specs.Console.{Console, IsQuiet, key_in}
use Rattle.md_chips.specs.ValidParts.{HasValidParts}
use Rattle.save_state.specs.States.{settled_console}
use Rattle.machine_laws.specs.Processors.{IsValid}
use Rattle.machine_laws.specs.Reached.{IsReached}
use Rattle.machine_laws.specs.Recorded.{with_recording}

-- ---- the timers

overflowed-timed : (end longest bit period : ℕ) (enabled : Bool) (t : Timer) → period ≤ longest → is_due end t ≡ true → IsTimed end longest bit t
    → IsTimed end longest bit (overflowed period enabled t)
overflowed-timed end longest bit period enabled t most due is =
    let parts = and_parts t.run (nat_lt t.next end) due in
    let before = ltb-true t.next end parts.1 in
    record { run = is.run; runs = λ runs. omega (arith, before, most); stands = λ stands. absurd (true≢false (sym parts.0 ∙ stands)) }

settled-by : (n : ℕ) (b : Bool) (end longest bit period : ℕ) (enabled : Bool) (t : Timer) → is_due end t ≡ b → period ≤ longest → IsTimed end longest bit t
    → IsTimed end longest bit (settled_by n end period enabled t)
unfolding settled_by
settled-by zero b end longest bit period enabled t due most is = is
settled-by (suc n) true end longest bit period enabled t due most is =
    rw due (settled-by n (is_due end (overflowed period enabled t)) end longest bit period enabled (overflowed period enabled t) refl most
    (overflowed-timed end longest bit period enabled t most due is))
settled-by (suc n) false end longest bit period enabled t due most is = rw due is

settled-timed : (end longest bit period : ℕ) (enabled : Bool) (t : Timer) → period ≤ longest → IsTimed end longest bit t → IsTimed end longest bit (settled end period enabled t)
unfolding settled
settled-timed end longest bit period enabled t most is = settled-by end (is_due end t) end longest bit period enabled t refl most is

both-timed : (end : ℕ) (t : Timers) → AreTimed end t → AreTimed end (both_settled end t)
unfolding both_settled period_a period_b
both-timed end t is = record {
  a = settled-timed end 1032192 (t.control % 2) _ (t.control / 4 % 2 == 1) t.a (omega arith) is.a;
  b = settled-timed end 4128768 (t.control / 2 % 2) _ (t.control / 8 % 2 == 1) t.b (omega arith) is.b;
}

-- ---- all

quiet-settled : (at : ℕ) (m : Console) (recording : Recorded) → IsQuiet at m → IsQuiet at (with_recording recording (settled_console at m))
unfolding key_in
quiet-settled at m recording quiet = quiet

pub reached-settled : (at : ℕ) (m : Console) (recording : Recorded) → IsReached at m → All IsFrame recording.frames
    → HasValidParts (with_recording recording (settled_console at m)) → IsValid (with_recording recording (settled_console at m))
    → IsReached at (with_recording recording (settled_console at m))
reached-settled at m recording reached buttons parts valid = record {
  start = record { quiet = quiet-settled at m recording reached.start.quiet; line = reached.start.line; fm = reached.start.fm; psg = reached.start.psg };
  parts = parts;
  processors = record {
    valid = valid;
    main = reached.processors.main;
    sub = reached.processors.sub;
    one_cart = reached.processors.one_cart;
    one_owner = reached.processors.one_owner;
    resets = reached.processors.resets;
  };
  video = record {
    rules = settled_kept at at m.shared.vdp (omega arith) reached.video.rules;
    renderer_state = reached.video.renderer_state;
    near = reached.video.near;
  };
  lines = record { resets = reached.lines.resets; recording = buttons; pads = reached.lines.pads; falls1 = reached.lines.falls1; falls2 = reached.lines.falls2 };
  writes = record { fm = reached.writes.fm; psg = reached.writes.psg; fm_early = reached.writes.fm_early; psg_early = reached.writes.psg_early };
  timers = both-timed at m.shared.fm.timers reached.timers;
}
