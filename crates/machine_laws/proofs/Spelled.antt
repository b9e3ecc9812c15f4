-- Of the FM chip's port that the bytes of a state keep the timers have their rules.
use Rattle.std.proofs.Common.{◌≡◌, ℕ, ◌+◌, ◌-◌, ◌/◌, ◌%◌, ◌<◌, Bool, true, false, eqb, List, arith}
use Rattle.std.proofs.lemmas.Bool.{and_parts, eqb-true, leb-true, ltb-true}
use Rattle.md_word.specs.Coding.{flag_number}
use Rattle.md_fields.proofs.Values.{rule_at}
use Rattle.fm_port.specs.Port.{Port}
use Rattle.fm_port.specs.PortSpelling as fm
use Rattle.fm_port.specs.Timed.{AreTimed, IsTimed}
use Rattle.fm_port.specs.declared.timer.Timer.{Timer}

runs_near : (at longest next : ℕ) (run : Bool) → fm.is_next at longest (flag_number run) next ≡ true → run ≡ true → next < at + longest
runs_near at longest next true e r = omega (arith, leb-true at next (and_parts _ _ e).0, ltb-true (next - at) longest (and_parts _ _ e).1)
runs_near at longest next false e r = absurd cc

stands_still : (at longest next : ℕ) (run : Bool) → fm.is_next at longest (flag_number run) next ≡ true → run ≡ false → next ≡ 0
stands_still at longest next true e r = absurd cc
stands_still at longest next false e r = eqb-true next 0 e

timer_timed : (at longest bit : ℕ) (t : Timer) → eqb (flag_number t.run) bit ≡ true → fm.is_next at longest (flag_number t.run) t.next ≡ true → IsTimed at longest bit t
timer_timed at longest bit t e f =
    record { run = eqb-true (flag_number t.run) bit e; runs = runs_near at longest t.next t.run f; stands = stands_still at longest t.next t.run f }

pub fm_timed : (at : ℕ) (bytes : List ℕ) (p : Port) → fm.SpellsPort at bytes p → AreTimed at p.timers
fm_timed at bytes p spells =
    let rule = rule_at 0 (fm.port_fields at (fm.saved_port_of p)) spells.right in
    record {
      a = timer_timed at 1032192 (p.timers.control % 2) p.timers.a (rule 6) (rule 7);
      b = timer_timed at 4128768 (p.timers.control / 2 % 2) p.timers.b (rule 8) (rule 9);
    }
