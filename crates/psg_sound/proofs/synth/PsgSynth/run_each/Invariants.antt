use Rattle.std.proofs.Common.{◌≡◌, ◌-◌}
use Rattle.psg_sound.specs.Batches.{Course, after_ticks}
use Rattle.psg_sound.proofs.synth.PsgSynth.run_each.Given as goal

abbrev pub invariant-loop-tick : goal.invariant-loop-tick
invariant-loop-tick l =
    let now : Course = record { chip = l.self; rest = l.rest } in
    now ≡ after_ticks l.from (l.tick - l.from) (record { chip = l.fn.self; rest = l.writes })
