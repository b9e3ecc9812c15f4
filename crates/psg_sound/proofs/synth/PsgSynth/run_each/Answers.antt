use Rattle.std.proofs.Common.{◌≡◌, ◌∙◌, ap, ◌-◌, arith}
use Rattle.psg_sound.specs.Batches.{Course, after_ticks}
use Rattle.psg_sound.proofs.synth.PsgSynth.run_each.Goals as goal

pub returns : goal.returns
returns c =
    let start : Course = record { chip = c.args.self.now; rest = c.args.writes.now } in
    let count : c.loop-tick.tick - c.args.from ≡ c.args.to - c.args.from = omega arith in
    c.loop-tick.invariant ∙ ap (λ n. after_ticks c.args.from n start) count
