use Rattle.std.proofs.Common.{◌∙◌, ap, sym, add-one}
use Rattle.std.specs.Fn.{iterate}
use Rattle.psg_sound.specs.Voices.{noise_ticked}
use Rattle.psg_sound.proofs.Ticks.{iterate-next}
use Rattle.psg_sound.proofs.noise.Noise.pass_each.Goals as goal

pub loop-preserved : goal.loop-preserved
loop-preserved c =
    let tick = noise_ticked c.args.tone3 in
    let n = c.loop.counter in
    record {
      value =
          c.tick.ensures.value ∙ ap tick c.loop.invariant.value ∙ iterate-next tick n c.args.self.now
          ∙ ap (λ k. iterate tick k c.args.self.now) (sym (add-one n));
      noise = c.tick.ensures.noise;
    }
