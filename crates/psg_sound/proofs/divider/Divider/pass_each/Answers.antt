use Rattle.std.proofs.Common.{◌∙◌, ap, sym, add-one}
use Rattle.std.specs.Fn.{iterate}
use Rattle.psg_sound.specs.Voices.{divided}
use Rattle.psg_sound.proofs.Ticks.{divided-range, iterate-next}
use Rattle.psg_sound.proofs.divider.Divider.pass_each.Goals as goal

pub loop-preserved : goal.loop-preserved
loop-preserved c =
    let period = c.args.period in
    let n = c.loop.counter in
    let inside = divided-range period c.loop.self c.requires.period c.requires.below c.loop.invariant.low c.loop.invariant.high in
    record {
      value =
          c.tick.ensures ∙ ap (divided period) c.loop.invariant.value ∙ iterate-next (divided period) n c.args.self.now
          ∙ ap (λ k. iterate (divided period) k c.args.self.now) (sym (add-one n));
      low = rw c.tick.ensures inside.0;
      high = rw c.tick.ensures inside.1;
    }
