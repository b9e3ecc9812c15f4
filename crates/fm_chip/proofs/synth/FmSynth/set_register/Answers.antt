use Rattle.std.proofs.Common.{◌∙◌, length-set}
use Rattle.fm_chip.proofs.Agreeing.{fresh_after}
use Rattle.fm_chip.proofs.synth.FmSynth.set_register.Goals as goal

pub invariant_of-self : goal.invariant_of-self
invariant_of-self c = (
  record {
    registers = length-set _ _ _ ∙ c.self.invariant.0.registers;
    latches = c.self.invariant.0.latches;
    t = c.self.invariant.0.t;
    count = c.self.invariant.0.count;
    counter = c.self.invariant.0.counter;
    channels = c.self.invariant.0.channels;
    six = c.self.invariant.0.six;
  },
  rw c.forget.ensures (fresh_after _ _ _ _ c.self.invariant.1),
)
