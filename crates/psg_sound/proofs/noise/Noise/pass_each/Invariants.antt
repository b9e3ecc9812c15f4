use Rattle.std.proofs.Common.{◌≡◌}
use Rattle.std.specs.Fn.{iterate}
use Rattle.psg_sound.specs.Voices.{IsNoise, noise_ticked}
use Rattle.psg_sound.proofs.noise.Noise.pass_each.Given as goal

abbrev pub invariant-loop : goal.invariant-loop
invariant-loop l = record {
  value : l.self ≡ iterate (noise_ticked l.tone3) l.counter l.fn.self;
  noise : IsNoise l.self;
}
