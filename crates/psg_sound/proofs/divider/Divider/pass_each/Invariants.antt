use Rattle.std.proofs.Common.{◌≡◌, ◌<◌, ◌≤◌}
use Rattle.std.specs.Fn.{iterate}
use Rattle.psg_sound.specs.Voices.{divided}
use Rattle.psg_sound.proofs.divider.Divider.pass_each.Given as goal

abbrev pub invariant-loop : goal.invariant-loop
invariant-loop l = record {
  value : l.self ≡ iterate (divided l.period) l.counter l.fn.self;
  low : 1 ≤ l.self.counter;
  high : l.self.counter < 1024;
}
