use Rattle.std.proofs.Common.{sym, ◌∙◌, ap, arith, refl}
use Rattle.md_word.specs.Clock.{cycle_limit}
use Rattle.chip_core.specs.Cores.{seen}
use Rattle.chip_core.proofs.Lists.{tidy-core}
use Rattle.chip_core.proofs.Sampling.{Sampled, limit-wider, sampled-on}
use Rattle.chip_core.proofs.Within.{from-first, from-on, from-within, within-none}
use Rattle.chip_core.proofs.Turns.{reaches-itself, reaches-on}
use Rattle.chip_core.proofs.scheduler.Core.sample_on.Given.{Over}
use Rattle.chip_core.proofs.scheduler.Core.sample_on.Goals as goal

pub turn_samples-requires-clause-limit : goal.turn_samples-requires-clause-limit
turn_samples-requires-clause-limit g c =
    limit-wider g.C.ChipSet.rules c.args.t cycle_limit c.requires.time (seen g.C.ChipSet.rules c.loop-end.self).bound g.C.ChipSet.rules.count c.args.chip c.limit-end.result c.loop-end.invariant.limit

came : (g : Over) (c : goal.After-turn_samples g)
    → Sampled g.C.ChipSet.rules g.C.ChipSet.chip_ok g.C.ChipSet.shared_ok g.met.C.ChipSet.lawful c.args.t c.limit-end.result c.args.chip c.turn_samples.ensures.on.samples (seen g.C.ChipSet.rules c.loop-end.self) (seen g.C.ChipSet.rules c.turn_samples.new.self)
came g c =
    sampled-on g.C.ChipSet.rules g.C.ChipSet.chip_ok g.C.ChipSet.shared_ok g.met.C.ChipSet.lawful c.args.t c.requires.time (seen g.C.ChipSet.rules c.loop-end.self)
    (tidy-core g.C.ChipSet.rules g.C.ChipSet.chip_ok g.C.ChipSet.shared_ok c.loop-end.self c.loop-end.invariant.core) c.args.chip c.requires.chip c.limit-end.result c.loop-end.invariant.limit
    (seen g.C.ChipSet.rules c.turn_samples.new.self) c.turn_samples.ensures.on

pub loop-end-smaller : goal.loop-end-smaller
loop-end-smaller g c = let less = (came g c).less in let some = c.turn_samples.ensures.on.some in omega (arith, less, some)

pub loop-end-preserved : goal.loop-end-preserved
loop-end-preserved g c = record {
  led = reaches-on g.C.ChipSet.rules c.args.t (seen g.C.ChipSet.rules c.args.self.now) (seen g.C.ChipSet.rules c.loop-end.self) (seen g.C.ChipSet.rules c.turn_samples.new.self) c.loop-end.invariant.led (came g c).led;
  within = from-on g.C.ChipSet.rules c.args.t c.limit-end.result c.args.chip (seen g.C.ChipSet.rules c.args.self.now) (seen g.C.ChipSet.rules c.loop-end.self) (seen g.C.ChipSet.rules c.turn_samples.new.self) c.loop-end.invariant.within c.turn_samples.ensures.on;
  keys = (came g c).keys c.loop-end.invariant.keys;
  limit = (came g c).limit;
  least = (came g c).least c.loop-end.invariant.least;
  pins = c.loop-end.invariant.pins ∙ ap (λ s. g.C.ChipSet.rules.pins s c.args.chip) (sym c.turn_samples.ensures.shared);
  room = c.turn_samples.ensures.room ∙ c.loop-end.invariant.room;
  core = c.turn_samples.ensures.core;
}

pub loop-end-init : goal.loop-end-init
loop-end-init g c = record {
  led = reaches-itself g.C.ChipSet.rules c.args.t (seen g.C.ChipSet.rules c.args.self.now);
  within = from-first g.C.ChipSet.rules c.args.t c.limit-end.result c.args.chip (seen g.C.ChipSet.rules c.args.self.now) c.limit-end.ensures.limit;
  keys = c.requires.keys;
  limit = c.limit-end.ensures.limit;
  least = c.limit-end.ensures.least;
  pins = c.pins_of-pins.ensures.value;
  room = refl;
  core = c.limit-end.ensures.core;
}

pub returns-then-not-next-clause-within : goal.returns-then-not-next-clause-within
returns-then-not-next-clause-within g c = within-none g.C.ChipSet.rules c.args.t c.args.chip (seen g.C.ChipSet.rules c.args.self.now)

pub returns-clause-within : goal.returns-clause-within
returns-clause-within g c = from-within g.C.ChipSet.rules c.args.t c.limit-end.result c.args.chip (seen g.C.ChipSet.rules c.args.self.now) (seen g.C.ChipSet.rules c.loop-end.self) c.loop-end.invariant.within
