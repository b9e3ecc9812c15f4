use Rattle.std.proofs.Common.{◌+◌, ◌<◌, subst, sym, ◌∙◌}
use Rattle.chip_core.specs.Cores.{seen}
use Rattle.chip_core.specs.Events.{AreKeys, Reaches}
use Rattle.chip_core.proofs.Lists.{tidy-core}
use Rattle.chip_core.proofs.Turns.{announced-reaches, keys-announced, reaches-on}
use Rattle.chip_core.proofs.scheduler.Core.announce_all.Goals as goal

pub loop-chip-preserved : goal.loop-chip-preserved
loop-chip-preserved g c = record {
  led = λ t. reaches-on g.C.ChipSet.rules t (seen g.C.ChipSet.rules c.args.self.now) (seen g.C.ChipSet.rules c.loop-chip.self) (seen g.C.ChipSet.rules c.set_bound.new.self) (c.loop-chip.invariant.led t)
      (subst (λ s. Reaches g.C.ChipSet.rules t (seen g.C.ChipSet.rules c.loop-chip.self) s) (sym c.set_bound.ensures.after)
      (announced-reaches g.C.ChipSet.rules g.C.ChipSet.chip_ok g.C.ChipSet.shared_ok g.met.C.ChipSet.lawful
      t (seen g.C.ChipSet.rules c.loop-chip.self) (tidy-core g.C.ChipSet.rules g.C.ChipSet.chip_ok g.C.ChipSet.shared_ok c.loop-chip.self c.loop-chip.invariant.core) c.loop-chip.chip (subst (λ n. c.loop-chip.chip < n) c.count-chip-end.ensures c.loop-chip-test.true)));
  keys = subst (λ s. AreKeys g.C.ChipSet.rules s (c.loop-chip.chip + 1)) (sym c.set_bound.ensures.after)
      (keys-announced g.C.ChipSet.rules (seen g.C.ChipSet.rules c.loop-chip.self) c.loop-chip.chip c.loop-chip.invariant.keys);
  room = c.set_bound.ensures.room ∙ c.loop-chip.invariant.room;
  core = c.set_bound.ensures.core;
}
