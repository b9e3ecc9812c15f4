use Rattle.std.proofs.Common.{arith, subst, sym, ◌∙◌, refl, MatchOption}
use Rattle.md_word.specs.Clock.{cycle_limit}
use Rattle.chip_core.specs.Cores.{seen}
use Rattle.chip_core.specs.Events.{HasRoom}
use Rattle.chip_core.specs.Staying.{IsWoken, KeepsPins}
use Rattle.chip_core.proofs.Keys.{start-later}
use Rattle.chip_core.proofs.Lists.{tidy-core}
use Rattle.chip_core.proofs.Asleep.{asleep-first, asleep-within, place-past, sleeps-end}
use Rattle.chip_core.proofs.Passing.{after-own, asleep-turn, before-limit, other-enabled, sleeps-woken}
use Rattle.chip_core.proofs.Staying.{keys-turn, turn-fewer}
use Rattle.chip_core.proofs.scheduler.Core.others_on.Given.{Over}
use Rattle.chip_core.proofs.scheduler.Core.others_on.Goals as goal

pub loop-chip-init : goal.loop-chip-init
loop-chip-init g c = record {
  asleep = asleep-first g.C.ChipSet.rules g.C.ChipSet.chip_ok g.C.ChipSet.shared_ok g.met.C.ChipSet.lawful c.args.t c.requires.time (seen g.C.ChipSet.rules c.args.self.now) (tidy-core g.C.ChipSet.rules g.C.ChipSet.chip_ok g.C.ChipSet.shared_ok c.args.self.now c.known.ensures) c.args.sleeper c.requires.turn.inside (g.C.ChipSet.rules.pins c.args.self.now.shared c.args.sleeper) c.requires.turn c.requires.keys refl;
  keys = c.requires.keys;
  room = refl;
  core = c.known.ensures;
}

pub turn-requires-clause-room : goal.turn-requires-clause-room
turn-requires-clause-room g c =
    place-past g.C.ChipSet.rules g.C.ChipSet.chip_ok g.C.ChipSet.shared_ok g.met.C.ChipSet.lawful c.args.t c.requires.time (seen g.C.ChipSet.rules c.args.self.now) (tidy-core g.C.ChipSet.rules g.C.ChipSet.chip_ok g.C.ChipSet.shared_ok c.args.self.now c.known.ensures) c.args.sleeper c.requires.turn.inside (g.C.ChipSet.rules.pins c.args.self.now.shared c.args.sleeper) (seen g.C.ChipSet.rules c.loop-chip.self) c.loop-chip.invariant.asleep c.requires.rests c.loop-chip.invariant.keys (tidy-core g.C.ChipSet.rules g.C.ChipSet.chip_ok g.C.ChipSet.shared_ok c.loop-chip.self c.loop-chip.invariant.core) c.in-Some.chip c.in-Some.ensures.found c.loop-chip.self.room (subst (λ r. HasRoom g.C.ChipSet.rules c.args.t (seen g.C.ChipSet.rules c.args.self.now) r) (sym c.loop-chip.invariant.room) c.requires.room)

-- the answer is the key of the event that woke the sleeper
woken : (g : Over) (c : goal.In-Some-turn g) → IsWoken g.C.ChipSet.rules c.turn.ensures.turn.stays.events c.in-Some.chip c.args.sleeper (seen g.C.ChipSet.rules c.loop-chip.self) c.in-Some-turn.end
woken g c =
    subst (λ o. MatchOption o (KeepsPins g.C.ChipSet.rules c.turn.ensures.turn.stays.events c.in-Some.chip c.args.sleeper (seen g.C.ChipSet.rules c.loop-chip.self)) (IsWoken g.C.ChipSet.rules c.turn.ensures.turn.stays.events c.in-Some.chip c.args.sleeper (seen g.C.ChipSet.rules c.loop-chip.self)))
    c.in-Some-turn.is (c.turn.ensures.turn.stays.pins (λ same. c.in-Some.ensures.found.other (sym same)))

pub returns-in-Some-turn-clause-sleeps : goal.returns-in-Some-turn-clause-sleeps
returns-in-Some-turn-clause-sleeps g c = sleeps-woken g.C.ChipSet.rules g.C.ChipSet.chip_ok g.C.ChipSet.shared_ok g.met.C.ChipSet.lawful c.args.t c.requires.time (seen g.C.ChipSet.rules c.args.self.now) (tidy-core g.C.ChipSet.rules g.C.ChipSet.chip_ok g.C.ChipSet.shared_ok c.args.self.now c.known.ensures) c.args.sleeper c.requires.turn.inside (g.C.ChipSet.rules.pins c.args.self.now.shared c.args.sleeper) c.requires.rests c.requires.apart (seen g.C.ChipSet.rules c.loop-chip.self) c.loop-chip.invariant.asleep c.loop-chip.invariant.keys (tidy-core g.C.ChipSet.rules g.C.ChipSet.chip_ok g.C.ChipSet.shared_ok c.loop-chip.self c.loop-chip.invariant.core) c.in-Some.chip c.in-Some.ensures.found (seen g.C.ChipSet.rules c.turn.new.self) c.turn.result c.turn.ensures.turn c.in-Some-turn.end (woken g c)

pub returns-in-Some-turn-clause-after : goal.returns-in-Some-turn-clause-after
returns-in-Some-turn-clause-after g c = after-own g.C.ChipSet.rules g.C.ChipSet.chip_ok g.C.ChipSet.shared_ok g.met.C.ChipSet.lawful c.args.t c.requires.time (seen g.C.ChipSet.rules c.args.self.now) (tidy-core g.C.ChipSet.rules g.C.ChipSet.chip_ok g.C.ChipSet.shared_ok c.args.self.now c.known.ensures) c.args.sleeper c.requires.turn.inside (g.C.ChipSet.rules.pins c.args.self.now.shared c.args.sleeper) c.requires.rests c.requires.apart (seen g.C.ChipSet.rules c.loop-chip.self) c.loop-chip.invariant.asleep c.loop-chip.invariant.keys (tidy-core g.C.ChipSet.rules g.C.ChipSet.chip_ok g.C.ChipSet.shared_ok c.loop-chip.self c.loop-chip.invariant.core) c.in-Some.chip c.in-Some.ensures.found (seen g.C.ChipSet.rules c.turn.new.self) c.turn.result c.turn.ensures.turn c.in-Some-turn.end (woken g c)

pub returns-in-Some-turn-clause-time : goal.returns-in-Some-turn-clause-time
returns-in-Some-turn-clause-time g c = let low = before-limit g.C.ChipSet.rules g.C.ChipSet.chip_ok g.C.ChipSet.shared_ok g.met.C.ChipSet.lawful c.args.t c.requires.time (seen g.C.ChipSet.rules c.args.self.now) (tidy-core g.C.ChipSet.rules g.C.ChipSet.chip_ok g.C.ChipSet.shared_ok c.args.self.now c.known.ensures) c.args.sleeper c.requires.turn.inside (g.C.ChipSet.rules.pins c.args.self.now.shared c.args.sleeper) c.requires.rests c.requires.apart (seen g.C.ChipSet.rules c.loop-chip.self) c.loop-chip.invariant.asleep c.loop-chip.invariant.keys (tidy-core g.C.ChipSet.rules g.C.ChipSet.chip_ok g.C.ChipSet.shared_ok c.loop-chip.self c.loop-chip.invariant.core) c.in-Some.chip c.in-Some.ensures.found (seen g.C.ChipSet.rules c.turn.new.self) c.turn.result c.turn.ensures.turn c.in-Some-turn.end (woken g c) in start-later cycle_limit c.in-Some-turn.end (omega (arith, low))

pub returns-in-Some-turn-clause-keys : goal.returns-in-Some-turn-clause-keys
returns-in-Some-turn-clause-keys g c =
    keys-turn g.C.ChipSet.rules c.args.t c.in-Some.chip c.args.sleeper (seen g.C.ChipSet.rules c.loop-chip.self) (seen g.C.ChipSet.rules c.turn.new.self) c.turn.result c.loop-chip.invariant.keys c.turn.ensures.turn

pub sample_on-requires-clause-keys : goal.sample_on-requires-clause-keys
sample_on-requires-clause-keys g c =
    keys-turn g.C.ChipSet.rules c.args.t c.in-Some.chip c.args.sleeper (seen g.C.ChipSet.rules c.loop-chip.self) (seen g.C.ChipSet.rules c.turn.new.self) c.turn.result c.loop-chip.invariant.keys c.turn.ensures.turn

-- nothing woke it
kept : (g : Over) (c : goal.After-sample_on g) → KeepsPins g.C.ChipSet.rules c.turn.ensures.turn.stays.events c.in-Some.chip c.args.sleeper (seen g.C.ChipSet.rules c.loop-chip.self)
kept g c =
    subst (λ o. MatchOption o (KeepsPins g.C.ChipSet.rules c.turn.ensures.turn.stays.events c.in-Some.chip c.args.sleeper (seen g.C.ChipSet.rules c.loop-chip.self)) (IsWoken g.C.ChipSet.rules c.turn.ensures.turn.stays.events c.in-Some.chip c.args.sleeper (seen g.C.ChipSet.rules c.loop-chip.self)))
    c.in_default-turn.is (c.turn.ensures.turn.stays.pins (λ same. c.in-Some.ensures.found.other (sym same)))

pub loop-chip-smaller : goal.loop-chip-smaller
loop-chip-smaller g c =
    turn-fewer g.C.ChipSet.rules g.C.ChipSet.chip_ok g.C.ChipSet.shared_ok g.met.C.ChipSet.lawful (seen g.C.ChipSet.rules c.loop-chip.self) (tidy-core g.C.ChipSet.rules g.C.ChipSet.chip_ok g.C.ChipSet.shared_ok c.loop-chip.self c.loop-chip.invariant.core) c.in-Some.chip c.in-Some.ensures.found.inside c.args.t c.requires.time c.args.sleeper
    (seen g.C.ChipSet.rules c.turn.new.self) c.turn.result c.turn.ensures.turn (seen g.C.ChipSet.rules c.sample_on.new.self) c.loop-chip.invariant.keys c.sample_on.ensures.keys c.sample_on.ensures.led
    (other-enabled g.C.ChipSet.rules g.C.ChipSet.chip_ok g.C.ChipSet.shared_ok g.met.C.ChipSet.lawful c.args.t c.requires.time (seen g.C.ChipSet.rules c.loop-chip.self) (tidy-core g.C.ChipSet.rules g.C.ChipSet.chip_ok g.C.ChipSet.shared_ok c.loop-chip.self c.loop-chip.invariant.core) c.loop-chip.invariant.keys c.args.sleeper c.in-Some.chip c.requires.apart c.in-Some.ensures.found)
    c.sample_on.ensures.ended

pub loop-chip-preserved : goal.loop-chip-preserved
loop-chip-preserved g c = record {
  asleep = asleep-within g.C.ChipSet.rules g.C.ChipSet.chip_ok g.C.ChipSet.shared_ok g.met.C.ChipSet.lawful c.args.t c.requires.time (seen g.C.ChipSet.rules c.args.self.now) (tidy-core g.C.ChipSet.rules g.C.ChipSet.chip_ok g.C.ChipSet.shared_ok c.args.self.now c.known.ensures) c.args.sleeper c.requires.turn.inside (g.C.ChipSet.rules.pins c.args.self.now.shared c.args.sleeper) (seen g.C.ChipSet.rules c.turn.new.self)
      (asleep-turn g.C.ChipSet.rules g.C.ChipSet.chip_ok g.C.ChipSet.shared_ok g.met.C.ChipSet.lawful c.args.t c.requires.time (seen g.C.ChipSet.rules c.args.self.now) (tidy-core g.C.ChipSet.rules g.C.ChipSet.chip_ok g.C.ChipSet.shared_ok c.args.self.now c.known.ensures) c.args.sleeper c.requires.turn.inside (g.C.ChipSet.rules.pins c.args.self.now.shared c.args.sleeper) c.requires.rests c.requires.apart (seen g.C.ChipSet.rules c.loop-chip.self) c.loop-chip.invariant.asleep c.loop-chip.invariant.keys (tidy-core g.C.ChipSet.rules g.C.ChipSet.chip_ok g.C.ChipSet.shared_ok c.loop-chip.self c.loop-chip.invariant.core) c.in-Some.chip c.in-Some.ensures.found (seen g.C.ChipSet.rules c.turn.new.self) c.turn.result c.turn.ensures.turn (kept g c)) c.requires.rests c.requires.apart (tidy-core g.C.ChipSet.rules g.C.ChipSet.chip_ok g.C.ChipSet.shared_ok c.turn.new.self c.turn.ensures.core)
      (keys-turn g.C.ChipSet.rules c.args.t c.in-Some.chip c.args.sleeper (seen g.C.ChipSet.rules c.loop-chip.self) (seen g.C.ChipSet.rules c.turn.new.self) c.turn.result c.loop-chip.invariant.keys c.turn.ensures.turn)
      c.in-Some.chip c.in-Some.ensures.found.inside c.in-Some.ensures.found.other (seen g.C.ChipSet.rules c.sample_on.new.self) (tidy-core g.C.ChipSet.rules g.C.ChipSet.chip_ok g.C.ChipSet.shared_ok c.sample_on.new.self c.sample_on.ensures.core) c.sample_on.ensures.keys c.sample_on.ensures.within c.sample_on.ensures.led;
  keys = c.sample_on.ensures.keys;
  room = c.sample_on.ensures.room ∙ c.turn.ensures.room ∙ c.loop-chip.invariant.room;
  core = c.sample_on.ensures.core;
}

pub returns-clause-sleeps : goal.returns-clause-sleeps
returns-clause-sleeps g c = sleeps-end g.C.ChipSet.rules g.C.ChipSet.chip_ok g.C.ChipSet.shared_ok g.met.C.ChipSet.lawful c.args.t c.requires.time (seen g.C.ChipSet.rules c.args.self.now) (tidy-core g.C.ChipSet.rules g.C.ChipSet.chip_ok g.C.ChipSet.shared_ok c.args.self.now c.known.ensures) c.args.sleeper c.requires.turn.inside (g.C.ChipSet.rules.pins c.args.self.now.shared c.args.sleeper) (seen g.C.ChipSet.rules c.loop-chip.self) c.loop-chip.invariant.asleep c.requires.rests c.in_default.ensures.found
