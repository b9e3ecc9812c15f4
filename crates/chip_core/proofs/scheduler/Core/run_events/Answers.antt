use Rattle.std.proofs.Common.{◌≡◌, length, slice_index_or, Some, None, sym, ◌∙◌, arith}
use Rattle.std.proofs.lemmas.Option.{slice_get_past}
use Rattle.chip_core.specs.Cores.{seen}
use Rattle.chip_core.specs.declared.event.Event.TheVariants.{Announce}
use Rattle.chip_core.proofs.Led.{led-next, led-entered, led-stands, led-few, place-free}
use Rattle.chip_core.proofs.scheduler.Core.run_events.Goals as goal

pub returns-then-not-enabled-clause-stands : goal.returns-then-not-enabled-clause-stands
returns-then-not-enabled-clause-stands g c =
    led-stands g.C.ChipSet.rules g.C.ChipSet.chip_ok g.C.ChipSet.shared_ok g.met.C.ChipSet.lawful
    c.args.self.now c.known.ensures c.args.t c.requires.time c.args.list.now c.loop-i.i c.loop-i.auto.i-end (seen g.C.ChipSet.rules c.loop-i.self) c.loop-i.invariant.led

pub returns-then-not-enabled-clause-few : goal.returns-then-not-enabled-clause-few
returns-then-not-enabled-clause-few g c =
    led-few g.C.ChipSet.rules g.C.ChipSet.chip_ok g.C.ChipSet.shared_ok g.met.C.ChipSet.lawful
    c.args.self.now c.known.ensures c.args.t c.requires.time c.args.list.now c.loop-i.i c.loop-i.auto.i-end (seen g.C.ChipSet.rules c.loop-i.self) c.loop-i.invariant.led

pub returns-then-not-enabled-clause-entered : goal.returns-then-not-enabled-clause-entered
returns-then-not-enabled-clause-entered g c =
    led-entered g.C.ChipSet.rules c.args.t (seen g.C.ChipSet.rules c.args.self.now) c.args.list.now c.loop-i.i (seen g.C.ChipSet.rules c.loop-i.self) c.loop-i.auto.i-end c.loop-i.invariant.led

pub carry_out-requires-clause-room : goal.carry_out-requires-clause-room
carry_out-requires-clause-room g c =
    let entered = led-entered g.C.ChipSet.rules c.args.t (seen g.C.ChipSet.rules c.args.self.now) c.args.list.now c.loop-i.i (seen g.C.ChipSet.rules c.loop-i.self) c.loop-i.auto.i-end c.loop-i.invariant.led in
    let room = c.requires.room in
    let same = c.loop-i.invariant.room in
    let inside = c.loop-i-test.true in
    place-free g.C.ChipSet.rules (length c.loop-i.self.journal) c.loop-i.self.room (slice_index_or c.args.list.now c.loop-i.i (Announce 0)) (omega arith)

pub loop-i-preserved : goal.loop-i-preserved
loop-i-preserved g c = record {
  led = led-next g.C.ChipSet.rules c.args.t (seen g.C.ChipSet.rules c.args.self.now) c.args.list.now c.loop-i.i (seen g.C.ChipSet.rules c.loop-i.self) (seen g.C.ChipSet.rules c.carry_out.new.self) c.loop-i-test.true
      c.loop-i.invariant.led (c.enabled.ensures.value.0 c.if-not-enabled.false) c.carry_out.ensures.after;
  room = c.carry_out.ensures.room ∙ c.loop-i.invariant.room;
}

pub returns-clause-stopped : goal.returns-clause-stopped
returns-clause-stopped g c = λ e found enabled.
    let none = slice_get_past c.args.list.now (length c.args.list.now) (omega arith) in
    let clash : Some e ≡ None = sym found ∙ none in
    cc

pub returns-clause-stands : goal.returns-clause-stands
returns-clause-stands g c =
    led-stands g.C.ChipSet.rules g.C.ChipSet.chip_ok g.C.ChipSet.shared_ok g.met.C.ChipSet.lawful
    c.args.self.now c.known.ensures c.args.t c.requires.time c.args.list.now c.loop-i.i c.loop-i.auto.i-end (seen g.C.ChipSet.rules c.loop-i.self) c.loop-i.invariant.led

pub returns-clause-few : goal.returns-clause-few
returns-clause-few g c = λ from quiet.
    let few = led-few g.C.ChipSet.rules g.C.ChipSet.chip_ok g.C.ChipSet.shared_ok g.met.C.ChipSet.lawful
    c.args.self.now c.known.ensures c.args.t c.requires.time c.args.list.now c.loop-i.i c.loop-i.auto.i-end (seen g.C.ChipSet.rules c.loop-i.self) c.loop-i.invariant.led from quiet in
    let ended = c.loop-i-test.false in
    omega arith

pub returns-clause-entered : goal.returns-clause-entered
returns-clause-entered g c =
    let entered = led-entered g.C.ChipSet.rules c.args.t (seen g.C.ChipSet.rules c.args.self.now) c.args.list.now c.loop-i.i (seen g.C.ChipSet.rules c.loop-i.self) c.loop-i.auto.i-end c.loop-i.invariant.led in
    let inside = c.loop-i.auto.i-end in
    omega arith
