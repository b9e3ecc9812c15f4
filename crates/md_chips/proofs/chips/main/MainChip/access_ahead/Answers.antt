use Rattle.std.proofs.Common.{◌≡◌, ◌+◌, true≢false, None, refl, sym, ap, ap₂, subst, ◌∙◌, arith, length}
use Rattle.std.specs.Prelude.{vec_capacity}
use Rattle.md_word.specs.declared.event.Next.{Next}
use Rattle.md_word.specs.declared.main_bus.Answer68.{Answer68}
use Rattle.md_word.specs.declared.main_bus.Request68.{Request68}
use Rattle.md_word.specs.declared.pins.Pins68.{Pins68}
use Rattle.chip_core.specs.Staying.{past_own_access}
use Rattle.chip_core.proofs.Staying.{first-wakes}
use Rattle.m68k_chip.specs.Events.{SampledOn, answered, request_of}
use Rattle.m68k_chip.specs.States.{next_of}
use Rattle.m68k_chip.specs.Validity.{Chip68Value, Fits}
use Rattle.m68k_chip.proofs.Laws.{answered-later}
use Rattle.bus_shared.specs.Accesses.{main_reported}
use Rattle.bus_shared.specs.Board.{IsBoard}
use Rattle.md_chips.specs.Laws.{answer-fits}
use Rattle.md_chips.specs.Parts.{MainValue}
use Rattle.md_chips.specs.Rules.{IsChip, five}
use Rattle.md_chips.specs.declared.chips.Chip.TheVariants.{Main}
use Rattle.md_chips.proofs.Staying.{IsDueAt, goes-none, goes-stays, join-goes, join-leaves, join-wakes, main-accessed, main-key-below, main-leaves, main-stays, main_at, one-goes, GoesTo}
use Rattle.md_chips.proofs.chips.main.MainChip.access_ahead.Goals.{else-sleeper-ne0-via-then-sleeper-ne0+else-may_wake, else-sleeper-ne0-via-else-sleeper-ne0}
use Rattle.md_chips.proofs.chips.main.MainChip.access_ahead.Goals as goal

pub loop-going-init : goal.loop-going-init
loop-going-init c = record {
  goes = goes-none five 0 c.args.end.now (main_at c.args.self.now c.args.shared.now c.args.journal.now.items) (main_at (record { chip = c.self.inside.chip.value; answer = c.self.inside.answer }) c.args.shared.now c.args.journal.now.items)
      (ap (λ (v : MainValue). main_at v c.args.shared.now c.args.journal.now.items) c.self.view_is);
  some = λ e. absurd (true≢false e);
  due = λ e. subst (λ (v : MainValue). IsDueAt c.args.end.now v (length c.args.journal.now.items) (vec_capacity c.args.journal.now)) (sym c.self.view_is) (record { kind = c.requires.access; below = c.requires.below; cycle = c.requires.cycle; place = c.requires.room });
  leaves = λ ne k most. absurd (omega (arith, most));
  later = (let is = ap (λ (v : MainValue). v.chip.state.next) c.self.view_is in omega (arith, is));
  room = refl;
}

pub answer-requires-clause-fits : goal.answer-requires-clause-fits
answer-requires-clause-fits c =
    subst (λ (request : Request68). Fits request c.carry_out_main.result.0) c.request.ensures
    (subst (λ (answer : Answer68). Fits c.request.result answer) (sym c.carry_out_main.ensures.answer) (answer-fits c.loop-going.shared c.next.result.key c.request.result c.known.ensures))

pub answer_ahead-samples-requires-clause-fits : goal.answer_ahead-samples-requires-clause-fits
answer_ahead-samples-requires-clause-fits c =
    subst (λ (request : Request68). Fits request c.carry_out_main.result.0) c.request.ensures
    (subst (λ (answer : Answer68). Fits c.request.result answer) (sym c.carry_out_main.ensures.answer) (answer-fits c.loop-going.shared c.next.result.key c.request.result c.known.ensures))

pub returns-then-may_wake-clause-stays : goal.returns-then-may_wake-clause-stays
returns-then-may_wake-clause-stays c =
    let same : c.deref_mut-chip.result.now ≡ c.loop-going.self-inside.chip.value = c.deref_mut-chip.ensures.value in
    let due = c.loop-going.invariant.due c.loop-going-test.true in
    let z = main_at (record { chip = c.answer.new.self; answer = None }) c.carry_out_main.new.self c.push_reserved.new.self.items in
    let is : z ≡ past_own_access five (main_at (record { chip = c.loop-going.self-inside.chip.value; answer = c.loop-going.self-inside.answer }) c.loop-going.shared c.loop-going.journal.items) =
    main-accessed (record { chip = c.loop-going.self-inside.chip.value; answer = c.loop-going.self-inside.answer }) c.answer.new.self c.loop-going.shared c.carry_out_main.new.self c.loop-going.journal.items c.push_reserved.new.self.items c.next.result.key c.request.result c.carry_out_main.result.0 c.carry_out_main.result.1
    (ap (λ (n : Next). n.key) c.next.ensures.value ∙ ap (λ (v : Chip68Value). (next_of v.state).key) same) (c.request.ensures ∙ ap (λ (v : Chip68Value). request_of v.cart v.state) same)
    c.carry_out_main.ensures.answer c.carry_out_main.ensures.entry c.carry_out_main.ensures.board
    (c.answer.ensures ∙ ap (λ (v : Chip68Value). record v { state = answered v.cart v.state c.carry_out_main.result.0 }) same) c.push_reserved.ensures.items in
    goes-stays five (c.loop-going.events + 1) 0 c.args.end.now (main_at c.args.self.now c.args.shared.now c.args.journal.now.items) z (omega arith)
    (join-goes five c.loop-going.events 1 0 c.args.end.now (main_at c.args.self.now c.args.shared.now c.args.journal.now.items) (main_at (record { chip = c.loop-going.self-inside.chip.value; answer = c.loop-going.self-inside.answer }) c.loop-going.shared c.loop-going.journal.items) z c.loop-going.invariant.goes (subst (λ s. GoesTo five 1 0 c.args.end.now (main_at (record { chip = c.loop-going.self-inside.chip.value; answer = c.loop-going.self-inside.answer }) c.loop-going.shared c.loop-going.journal.items) s) (sym is) (one-goes five 0 c.args.end.now (main_at (record { chip = c.loop-going.self-inside.chip.value; answer = c.loop-going.self-inside.answer }) c.loop-going.shared c.loop-going.journal.items) due.kind due.below)))

pub returns-then-may_wake-clause-pins : goal.returns-then-may_wake-clause-pins
returns-then-may_wake-clause-pins c ne =
    let same : c.deref_mut-chip.result.now ≡ c.loop-going.self-inside.chip.value = c.deref_mut-chip.ensures.value in
    join-wakes five IsChip IsBoard c.loop-going.events 1 0 c.args.sleeper c.args.end.now c.next.result.key (main_at c.args.self.now c.args.shared.now c.args.journal.now.items) (main_at (record { chip = c.loop-going.self-inside.chip.value; answer = c.loop-going.self-inside.answer }) c.loop-going.shared c.loop-going.journal.items) c.loop-going.invariant.goes.is (omega arith) (c.loop-going.invariant.leaves ne)
    (first-wakes five IsChip IsBoard 0 c.args.sleeper (Main (record { chip = c.loop-going.self-inside.chip.value; answer = c.loop-going.self-inside.answer })) c.loop-going.shared c.loop-going.journal.items c.next.result.key (ap (λ (n : Next). n.key) c.next.ensures.value ∙ ap (λ (v : Chip68Value). (next_of v.state).key) same))

pub returns-then-may_wake-clause-later : goal.returns-then-may_wake-clause-later
returns-then-may_wake-clause-later c =
    let same : c.deref_mut-chip.result.now ≡ c.loop-going.self-inside.chip.value = c.deref_mut-chip.ensures.value in
    let due = c.loop-going.invariant.due c.loop-going-test.true in
    let fits =
    subst (λ (request : Request68). Fits request c.carry_out_main.result.0) c.request.ensures
    (subst (λ (answer : Answer68). Fits c.request.result answer) (sym c.carry_out_main.ensures.answer) (answer-fits c.loop-going.shared c.next.result.key c.request.result c.known.ensures)) in
    let later = answered-later c.deref_mut-chip.result.now c.carry_out_main.result.0 c.next.ensures.valid (subst (λ (v : Chip68Value). (next_of v.state).sample ≡ _) (sym same) due.kind) fits in
    let is = ap (λ (v : Chip68Value). v.state.next) c.answer.ensures in
    let at = ap (λ (v : Chip68Value). v.state.next) same in
    let before = c.loop-going.invariant.later in
    omega (arith, later, is, at, before)

pub loop-going-preserved : goal.loop-going-preserved
loop-going-preserved c =
    let same : c.deref_mut-chip.result.now ≡ c.loop-going.self-inside.chip.value = c.deref_mut-chip.ensures.value in
    let due = c.loop-going.invariant.due c.loop-going-test.true in
    let key-is = ap (λ (n : Next). n.key) c.next.ensures.value ∙ ap (λ (v : Chip68Value). (next_of v.state).key) same in
    let request-is = c.request.ensures ∙ ap (λ (v : Chip68Value). request_of v.cart v.state) same in
    let chip : Chip68Value = record (c.loop-going.self-inside.chip.value) { state = answered c.loop-going.self-inside.chip.value.cart c.loop-going.self-inside.chip.value.state c.carry_out_main.result.0 } in
    let z = main_at (record { chip = c.answer_ahead-samples.new.self; answer = None }) c.carry_out_main.new.self c.push_reserved.new.self.items in
    let is = main-accessed (record { chip = c.loop-going.self-inside.chip.value; answer = c.loop-going.self-inside.answer }) chip c.loop-going.shared c.carry_out_main.new.self c.loop-going.journal.items c.push_reserved.new.self.items c.next.result.key c.request.result c.carry_out_main.result.0 c.carry_out_main.result.1
    key-is request-is c.carry_out_main.ensures.answer c.carry_out_main.ensures.entry c.carry_out_main.ensures.board refl c.push_reserved.ensures.items in
    let level = ap (λ (p : Pins68). p.level) c.pins68.ensures in
    let sampled = subst (λ (v : Chip68Value). SampledOn c.answer_ahead-samples.result c.args.end.now.cycle v.cart c.pins68.result.level (answered v.cart v.state c.carry_out_main.result.0) c.answer_ahead-samples.new.self.state) same c.answer_ahead-samples.ensures.state in
    let later = c.answer_ahead-samples.ensures.later in
    let at = ap (λ (v : Chip68Value). v.state.next) same in
    let before = c.loop-going.invariant.later in
    record {
      goes = join-goes five c.loop-going.events (1 + c.answer_ahead-samples.result) 0 c.args.end.now (main_at c.args.self.now c.args.shared.now c.args.journal.now.items) (main_at (record { chip = c.loop-going.self-inside.chip.value; answer = c.loop-going.self-inside.answer }) c.loop-going.shared c.loop-going.journal.items) z c.loop-going.invariant.goes
          (main-stays c.answer_ahead-samples.result c.args.end.now (record { chip = c.loop-going.self-inside.chip.value; answer = c.loop-going.self-inside.answer }) (record { chip = chip; answer = None }) (record { chip = c.answer_ahead-samples.new.self; answer = None }) c.loop-going.shared c.carry_out_main.new.self c.loop-going.journal.items c.push_reserved.new.self.items c.pins68.result.level
          due.kind due.below is level sampled (c.answer_ahead-samples.ensures.cart ∙ ap (λ (v : Chip68Value). v.cart) same) refl);
      some = λ e. omega arith;
      due = λ e. record { kind = c.goes_on-going.ensures.kind e; below = main-key-below c.answer_ahead-samples.new.self.state c.args.end.now (c.goes_on-going.ensures.below e); cycle = (let low = c.goes_on-going.ensures.below e in let small = c.requires.time in omega (arith, low, small)); place = c.goes_on-going.ensures.room e };
      leaves = λ ne. join-leaves five IsChip IsBoard c.loop-going.events (1 + c.answer_ahead-samples.result) 0 c.args.sleeper c.args.end.now (main_at c.args.self.now c.args.shared.now c.args.journal.now.items) (main_at (record { chip = c.loop-going.self-inside.chip.value; answer = c.loop-going.self-inside.answer }) c.loop-going.shared c.loop-going.journal.items) c.loop-going.invariant.goes.is (c.loop-going.invariant.leaves ne)
          (main-leaves c.answer_ahead-samples.result c.args.sleeper c.args.end.now (record { chip = c.loop-going.self-inside.chip.value; answer = c.loop-going.self-inside.answer }) (record { chip = chip; answer = None }) (record { chip = c.answer_ahead-samples.new.self; answer = None }) c.loop-going.shared c.carry_out_main.new.self c.loop-going.journal.items c.push_reserved.new.self.items
          c.pins68.result.level c.carry_out_main.result.1 due.kind due.below is level sampled (c.carry_out_main.ensures.entry ∙ ap₂ (main_reported c.loop-going.shared) key-is request-is)
          (elim c.else-sleeper-ne0.branch [
            | else-sleeper-ne0-via-then-sleeper-ne0+else-may_wake w ↦ w.may_wake.ensures w.if-may_wake.false
            | else-sleeper-ne0-via-else-sleeper-ne0 w ↦ absurd (ne (search))
          ]));
      later = omega (arith, later, at, before);
      room = c.push_reserved.ensures.capacity ∙ c.loop-going.invariant.room;
    }
