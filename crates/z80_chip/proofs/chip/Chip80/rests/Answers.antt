use Rattle.std.proofs.Common.{◌≡◌, ap, subst, sym, ◌∙◌}
use Rattle.z80_chip.specs.Cases.{case_of, is_rest}
use Rattle.z80_chip.specs.States.{State80}
use Rattle.z80_chip.specs.Validity.{Chip80Value}
use Rattle.z80_chip.proofs.Ahead.{sampling}
use Rattle.z80_chip.proofs.Resting.{rests}
use Rattle.z80_chip.proofs.chip.Chip80.rests.Goals as goal

pub returns-then-next : goal.returns-then-next
returns-then-next c found =
    rests c.args.self.now.cart c.args.self.now.state c.args.pins.now
    (ap (λ (v : Chip80Value). is_rest (case_of v.state c.args.pins.now)) (sym c.self.view_is) ∙ ap is_rest (sym c.case_at.ensures.value) ∙ sym c.is_rest.ensures ∙ found)
    (sampling c.args.self.now.state (ap (λ n. n.sample) (sym c.next.ensures.value) ∙ c.if-next.true))
