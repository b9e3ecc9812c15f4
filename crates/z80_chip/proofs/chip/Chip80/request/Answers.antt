use Rattle.std.proofs.Common.{◌≡◌, ◌∙◌, subst}
use Rattle.std.specs.Arc.{arc_value}
use Rattle.z80_parcel.specs.Requests.{request_value80_of}
use Rattle.z80_chip.specs.Events.{asked_of}
use Rattle.z80_chip.specs.States.{state_of}
use Rattle.z80_chip.specs.Validity.{Chip80Value}
use Rattle.z80_chip.proofs.Kept.{after_request}
use Rattle.z80_chip.proofs.Waiting.{asked-kept}
use Rattle.z80_chip.proofs.chip.Chip80.request.Goals as goal

pub returns-clause-request : goal.returns-clause-request
returns-clause-request c =
    subst (λ (v : Chip80Value). request_value80_of c.asked.result ≡ asked_of v.cart v.state) c.self.view_is
    (c.asked.ensures.request ∙ asked-kept (arc_value c.self.inside.cart) (state_of c.self.inside.sequencer c.self.inside.parcel) c.self.inside.sequencer.request c.self.invariant.waiting)

pub invariant_of-self : goal.invariant_of-self
invariant_of-self c =
    after_request _ (state_of c.self.inside.sequencer c.self.inside.parcel) _ _ _ c.self.invariant.valid c.asked.ensures.state c.self.invariant.waiting c.self.invariant.predicts
