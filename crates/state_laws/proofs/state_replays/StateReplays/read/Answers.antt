use Rattle.std.proofs.Common.{◌≡◌, ◌∙◌, ap, subst, List, ℕ, Some}
use Rattle.std.specs.Arc.{arc_value}
use Rattle.save_state.specs.Versions.{IsState}
use Rattle.state_laws.proofs.StateLaws.{state-of, state-refused}
use Rattle.state_laws.proofs.state_replays.StateReplays.read.Goals as goal

pub returns-in-Ok-clause-found : goal.returns-in-Ok-clause-found
returns-in-Ok-clause-found c =
    let cart : arc_value c.in_ok-cart.cart ≡ c.args.self.now = c.in_ok-cart.ensures ∙ c.self.view_is in
    let m = c.in-Ok.machine in (
      subst (λ (k : List ℕ). IsState k c.args.bytes.now (record { at = m.at; console = m.console })) cart c.in-Ok.ensures.found.0,
      c.in-Ok.ensures.found.1 ∙ c.in_ok-recording.ensures,
    )

pub returns-in-Ok-clause-only : goal.returns-in-Ok-clause-only
returns-in-Ok-clause-only c = λ start is pads.
    ap Some (state-of c.args.self.now (arc_value c.in_ok-cart.cart) (arc_value c.args.recording.now) (arc_value c.in_ok-recording.recording) c.args.bytes.now c.in-Ok.machine
    (c.in_ok-cart.ensures ∙ c.self.view_is) c.in_ok-recording.ensures c.in-Ok.ensures.only start is pads)

pub returns-in-Err-Form-clause-only : goal.returns-in-Err-Form-clause-only
returns-in-Err-Form-clause-only c =
    let none = state-refused c.args.self.now (arc_value c.in_ok-cart.cart) (arc_value c.args.recording.now) (arc_value c.in_ok-recording.recording) c.args.bytes.now _
    (c.in_ok-cart.ensures ∙ c.self.view_is) c.in_ok-recording.ensures (λ same. absurd cc) c.in-Err-Form.ensures.only in
    λ start is pads. absurd (none start is pads)

pub returns-in-Err-OtherCart-clause-only : goal.returns-in-Err-OtherCart-clause-only
returns-in-Err-OtherCart-clause-only c =
    let none = state-refused c.args.self.now (arc_value c.in_ok-cart.cart) (arc_value c.args.recording.now) (arc_value c.in_ok-recording.recording) c.args.bytes.now _
    (c.in_ok-cart.ensures ∙ c.self.view_is) c.in_ok-recording.ensures (λ same. absurd cc) c.in-Err-OtherCart.ensures.only in
    λ start is pads. absurd (none start is pads)
