use Rattle.std.proofs.Common.{◌≡◌, ℕ, List, refl, ap, subst, sym, ◌∙◌}
use Rattle.std.specs.Arc.{arc_value}
use Rattle.m68k_chip.specs.Iterations.{HasWatched, IsOn}
use Rattle.m68k_chip.specs.States.{state_of}
use Rattle.m68k_chip.specs.Validity.{Chip68Value}
use Rattle.m68k_chip.proofs.chip.Chip68.sample_round.Goals as goal

pub invariant_of-self : goal.invariant_of-self
invariant_of-self c =
    let same : arc_value c.self-2.inside.cart ≡ arc_value c.self.inside.cart = ap (λ (v : Chip68Value). v.cart) c.self-2.view_is ∙ c.sample_watched-watched.ensures.cart ∙ sym (ap (λ (v : Chip68Value). v.cart) c.self.view_is) in (
      c.self-2.invariant.0,
      c.self-2.invariant.1,
      c.go_on.ensures (arc_value c.self-2.inside.cart) c.self-2.inside.ram.value (state_of c.self.inside.sequencer c.self.inside.ram.value) c.self.inside.sequencer.request c.self.inside.sequencer.predicted c.args.end
          (subst (λ (image : List ℕ). IsOn c.self.inside.iteration.place c.self.inside.iteration image (state_of c.self.inside.sequencer c.self.inside.ram.value) c.self.inside.sequencer.request c.self.inside.sequencer.predicted) (sym same) c.self.invariant.2)
          (subst (λ (image : List ℕ). HasWatched c.sample_watched-watched.result c.args.end image c.args.pins.level (state_of c.self.inside.sequencer c.self.inside.ram.value) (state_of c.self-2.inside.sequencer c.self-2.inside.ram.value)) (sym same)
          (subst (λ (v : Chip68Value). HasWatched c.sample_watched-watched.result c.args.end v.cart c.args.pins.level v.state (state_of c.self-2.inside.sequencer c.self-2.inside.ram.value)) (sym c.self.view_is)
          (subst (λ (v : Chip68Value). HasWatched c.sample_watched-watched.result c.args.end c.args.self.now.cart c.args.pins.level c.args.self.now.state v.state) (sym c.self-2.view_is) c.sample_watched-watched.ensures.watched)))
          refl,
      c.self-2.invariant.3,
    )
