use Rattle.std.proofs.Common.{◌-◌, ◌∙◌, ◌∷◌, ap, ℕ, List, take}
use Rattle.md_rollback.specs.declared.kept_images.Slot.{Slot}
use Rattle.md_rollback.proofs.kept_images.put_front.Goals as goal

pub returns-in-Some-clause-slots : goal.returns-in-Some-clause-slots
returns-in-Some-clause-slots c =
    let slots : List Slot = c.args.slots.now.items in
    c.push_front_reserved.ensures.items
    ∙ (λ i. record { frames = c.args.frames; bytes = c.swap.ensures.x_after i } ∷ (c.in-Some.ensures.rest ∙ ap (λ (n : ℕ). take (n - 1) slots) c.args.slots.now.ok.0) i)
