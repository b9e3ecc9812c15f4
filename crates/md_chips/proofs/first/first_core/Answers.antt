use Rattle.std.proofs.Common.{◌≡◌, Bool, List, ℕ, sym, subst}
use Rattle.std.specs.Arc.{arc_value}
use Rattle.md_word.specs.declared.key.Key.{Key}
use Rattle.chip_core.specs.Cores.{IsShaped}
use Rattle.md_chips.specs.First.{first_bounds, first_chips}
use Rattle.md_chips.specs.Rules.{five}
use Rattle.md_chips.specs.declared.chips.Chip.{Chip}
use Rattle.md_chips.proofs.Start.{first-shape}
use Rattle.md_chips.proofs.first.first_core.Goals as goal

shaped : (cart : List ℕ) (pal : Bool) (chips : List Chip) (bounds : List Key) → chips ≡ first_chips cart pal → bounds ≡ first_bounds → IsShaped five chips bounds
shaped cart pal chips bounds c k = subst (λ z. IsShaped five z bounds) (sym c) (subst (λ z. IsShaped five (first_chips cart pal) z) (sym k) (first-shape cart pal))

pub make-requires : goal.make-requires
make-requires c =
    shaped (arc_value c.args.cart) c.args.pal c.in_ok-chips.chips.items c.in_ok-bounds.bounds.items (c.in_ok-chips.ensures {u = tt}) (c.in_ok-bounds.ensures {u = tt})
