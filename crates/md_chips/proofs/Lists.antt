-- Some event is enabled in a core of the five chips until none is below the cycle.
use Rattle.std.proofs.Common.{◌≡◌, ◌⊎◌, inl, inr, ℕ, ◌<◌, ◌≤◌, false, refl, sym, arith, nat_lt, Option, Some, None}
use Rattle.std.proofs.lemmas.Bool.Decides.{nat_tests}
use Rattle.md_word.specs.Keys.{key_lt}
use Rattle.bus_shared.specs.Board.{Board, IsBoard}
use Rattle.chip_core.specs.declared.event.Event.{Event}
use Rattle.chip_core.specs.declared.event.Event.TheVariants.{Announce, Perform, Sample}
use Rattle.chip_core.specs.Equations.{by_test}
use Rattle.chip_core.specs.Events.{IsBelowAll, IsEnabled, IsTidy, Seen}
use Rattle.chip_core.specs.Looks.{least_lagging}
use Rattle.chip_core.specs.Machines.{IsQuiet, is_sample, key_of, mover}
use Rattle.chip_core.proofs.Keys.{not_lt-rank, rank-key_lt}
use Rattle.chip_core.proofs.Looking.{none-lags, one-lags}
use Rattle.chip_core.proofs.Stages.{mover-in, mover-least, number-small, rank-apart}
use Rattle.md_chips.specs.Laws.{lawful}
use Rattle.md_chips.specs.Rules.{IsChip, five}
use Rattle.md_chips.specs.declared.chips.Chip.{Chip}

module _ (z : Seen Chip Board) (tidy : IsTidy five IsChip IsBoard z) (t : ℕ) where
  -- the chip of least key
  abbrev first : ℕ
  first = mover five z.machine

  first-in : first < 5
  first-in = mover-in five IsChip IsBoard lawful z.machine

  quiet-from : t ≤ (key_of five z.machine first).cycle → IsQuiet five z.machine t
  quiet-from late i below =
      let order = mover-least five IsChip IsBoard lawful z.machine tidy.valid i below in
      let small = number-small five IsChip IsBoard lawful z.machine tidy.valid i below in
      omega arith

  -- where no bound lags behind its chip's key, the least key is below all other bounds
  above : ((j : ℕ) → j < 5 → key_lt (z.bound j) (key_of five z.machine j) ≡ false) → IsBelowAll five z first
  above none j below other =
      let small = number-small five IsChip IsBoard lawful z.machine tidy.valid j below in
      let number = tidy.bound_number j below in
      let bound_small : (z.bound j).chip < 8 = omega arith in
      let order = mover-least five IsChip IsBoard lawful z.machine tidy.valid j below in
      let apart = rank-apart five IsChip IsBoard lawful z.machine tidy.valid first j first-in below (λ same. other (sym same)) in
      let under = not_lt-rank (z.bound j) (key_of five z.machine j) bound_small small (none j below) in
      rank-key_lt (key_of five z.machine first) (z.bound j) (number-small five IsChip IsBoard lawful z.machine tidy.valid first first-in) bound_small (omega arith)

  -- then its own event is enabled, and otherwise an announcement
  enabled-by : (key_of five z.machine first).cycle < t → (lagging : Option ℕ) → least_lagging z.bound (key_of five z.machine) 5 ≡ lagging → (event : Event) × IsEnabled five z t event
  enabled-by low (Some i) is = let one = one-lags z.bound (key_of five z.machine) 5 i is in (Announce i, (one.inside, one.lags))
  enabled-by low None is =
      let below : IsBelowAll five z first = above (none-lags z.bound (key_of five z.machine) 5 is) in
      by_test (is_sample five z.machine first)
      (λ sample. (Sample first, (first-in, sample, low, λ j inside other looked. below j inside other)))
      (λ access. (Perform first, (first-in, access, low, below)))

  -- none is below the cycle, or one is enabled
  pub run-goes-on : IsQuiet five z.machine t ⊎ ((event : Event) × IsEnabled five z t event)
  run-goes-on =
      by_test (nat_lt (key_of five z.machine first).cycle t)
      (λ low. inr (enabled-by (grind (arith, nat_tests, low)) (least_lagging z.bound (key_of five z.machine) 5) refl))
      (λ late. inl (quiet-from (grind (arith, nat_tests, late))))
