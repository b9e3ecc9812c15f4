-- Runs from a start that is power-on are heard, by the laws on what a run reaches.
use Rattle.std.proofs.Common.{◌≡◌, ℕ, Bool, ◌≤◌, List, sym, subst, ap, ◌∙◌}
use Rattle.md_word.specs.Clock.{cycle_limit}
use Rattle.md_word.specs.declared.event.Entry.{Entry}
use Rattle.md_pads.specs.Recording.{Recorded}
use Rattle.md_chips.specs.Console.{Console, IsRunTo, power_on}
use Rattle.md_chips.specs.Media.{Media}
use Rattle.md_chips.specs.Starts.{Start}
use Rattle.machine_laws.specs.Heard.{HearsLevels, HearsSides}
use Rattle.run_command.specs.Heard.{HearsRuns}

-- what a law says of the runs of this cartridge
abbrev AreSo : List ℕ → (ℕ → List Entry → Media → Type 0) → Type 0
AreSo cart So = (recording : Recorded) (pal : Bool) (z : Console) (end : ℕ) (entries : List Entry) (output : Media) → end ≤ cycle_limit → IsRunTo (power_on cart recording pal) end z entries output → So end entries output

pub runs-heard : (start : Start) (one other : List ℕ) → one ≡ start.console.cart → other ≡ start.console.cart
    → AreSo one (λ end entries output. HearsLevels end entries output.levels) → AreSo other (λ end entries output. HearsSides end entries output.sides) → HearsRuns start
runs-heard start one other first second levels sides = λ inputs z end entries output same small run.
    let from : (cart : List ℕ) → cart ≡ start.console.cart → start.console ≡ power_on cart inputs.recording inputs.pal = λ cart is.
    ap (λ (s : Start). s.console) same ∙ ap (λ (c : List ℕ). power_on c inputs.recording inputs.pal) (sym (is ∙ ap (λ (s : Start). s.console.cart) same)) in (
      levels inputs.recording inputs.pal z end entries output small (subst (λ (m : Console). IsRunTo m end z entries output) (from one first) run),
      sides inputs.recording inputs.pal z end entries output small (subst (λ (m : Console). IsRunTo m end z entries output) (from other second) run),
    )
