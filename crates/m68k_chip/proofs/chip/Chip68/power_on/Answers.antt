use Rattle.std.proofs.Common.{◌≡◌, ◌∙◌, ℕ, List, ap, subst, replicate}
use Rattle.std.specs.Arc.{arc_value}
use Rattle.m68k_access.specs.Memory.{ram_size}
use Rattle.rom_header.specs.Cartridge.{IsImage}
use Rattle.m68k_chip.specs.States.{State68, power_on, state_of}
use Rattle.m68k_chip.proofs.Kept.{at_power_on}
use Rattle.m68k_chip.proofs.Iterations.{away, away-aside}
use Rattle.m68k_chip.proofs.Laws.{of}
use Rattle.m68k_chip.proofs.chip.Chip68.power_on.Goals as goal
use Rattle.m68k_chip.proofs.chip.Chip68.power_on.Goals.{After-new}

made : (c : goal.After-new) → state_of c.power_on-sequencer.result c.in_ok-ram.ram.value ≡ power_on (arc_value c.args.cart)
made c =
    let zero : c.in_ok-ram.ram.value ≡ replicate {A = ℕ} ram_size 0 = c.in_ok-ram.ensures in
    ap (λ (ram : List ℕ). state_of c.power_on-sequencer.result ram) zero
    ∙ c.power_on-sequencer.ensures
    ∙ ap (λ (image : List ℕ). power_on image) (c.bytes.ensures.value ∙ c.deref.ensures)

pub invariant_of-result : goal.invariant_of-result
invariant_of-result c = (at_power_on _ _ _ _ (subst (λ (image : List ℕ). IsImage image) c.deref.ensures c.bytes.ensures.image) (made c), c.in_ok-cache.ensures (arc_value c.args.cart), away _ _ _ _ _ _ c.none-none.ensures, away-aside _ _ _ c.none-none.ensures)

pub returns : goal.returns
returns c = ap (λ (state : State68). of (arc_value c.args.cart) state) (made c)
