use Rattle.std.proofs.Common.{◌≡◌, ◌∙◌, ℕ, List, ap, sym, subst, Some, replicate}
use Rattle.std.specs.Arc.{arc_value}
use Rattle.rom_header.specs.Cartridge.{IsImage}
use Rattle.z80_chip.specs.Validity.{IsChip80}
use Rattle.z80_chip.specs.States.{State80, power_on, state_of}
use Rattle.z80_chip.proofs.Waiting.{sample-predicted, sample-waits}
use Rattle.z80_parcel.specs.Parcels.{ram_size}
use Rattle.z80_chip.proofs.Laws.{of, power_on-ok}
use Rattle.z80_chip.proofs.chip.Chip80.power_on.Goals as goal

made : (c : goal.After-new) → state_of c.power_on.result (Some c.in_ok-parcel.parcel) ≡ power_on
unfolding power_on
made c =
    let first = c.in_ok-parcel.ensures {u = tt} in
    c.power_on.ensures (Some c.in_ok-parcel.parcel)
    ∙ ap (λ (l : List ℕ). record power_on { store = Some (record { ram = l; bank = c.in_ok-parcel.parcel.bank }) }) first.ram
    ∙ ap (λ (n : ℕ). record power_on { store = Some (record { ram = replicate ram_size 0; bank = n }) }) first.bank

pub invariant_of-result : goal.invariant_of-result
unfolding power_on
invariant_of-result c = record {
  valid = subst (λ (state : State80). IsChip80 (of (arc_value c.args.cart) state)) (sym (made c))
      (power_on-ok (arc_value c.args.cart) (subst (λ (image : List ℕ). IsImage image) c.deref.ensures c.bytes.ensures.image));
  waiting = sample-waits c.power_on.result.stage (arc_value c.args.cart) (state_of c.power_on.result (Some c.in_ok-parcel.parcel)) c.power_on.result.request (ap (λ (s : State80). s.stage) (made c));
  predicts = sample-predicted c.power_on.result.stage (arc_value c.args.cart) (state_of c.power_on.result (Some c.in_ok-parcel.parcel)) c.power_on.result.predicted (ap (λ (s : State80). s.stage) (made c));
}

pub returns : goal.returns
returns c = ap (λ (state : State80). of (arc_value c.args.cart) state) (made c)
