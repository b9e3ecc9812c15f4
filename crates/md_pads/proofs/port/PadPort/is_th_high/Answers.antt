use Rattle.std.proofs.Common.{◌≡◌, ◌∙◌, Bool, true, false, not, eqb, refl, sym, ap}
use Rattle.std.specs.Int.RustNames.{bit_and}
use Rattle.std.proofs.lemmas.Bool.{eq-eqb, ne_eqb}
use Rattle.md_pads.specs.Pad.{Port, is_set, is_th_high}
use Rattle.md_pads.proofs.Bits.{lacks_mask}
use Rattle.md_pads.proofs.port.PadPort.is_th_high.Goals as goal

turned : (b c : Bool) → not b ≡ c → b ≡ not c
turned true c e = ap not e
turned false c e = ap not e

-- TH by the masks of its two bits
input : (port : Port) → bit_and port.control 64 ≡ 0 → true ≡ is_th_high port
input port none =
    let off : is_set port.control 6 ≡ false = turned (is_set port.control 6) true (sym (lacks_mask port.control 6) ∙ eq-eqb _ _ none) in
    rw off refl

output : (port : Port) → (bit_and port.control 64 ≡ 0 → ⊥) → not (eqb (bit_and port.value 64) 0) ≡ is_th_high port
output port some =
    let on : is_set port.control 6 ≡ true = turned (is_set port.control 6) false (sym (lacks_mask port.control 6) ∙ ne_eqb _ _ some) in
    rw on (sym (turned (is_set port.value 6) (eqb (bit_and port.value 64) 0) (sym (lacks_mask port.value 6))))

pub returns-then-self-eq0 : goal.returns-then-self-eq0
returns-then-self-eq0 c = rw (← c.self.view_is) (eq-eqb _ _ c.if-self-eq0.true ∙ input (record { value = c.self.inside.value; control = c.self.inside.control; count = c.self.inside.count; fall = c.self.inside.fall }) c.if-self-eq0.true)

pub returns-else-self-eq0 : goal.returns-else-self-eq0
returns-else-self-eq0 c = rw (← c.self.view_is) (output (record { value = c.self.inside.value; control = c.self.inside.control; count = c.self.inside.count; fall = c.self.inside.fall }) c.if-self-eq0.false)
