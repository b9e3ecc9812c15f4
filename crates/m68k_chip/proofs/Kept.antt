-- The chip that an event leaves is valid, keeps the request that waits, and predicts what comes.
use Rattle.std.proofs.Common.{◌≡◌, ℕ, true, false, List, Option, sym, ◌∙◌, ap, subst}
use Rattle.md_word.specs.declared.main_bus.Answer68.{Answer68}
use Rattle.md_word.specs.declared.main_bus.Request68.{Request68}
use Rattle.rom_header.specs.Cartridge.{IsImage}
use Rattle.m68k_exec.specs.declared.sample.step.Predicted.{Predicted}
use Rattle.m68k_chip.specs.Events.{answered, begun, request_of}
use Rattle.m68k_chip.specs.Held.{IsPredicted, IsHeld, WaitsFor}
use Rattle.m68k_chip.specs.Validity.{Chip68Value, Fits, IsChip68}
use Rattle.m68k_chip.specs.States.{State68, next_of, power_on}
use Rattle.m68k_chip.proofs.Laws.{IsLevel, answered-ok, begun-ok, of, power_on-ok}

held : (image bytes : List ℕ) (new : State68) (request : Option Request68) (predicted : Predicted) (at : State68) → new ≡ at → IsChip68 (of image at) → bytes ≡ image → WaitsFor new.stage bytes new request → IsPredicted new.stage bytes new predicted → IsHeld (of image new) request predicted
held image bytes new request predicted at e valid same waits predicts = record {
  valid = subst (λ (state : State68). IsChip68 (of image state)) (sym e) valid;
  waiting = subst (λ (b : List ℕ). WaitsFor new.stage b new request) same waits;
  predicts = subst (λ (b : List ℕ). IsPredicted new.stage b new predicted) same predicts;
}

pub after_sample : (image bytes : List ℕ) (old new : State68) (request : Option Request68) (predicted : Predicted) (value : Chip68Value) (level : ℕ) → IsLevel level → of image old ≡ value → IsChip68 (of image old)
    → (next_of value.state).sample ≡ true → bytes ≡ image → new ≡ begun bytes old level → WaitsFor new.stage bytes new request → IsPredicted new.stage bytes new predicted → IsHeld (of image new) request predicted
after_sample image bytes old new request predicted value level known is ok kind same e waits predicts =
    let sampling : (next_of old).sample ≡ true = ap (λ (v : Chip68Value). (next_of v.state).sample) is ∙ kind in
    held image bytes new request predicted (begun image old level) (e ∙ ap (λ (b : List ℕ). begun b old level) same) (begun-ok (of image old) level known ok sampling) same waits predicts

pub after_answer : (image bytes : List ℕ) (old new : State68) (request : Option Request68) (predicted : Predicted) (value : Chip68Value) (answer : Answer68) → of image old ≡ value → IsChip68 (of image old)
    → (next_of value.state).sample ≡ false → Fits (request_of value.cart value.state) answer → bytes ≡ image → new ≡ answered bytes old answer → WaitsFor new.stage bytes new request → IsPredicted new.stage bytes new predicted → IsHeld (of image new) request predicted
after_answer image bytes old new request predicted value answer is ok kind fits same e waits predicts =
    let asking : (next_of old).sample ≡ false = ap (λ (v : Chip68Value). (next_of v.state).sample) is ∙ kind in
    let fit : Fits (request_of image old) answer = subst (λ (v : Chip68Value). Fits (request_of v.cart v.state) answer) (sym is) fits in
    held image bytes new request predicted (answered image old answer) (e ∙ ap (λ (b : List ℕ). answered b old answer) same) (answered-ok (of image old) answer ok asking fit) same waits predicts

pub at_power_on : (image : List ℕ) (state : State68) (request : Option Request68) (predicted : Predicted) → IsImage image → state ≡ power_on image → IsHeld (of image state) request predicted
unfolding power_on
at_power_on image state request predicted ok e = record {
  valid = subst (λ (state : State68). IsChip68 (of image state)) (sym e) (power_on-ok image ok);
  waiting = subst (λ (state : State68). WaitsFor state.stage image state request) (sym e) tt;
  predicts = subst (λ (state : State68). IsPredicted state.stage image state predicted) (sym e) tt;
}
