use Rattle.std.proofs.Common.{◌≡◌, ◌∙◌, ◌+◌, ◌≤◌, ℕ, List, map, ap, sym, arith}
use Rattle.std.specs.Prelude.{option_map}
use Rattle.md_fields.specs.Fields.{Field, first_invalid, seen, sizes}
use Rattle.md_fields.proofs.Items.{first_within}
use Rattle.fm_chip.proofs.SynthBytes.{shifted}
use Rattle.fm_chip.proofs.saved_synth.invalid_from.Goals as goal

at_place : (place : ℕ) (fs : List Field) → first_invalid place fs ≡ option_map (λ q. place + q) (first_invalid 0 fs)
at_place place fs = ap (λ (p : ℕ). first_invalid p fs) (omega arith) ∙ shifted place 0 fs

pub overflow_add-result : goal.overflow_add-result
overflow_add-result c =
    let within : c.in-Some.invalid ≤ 0 + sizes (map seen c.args.fields.now) = first_within 0 (map seen c.args.fields.now) c.in-Some.invalid (sym c.first_invalid.ensures ∙ c.in-Some.is) in
    omega (arith, within, c.requires)

pub returns-in-Some : goal.returns-in-Some
returns-in-Some c = sym (at_place c.args.place (map seen c.args.fields.now) ∙ ap (option_map (λ q. c.args.place + q)) (sym c.first_invalid.ensures ∙ c.in-Some.is))

pub returns-in-None : goal.returns-in-None
returns-in-None c = sym (at_place c.args.place (map seen c.args.fields.now) ∙ ap (option_map (λ q. c.args.place + q)) (sym c.first_invalid.ensures ∙ c.in-None.is))
