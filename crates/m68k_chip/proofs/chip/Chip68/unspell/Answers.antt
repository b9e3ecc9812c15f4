use Rattle.std.proofs.Common.{◌≡◌, ℕ, List, drop, arith, Ok, Err, ap, subst, sym, ◌∙◌, refl}
use Rattle.std.specs.Arc.{arc_value}
use Rattle.std.proofs.lemmas.Result.{err_from_is_err_and}
use Rattle.md_word.specs.declared.unspell.Unspell.TheVariants.{Rule}
use Rattle.m68k_access.specs.Memory.{ram_size}
use Rattle.rom_header.specs.Cartridge.{IsImage}
use Rattle.m68k_chip.specs.Held.{WaitsFor}
use Rattle.m68k_chip.specs.Rules.{HasRules}
use Rattle.m68k_chip.specs.Validity.{IsChip68}
use Rattle.m68k_chip.specs.Spelling.{InvalidAt, IsKept, Spells, ram_in}
use Rattle.m68k_chip.specs.States.{State68, state_of}
use Rattle.m68k_chip.proofs.Iterations.{away, away-aside}
use Rattle.m68k_chip.proofs.Laws.{of}
use Rattle.md_fields.proofs.Standing.{IsBytes-drop, IsBytes-take}
use Rattle.md_fields.proofs.Refusals.{no_rule, same_rule}
use Rattle.md_fields.proofs.Values.{refused_once}
use Rattle.m68k_chip.proofs.RuleLaws.{recent_from}
use Rattle.m68k_chip.proofs.SavedLaws.{table}
use Rattle.m68k_chip.proofs.SpellingLaws.{no_other, right_not_refused, spelled_long, spelled_valid}
use Rattle.m68k_chip.proofs.Waiting.{unknown-predicted}
use Rattle.m68k_chip.proofs.chip.Chip68.unspell.Goals as goal
use Rattle.m68k_chip.proofs.chip.Chip68.unspell.Goals.{After-new}

pub copied-requires : goal.copied-requires
copied-requires c = spelled_long c.deref-2.result.now c.args.at c.args.bytes.now (state_of c.in-Ok.sequencer (ram_in c.args.bytes.now)) c.in-Ok.ensures.found.spelled

pub returns-in_err-ram-in-Ok-clause-rule : goal.returns-in_err-ram-in-Ok-clause-rule
returns-in_err-ram-in-Ok-clause-rule c =
    let p = err_from_is_err_and c.from_residual-in_err-ram-in-Ok.result c.from_residual-in_err-ram-in-Ok.ensures.1 in
    let kept : Spells (arc_value c.args.cart) c.args.at c.args.bytes.now (state_of c.in-Ok.sequencer (ram_in c.args.bytes.now)) =
    subst (λ (image : List ℕ). Spells image c.args.at c.args.bytes.now (state_of c.in-Ok.sequencer (ram_in c.args.bytes.now))) c.deref-2.ensures c.in-Ok.ensures.found.spelled in
    λ place. (
      λ e. absurd (no_rule place p.0 (sym p.2) (sym p.1 ∙ e)),
      λ invalid. absurd (right_not_refused (arc_value c.args.cart) c.args.at c.args.bytes.now _ place kept invalid),
    )

-- what is made is what the bytes keep
made : (c : goal.After-new) → state_of c.in-Ok.sequencer c.in_ok-ram-in-Ok.ram.value ≡ state_of c.in-Ok.sequencer (ram_in c.args.bytes.now)
made c = ap (state_of c.in-Ok.sequencer) c.in_ok-ram-in-Ok.ensures

kept : (c : goal.After-new) → IsKept (arc_value c.args.cart) c.args.at c.args.bytes.now (state_of c.in-Ok.sequencer (ram_in c.args.bytes.now)) c.in-Ok.sequencer.request c.in-Ok.sequencer.predicted
kept c = subst (λ (image : List ℕ). IsKept image c.args.at c.args.bytes.now (state_of c.in-Ok.sequencer (ram_in c.args.bytes.now)) c.in-Ok.sequencer.request c.in-Ok.sequencer.predicted) c.deref-2.ensures c.in-Ok.ensures.found

pub invariant_of-result : goal.invariant_of-result
invariant_of-result c = (
  record {
    valid = subst (λ (s : State68). IsChip68 (of (arc_value c.args.cart) s)) (sym (made c))
        (spelled_valid (arc_value c.args.cart) c.args.at c.args.bytes.now _ (subst (λ (image : List ℕ). IsImage image) c.deref.ensures c.bytes.ensures.image) (kept c).spelled);
    waiting = subst (λ (s : State68). WaitsFor s.stage (arc_value c.args.cart) s c.in-Ok.sequencer.request) (sym (made c)) (kept c).waits;
    predicts = unknown-predicted _ (arc_value c.args.cart) _ c.in-Ok.sequencer.predicted (kept c).unknown;
  },
  c.in_ok-cache-in-Ok.ensures (arc_value c.args.cart),
  away _ _ _ _ _ _ c.none-none.ensures,
  away-aside _ _ _ c.none-none.ensures,
)

pub returns-in_ok-ram-in-Ok-clause-found : goal.returns-in_ok-ram-in-Ok-clause-found
returns-in_ok-ram-in-Ok-clause-found c = (refl, subst (Spells (arc_value c.args.cart) c.args.at c.args.bytes.now) (sym (made c)) (kept c).spelled)

pub returns-in_ok-ram-in-Ok-clause-recent : goal.returns-in_ok-ram-in-Ok-clause-recent
returns-in_ok-ram-in-Ok-clause-recent c =
    subst (HasRules c.args.at) (sym (made c)) (record {
      ram = IsBytes-take ram_size (drop 178 c.args.bytes.now) (IsBytes-drop 178 c.args.bytes.now (λ i. omega (arith, c.type_inv.bytes i)));
      recent = recent_from (arc_value c.args.cart) c.args.at c.args.bytes.now _ (kept c).spelled;
    })

pub returns-in_ok-ram-in-Ok-clause-only : goal.returns-in_ok-ram-in-Ok-clause-only
returns-in_ok-ram-in-Ok-clause-only c = λ state p n.
    ap (λ (s : State68). Ok (of (arc_value c.args.cart) s)) (made c ∙ no_other (arc_value c.args.cart) c.args.at c.args.bytes.now _ state (kept c).spelled p)

pub returns-in_ok-ram-in-Ok-clause-rule : goal.returns-in_ok-ram-in-Ok-clause-rule
returns-in_ok-ram-in-Ok-clause-rule c = λ place. (
  λ e. absurd cc,
  λ invalid. absurd (right_not_refused (arc_value c.args.cart) c.args.at c.args.bytes.now _ place (kept c).spelled invalid),
)

pub returns-in-Err-clause-only : goal.returns-in-Err-clause-only
returns-in-Err-clause-only c = λ state p n.
    absurd (right_not_refused (arc_value c.args.cart) c.args.at c.args.bytes.now state c.in-Err.place p
    (subst (λ (image : List ℕ). InvalidAt image c.args.at c.args.bytes.now c.in-Err.place) c.deref-2.ensures c.in-Err.ensures.refused))

pub returns-in-Err-clause-rule : goal.returns-in-Err-clause-rule
returns-in-Err-clause-rule c =
    let invalid : InvalidAt (arc_value c.args.cart) c.args.at c.args.bytes.now c.in-Err.place =
    subst (λ (image : List ℕ). InvalidAt image c.args.at c.args.bytes.now c.in-Err.place) c.deref-2.ensures c.in-Err.ensures.refused in
    λ place. (
      λ e. subst (InvalidAt (arc_value c.args.cart) c.args.at c.args.bytes.now) (same_rule c.in-Err.place place e) invalid,
      λ other. ap (λ (p : ℕ). Err (Rule p)) (refused_once (table (arc_value c.args.cart) c.args.at) c.args.bytes.now c.in-Err.place place invalid other),
    )

pub returns-in_err-cache-in-Ok-clause-rule : goal.returns-in_err-cache-in-Ok-clause-rule
returns-in_err-cache-in-Ok-clause-rule c =
    let p = err_from_is_err_and c.from_residual.result c.from_residual.ensures.1 in
    let kept : Spells (arc_value c.args.cart) c.args.at c.args.bytes.now (state_of c.in-Ok.sequencer (ram_in c.args.bytes.now)) =
    subst (λ (image : List ℕ). Spells image c.args.at c.args.bytes.now (state_of c.in-Ok.sequencer (ram_in c.args.bytes.now))) c.deref-2.ensures c.in-Ok.ensures.found.spelled in
    λ place. (
      λ e. absurd (no_rule place p.0 (sym p.2) (sym p.1 ∙ e)),
      λ invalid. absurd (right_not_refused (arc_value c.args.cart) c.args.at c.args.bytes.now _ place kept invalid),
    )
