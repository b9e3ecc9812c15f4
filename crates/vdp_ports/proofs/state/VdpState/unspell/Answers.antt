use Rattle.std.proofs.Common.{ℕ, Ok, Err, ap, subst, sym, ◌∙◌}
use Rattle.std.proofs.lemmas.Result.{err_from_is_err_and}
use Rattle.md_word.specs.declared.unspell.Unspell.TheVariants.{Rule}
use Rattle.vdp_ports.specs.Numbers.{numbers_of, vdp_of}
use Rattle.vdp_ports.specs.Spelling.{InvalidAt, IsSettled, Spells}
use Rattle.md_fields.proofs.Refusals.{no_rule, same_rule}
use Rattle.md_fields.proofs.Values.{not_refused, refused_once}
use Rattle.vdp_ports.proofs.RuleLaws.{settled_from}
use Rattle.vdp_ports.proofs.SavedLaws.{no_other, read_spells, table}
use Rattle.vdp_ports.proofs.state.VdpState.unspell.Goals as goal

pub returns-in_err-state-in-Ok-clause-rule : goal.returns-in_err-state-in-Ok-clause-rule
returns-in_err-state-in-Ok-clause-rule c =
    let p = err_from_is_err_and c.from_residual.result c.from_residual.ensures.1 in
    λ place. (
      λ e. absurd (no_rule place p.0 (sym p.2) (sym p.1 ∙ e)),
      λ invalid. absurd (not_refused (table c.args.at c.args.pal) c.args.bytes.now c.in-Ok.saved c.in-Ok.ensures.found.0 c.in-Ok.ensures.found.1 place invalid),
    )

pub returns-in_ok-state-in-Ok-clause-found : goal.returns-in_ok-state-in-Ok-clause-found
returns-in_ok-state-in-Ok-clause-found c = subst (Spells c.args.at c.args.pal c.args.bytes.now) (sym c.in_ok-state-in-Ok.ensures) (read_spells c.args.at c.args.pal c.args.bytes.now c.in-Ok.saved c.in-Ok.ensures.found.0 c.in-Ok.ensures.found.1)

pub returns-in_ok-state-in-Ok-clause-settled : goal.returns-in_ok-state-in-Ok-clause-settled
returns-in_ok-state-in-Ok-clause-settled c =
    subst (IsSettled c.args.at) (sym c.in_ok-state-in-Ok.ensures)
    (settled_from c.args.at (vdp_of c.args.pal c.in-Ok.saved) (read_spells c.args.at c.args.pal c.args.bytes.now c.in-Ok.saved c.in-Ok.ensures.found.0 c.in-Ok.ensures.found.1).right)

pub returns-in_ok-state-in-Ok-clause-only : goal.returns-in_ok-state-in-Ok-clause-only
returns-in_ok-state-in-Ok-clause-only c = λ s p n. ap (λ m. Ok m) (c.in_ok-state-in-Ok.ensures ∙ no_other c.args.at c.args.pal c.args.bytes.now c.in-Ok.saved s c.in-Ok.ensures.found.0 p)

pub returns-in_ok-state-in-Ok-clause-rule : goal.returns-in_ok-state-in-Ok-clause-rule
returns-in_ok-state-in-Ok-clause-rule c = λ place. (λ e. absurd cc, λ invalid. absurd (not_refused (table c.args.at c.args.pal) c.args.bytes.now c.in-Ok.saved c.in-Ok.ensures.found.0 c.in-Ok.ensures.found.1 place invalid))

pub returns-in-Err-clause-only : goal.returns-in-Err-clause-only
returns-in-Err-clause-only c = λ s p n. absurd (not_refused (table c.args.at c.args.pal) c.args.bytes.now (numbers_of s) p.keeps p.right c.in-Err.place c.in-Err.ensures.refused)

pub returns-in-Err-clause-rule : goal.returns-in-Err-clause-rule
returns-in-Err-clause-rule c = λ place. (
  λ e. subst (InvalidAt c.args.at c.args.pal c.args.bytes.now) (same_rule c.in-Err.place place e) c.in-Err.ensures.refused,
  λ invalid. ap (λ (p : ℕ). Err (Rule p)) (refused_once (table c.args.at c.args.pal) c.args.bytes.now c.in-Err.place place c.in-Err.ensures.refused invalid),
)
