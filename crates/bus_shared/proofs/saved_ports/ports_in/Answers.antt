use Rattle.std.proofs.Common.{◌∙◌, ℕ, List, take, drop, Err, ap, sym, subst, inl, inr, arith}
use Rattle.md_word.specs.declared.unspell.Unspell.TheVariants.{Rule}
use Rattle.md_fields.proofs.Items.{refused_within}
use Rattle.fm_port.specs.PortSpelling.{PortInvalidAt, port_size as fm_size}
use Rattle.psg_sound.specs.PortSpelling as psg_spelling
use Rattle.md_fields.proofs.Refusals.{same_fault}
use Rattle.bus_shared.specs.Saved.{lines_fields}
use Rattle.bus_shared.specs.Spelling.{LinesInvalidAt, lines_size}
use Rattle.bus_shared.proofs.SavedLaws.{fields_size}
use Rattle.bus_shared.proofs.SpellingLaws.{after_rule, place_is, psg_near}
use Rattle.bus_shared.proofs.saved_ports.ports_in.Goals as goal
use Rattle.psg_sound.specs.PortSpelling.{port_size as psg_size}

pub returns-in-Err-clause-rule : goal.returns-in-Err-clause-rule
returns-in-Err-clause-rule c = λ place e.
    inl (
      place,
      subst (λ (l : List ℕ). PortInvalidAt c.args.at l place) c.split_at.ensures.front (c.in-Err.ensures.rule place (ap Err (same_fault c.in-Err.fault (Rule place) e))),
      omega arith,
    )

pub following-requires-clause-near : goal.following-requires-clause-near
following-requires-clause-near c = λ place e.
    omega (arith, psg_near c.args.at _ place (c.in-Err-psg_in.ensures.rule place (ap Err e)))

pub returns-in-Err-psg_in-clause-rule : goal.returns-in-Err-psg_in-clause-rule
returns-in-Err-psg_in-clause-rule c = λ place e.
    let w = after_rule fm_size c.in-Err-psg_in.fault place (sym c.following.ensures ∙ same_fault c.following.result (Rule place) e) in
    inr (
      λ p invalid. c.in-Ok.ensures.right p (subst (λ (l : List ℕ). PortInvalidAt c.args.at l p) (sym c.split_at.ensures.front) invalid),
      inl (
        w.0,
        subst (λ (l : List ℕ). psg_spelling.PortInvalidAt c.args.at l w.0) (c.split_at-2.ensures.front ∙ ap (take psg_size) c.split_at.ensures.back) (c.in-Err-psg_in.ensures.rule w.0 (ap Err w.1)),
        omega (arith, w.2),
      ),
    )

pub overflow_add-result-in-Err-checked : goal.overflow_add-result-in-Err-checked
overflow_add-result-in-Err-checked c =
    omega (arith, refused_within (lines_fields c.args.at) _ lines_size (fields_size c.args.at) c.in-Err-checked.place c.in-Err-checked.ensures.refused)

pub returns-in-Ok-checked-clause-lines : goal.returns-in-Ok-checked-clause-lines
returns-in-Ok-checked-clause-lines c =
    rw (← c.split_at.ensures.back, ← c.split_at-2.ensures.back) c.in-Ok-checked.ensures.found

pub returns-in-Err-checked-clause-rule : goal.returns-in-Err-checked-clause-rule
returns-in-Err-checked-clause-rule c = λ place e.
    inr (
      λ p invalid. c.in-Ok.ensures.right p (subst (λ (l : List ℕ). PortInvalidAt c.args.at l p) (sym c.split_at.ensures.front) invalid),
      inr (
        λ p invalid. c.in-Ok-psg_in.ensures.right p
            (subst (λ (l : List ℕ). psg_spelling.PortInvalidAt c.args.at l p) (sym (c.split_at-2.ensures.front ∙ ap (take psg_size) c.split_at.ensures.back)) invalid),
        inl (
          c.in-Err-checked.place,
          subst (λ (l : List ℕ). LinesInvalidAt c.args.at l c.in-Err-checked.place) (c.split_at-2.ensures.back ∙ ap (drop psg_size) c.split_at.ensures.back) c.in-Err-checked.ensures.refused,
          omega (arith, place_is _ _ (same_fault _ (Rule place) e)),
        ),
      ),
    )
