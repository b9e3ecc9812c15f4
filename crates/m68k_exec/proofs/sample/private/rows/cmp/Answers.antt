use Rattle.std.proofs.Common.{ℕ, ◌%◌, ◌∙◌, ap}
use Rattle.md_word.specs.Width.{modulus_of}
use Rattle.m68k_access.specs.Clauses.{memory_of}
use Rattle.m68k_access.specs.Outcomes.{outcome_of}
use Rattle.m68k_exec.proofs.PrivateRows.{cmp-row}
use Rattle.m68k_exec.proofs.sample.private.rows.cmp.Goals as goal

pub returns-in-Some : goal.returns-in-Some
returns-in-Some c =
    cmp-row c.args.size c.args.number c.args.mode c.args.start c.in-Some.source c.low-target.result c.args.regs.now c.operand.new.regs (outcome_of c.compared-outcome.result c.compared-outcome.new.regs) (memory_of c.args.context.now)
    c.in-Some.ensures.value (c.low-target.ensures.value ∙ ap (λ (n : ℕ). n % modulus_of c.args.size) c.register.ensures) c.compared-outcome.ensures
