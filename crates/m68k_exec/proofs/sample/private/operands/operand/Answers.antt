use Rattle.std.proofs.Common.{ℕ, ◌%◌, ◌∙◌, ap}
use Rattle.md_word.specs.Width.{modulus_of}
use Rattle.m68k_access.specs.Clauses.{memory_of}
use Rattle.m68k_exec.proofs.PrivateRows.{reads-address, reads-data, reads-number}
use Rattle.m68k_exec.proofs.sample.private.operands.operand.Goals as goal

pub returns-in-Data-clause-value : goal.returns-in-Data-clause-value
returns-in-Data-clause-value c =
    rw c.in-Data.is (reads-data c.in-Data.number c.args.size c.args.pc c.low.result c.args.regs.now (memory_of c.args.context.now) (c.low.ensures.value ∙ ap (λ (n : ℕ). n % modulus_of c.args.size) c.register.ensures))

pub returns-in-Address-clause-value : goal.returns-in-Address-clause-value
returns-in-Address-clause-value c =
    rw c.in-Address.is (reads-address c.in-Address.number c.args.size c.args.pc c.low-in-Address.result c.args.regs.now (memory_of c.args.context.now) (c.low-in-Address.ensures.value ∙ ap (λ (n : ℕ). n % modulus_of c.args.size) c.register-in-Address.ensures))

pub returns-in-Immediate-clause-value : goal.returns-in-Immediate-clause-value
returns-in-Immediate-clause-value c =
    rw c.in-Immediate.is (reads-number c.in-Immediate.value c.args.size c.args.pc c.low-in-Immediate.result c.args.regs.now (memory_of c.args.context.now) c.low-in-Immediate.ensures.value)
