use Rattle.std.proofs.Common.{ℕ, List, ◌+◌, ◌%◌, ◌^◌, ap, refl, subst, sym}
use Rattle.md_word.specs.Answers.{Done}
use Rattle.md_word.specs.declared.regs.Regs.{Regs}
use Rattle.m68k_access.specs.Clauses.{done_of, memory_of}
use Rattle.m68k_exec.specs.Sample.Execution.{row}
use Rattle.m68k_exec.specs.Sample.Private.{EndsPrivately, IsPrivate}
use Rattle.m68k_exec.specs.Sample.Samples.{instruction, nothing}
use Rattle.m68k_exec.proofs.Private.{instruction-ends}
use Rattle.m68k_exec.proofs.sample.private.run_at_once.Goals as goal

pub returns-in-Some : goal.returns-in-Some
returns-in-Some c predicted =
    let op = c.args.found.now.decoded.op in
    let pc = c.args.regs.now.pc in
    subst (λ (written : List (ℕ × ℕ)). EndsPrivately (instruction c.args.found.now.decoded c.args.found.now.first c.args.regs.now) c.in-Some.taken c.execute.new.regs written (memory_of c.args.context.now))
    (sym (ap (λ (done : Done). done.writes) c.requires.fresh))
    (instruction-ends c.args.found.now.decoded c.args.found.now.first c.in-Some.taken c.args.regs.now c.execute.new.regs (memory_of c.args.context.now) nothing (rw c.requires.even refl) c.requires.untraced
    (subst (λ (n : ℕ). IsPrivate op (row op pc (record (c.args.regs.now) { pc = (pc + n) % 2 ^ 32 })) c.in-Some.taken c.execute.new.regs (memory_of c.args.context.now) nothing) c.from.ensures c.in-Some.ensures))

pub returns-in-Some-execute_store : goal.returns-in-Some-execute_store
returns-in-Some-execute_store c predicted =
    let op = c.args.found.now.decoded.op in
    let pc = c.args.regs.now.pc in
    let done : Done = done_of c.execute_store.new.progress in
    let ended = c.in-Some-execute_store in
    instruction-ends c.args.found.now.decoded c.args.found.now.first ended.taken c.args.regs.now c.execute_store.new.regs (memory_of c.args.context.now) done (rw c.requires.even refl) c.requires.untraced
    (subst (λ (n : ℕ). IsPrivate op (row op pc (record (c.args.regs.now) { pc = (pc + n) % 2 ^ 32 })) ended.taken c.execute_store.new.regs (memory_of c.args.context.now) done) c.from.ensures
    (subst (λ (regs : Regs). IsPrivate op (row op pc regs) ended.taken c.execute_store.new.regs (memory_of c.args.context.now) done) c.in-None.ensures ended.ensures))
