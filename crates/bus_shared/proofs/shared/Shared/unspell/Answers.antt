use Rattle.std.proofs.Common.{◌∙◌, Ok, Err, ap, sym}
use Rattle.bus_shared.proofs.SpellingLaws.{fault_only, fault_refused, right_nowhere, spelled_once}
use Rattle.bus_shared.proofs.shared.Shared.unspell.Goals as goal

pub returns-in-Ok-clause-only : goal.returns-in-Ok-clause-only
returns-in-Ok-clause-only c = λ board spells recording memory.
    ap Ok (spelled_once c.args.at c.args.pal c.args.bytes.now c.in-Ok.shared board c.in-Ok.ensures.found.0 spells (c.in-Ok.ensures.found.1 ∙ sym recording))

pub returns-in-Ok-clause-refused : goal.returns-in-Ok-clause-refused
returns-in-Ok-clause-refused c = λ place invalid memory. absurd (right_nowhere c.args.at c.args.pal c.args.bytes.now c.in-Ok.shared c.in-Ok.ensures.found.0 place invalid)

pub returns-in-Err-clause-only : goal.returns-in-Err-clause-only
returns-in-Err-clause-only c = λ board spells recording memory.
    absurd (fault_only c.args.at c.args.pal c.args.bytes.now board spells c.in-Err.fault (λ place e. c.in-Err.ensures.rule place (ap Err e)) (λ e. memory (ap Err e)))

pub returns-in-Err-clause-refused : goal.returns-in-Err-clause-refused
returns-in-Err-clause-refused c = λ place invalid memory.
    ap Err (fault_refused c.args.at c.args.pal c.args.bytes.now place invalid c.in-Err.fault (λ p e. c.in-Err.ensures.rule p (ap Err e)) (λ e. memory (ap Err e)))
