use Rattle.std.proofs.Common.{subst, sym}
use Rattle.md_rollback.specs.Inputs.{AreInputs, Words, no_words}
use Rattle.md_rollback.proofs.Expected.{no-words-known}
use Rattle.md_rollback.proofs.inputs.Inputs.make.Goals as goal

pub invariant_of-result : goal.invariant_of-result
invariant_of-result c =
    subst (λ (local : Words). AreInputs (record { local = local; remote = c.in_ok-remote.remote.items; confirmed = 0 })) (sym c.in_ok-local.ensures)
    (subst (λ (remote : Words). AreInputs (record { local = no_words; remote = remote; confirmed = 0 })) (sym c.in_ok-remote.ensures) no-words-known)
