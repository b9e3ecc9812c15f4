use Rattle.std.proofs.Common.{◌≡◌, ◌++◌, length}
use Rattle.md_asm.specs.Codes.{in_bytes}
use Rattle.md_asm.proofs.codes.in_bytes.Given as goal

abbrev pub invariant-loop-rest : goal.invariant-loop-rest
invariant-loop-rest l = l.bytes.items ++ in_bytes l.rest ≡ in_bytes l.fn.words

abbrev pub decreases-loop-rest : goal.decreases-loop-rest
decreases-loop-rest l = length l.rest
