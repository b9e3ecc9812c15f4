use Rattle.std.proofs.Common.{◌≡◌, ◌-◌, vec_len}
use Rattle.md_demo.specs.Demo.{filled_to}
use Rattle.md_demo.proofs.push.fill_to.Given as goal

abbrev pub invariant-zeros : goal.invariant-zeros
invariant-zeros l = filled_to l.size l.bytes.items ≡ filled_to l.size l.initial.bytes.items

abbrev pub decreases-zeros : goal.decreases-zeros
decreases-zeros l = l.size - vec_len l.bytes
