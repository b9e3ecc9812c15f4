use Rattle.std.proofs.Common.{◌≡◌, ◌∙◌, length, sym, arith}
use Rattle.std.proofs.lemmas.Bool.Decides.{nat_tests}
use Rattle.md_asm.specs.Seen.{round_seen}
use Rattle.md_asm.proofs.Faults.{all_read}
use Rattle.md_asm.proofs.assembling.read_lines.Goals as goal

pub returns-clause-read : goal.returns-clause-read
returns-clause-read c =
    let none : length c.loop-rest.rest.now ≡ 0 = grind (arith, nat_tests) in
    sym c.loop-rest.invariant.goes_on ∙ all_read (round_seen c.loop-rest.pass) c.loop-rest.line c.loop-rest.rest.now none
