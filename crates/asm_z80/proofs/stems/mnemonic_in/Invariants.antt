use Rattle.std.proofs.Common.{◌≡◌, map, length}
use Rattle.asm_z80.specs.Building.{mnemonic_in}
use Rattle.asm_z80.specs.Entered.{entered}
use Rattle.asm_z80.proofs.stems.mnemonic_in.Given as goal

abbrev pub invariant-loop-rest : goal.invariant-loop-rest
invariant-loop-rest l = mnemonic_in (map entered l.rest) l.text ≡ mnemonic_in (map entered l.fn.names) l.text

abbrev pub decreases-loop-rest : goal.decreases-loop-rest
decreases-loop-rest l = length l.rest
