use Rattle.std.proofs.Common.{arith}
use Rattle.z80_decode.proofs.Table.{instruction}
use Rattle.z80_decode.proofs.decoder.decode.Goals as goal

pub returns-clause-instruction : goal.returns-clause-instruction
returns-clause-instruction c = rw c.by_prefix.ensures (instruction _ _ _ _ (omega arith) (omega arith) (omega arith))
