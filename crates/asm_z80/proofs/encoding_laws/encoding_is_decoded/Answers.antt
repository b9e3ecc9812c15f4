use Rattle.asm_z80.proofs.Law80.{encoding_again, encoding_bytes}
use Rattle.asm_z80.proofs.encoding_laws.encoding_is_decoded.Goals as goal

pub returns-clause-same : goal.returns-clause-same
returns-clause-same c = encoding_again

pub returns-clause-are_bytes : goal.returns-clause-are_bytes
returns-clause-are_bytes c = encoding_bytes
