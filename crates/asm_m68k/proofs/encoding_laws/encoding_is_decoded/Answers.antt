use Rattle.asm_m68k.proofs.Again.{decoded_again}
use Rattle.asm_m68k.proofs.encoding_laws.encoding_is_decoded.Goals as goal

pub returns : goal.returns
returns c = decoded_again
