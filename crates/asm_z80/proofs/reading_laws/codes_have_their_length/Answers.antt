use Rattle.asm_z80.proofs.Lengths.{decoded_few, encoded_long}
use Rattle.asm_z80.proofs.reading_laws.codes_have_their_length.Goals as goal

pub returns : goal.returns
returns c = record { long = encoded_long; few = decoded_few }
