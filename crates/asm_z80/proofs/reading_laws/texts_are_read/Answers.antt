use Rattle.asm_z80.proofs.Checked.{round_trips_again, tried_again}
use Rattle.asm_z80.proofs.reading_laws.texts_are_read.Goals as goal

pub returns-clause-back : goal.returns-clause-back
returns-clause-back c = tried_again

pub returns-clause-round_trips : goal.returns-clause-round_trips
returns-clause-round_trips c = round_trips_again
