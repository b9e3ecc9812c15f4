use Rattle.std.proofs.Common.{Ok, ap}
use Rattle.psg_sound.specs.PortSpelling.{PortInvalidAt}
use Rattle.md_fields.proofs.Refusals.{reported_on, reported_right}
use Rattle.psg_sound.proofs.PortBytes.{right_nowhere}
use Rattle.psg_sound.proofs.port.PsgPort.unspell.Goals as goal

pub returns-in-Ok-clause-only : goal.returns-in-Ok-clause-only
returns-in-Ok-clause-only c = λ port spells. ap Ok ((c.restore.ensures.only port spells).1)

pub returns-in-Ok-clause-rule : goal.returns-in-Ok-clause-rule
returns-in-Ok-clause-rule c = reported_right _ (PortInvalidAt c.args.at c.args.bytes.now) (right_nowhere c.args.at c.args.bytes.now _ c.in-Ok.ensures.found)

pub returns-in-Err-clause-rule : goal.returns-in-Err-clause-rule
returns-in-Err-clause-rule c = reported_on c.in-Err.fault (PortInvalidAt c.args.at c.args.bytes.now) c.in-Err.ensures.rule
