use Rattle.std.proofs.Common.{refl}
use Rattle.psg_sound.specs.PortSpelling.{PortInvalidAt}
use Rattle.md_fields.proofs.Refusals.{reported_right, reported_invalid}
use Rattle.md_fields.proofs.Values.{refused_once}
use Rattle.psg_sound.proofs.PortBytes.{port_sound, right_nowhere, spelled_once, table}
use Rattle.psg_sound.proofs.port.PsgPort.restore.Goals as goal

pub invariant_of-self : goal.invariant_of-self
invariant_of-self c = port_sound c.args.at c.args.bytes.now _ c.in-Ok.ensures.found

pub returns-in-Ok-clause-only : goal.returns-in-Ok-clause-only
returns-in-Ok-clause-only c = λ port spells. (refl, spelled_once c.args.at c.args.bytes.now _ port c.in-Ok.ensures.found spells)

pub returns-in-Ok-clause-rule : goal.returns-in-Ok-clause-rule
returns-in-Ok-clause-rule c = reported_right _ (PortInvalidAt c.args.at c.args.bytes.now) (right_nowhere c.args.at c.args.bytes.now _ c.in-Ok.ensures.found)

pub returns-in-Err-clause-only : goal.returns-in-Err-clause-only
returns-in-Err-clause-only c = λ port spells. absurd (right_nowhere c.args.at c.args.bytes.now port spells c.in-Err.place c.in-Err.ensures.refused)

pub returns-in-Err-clause-rule : goal.returns-in-Err-clause-rule
returns-in-Err-clause-rule c = reported_invalid (PortInvalidAt c.args.at c.args.bytes.now) c.in-Err.place c.in-Err.ensures.refused (refused_once (table c.args.at) c.args.bytes.now)

pub returns-in-Ok-clause-port : goal.returns-in-Ok-clause-port
returns-in-Ok-clause-port c = port_sound c.args.at c.args.bytes.now _ c.in-Ok.ensures.found
