use Rattle.std.proofs.Common.{◌≡◌, ◌∙◌, List, ap, refl, subst, sym}
use Rattle.md_fields.proofs.Refusals.{reported_right, reported_invalid}
use Rattle.md_fields.proofs.Values.{refused_once}
use Rattle.fm_port.specs.Port.{IsPort}
use Rattle.fm_port.specs.PortSpelling.{PortInvalidAt, SpellsPort, port_with, timers_from}
use Rattle.fm_port.specs.declared.saved_port.SavedPort.{SavedPort as Numbers}
use Rattle.fm_port.specs.declared.write.FmWrite.{FmWrite}
use Rattle.fm_port.specs.declared.timers.Timers.{Timers}
use Rattle.fm_port.proofs.PortBytes.{port_sound, right_nowhere, spelled_once, table}
use Rattle.fm_port.proofs.port.FmPort.restore.Goals as goal

-- what is made
made : (saved : Numbers) (writes : List FmWrite) (timers : Timers) → timers ≡ timers_from saved
    → record { first = saved.first; second = saved.second; timers = timers; writes = writes } ≡ port_with saved writes
made saved writes timers e = ap (λ (t : Timers). record { first = saved.first; second = saved.second; timers = t; writes = writes }) e

pub returns-in-Ok-clause-found : goal.returns-in-Ok-clause-found
returns-in-Ok-clause-found c = subst (SpellsPort c.args.at c.args.bytes.now) (sym (made c.in-Ok.saved c.parts_of.new.into.items c.timers-self-inside.result c.timers-self-inside.ensures)) c.in-Ok.ensures.found

pub invariant_of-self : goal.invariant_of-self
invariant_of-self c = subst IsPort (sym (made c.in-Ok.saved c.parts_of.new.into.items c.timers-self-inside.result c.timers-self-inside.ensures)) (port_sound c.args.at c.args.bytes.now _ c.requires c.in-Ok.ensures.found)

pub returns-in-Ok-clause-only : goal.returns-in-Ok-clause-only
returns-in-Ok-clause-only c = λ port spells. (refl, made c.in-Ok.saved c.parts_of.new.into.items c.timers-self-inside.result c.timers-self-inside.ensures ∙ spelled_once c.args.at c.args.bytes.now _ port c.in-Ok.ensures.found spells)

pub returns-in-Ok-clause-rule : goal.returns-in-Ok-clause-rule
returns-in-Ok-clause-rule c = reported_right _ (PortInvalidAt c.args.at c.args.bytes.now) (right_nowhere c.args.at c.args.bytes.now _ c.in-Ok.ensures.found)

pub returns-in-Err-clause-only : goal.returns-in-Err-clause-only
returns-in-Err-clause-only c = λ port spells. absurd (right_nowhere c.args.at c.args.bytes.now port spells c.in-Err.place c.in-Err.ensures.refused)

pub returns-in-Err-clause-rule : goal.returns-in-Err-clause-rule
returns-in-Err-clause-rule c = reported_invalid (PortInvalidAt c.args.at c.args.bytes.now) c.in-Err.place c.in-Err.ensures.refused (refused_once (table c.args.at) c.args.bytes.now)

pub returns-in-Ok-clause-port : goal.returns-in-Ok-clause-port
returns-in-Ok-clause-port c = subst IsPort (sym (made c.in-Ok.saved c.parts_of.new.into.items c.timers-self-inside.result c.timers-self-inside.ensures)) (port_sound c.args.at c.args.bytes.now _ c.requires c.in-Ok.ensures.found)
