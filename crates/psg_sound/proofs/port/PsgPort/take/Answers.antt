use Rattle.std.proofs.Common.{◌∙◌, sym, ap, subst}
use Rattle.psg_sound.specs.Port.{IsPort, left_from, taken_below}
use Rattle.psg_sound.specs.PortLaws.{IsPort-filter}
use Rattle.psg_sound.proofs.port.PsgPort.take.Goals as goal

pub returns-clause-taken : goal.returns-clause-taken
returns-clause-taken c = c.take_below.ensures.taken ∙ ap (taken_below c.args.cycle) c.self.view_is

pub returns-clause-left : goal.returns-clause-left
returns-clause-left c = c.take_below.ensures.left ∙ ap (left_from c.args.cycle) c.self.view_is

pub invariant_of-self : goal.invariant_of-self
invariant_of-self c = subst IsPort (sym c.take_below.ensures.left) (IsPort-filter _ _ c.self.invariant)

pub returns-clause-port : goal.returns-clause-port
returns-clause-port c = invariant_of-self c

pub returns-clause-list : goal.returns-clause-list
returns-clause-list c = subst IsPort (sym c.take_below.ensures.taken) (IsPort-filter _ _ c.self.invariant)
