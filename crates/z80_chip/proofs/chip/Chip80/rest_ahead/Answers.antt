use Rattle.z80_chip.specs.States.{state_of}
use Rattle.z80_chip.proofs.Kept.{ahead_kept, no_answers}
use Rattle.z80_chip.proofs.chip.Chip80.rest_ahead.Goals as goal

pub begin_ahead-requires-clause-answers : goal.begin_ahead-requires-clause-answers
begin_ahead-requires-clause-answers c = no_answers _ (state_of c.self.inside.sequencer c.self.inside.parcel) _ c.self.view_is c.self.invariant.valid c.requires.sampling

pub invariant_of-self : goal.invariant_of-self
invariant_of-self c =
    ahead_kept _ c.deref.result.now (state_of c.self.inside.sequencer c.self.inside.parcel) _ _ _ _ c.args.pins.now c.begin_ahead.result c.args.end c.self.view_is c.self.invariant.valid c.requires.sampling c.deref.ensures c.begin_ahead.ensures.state c.begin_ahead.ensures.waiting c.begin_ahead.ensures.predicted
