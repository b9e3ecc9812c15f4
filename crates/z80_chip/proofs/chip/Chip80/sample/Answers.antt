use Rattle.z80_chip.specs.States.{state_of}
use Rattle.z80_chip.proofs.Kept.{after_sample, no_answers}
use Rattle.z80_chip.proofs.chip.Chip80.sample.Goals as goal

pub begin-requires-clause-answers : goal.begin-requires-clause-answers
begin-requires-clause-answers c = no_answers _ (state_of c.self.inside.sequencer c.self.inside.parcel) _ c.self.view_is c.self.invariant.valid c.requires.sampling

pub invariant_of-self : goal.invariant_of-self
invariant_of-self c =
    after_sample _ c.deref.result.now (state_of c.self.inside.sequencer c.self.inside.parcel) _ _ _ _ c.args.pins c.self.view_is c.self.invariant.valid c.requires.sampling c.deref.ensures c.begin.ensures.state c.begin.ensures.waiting c.begin.ensures.predicted
