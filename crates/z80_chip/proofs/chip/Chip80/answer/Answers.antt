use Rattle.z80_parcel.specs.Requests.{answer_value80_of}
use Rattle.z80_chip.specs.States.{state_of}
use Rattle.z80_chip.proofs.Kept.{after_answer}
use Rattle.z80_chip.proofs.Laws.{few-answers}
use Rattle.z80_chip.proofs.chip.Chip80.answer.Goals as goal

pub answer-requires-clause-few : goal.answer-requires-clause-few
answer-requires-clause-few c = few-answers _ c.self.invariant.valid

pub invariant_of-self : goal.invariant_of-self
invariant_of-self c =
    after_answer _ c.deref.result.now (state_of c.self.inside.sequencer c.self.inside.parcel) _ _ _ _ (answer_value80_of c.args.answer) c.self.view_is c.self.invariant.valid c.requires.asking c.requires.fits
    c.deref.ensures c.answer.ensures.state c.answer.ensures.waiting c.answer.ensures.predicted
