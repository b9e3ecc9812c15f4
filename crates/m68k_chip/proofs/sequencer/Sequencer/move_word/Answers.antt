use Rattle.std.proofs.Common.{ℕ, ◌+◌, ◌-◌, ◌∙◌, ap, sym}
use Rattle.std.proofs.lemmas.Bool.{cond-false, cond-true, le-leb, lt-leb}
use Rattle.m68k_chip.specs.Events.{at_sample, at_word, next_source, step}
use Rattle.m68k_chip.specs.States.{State68, none_left, state_of}
use Rattle.m68k_chip.proofs.sequencer.Sequencer.move_word.Goals as goal

pub returns-then-words-le1 : goal.returns-then-words-le1
returns-then-words-le1 c = λ ram. c.rest_at_sample.ensures ram ∙ sym (cond-true _ _ _ (le-leb _ 1 c.if-words-le1.true))

pub returns-else-words-le1 : goal.returns-else-words-le1
returns-else-words-le1 c = λ ram.
    let old : State68 = state_of c.args.self.now ram in
    let next : State68 = record old { transfer = record { source = next_source old.transfer.source; words = old.transfer.words - 1; cost = c.args.cost } } in
    c.rest_at_word.ensures ram
    ∙ ap (λ (n : ℕ). at_word next (old.next + n)) c.from.ensures
    ∙ sym (cond-false _ (at_sample (record old { transfer = none_left }) (old.next + step)) _ (lt-leb c.args.self.now.transfer.words 1 c.if-words-le1.false))
