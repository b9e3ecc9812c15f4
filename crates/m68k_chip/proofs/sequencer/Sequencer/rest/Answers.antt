use Rattle.std.proofs.Common.{ℕ, ◌+◌, ◌∙◌, ap, sym}
use Rattle.std.proofs.lemmas.Bool.{cond-false, cond-true, eq-eqb, ne_eqb}
use Rattle.m68k_chip.specs.Events.{at_sample, at_word}
use Rattle.m68k_chip.specs.States.{state_of}
use Rattle.m68k_chip.proofs.sequencer.Sequencer.rest.Goals as goal

pub returns-then-self-eq0 : goal.returns-then-self-eq0
returns-then-self-eq0 c = λ ram. c.rest_at_sample.ensures ram ∙ sym (cond-true _ _ _ (eq-eqb _ 0 c.if-self-eq0.true))

pub returns-else-self-eq0 : goal.returns-else-self-eq0
returns-else-self-eq0 c = λ ram.
    c.rest_at_word.ensures ram
    ∙ ap (λ (n : ℕ). at_word (state_of c.args.self.now ram) (c.args.end + n)) c.from.ensures
    ∙ sym (cond-false _ (at_sample (state_of c.args.self.now ram) c.args.end) _ (ne_eqb c.args.self.now.transfer.words 0 c.if-self-eq0.false))
