use Rattle.std.proofs.Common.{◌+◌, ◌*◌, ◌/◌, ◌%◌, min, ap, ◌∙◌}
use Rattle.m68k_chip.specs.Events as events
use Rattle.m68k_chip.specs.States.{state_of}
use Rattle.m68k_chip.proofs.sequencer.Sequencer.rest_ahead.Goals as goal

pub returns-clause-samples : goal.returns-clause-samples
returns-clause-samples c = ap (λ n. 1 + n) (c.div_ceil-steps.ensures ∙ ap (λ n. n / events.step + min 1 (n % events.step)) c.saturating_sub.ensures)

pub returns-clause-state : goal.returns-clause-state
returns-clause-state c ram = c.rest_at_sample.ensures ram ∙ ap (λ n. events.at_sample (state_of c.args.self.now ram) (c.args.self.now.start + events.step + events.step * n)) (c.div_ceil-steps.ensures ∙ ap (λ n. n / events.step + min 1 (n % events.step)) c.saturating_sub.ensures)
