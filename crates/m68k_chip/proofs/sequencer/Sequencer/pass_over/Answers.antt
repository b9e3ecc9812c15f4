use Rattle.std.proofs.Common.{◌+◌, ◌-◌, ◌*◌, ◌/◌, [], ap, sym, ◌∙◌, arith}
use Rattle.m68k_chip.specs.Events.{at_sample}
use Rattle.m68k_chip.specs.States.{State68, state_of}
use Rattle.m68k_chip.proofs.Repetitions.{fits, passed, shorter}
use Rattle.m68k_chip.proofs.sequencer.Sequencer.pass_over.Goals as goal

pub returns-clause-led : goal.returns-clause-led
returns-clause-led c = λ cart ram level stands led.
    passed ((c.args.end - c.args.self.now.next) / (c.args.self.now.next - c.args.mark.now.cycle)) c.args.mark.now.samples c.args.mark.now.cycle c.args.self.now.next c.args.end cart ram level c.args.mark.now.regs (state_of c.args.self.now ram) _ c.requires.later
    (fits c.args.mark.now.cycle c.args.self.now.next c.args.end c.requires.later c.requires.below) stands led
    (c.rest_at_sample.ensures ram ∙ ap (λ (s : State68). at_sample s (c.args.self.now.next + (c.args.end - c.args.self.now.next) / (c.args.self.now.next - c.args.mark.now.cycle) * (c.args.self.now.next - c.args.mark.now.cycle))) stands)

pub returns-clause-state : goal.returns-clause-state
returns-clause-state c = λ ram. c.rest_at_sample.ensures ram ∙ ap (at_sample (state_of c.args.self.now ram)) (sym (ap (λ (s : State68). s.next) (c.rest_at_sample.ensures ram)))

pub returns-clause-later : goal.returns-clause-later
returns-clause-later c =
    let at = ap (λ (s : State68). s.next) (c.rest_at_sample.ensures []) in
    let less = shorter ((c.args.end - c.args.self.now.next) / (c.args.self.now.next - c.args.mark.now.cycle)) c.args.mark.now.samples c.args.mark.now.cycle c.args.self.now.next c.requires.early in
    omega (arith, at, less)
