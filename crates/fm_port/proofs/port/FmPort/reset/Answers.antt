use Rattle.std.proofs.Common.{◌∙◌, ◌<◌, ap, arith}
use Rattle.fm_port.specs.Port.{reset}
use Rattle.fm_port.proofs.Ports.{reset_is, reset-held, IsPort-held, IsInOrder-held}
use Rattle.fm_port.proofs.port.FmPort.reset.Goals as goal

pub returns-clause-value : goal.returns-clause-value
returns-clause-value c =
    reset-held c.args.key _ _ _ _ c.power_on-self-inside.ensures.value c.hold.ensures (reset_is _ _)
    ∙ ap (reset c.args.key) c.self.view_is

pub returns-clause-port : goal.returns-clause-port
returns-clause-port c =
    let chip : c.args.key.chip < 2 = omega (arith, c.requires) in
    IsPort-held _ _ _ _ _ _ c.self.invariant c.power_on-self-inside.ensures.timers chip c.hold.ensures

pub returns-clause-order : goal.returns-clause-order
returns-clause-order c = λ low high o l h. IsInOrder-held low high _ _ _ _ c.self.view_is c.hold.ensures o l h
