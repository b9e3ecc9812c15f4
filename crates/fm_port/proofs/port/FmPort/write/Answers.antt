use Rattle.std.proofs.Common.{◌≡◌, ◌∙◌, sym, ap, arith}
use Rattle.fm_port.specs.Port.{written}
use Rattle.fm_port.proofs.Ports.{first_is, second_is, written-first, written-second, IsPort-held, IsInOrder-unwritten, IsInOrder-held}
use Rattle.fm_port.proofs.port.FmPort.write.Goals as goal

pub returns-in-0-clause-order : goal.returns-in-0-clause-order
returns-in-0-clause-order c = λ low high o l h. IsInOrder-unwritten low high c.args.key _ _ c.self.view_is o h

pub returns-in-2-clause-order : goal.returns-in-2-clause-order
returns-in-2-clause-order c = λ low high o l h. IsInOrder-unwritten low high c.args.key _ _ c.self.view_is o h

pub returns-in-1-clause-value : goal.returns-in-1-clause-value
returns-in-1-clause-value c =
    written-first c.args.key c.args.value _ _ _ _ c.write.ensures.value c.hold.ensures (first_is _ _ _ _)
    ∙ ap (written c.args.key 1 c.args.value) c.self.view_is ∙ ap (λ a. written c.args.key a c.args.value c.args.self.now) (sym c.in-1.is)

pub returns-in-1-clause-port : goal.returns-in-1-clause-port
returns-in-1-clause-port c = IsPort-held _ _ _ _ _ _ c.self.invariant c.write.ensures.timers c.requires.chip c.hold.ensures

pub returns-in-1-clause-order : goal.returns-in-1-clause-order
returns-in-1-clause-order c = λ low high o l h. IsInOrder-held low high _ _ _ _ c.self.view_is c.hold.ensures o l h

pub returns-in_default-clause-value : goal.returns-in_default-clause-value
returns-in_default-clause-value c =
    let last : 3 ≡ c.args.address = omega arith in
    written-second c.args.key c.args.value _ _ _ c.hold-in_default.ensures (second_is _ _ _ _)
    ∙ ap (written c.args.key 3 c.args.value) c.self.view_is ∙ ap (λ a. written c.args.key a c.args.value c.args.self.now) last

pub returns-in_default-clause-port : goal.returns-in_default-clause-port
returns-in_default-clause-port c = IsPort-held _ _ _ _ _ _ c.self.invariant c.self.invariant.timers c.requires.chip c.hold-in_default.ensures

pub returns-in_default-clause-order : goal.returns-in_default-clause-order
returns-in_default-clause-order c = λ low high o l h. IsInOrder-held low high _ _ _ _ c.self.view_is c.hold-in_default.ensures o l h
