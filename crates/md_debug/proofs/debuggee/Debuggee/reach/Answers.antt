use Rattle.std.proofs.Common.{◌≡◌, ◌≤◌, ◌∙◌, sym, ap, subst, arith}
use Rattle.md_chips.specs.Console.{Console, IsRunTo}
use Rattle.md_chips.specs.Machines.{MachineValue}
use Rattle.md_chips.specs.Starts.{IsStart}
use Rattle.md_debug.specs.Going.{start_of}
use Rattle.md_debug.proofs.debuggee.Debuggee.reach.Goals as goal

pub returns-clause-run : goal.returns-clause-run
returns-clause-run c =
    let console : c.alone.new.self.console ≡ c.discard.new.self.console = ap (λ (m : MachineValue). m.console) (sym c.discard.ensures) in
    (c.alone.new.self.entries, (c.alone.new.self.media, subst (λ (z : Console). IsRunTo c.args.self.now.machine.console c.args.to z c.alone.new.self.entries c.alone.new.self.media) console c.alone.ensures.run))

pub returns-clause-ready : goal.returns-clause-ready
returns-clause-ready c =
    let old = c.args.self.now.machine in
    let before = c.requires.later in
    let late : old.at ≤ c.args.to = omega arith in
    let there : IsStart (record { at = c.args.to; console = c.alone.new.self.console }) =
    c.run_ends_at_start.ensures (start_of old) c.alone.new.self.console c.args.to c.alone.new.self.entries c.alone.new.self.media c.requires.ready.start late c.alone.ensures.run in
    let same : record { at = c.args.to; console = c.alone.new.self.console } ≡ start_of c.discard.new.self =
    (λ i. record { at = (sym c.alone.ensures.at ∙ ap (λ (m : MachineValue). m.at) (sym c.discard.ensures)) i; console = ap (λ (m : MachineValue). m.console) (sym c.discard.ensures) i }) in
    record {
      start = subst IsStart same there;
      entries = ap (λ (m : MachineValue). m.entries) c.discard.ensures;
      media = ap (λ (m : MachineValue). m.media) c.discard.ensures;
      most = c.requires.ready.most;
      few = c.requires.ready.few;
    }
