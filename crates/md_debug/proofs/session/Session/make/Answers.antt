use Rattle.std.proofs.Common.{List, ℕ, length, sym, ap, subst, ◌∙◌}
use Rattle.md_chips.specs.Machines.{MachineValue}
use Rattle.md_debug.proofs.Kept.{session_made}
use Rattle.md_debug.proofs.session.Session.make.Goals as goal

pub invariant_of-result : goal.invariant_of-result
invariant_of-result g c =
    let same = c.in_ok-debuggee.ensures.machine in
    session_made (g.I.Images.size c.args.images) (g.I.Images.is_own c.args.images) (g.I.Images.keeps c.args.images) (g.I.Images.read_back c.args.images)
    c.in_ok-debuggee.debuggee c.in_ok-kept.kept c.push.new.self c.as_slice.result.now c.at-at.result c.requires.keeps
    (subst (λ (m : MachineValue). g.I.Images.is_own c.args.images m) (sym same) c.requires.own) c.in_ok-debuggee.ensures.ready c.requires.fits
    c.in_ok-kept.ensures.0 c.in_ok-kept.ensures.1 (ap length c.as_slice.ensures.value ∙ c.in_ok-image.ensures.sized)
    (subst (λ (l : List ℕ). g.I.Images.keeps c.args.images l (g.I.Images.read_back c.args.images c.in_ok-debuggee.debuggee.machine)) (sym c.as_slice.ensures.value)
    (subst (λ (m : MachineValue). g.I.Images.keeps c.args.images c.in_ok-image.image.items (g.I.Images.read_back c.args.images m)) (sym same) c.in_ok-image.ensures.kept))
    (c.at-at.ensures ∙ ap (λ (m : MachineValue). m.at) (sym same)) c.push.ensures.states c.push.ensures.cycles
