use Rattle.std.proofs.Common.{◌≡◌, ℕ, ◌+◌, ◌-◌, ◌<◌, [], length, drop, get_or, refl, sym, ap, subst, ◌∙◌, arith}
use Rattle.md_debug.specs.Keeping.{image_in}
use Rattle.md_debug.proofs.Kept.{session_back}
use Rattle.md_debug.proofs.session.Session.go_back.Goals as goal

pub invariant_of-self : goal.invariant_of-self
invariant_of-self g c =
    let before = c.self-2.view_is ∙ c.kept_machine.ensures.session in
    let states : length c.self-2.inside.kept.states ≡ length c.args.self.now.states = (λ i. length (before i).states) in
    let there : c.args.newer < length c.self-2.inside.kept.states = omega (arith, c.requires, states) in
    session_back (g.I.Images.size c.self-2.inside.images) (g.I.Images.is_own c.self-2.inside.images) (g.I.Images.keeps c.self-2.inside.images) (g.I.Images.read_back c.self-2.inside.images)
    c.self-2.inside.debuggee (record { machine = c.in_ok-machine.machine; begun = c.self-2.inside.debuggee.begun }) c.self-2.inside.kept c.drop_newest.new.self c.args.newer
    c.self-2.invariant (subst (λ (x : _). g.I.Images.is_own x c.in_ok-machine.machine) (λ i. (sym before i).images) c.in_ok-machine.ensures.own) refl there c.drop_newest.ensures

pub returns-clause-obeyed : goal.returns-clause-obeyed
returns-clause-obeyed g c =
    let old = c.args.self.now in
    let before = c.self-2.view_is ∙ c.kept_machine.ensures.session in
    let back : c.args.newer + 1 - 1 ≡ c.args.newer = omega arith in
    record {
      some = omega arith;
      there = omega (arith, c.requires);
      kept =
          subst (λ (n : ℕ). g.I.Images.keeps old.images (image_in (g.I.Images.size old.images) (get_or old.states n [])) c.in_ok-machine.machine) (sym back) c.in_ok-machine.ensures.keeps;
      images = λ i. (before i).images;
      states = (λ i. (c.drop_newest.ensures i).states) ∙ (λ i. drop c.args.newer (before i).states) ∙ ap (λ (n : ℕ). drop n old.states) (sym back);
      cycles = (λ i. (c.drop_newest.ensures i).cycles) ∙ (λ i. drop c.args.newer (before i).cycles) ∙ ap (λ (n : ℕ). drop n old.cycles) (sym back);
      begun_is = λ i. (before i).begun;
    }
