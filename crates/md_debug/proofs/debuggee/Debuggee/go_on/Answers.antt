use Rattle.std.proofs.Common.{arith}
use Rattle.md_debug.specs.Going.{start_of}
use Rattle.md_debug.proofs.Runs.{went_once}
use Rattle.md_debug.proofs.debuggee.Debuggee.go_on.Goals as goal

pub reach-requires-clause-later : goal.reach-requires-clause-later
reach-requires-clause-later c =
    let late = c.least_is_near.ensures.late (start_of c.args.self.now.machine) c.requires.ready.start in
    omega (arith, late, c.least-least.ensures)

pub reach-requires-clause-near : goal.reach-requires-clause-near
reach-requires-clause-near c =
    let near = c.least_is_near.ensures.near (start_of c.args.self.now.machine) c.requires.ready.start in
    omega (arith, near, c.least-least.ensures)

pub returns : goal.returns
returns c = record {
  went =
      went_once c.args.self.now c.reach.new.self c.note.new.self c.least-least.result c.begins-begins.result c.least-least.ensures c.begins-begins.ensures c.reach.ensures.at c.reach.ensures.run
      c.reach.ensures.begun c.note.ensures.machine c.note.ensures.begun c.note.ensures.ready
      (λ moves below some. c.one_begins.ensures c.args.self.now.machine.console moves c.parts_are_valid.ensures c.requires.far below some);
}
