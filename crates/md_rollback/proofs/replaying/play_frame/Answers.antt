use Rattle.std.proofs.Common.{refl, ap, ◌*◌, ◌+◌, arith}
use Rattle.md_word.specs.Region.{frame_cycles}
use Rattle.md_word.specs.Clock.{frame}
use Rattle.md_rollback.proofs.Steps.{played-next}
use Rattle.md_rollback.proofs.replaying.play_frame.Goals as goal

pub alone-requires-clause-near : goal.alone-requires-clause-near
alone-requires-clause-near c = omega (arith, c.requires.at, ap frame_cycles c.requires.region)

pub returns : goal.returns
returns c = record {
  played = λ cart recording played.
      played-next cart recording c.args.frame (frame * (c.args.frame + 1)) c.args.machine.now c.alone.new.self c.discard.new.self
      c.alike_machines_go_on.ensures c.joined.ensures c.runs_reach.ensures c.requires.within refl c.parts_are_valid.ensures c.alone.ensures.at c.alone.ensures.run c.discard.ensures played;
}
