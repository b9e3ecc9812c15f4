use Rattle.std.proofs.Common.{[]}
use Rattle.md_debug.proofs.Scripts.{puts_none}
use Rattle.md_debug.proofs.Opening.{plays_none}
use Rattle.md_debug.proofs.playing.play_script.Goals as goal

pub returns-in-Ok-clause-ends : goal.returns-in-Ok-clause-ends
returns-in-Ok-clause-ends g c = c.played.ensures.ends c.args.cart c.in-Ok.ensures

pub returns-in-Ok-clause-stops : goal.returns-in-Ok-clause-stops
returns-in-Ok-clause-stops g c = c.played.ensures.stops c.args.cart c.in-Ok.ensures

pub returns-in-Err-clause-ends : goal.returns-in-Err-clause-ends
returns-in-Err-clause-ends g c = record {
  replies = [];
  plays = plays_none c.args.cart c.args.script.now;
  puts = puts_none g.S.Sink.observable (g.S.Sink.state c.args.out.now);
}
