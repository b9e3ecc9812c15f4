use Rattle.md_debug.proofs.Opening.{puts_script, stops_script}
use Rattle.md_debug.proofs.playing.played.Goals as goal

pub returns-clause-ends : goal.returns-clause-ends
returns-clause-ends g c = λ cart is.
    puts_script g.S.Sink.observable cart c.args.script.now c.args.session c.play.new.session (g.S.Sink.state c.args.out.now) (g.S.Sink.state c.play.new.out) c.play.result is c.play.ensures.ends

pub returns-clause-stops : goal.returns-clause-stops
returns-clause-stops g c = λ cart is.
    stops_script g.S.Sink.observable cart c.args.script.now c.args.session c.play.new.session (g.S.Sink.state c.args.out.now) (g.S.Sink.state c.play.new.out) c.play.result is c.play.ensures.stops
