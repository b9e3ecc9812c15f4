use Rattle.std.specs.Prelude.{◌++◌, codes}
use Rattle.hex.specs.Hex.{encode_lower}
use Rattle.md_top.proofs.Puts.{puts_on, puts_stop}
use Rattle.md_top.proofs.report.put_digests.Goals as goal

pub returns-in-Ok : goal.returns-in-Ok
returns-in-Ok g c =
    puts_on g.S.Sink.observable (codes "refused: state of another cartridge " ++ encode_lower c.args.kept.now ++ codes " ") (encode_lower c.args.given.now ++ codes "\n")
    (g.S.Sink.state c.args.out.now) (g.S.Sink.state c.put_three.new.out) (g.S.Sink.state c.put_digest.new.out) c.put_digest.result
    (rw c.hexadecimal-first.ensures at (c.in-Ok.ensures {u = tt})) c.put_digest.ensures

pub returns-in-Err : goal.returns-in-Err
returns-in-Err g c =
    puts_stop g.S.Sink.observable (codes "refused: state of another cartridge " ++ encode_lower c.args.kept.now ++ codes " ") (encode_lower c.args.given.now ++ codes "\n")
    (g.S.Sink.state c.args.out.now) (g.S.Sink.state c.put_three.new.out) c.in-Err.failed c.in-Err.failed
    (rw c.hexadecimal-first.ensures at (c.in-Err.ensures {u = tt}))
