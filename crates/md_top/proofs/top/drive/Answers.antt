use Rattle.std.proofs.Common.{Global, map, string_bytes}
use Rattle.md_args.specs.Commands.{command_of}
use Rattle.md_top.proofs.top.drive.Goals as goal

pub returns-clause-answer : goal.returns-clause-answer
returns-clause-answer g c =
    c.finish.ensures.answer (command_of (map (string_bytes {Z = Global}) c.args.words.now.items)) (g.D.Depot.state c.args.depot.now) (g.S.Sink.state c.args.out.now)
    c.prepare-prepared.ensures.prepared

pub returns-clause-causes : goal.returns-clause-causes
returns-clause-causes g c =
    c.finish.ensures.causes (command_of (map (string_bytes {Z = Global}) c.args.words.now.items)) (g.D.Depot.state c.args.depot.now) (g.S.Sink.state c.args.out.now)
    c.prepare-prepared.ensures.prepared
