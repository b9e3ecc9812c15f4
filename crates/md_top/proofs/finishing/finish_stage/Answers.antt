use Rattle.std.proofs.Common.{Some}
use Rattle.md_args.specs.Shown.{shown_command, shown_demo, shown_run}
use Rattle.md_args.specs.Words.{RunCart, RunDemo}
use Rattle.md_top.proofs.Stages.{asked_answered, demo_answered, ended_answered, kept_answered, memory_answered, shown_answered, usage_answered}
use Rattle.md_top.proofs.finishing.finish_stage.Goals as goal

pub returns-in-Usage-clause-answered : goal.returns-in-Usage-clause-answered
returns-in-Usage-clause-answered g c =
    rw c.in-Usage.is
    (λ command first before (none, same, put).
    shown_answered g.D.Depot.observable g.S.Sink.observable command first (g.D.Depot.state c.args.depot.now) before (g.S.Sink.state c.args.out.now) (g.S.Sink.state c.refuse.new.out) c.refuse.result put
    (usage_answered g.D.Depot.observable g.S.Sink.observable command first (g.D.Depot.state c.args.depot.now) (g.S.Sink.state c.args.out.now) (g.S.Sink.state c.refuse.new.out) c.refuse.result
    none same c.refuse.ensures.status c.refuse.ensures.put))

pub returns-in-Memory-clause-answered : goal.returns-in-Memory-clause-answered
returns-in-Memory-clause-answered g c =
    rw c.in-Memory.is
    (λ command first before (same, put).
    shown_answered g.D.Depot.observable g.S.Sink.observable command first (g.D.Depot.state c.args.depot.now) before (g.S.Sink.state c.args.out.now) (g.S.Sink.state c.refuse-in-Memory.new.out)
    c.refuse-in-Memory.result put
    (memory_answered g.D.Depot.observable g.S.Sink.observable command first (g.D.Depot.state c.args.depot.now) (g.S.Sink.state c.args.out.now) (g.S.Sink.state c.refuse-in-Memory.new.out)
    c.refuse-in-Memory.result same c.refuse-in-Memory.ensures.status c.refuse-in-Memory.ensures.put))

pub returns-in-Ended-clause-answered : goal.returns-in-Ended-clause-answered
returns-in-Ended-clause-answered g c =
    rw c.in-Ended.is
    (λ command first before (same, cause, leaves, shown).
    ended_answered g.D.Depot.observable g.S.Sink.observable command (shown_command c.in-Ended.command) first (g.D.Depot.state c.args.depot.now) before (g.S.Sink.state c.args.out.now)
    (g.S.Sink.state c.report.new.out) c.report.result c.in-Ended.command_outcome same cause leaves shown c.report.ensures)

pub finish_run-requires-clause-about : goal.finish_run-requires-clause-about
finish_run-requires-clause-about g c =
    let stands = rw c.in-Run.is at c.requires.stands in
    (stands.1, stands.3.2)

pub returns-in-Run-clause-answered : goal.returns-in-Run-clause-answered
returns-in-Run-clause-answered g c =
    rw c.in-Run.is
    (λ command first before (same, put, about).
    shown_answered g.D.Depot.observable g.S.Sink.observable command first (g.D.Depot.state c.finish_run.new.depot) before (g.S.Sink.state c.args.out.now) (g.S.Sink.state c.finish_run.new.out)
    c.finish_run.result put
    (asked_answered g.D.Depot.observable g.S.Sink.observable command (RunCart (shown_run c.in-Run.run')) first (g.D.Depot.state c.finish_run.new.depot) (g.S.Sink.state c.args.out.now)
    (g.S.Sink.state c.finish_run.new.out) c.finish_run.result same (c.finish_run.ensures.answered first about)))

pub finish_demo-requires-clause-about : goal.finish_demo-requires-clause-about
finish_demo-requires-clause-about g c =
    let stands = rw c.in-Demo.is at c.requires.stands in
    stands.3.3

pub returns-in-Demo-clause-answered : goal.returns-in-Demo-clause-answered
returns-in-Demo-clause-answered g c =
    rw c.in-Demo.is
    (λ command first before (asked, put, same, about).
    let now = g.D.Depot.state c.args.depot.now in
    shown_answered g.D.Depot.observable g.S.Sink.observable command first now before (g.S.Sink.state c.args.out.now) (g.S.Sink.state c.finish_demo.new.out) c.finish_demo.result put
    (asked_answered g.D.Depot.observable g.S.Sink.observable command (RunDemo (shown_demo c.in-Demo.demo)) first now (g.S.Sink.state c.args.out.now)
    (g.S.Sink.state c.finish_demo.new.out) c.finish_demo.result asked
    (kept_answered g.D.Depot.observable g.S.Sink.observable (Some (RunDemo (shown_demo c.in-Demo.demo))) first now (g.S.Sink.state c.args.out.now)
    (g.S.Sink.state c.finish_demo.new.out) c.finish_demo.result same
    (demo_answered g.D.Depot.observable g.S.Sink.observable (shown_demo c.in-Demo.demo) c.in-Demo.course now (g.S.Sink.state c.args.out.now) (g.S.Sink.state c.finish_demo.new.out)
    c.finish_demo.result about c.finish_demo.ensures.reported))))
