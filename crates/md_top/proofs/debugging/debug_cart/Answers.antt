use Rattle.std.proofs.Common.{◌∙◌, ap, sym}
use Rattle.md_outer.specs.Outside.{Files}
use Rattle.md_args.specs.Shown.{shown_debugging}
use Rattle.md_top.proofs.Debuggings.{cart_ends, played_cause, stopped_cause}
use Rattle.md_top.proofs.debugging.debug_cart.Goals as goal

pub returns-in-Err-clause-cause : goal.returns-in-Err-clause-cause
returns-in-Err-clause-cause g c =
    (cart_ends g.D.Depot.observable g.S.Sink.observable (shown_debugging c.args.words.now) (g.D.Depot.state c.args.depot.now) (g.D.Depot.state c.read_cart.new.depot)
    (g.S.Sink.state c.args.out.now) c.in-Err.command_outcome c.in-Err.ensures.err).0

pub returns-in-Err-clause-shown : goal.returns-in-Err-clause-shown
returns-in-Err-clause-shown g c =
    (cart_ends g.D.Depot.observable g.S.Sink.observable (shown_debugging c.args.words.now) (g.D.Depot.state c.args.depot.now) (g.D.Depot.state c.read_cart.new.depot)
    (g.S.Sink.state c.args.out.now) c.in-Err.command_outcome c.in-Err.ensures.err).1

pub returns-in-Ok-play_script-clause-cause : goal.returns-in-Ok-play_script-clause-cause
returns-in-Ok-play_script-clause-cause g c =
    rw c.ended.ensures (
    played_cause g.D.Depot.observable g.S.Sink.observable (shown_debugging c.args.words.now) (g.D.Depot.state c.args.depot.now) (g.D.Depot.state c.fetch.new.self) c.in-Ok.cart c.in-Ok-fetch.script.items
    (g.S.Sink.state c.args.out.now) (g.S.Sink.state c.play_script.new.out) c.in-Ok-play_script.command_outcome c.in-Ok.ensures.cart
    (λ t. ap (λ (files : Files). files c.args.words.now.script.now) (sym (c.in-Ok.ensures.files t)) ∙ c.in-Ok-fetch.ensures.bytes t) c.in-Ok-fetch.ensures.within
    (rw c.as_slice.ensures.value at c.in-Ok-play_script.ensures.ends)).0

pub returns-in-Ok-play_script-clause-shown : goal.returns-in-Ok-play_script-clause-shown
returns-in-Ok-play_script-clause-shown g c =
    rw c.ended.ensures (
    played_cause g.D.Depot.observable g.S.Sink.observable (shown_debugging c.args.words.now) (g.D.Depot.state c.args.depot.now) (g.D.Depot.state c.fetch.new.self) c.in-Ok.cart c.in-Ok-fetch.script.items
    (g.S.Sink.state c.args.out.now) (g.S.Sink.state c.play_script.new.out) c.in-Ok-play_script.command_outcome c.in-Ok.ensures.cart
    (λ t. ap (λ (files : Files). files c.args.words.now.script.now) (sym (c.in-Ok.ensures.files t)) ∙ c.in-Ok-fetch.ensures.bytes t) c.in-Ok-fetch.ensures.within
    (rw c.as_slice.ensures.value at c.in-Ok-play_script.ensures.ends)).1

pub returns-clause-cause : goal.returns-clause-cause
returns-clause-cause g c =
    (stopped_cause g.D.Depot.observable g.S.Sink.observable (shown_debugging c.args.words.now) (g.D.Depot.state c.args.depot.now) (g.D.Depot.state c.fetch.new.self) c.in-Ok.cart c.in-Ok-fetch.script.items
    (g.S.Sink.state c.args.out.now) (g.S.Sink.state c.play_script.new.out) c.in-Ok.ensures.cart
    (λ t. ap (λ (files : Files). files c.args.words.now.script.now) (sym (c.in-Ok.ensures.files t)) ∙ c.in-Ok-fetch.ensures.bytes t) c.in-Ok-fetch.ensures.within
    (rw c.as_slice.ensures.value at c.in-Err-play_script.ensures.stops)).0

pub returns-clause-shown : goal.returns-clause-shown
returns-clause-shown g c =
    (stopped_cause g.D.Depot.observable g.S.Sink.observable (shown_debugging c.args.words.now) (g.D.Depot.state c.args.depot.now) (g.D.Depot.state c.fetch.new.self) c.in-Ok.cart c.in-Ok-fetch.script.items
    (g.S.Sink.state c.args.out.now) (g.S.Sink.state c.play_script.new.out) c.in-Ok.ensures.cart
    (λ t. ap (λ (files : Files). files c.args.words.now.script.now) (sym (c.in-Ok.ensures.files t)) ∙ c.in-Ok-fetch.ensures.bytes t) c.in-Ok-fetch.ensures.within
    (rw c.as_slice.ensures.value at c.in-Err-play_script.ensures.stops)).1
