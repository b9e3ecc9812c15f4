use Rattle.std.proofs.Common.{◌+◌, ◌++◌, ◌∷◌, [], List, ℕ, length, refl, sym, ap, subst, ◌∙◌, length-append, arith}
use Rattle.md_debug.specs.Sessions.{reply_to}
use Rattle.text_lines.specs.Lines.{lines_of}
use Rattle.debug_text.specs.Scripts.{ObeysFirst, script_outcome_at}
use Rattle.debug_text.proofs.Scripts.{all_obeyed, first_more, first_none}
use Rattle.md_debug.specs.Scripts.{ObeysLine, replied}
use Rattle.md_debug.proofs.Scripts.{fails_within, plays_stopped, puts_more, puts_none, puts_whole}
use Rattle.md_debug.proofs.script.play.Goals as goal

pub loop-line-init : goal.loop-line-init
loop-line-init g c =
    let obeys = ObeysLine g.I.Images.size g.I.Images.spelling g.I.Images.keeps in
    let lines = lines_of c.args.script.now in
    let begun = replied c.args.session.now [] in (
      [],
      [],
      subst (λ (l : List ℕ). ObeysFirst obeys lines [] (lines_of l) begun begun) (sym c.of-lines.ensures.rest) (first_none obeys lines begun),
      puts_none g.S.Sink.observable (g.S.Sink.state c.args.out.now),
      c.of-lines.ensures.number,
      omega (arith, c.of-lines.ensures.number, ap (λ (l : List ℕ). length l) c.of-lines.ensures.rest),
    )

pub loop-line-preserved : goal.loop-line-preserved
loop-line-preserved g c =
    let obeys = ObeysLine g.I.Images.size g.I.Images.spelling g.I.Images.keeps in
    let so_far = c.loop-line.invariant in
    let replies = so_far.1 in
    let number = so_far.4 in
    let fits = so_far.5 in
    let done = c.in-Ok.ensures.obeyed in
    let lines = lines_of c.args.script.now in
    let line = c.in-Some.line.now in
    let after = c.next.new.self.rest.now in
    let taken = c.in-Some.ensures.line in
    let reply = reply_to done.0 c.obey.new.session in (
      so_far.0 ++ line ∷ [],
      replies ++ reply,
      first_more obeys lines so_far.0 (lines_of after) line (replied c.args.session.now []) (replied c.loop-line.session replies) (replied c.obey.new.session (replies ++ reply))
          (subst (λ (l : List (List ℕ)). ObeysFirst obeys lines so_far.0 l (replied c.args.session.now []) (replied c.loop-line.session replies)) taken.0 so_far.2)
          (record { command = done.0; asks = done.1.0; obeys = done.1.1.0; replies = refl }),
      puts_more g.S.Sink.observable replies reply (g.S.Sink.state c.args.out.now) (g.S.Sink.state c.loop-line.out) (g.S.Sink.state c.put.new.self) so_far.3
          (puts_whole g.S.Sink.observable c.as_slice.result.now reply (g.S.Sink.state c.loop-line.out) (g.S.Sink.state c.put.new.self) (c.in-Ok-put.ensures {u = tt}) (c.as_slice.ensures.value ∙ done.1.1.1)),
      omega (arith, number, taken.1, length-append so_far.0 (line ∷ [])),
      omega (arith, fits, taken.1, taken.2),
    )

pub returns-in-Err-clause-ends : goal.returns-in-Err-clause-ends
returns-in-Err-clause-ends g c =
    let obeys = ObeysLine g.I.Images.size g.I.Images.spelling g.I.Images.keeps in
    let so_far = c.loop-line.invariant in
    let replies = so_far.1 in
    let number = so_far.4 in
    let lines = lines_of c.args.script.now in
    let line = c.in-Some.line.now in
    let after = c.next.new.self.rest.now in
    let taken = c.in-Some.ensures.line in
    let stands = subst (λ (l : List (List ℕ)). ObeysFirst obeys lines so_far.0 l (replied c.args.session.now []) (replied c.loop-line.session replies)) taken.0 so_far.2 in
    record {
      replies = replies;
      plays =
          plays_stopped g.I.Images.size g.I.Images.spelling g.I.Images.keeps lines so_far.0 (lines_of after) line c.args.session.now c.loop-line.session c.obey.new.session replies c.script_outcome_of.result c.next.new.self.number c.in-Err.fault
          stands (omega (arith, number, taken.1)) (λ is. c.script_outcome_of.ensures ∙ ap (script_outcome_at c.next.new.self.number) (c.refusal_of.ensures.memory is))
          (λ other. c.script_outcome_of.ensures ∙ ap (script_outcome_at c.next.new.self.number) (c.refusal_of.ensures.refused other)) (λ other. (c.in-Err.ensures.refused other, c.in-Err.ensures.fault));
      puts = so_far.3;
    }

pub returns-in-Err-put-clause-stops : goal.returns-in-Err-put-clause-stops
returns-in-Err-put-clause-stops g c =
    let obeys = ObeysLine g.I.Images.size g.I.Images.spelling g.I.Images.keeps in
    let so_far = c.loop-line.invariant in
    let replies = so_far.1 in
    let done = c.in-Ok.ensures.obeyed in
    let lines = lines_of c.args.script.now in
    let line = c.in-Some.line.now in
    let after = c.next.new.self.rest.now in
    let reply = reply_to done.0 c.obey.new.session in
    record {
      before = so_far.0;
      line = line;
      after = lines_of after;
      replies = replies;
      command = done.0;
      mid = c.loop-line.session;
      between = g.S.Sink.state c.loop-line.out;
      first = subst (λ (l : List (List ℕ)). ObeysFirst obeys lines so_far.0 l (replied c.args.session.now []) (replied c.loop-line.session replies)) c.in-Some.ensures.line.0 so_far.2;
      puts = so_far.3;
      asks = done.1.0;
      obeys = done.1.1.0;
      fails =
          fails_within g.S.Sink.observable c.as_slice.result.now reply (g.S.Sink.state c.loop-line.out) (g.S.Sink.state c.put.new.self) c.in-Err-put.failed (c.in-Err-put.ensures {u = tt})
          (c.as_slice.ensures.value ∙ done.1.1.1);
    }

pub returns-clause-ends : goal.returns-clause-ends
returns-clause-ends g c =
    let so_far = c.loop-line.invariant in
    record {
      replies = so_far.1;
      plays =
          all_obeyed (ObeysLine g.I.Images.size g.I.Images.spelling g.I.Images.keeps) (lines_of c.args.script.now) so_far.0 (lines_of c.loop-line.lines.rest.now)
          (replied c.args.session.now []) (replied c.loop-line.session so_far.1) (c.next.ensures.none c.in_default.is) so_far.2;
      puts = so_far.3;
    }
