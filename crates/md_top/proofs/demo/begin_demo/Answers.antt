use Rattle.std.proofs.Common.{◌∙◌, ap, arith}
use Rattle.md_chips.specs.Starts.{Start}
use Rattle.md_top.proofs.demo.begin_demo.Goals as goal

pub begin-requires-clause-near : goal.begin-requires-clause-near
begin-requires-clause-near c = omega (arith, ap (λ (s : Start). s.at) c.in-Ok.ensures.start)

pub returns-in-Ok-begin-clause-about : goal.returns-in-Ok-begin-clause-about
returns-in-Ok-begin-clause-about c = record {
  end = (omega (arith, c.if-demo-eq0.false), omega (arith, c.if-demo-gt-LAST_CYCLE.false));
  above = omega (arith, c.if-demo-eq0.false, ap (λ (s : Start). s.at) (c.in-Ok-begin.ensures.start ∙ c.in-Ok.ensures.start));
  first = c.in-Ok-begin.ensures.underway;
  start = c.in-Ok-begin.ensures.start ∙ c.in-Ok.ensures.start;
}
