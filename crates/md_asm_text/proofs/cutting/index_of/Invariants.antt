use Rattle.std.proofs.Common.{◌≡◌, ◌++◌, take, drop}
use Rattle.md_asm_text.specs.Texts.{before, following, has}
use Rattle.md_asm_text.proofs.cutting.index_of.Given as goal

abbrev pub invariant-loop-i : goal.invariant-loop-i
invariant-loop-i l = record {
  before : take l.i l.text ++ before l.mark (drop l.i l.text) ≡ before l.mark l.text;
  following : following l.mark (drop l.i l.text) ≡ following l.mark l.text;
  has : has l.mark (drop l.i l.text) ≡ has l.mark l.text;
}
