use Rattle.std.proofs.Common.{◌≡◌, ◌++◌, map, take, drop, false}
use Rattle.md_asm_text.specs.Shown.{shown}
use Rattle.md_asm_text.specs.Operands.{operands_of}
use Rattle.md_asm_text.proofs.operands.before_comma.Given as goal

abbrev pub invariant-loop-i : goal.invariant-loop-i
invariant-loop-i l = record {
  first : map shown (take l.i l.tokens) ++ (operands_of l.inside (map shown (drop l.i l.tokens))).0 ≡ (operands_of false (map shown l.tokens)).0;
  second : (operands_of l.inside (map shown (drop l.i l.tokens))).1 ≡ (operands_of false (map shown l.tokens)).1;
}
