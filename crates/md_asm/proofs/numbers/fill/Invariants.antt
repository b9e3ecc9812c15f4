use Rattle.std.proofs.Common.{◌≡◌, map, take}
use Rattle.md_asm_text.specs.Shown.{shown}
use Rattle.md_asm.specs.Numbers.{filled}
use Rattle.md_asm.proofs.numbers.fill.Given as goal

abbrev pub invariant-loop-token : goal.invariant-loop-token
invariant-loop-token l = map shown l.filled.items ≡ filled (map shown (take l.token-index l.tokens))
