use Rattle.std.proofs.Common.{◌≡◌, map, take}
use Rattle.md_asm_text.specs.Shown.{shown}
use Rattle.md_asm.specs.Numbers.{names_filled}
use Rattle.md_asm.proofs.numbers.fill_names.Given as goal

abbrev pub invariant-loop-token : goal.invariant-loop-token
invariant-loop-token l = map shown l.filled.items ≡ names_filled (map shown (take l.token-index l.tokens))
