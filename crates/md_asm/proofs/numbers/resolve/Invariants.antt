use Rattle.std.proofs.Common.{◌≡◌, map, take}
use Rattle.md_asm_text.specs.Shown.{shown}
use Rattle.md_asm.specs.Numbers.{resolved}
use Rattle.md_asm.specs.SeenCodes.{names_seen}
use Rattle.md_asm.proofs.numbers.resolve.Given as goal

abbrev pub invariant-loop-token : goal.invariant-loop-token
invariant-loop-token l = map shown l.resolved.items ≡ resolved (names_seen l.names) (map shown (take l.token-index l.tokens))
