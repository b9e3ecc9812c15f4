use Rattle.std.proofs.Common.{◌≡◌, ◌++◌, string_bytes}
use Rattle.debug_text.specs.Replies.{registers_text}
use Rattle.debug_text.proofs.registers.put_registers.Given as goal

-- the registers below this one are put
abbrev pub invariant-loop-number : goal.invariant-loop-number
invariant-loop-number l = string_bytes l.text ≡ string_bytes l.initial.text ++ registers_text l.regs l.number
