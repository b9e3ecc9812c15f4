use Rattle.std.proofs.Common.{◌≡◌, ◌<◌, ◌%◌, ◌^◌, ◌-◌, ◌++◌, string_bytes}
use Rattle.debug_text.specs.Replies.{instruction_reply}
use Rattle.debug_text.proofs.memory.instruction_reply.Given as goal

-- what is put, and what is from here on, are the reply
abbrev pub invariant-loop-index : goal.invariant-loop-index
invariant-loop-index l =
    (string_bytes l.text ++ instruction_reply l.rom l.ram l.here (l.count - l.index) ≡ instruction_reply l.rom l.ram l.at l.count)
    × (l.here % 2 ≡ 0)
    × (l.here < 2 ^ 24)
