use Rattle.std.proofs.Common.{◌≡◌, string_bytes}
use Rattle.debug_text.specs.Replies.{bytes_text}
use Rattle.debug_text.proofs.memory.byte_reply.Given as goal

-- the bytes below this one are put
abbrev pub invariant-loop-index : goal.invariant-loop-index
invariant-loop-index l = string_bytes l.text ≡ bytes_text l.rom l.ram l.at l.index
