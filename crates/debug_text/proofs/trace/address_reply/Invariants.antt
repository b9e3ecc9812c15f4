use Rattle.std.proofs.Common.{◌≡◌, ◌++◌, length, string_bytes}
use Rattle.debug_text.specs.Replies.{address_reply}
use Rattle.debug_text.proofs.trace.address_reply.Given as goal

-- what is put, and the lines of the rest, are the reply
abbrev pub invariant-loop-rest : goal.invariant-loop-rest
invariant-loop-rest l = string_bytes l.text ++ address_reply l.rest ≡ address_reply l.addresses

abbrev pub decreases-loop-rest : goal.decreases-loop-rest
decreases-loop-rest l = length l.rest
