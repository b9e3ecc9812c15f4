use Rattle.std.proofs.Common.{string_bytes}
use Rattle.md_disasm.proofs.Lists68.{IsPutBelow}
use Rattle.md_disasm.proofs.list68.put_listed.Given as goal

-- the registers below this one are put, and it is known whether there are any
abbrev pub invariant-loop-n : goal.invariant-loop-n
invariant-loop-n l = IsPutBelow l.turned l.list l.n l.first (string_bytes l.fn.text) (string_bytes l.text)
