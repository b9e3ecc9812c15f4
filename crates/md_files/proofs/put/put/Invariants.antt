use Rattle.std.proofs.Common.{◌≡◌, ◌+◌, ◌++◌, take, vec_len, vec_capacity}
use Rattle.md_files.proofs.put.put.Given as goal

abbrev pub invariant-loop-byte : goal.invariant-loop-byte
invariant-loop-byte l =
    (l.taken.items ≡ l.fn.into.items ++ take l.byte-index l.bytes) × (vec_len l.taken ≡ vec_len l.fn.into + l.byte-index) × (vec_capacity l.taken ≡ vec_capacity l.fn.into)
