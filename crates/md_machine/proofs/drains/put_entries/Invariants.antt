use Rattle.std.proofs.Common.{◌≡◌, ◌+◌, ◌*◌, ◌++◌, take, vec_len, vec_capacity}
use Rattle.md_machine.specs.Outputs.{journal_bytes}
use Rattle.md_machine.proofs.drains.put_entries.Given as goal

abbrev pub invariant-loop-entry : goal.invariant-loop-entry
invariant-loop-entry l = record {
  bytes : l.into.items ≡ l.fn.into.items ++ journal_bytes (take l.entry-index l.entries);
  length : vec_len l.into ≡ vec_len l.fn.into + 16 * l.entry-index;
  room : vec_capacity l.into ≡ vec_capacity l.fn.into;
}
