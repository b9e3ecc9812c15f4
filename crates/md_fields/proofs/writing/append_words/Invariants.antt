use Rattle.std.proofs.Common.{◌≡◌, ◌+◌, ◌*◌, ◌≤◌, ◌++◌, take, vec_len, vec_capacity}
use Rattle.std.specs.Int.{w16, to_be_bytes}
use Rattle.std.specs.List.{flat_map}
use Rattle.md_fields.proofs.writing.append_words.Given as goal

abbrev pub invariant-loop-number : goal.invariant-loop-number
invariant-loop-number l = record {
  bytes : l.into.items ≡ l.initial.into.items ++ flat_map (to_be_bytes w16) (take l.number-index l.numbers);
  long : vec_len l.into ≡ vec_len l.initial.into + 2 * l.number-index;
  room : vec_capacity l.initial.into ≤ vec_capacity l.into;
}
