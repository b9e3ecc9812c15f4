use Rattle.std.proofs.Common.{◌≡◌, ◌<◌, ◌^◌, length, map, ◌+◌}
use Rattle.md_fields.specs.Fields.{seen, sizes, first_invalid}
use Rattle.md_fields.proofs.field.first_invalid.Given as goal

abbrev pub invariant-loop-rest : goal.invariant-loop-rest
invariant-loop-rest l = record {
  found : first_invalid l.place (map seen l.rest) ≡ first_invalid 0 (map seen l.fields);
  short : l.place + sizes (map seen l.rest) < 2 ^ 32;
}

abbrev pub decreases-loop-rest : goal.decreases-loop-rest
decreases-loop-rest l = length l.rest
