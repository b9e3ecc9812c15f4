use Rattle.std.proofs.Common.{◌≡◌, ◌+◌, ◌/◌, ◌≤◌, ◌++◌, length, vec_len, vec_capacity}
use Rattle.md_pads.specs.Reading.{frames_in}
use Rattle.md_pads.proofs.reading.frames_in.Given as goal

abbrev pub invariant-loop-rest : goal.invariant-loop-rest
invariant-loop-rest l = record {
  read : l.frames.items ++ frames_in l.rest ≡ frames_in l.bytes;
  room : vec_len l.frames + length l.rest / 4 ≤ vec_capacity l.frames;
}

abbrev pub decreases-loop-rest : goal.decreases-loop-rest
decreases-loop-rest l = length l.rest
