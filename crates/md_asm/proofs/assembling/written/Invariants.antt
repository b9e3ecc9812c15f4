use Rattle.std.proofs.Common.{◌≡◌, length, map, vec_len}
use Rattle.md_asm.specs.SeenCodes.{names_seen}
use Rattle.md_asm.specs.Kept.{AreKept}
use Rattle.md_asm.specs.Places.{blank, image_limit}
use Rattle.md_asm.specs.Rounds.{round_two}
use Rattle.md_asm.specs.Seen.{slot_seen}
use Rattle.md_asm.proofs.assembling.written.Given as goal

abbrev pub invariant-loop-rest : goal.invariant-loop-rest
invariant-loop-rest l = record {
  goes_on : round_two (names_seen l.names) l.memory.items (map slot_seen l.rest) ≡ round_two (names_seen l.names) blank (map slot_seen l.fn.entries);
  kept : AreKept l.rest;
  whole : vec_len l.memory ≡ image_limit;
}

abbrev pub decreases-loop-rest : goal.decreases-loop-rest
decreases-loop-rest l = length l.rest
