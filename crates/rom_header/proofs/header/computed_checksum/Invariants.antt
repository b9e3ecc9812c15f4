use Rattle.std.proofs.Common.{◌≡◌, ◌+◌, ◌%◌, length}
use Rattle.std.specs.Prelude.{sum}
use Rattle.rom_header.specs.Header.{computed_checksum, words_of}
use Rattle.rom_header.proofs.header.computed_checksum.Given as goal

abbrev pub invariant-words : goal.invariant-words
invariant-words l = (l.sum + sum (words_of l.rest)) % 65536 ≡ computed_checksum l.fn.image

abbrev pub decreases-words : goal.decreases-words
decreases-words l = length l.rest
