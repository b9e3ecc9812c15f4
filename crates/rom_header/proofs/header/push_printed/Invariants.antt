use Rattle.std.proofs.Common.{◌≡◌, ◌++◌, map, take}
use Rattle.rom_header.specs.Header.{printed}
use Rattle.rom_header.proofs.header.push_printed.Given as goal

abbrev pub invariant-loop-byte : goal.invariant-loop-byte
invariant-loop-byte l = l.text.items ≡ l.fn.text.items ++ map printed (take l.byte-index l.bytes)
