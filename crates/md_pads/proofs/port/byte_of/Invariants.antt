use Rattle.std.proofs.Common.{◌≡◌, ◌^◌, ◌<◌, take}
use Rattle.md_pads.specs.Pad.{binary}
use Rattle.md_pads.proofs.port.byte_of.Given as goal

abbrev pub invariant-loop-digit : goal.invariant-loop-digit
invariant-loop-digit l = record {
  read : l.byte ≡ binary (take l.digit-index l.digits);
  small : l.byte < 2 ^ l.digit-index;
}
