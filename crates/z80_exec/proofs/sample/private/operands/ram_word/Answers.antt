use Rattle.std.proofs.Common.{◌+◌, ◌*◌, arith}
use Rattle.z80_parcel.specs.Parcels.{store_of}
use Rattle.z80_exec.proofs.PrivateRows.{reads-word}
use Rattle.z80_exec.proofs.sample.private.operands.ram_word.Goals as goal

pub returns : goal.returns
returns c =
    let first = c.if-at-ge-RAM_END.false in
    let second = c.if-above-ge-RAM_END.false in
    let upper = c.from.ensures in
    let lower = c.from-2.ensures in
    reads-word c.args.at (c.from.result * 256 + c.from-2.result) c.read-2.result c.read.result (store_of c.args.parcel.now) (omega (arith, first)) (omega (arith, second)) c.read-2.ensures c.read.ensures (omega (arith, upper, lower))
