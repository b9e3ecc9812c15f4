use Rattle.std.proofs.Common.{arith}
use Rattle.z80_parcel.specs.Parcels.{Store, store_of}
use Rattle.z80_exec.specs.Access.Memory.{next}
use Rattle.z80_exec.proofs.PrivateRows.{stored-one, writes-word}
use Rattle.z80_exec.proofs.sample.private.operands.write_word.Goals as goal

pub returns : goal.returns
returns c =
    let first = c.if-at-ge-RAM_END.false in
    let second = c.if-above-ge-RAM_END.false in
    let before : Store = store_of c.args.parcel.now in
    let mid : Store = store_of c.store_byte.new.parcel in
    let after : Store = store_of c.store_byte-2.new.parcel in
    writes-word c.args.at c.args.value c.low.result c.high.result before mid after (omega (arith, first)) (omega (arith, second)) c.low.ensures c.high.ensures
    (stored-one c.args.at c.low.result before mid c.store_byte.ensures.ram c.store_byte.ensures.bank)
    (stored-one (next c.args.at) c.high.result mid after c.store_byte-2.ensures.ram c.store_byte-2.ensures.bank)
