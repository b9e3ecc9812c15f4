use Rattle.std.proofs.Common.{arith}
use Rattle.z80_parcel.specs.Parcels.{Store, store_of}
use Rattle.z80_exec.specs.Access.Parts.{down}
use Rattle.z80_exec.proofs.PrivateRows.{pushes, stored-one}
use Rattle.z80_exec.proofs.sample.private.operands.push.Goals as goal

pub returns : goal.returns
returns c =
    let above = c.if-above-ge-RAM_END.false in
    let below = c.if-below-ge-RAM_END.false in
    let before : Store = store_of c.args.parcel.now in
    let mid : Store = store_of c.store_byte.new.parcel in
    let after : Store = store_of c.store_byte-2.new.parcel in
    pushes c.args.value c.high.result c.low.result c.args.regs.now before mid after (omega (arith, above)) (omega (arith, below)) c.high.ensures c.low.ensures
    (stored-one (down c.args.regs.now.sp) c.high.result before mid c.store_byte.ensures.ram c.store_byte.ensures.bank)
    (stored-one (down (down c.args.regs.now.sp)) c.low.result mid after c.store_byte-2.ensures.ram c.store_byte-2.ensures.bank)
