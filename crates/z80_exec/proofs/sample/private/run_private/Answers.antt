use Rattle.std.proofs.Common.{◌∙◌, slice_index, sym}
use Rattle.z80_parcel.specs.Parcels.{store_of}
use Rattle.z80_exec.proofs.Private.{covers-none, sample-runs}
use Rattle.z80_exec.proofs.sample.private.run_private.Goals as goal

pub returns-in-Some-clause-value : goal.returns-in-Some-clause-value
returns-in-Some-clause-value c =
    sample-runs c.run.result c.run.new.predicted c.args.regs.now c.run.new.regs (store_of c.args.parcel.now) (store_of c.run.new.parcel) c.ram_bytes-bytes.result c.in-Some.found.now
    (λ seen same. c.ram_bytes-bytes.ensures seen (same ∙ sym c.deref.ensures)) c.in-Some.ensures
    (c.run.ensures (slice_index c.ram_bytes-bytes.result 0) c.in-Some.ensures.rise)

pub returns-in-Some-clause-covers : goal.returns-in-Some-clause-covers
returns-in-Some-clause-covers c =
    covers-none c.run.result c.run.new.predicted c.args.regs.now c.run.new.regs (store_of c.args.parcel.now) (store_of c.run.new.parcel) (returns-in-Some-clause-value c)
