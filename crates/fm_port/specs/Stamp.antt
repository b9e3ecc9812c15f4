-- The stamp of a write: its cycle of the master clock.
use Rattle.std.specs.Prelude.{ℕ}
use Rattle.fm_port.specs.declared.write.FmWrite.{FmWrite}

-- the cycle by which the synthesis takes a write
abbrev pub stamp_of : FmWrite → ℕ
stamp_of w = w.key.cycle
