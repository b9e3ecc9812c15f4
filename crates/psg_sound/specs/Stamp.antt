-- The stamp of a write: its cycle of the master clock.
use Rattle.std.specs.Prelude.{ℕ}
use Rattle.psg_sound.specs.declared.write.PsgWrite.{PsgWrite}

-- the cycle by which the synthesis takes a write
abbrev pub stamp_of : PsgWrite → ℕ
stamp_of w = w.key.cycle
