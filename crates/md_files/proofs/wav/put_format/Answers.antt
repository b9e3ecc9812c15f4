use Rattle.std.proofs.Common.{append_assoc}
use Rattle.md_files.specs.Wav.{wav_format}
use Rattle.md_files.proofs.wav.put_format.Goals as goal

pub returns-clause-bytes : goal.returns-clause-bytes
unfolding wav_format
returns-clause-bytes c =
    rw (c.put_u16-4.ensures.bytes, c.put_u16-3.ensures.bytes, c.put_u32-3.ensures.bytes, c.put_u32-2.ensures.bytes, c.put_u16-2.ensures.bytes, c.put_u16.ensures.bytes, c.put_u32.ensures.bytes, c.sound_rate-rate.ensures.value)
    (simp append_assoc)
