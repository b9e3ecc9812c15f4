use Rattle.std.proofs.Common.{append_assoc}
use Rattle.md_files.specs.Wav.{wav_head}
use Rattle.md_files.proofs.wav.wav_head.Goals as goal

pub returns-clause-bytes : goal.returns-clause-bytes
unfolding wav_head
returns-clause-bytes c =
    rw (c.put_u32-2.ensures.bytes, c.put-3.ensures.bytes, c.put_format.ensures.bytes, c.put-2.ensures.bytes, c.put_u32.ensures.bytes, c.put.ensures.bytes)
    (simp append_assoc)
