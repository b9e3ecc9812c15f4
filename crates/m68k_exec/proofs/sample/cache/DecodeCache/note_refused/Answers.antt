use Rattle.std.proofs.Common.{arith}
use Rattle.m68k_exec.proofs.Caches.{cache-noted}
use Rattle.m68k_exec.proofs.sample.cache.DecodeCache.note_refused.Goals as goal

pub returns : goal.returns
returns c = λ rom right.
    cache-noted rom c.args.self.now c.deref.result.now c.deref_mut.result.now c.place_of-place.result _ right c.deref.ensures c.deref_mut.ensures.value (omega (arith, c.place_of-place.ensures))
