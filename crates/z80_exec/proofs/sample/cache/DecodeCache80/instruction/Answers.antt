use Rattle.z80_exec.proofs.Caches.{entry-set}
use Rattle.z80_exec.proofs.sample.cache.DecodeCache80.instruction.Goals as goal

pub invariant_of-self : goal.invariant_of-self
invariant_of-self c =
    entry-set c.self.inside.entries.value c.deref_mut.result.now c.from-place.result c.cached-fresh.result c.deref_mut.ensures.value c.self.invariant c.cached-fresh.ensures.number
