use Rattle.z80_exec.proofs.Caches.{same-entries}
use Rattle.z80_exec.proofs.sample.cache.DecodeCache80.empty.Goals as goal

pub invariant_of-result : goal.invariant_of-result
invariant_of-result c = same-entries c.in_ok-entries.entries.value c.cached.result c.in_ok-entries.ensures.ok c.cached.ensures.number
