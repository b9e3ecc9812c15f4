use Rattle.m68k_access.specs.Clauses.{memory_of}
use Rattle.m68k_exec.proofs.Caches.{entry-taken}
use Rattle.m68k_exec.proofs.sample.cache.DecodeCache.entry.Goals as goal

pub returns : goal.returns
returns c = entry-taken c.args.address (memory_of c.args.context.now) c.args.self.now _ c.deref.result.now c.place_of.result c.deref.ensures c.place_of.ensures c.requires
