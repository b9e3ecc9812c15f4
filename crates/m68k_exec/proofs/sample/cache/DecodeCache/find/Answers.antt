use Rattle.std.proofs.Common.{arith}
use Rattle.m68k_access.specs.Clauses.{memory_of}
use Rattle.m68k_exec.proofs.Caches.{entry-kept}
use Rattle.m68k_exec.proofs.sample.cache.DecodeCache.find.Goals as goal

pub returns-then-not-found : goal.returns-then-not-found
returns-then-not-found c =
    entry-kept c.args.address (memory_of c.args.context.now) c.args.self.now _ c.deref.result.now c.place_of.result c.requires c.deref.ensures c.place_of.ensures c.if-found-address.true
    (omega (arith, c.bus_address.ensures.value, c.if-bus_address.true))
