use Rattle.std.proofs.Common.{arith}
use Rattle.m68k_access.specs.Clauses.{memory_of}
use Rattle.m68k_exec.proofs.Caches.{entry-found, entry-read}
use Rattle.m68k_exec.proofs.sample.cache.DecodeCache.refresh.Goals as goal

pub returns-else-bus_address-clause-instruction : goal.returns-else-bus_address-clause-instruction
returns-else-bus_address-clause-instruction c = λ blank.
    entry-found c.args.address (memory_of c.args.context.now) c.args.self.now blank c.requires.cache
    (entry-read c.args.address c.args.self.now blank _ c.deref.result.now c.place_of.result c.requires.cache.long c.deref.ensures c.place_of.ensures c.if-found-address.false)
    (omega (arith, c.bus_address.ensures.value, c.if-bus_address.false))
