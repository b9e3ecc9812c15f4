use Rattle.std.proofs.Common.{sym, subst, arith, ◌∙◌}
use Rattle.std.proofs.lemmas.List.{length-set}
use Rattle.std.proofs.lemmas.List.Elements.{All-set}
use Rattle.std.proofs.lemmas.Grind.{get_or-set_at}
use Rattle.m68k_access.specs.Clauses.{memory_of}
use Rattle.m68k_exec.specs.Sample.Caches.{IsEntryOf, IsInstructionAt, place_of}
use Rattle.m68k_exec.proofs.Caches.{entry-decoded}
use Rattle.m68k_exec.proofs.sample.cache.DecodeCache.decode.Goals as goal

pub returns-clause-cache : goal.returns-clause-cache
returns-clause-cache c = rw c.deref_mut.ensures.value (record {
  long = length-set c.args.self.now.entries.value c.place_of.result c.decode_at.result ∙ c.requires.cache.long;
  entries = All-set (IsEntryOf c.args.context.now.rom.now) c.args.self.now.entries.value c.place_of.result c.decode_at.result
      (entry-decoded c.args.address (memory_of c.args.context.now) c.decode_at.result c.decode_at.ensures.address c.decode_at.ensures.instruction) c.requires.cache.entries;
})

pub returns-clause-instruction : goal.returns-clause-instruction
returns-clause-instruction c = λ blank.
    subst (IsInstructionAt c.args.address (memory_of c.args.context.now))
    (sym (rw c.deref_mut.ensures.value (get_or-set_at c.args.self.now.entries.value c.place_of.result (place_of c.args.address) c.decode_at.result blank (sym c.place_of.ensures)
    (omega (arith, c.place_of.ensures, c.requires.cache.long)))))
    c.decode_at.ensures.instruction
