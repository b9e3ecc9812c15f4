use Rattle.std.proofs.Common.{rules}
use Rattle.z80_exec.specs.declared.sample.cache.CachedInstruction.{CachedInstruction}
use Rattle.z80_exec.proofs.Caches.{entry-of}
use Rattle.z80_exec.proofs.sample.cache.cached.Goals as goal

pub returns-clause-instruction : goal.returns-clause-instruction
returns-clause-instruction c = record {
  decoded = c.decode-decoded.ensures.value;
  rise = c.rise_of.ensures.value;
  short = c.time_of.ensures;
  long = c.time_of-2.ensures;
}

pub returns-clause-number : goal.returns-clause-number
returns-clause-number c =
    let found : CachedInstruction = record {
      bytes = c.from_le_bytes.result;
      decoded = c.decode-decoded.result;
      rise = c.rise_of.result;
      short = c.time_of.result;
      long = c.time_of-2.result;
    } in
    entry-of c.args.bytes.now found (search rules) (search rules) c.from_le_bytes.ensures (returns-clause-instruction c)
