use Rattle.std.proofs.Common.{◌∙◌, ◌++◌, ap, refl}
use Rattle.md_files.specs.Journal.{entry_bytes}
use Rattle.md_files.proofs.journal.put_entry.Goals as goal

pub returns-clause-bytes : goal.returns-clause-bytes
unfolding entry_bytes
returns-clause-bytes c =
    c.put.ensures.bytes ∙ ap (λ bytes. c.args.into.now.items ++ bytes) (rw (c.write_u16.ensures, c.write_u32.ensures, c.write_u64.ensures) refl)
