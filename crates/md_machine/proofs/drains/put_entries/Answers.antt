use Rattle.std.proofs.Common.{refl, sym, ◌∙◌, append-nil, arith}
use Rattle.md_files.specs.Journal.{entry_bytes}
use Rattle.md_machine.specs.Outputs.{journal_bytes}
use Rattle.md_machine.proofs.Appended.{appended}
use Rattle.md_machine.proofs.drains.put_entries.Goals as goal

pub loop-entry-init : goal.loop-entry-init
unfolding journal_bytes
loop-entry-init c = record {
  bytes = sym (append-nil c.args.into.now.items);
  length = omega arith;
  room = refl;
}

pub loop-entry-preserved : goal.loop-entry-preserved
unfolding journal_bytes
loop-entry-preserved c = record {
  bytes = appended entry_bytes c.args.into.now.items c.loop-entry.into.items c.put_entry.new.into.items c.args.entries.now c.loop-entry.entry-index _
      c.loop-entry-test.true c.loop-entry.invariant.bytes c.put_entry.ensures.bytes;
  length = omega (arith, c.put_entry.ensures.length, c.loop-entry.invariant.length);
  room = c.put_entry.ensures.room ∙ c.loop-entry.invariant.room;
}
