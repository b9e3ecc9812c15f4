use Rattle.std.proofs.Common.{length, sym, ap, ◌∙◌, arith}
use Rattle.save_state.specs.Layout.{digest_part}
use Rattle.save_state.proofs.Parts.{part_long}
use Rattle.save_state.proofs.reading.digest_at.Goals as goal

pub copy_from_slice-requires : goal.copy_from_slice-requires
copy_from_slice-requires c = sym (ap length c.of.ensures ∙ part_long digest_part c.args.bytes.now (omega (arith, c.requires)))
