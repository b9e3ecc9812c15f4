use Rattle.save_state.proofs.ItemLaws.{fm_is_late, fm_none, fm_reported}
use Rattle.save_state.proofs.items.are_early_in_fm.Goals as goal

pub returns-in-Ok-clause-late : goal.returns-in-Ok-clause-late
returns-in-Ok-clause-late c =
    fm_is_late c.args.bytes.now c.args.at c.of.result.now c.restore.new.self c.u64_at.result c.u64_at-in-Ok.result c.is_before_next.result c.requires.cycle c.of.ensures c.u64_at.ensures c.u64_at-in-Ok.ensures c.is_before_next.ensures c.in-Ok.ensures.found

pub returns-in-Ok-clause-reported : goal.returns-in-Ok-clause-reported
returns-in-Ok-clause-reported c =
    fm_reported c.args.bytes.now c.args.at c.of.result.now c.restore.new.self c.u64_at.result c.u64_at-in-Ok.result c.is_before_next.result c.requires.cycle c.of.ensures c.u64_at.ensures c.u64_at-in-Ok.ensures c.is_before_next.ensures c.in-Ok.ensures.found

pub returns-in-Err-clause-reported : goal.returns-in-Err-clause-reported
returns-in-Err-clause-reported c =
    fm_none c.args.bytes.now c.args.at c.of.result.now c.restore.result c.in-Err.field-0 c.requires.cycle c.of.ensures c.in-Err.is (λ port spells. (c.restore.ensures.only port spells).0)
