use Rattle.std.proofs.Common.{◌≡◌, ◌+◌, ◌*◌, slice_index, rules}
use Rattle.fm_voice.specs.Steps as steps
use Rattle.fm_voice.proofs.Steps.{rows_are_small}
use Rattle.fm_voice.proofs.envelope.step.row_entry.Goals as goal

pub returns-clause-below : goal.returns-clause-below
returns-clause-below c =
    let e : c.from.result ≡ slice_index steps.rows (c.args.row * 8 + c.args.place) = search rules in
    rw e (rows_are_small (c.args.row * 8 + c.args.place))
