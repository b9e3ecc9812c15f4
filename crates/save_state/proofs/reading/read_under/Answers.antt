use Rattle.save_state.specs.OldPads.{HasOthers, pads1_place, pads2_place}
use Rattle.save_state.proofs.Joins.{reads_ruled}
use Rattle.save_state.proofs.reading.read_under.Goals as goal

pub returns : goal.returns
returns c =
    let v = c.args.version in
    let bytes = c.args.bytes.now in
    rw (c.with_rule.ensures, c.with_rule-first.ensures, c.has_buttons.ensures, c.has_buttons-2.ensures, c.u16_at.ensures, c.u16_at-2.ensures)
    (reads_ruled _ _ _ _ pads2_place (HasOthers v pads2_place bytes) (λ e. e) (λ e. e) (reads_ruled _ _ _ _ pads1_place (HasOthers v pads1_place bytes) (λ e. e) (λ e. e) c.read_machine-machine.ensures))
