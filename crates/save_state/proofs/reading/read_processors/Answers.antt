use Rattle.std.proofs.Common.{List, ℕ, subst}
use Rattle.std.specs.Arc.{arc_value}
use Rattle.save_state.specs.Items.{IsSub, SubFails}
use Rattle.save_state.specs.Joining.{Reads}
use Rattle.save_state.proofs.MachineLaws.{processors_read}
use Rattle.save_state.proofs.Joins.{wanting}
use Rattle.save_state.proofs.reading.read_processors.Goals as goal

pub returns-in_err-window : goal.returns-in_err-window
returns-in_err-window c = wanting _ _ c.from_residual.result c.from_residual.ensures.1

pub returns : goal.returns
returns c =
    processors_read (arc_value c.args.cart) c.args.bytes.now c.read_main.result c.read_sub.result c.both.result c.both.ensures
    c.read_main.ensures (subst (λ (cart : List ℕ). Reads (IsSub cart c.args.bytes.now) (SubFails cart c.args.bytes.now) c.read_sub.result) c.in_ok-window.ensures.cases c.read_sub.ensures)
