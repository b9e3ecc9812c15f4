use Rattle.std.proofs.Common.{arith}
use Rattle.bus_shared.proofs.Keeping.{board_spelled}
use Rattle.bus_shared.proofs.shared.Shared.is_read_again.Goals as goal

pub returns : goal.returns
returns c = rw (← c.self.view_is) (λ is.
    board_spelled c.args.at _ c.requires c.self.invariant.0 is
    (rw c.deref.ensures at (c.is_read_again.ensures c.args.at c.args.at (omega arith) c.requires (rw c.deref.ensures is.vdp)))
    (rw c.deref-2.ensures at (c.is_read_again-2.ensures (rw c.deref-2.ensures is.timers) (rw c.deref-2.ensures is.fm)))
    (rw c.deref-3.ensures at (c.is_read_again-3.ensures c.args.at (rw c.deref-3.ensures is.psg))))
