use Rattle.std.proofs.Common.{rules}
use Rattle.vdp_chip.proofs.Lined.{blank-length, renderer_state_begun}
use Rattle.vdp_chip.proofs.chip.with_memory.Goals as goal

pub invariant_of-result : goal.invariant_of-result
invariant_of-result c = rw (c.requires.picture, c.requires.aside) (renderer_state_begun c.args.pal, record { whole = blank-length; free = λ e. search rules })
