use Rattle.std.proofs.Common.{subst, ◌<◌, ◌^◌, arith}
use Rattle.m68k_chip.specs.Validity.{Chip68Value, IsChip68}
use Rattle.m68k_chip.proofs.RuleLaws.{IsInRange, spelled_back}
use Rattle.m68k_chip.proofs.chip.Chip68.is_read_again.Goals as goal

pub returns : goal.returns
returns c = λ at late rules.
    let regs = c.known_regs.ensures in
    let read : IsInRange c.args.self.now.state = subst (λ (v : Chip68Value). IsInRange v.state) c.self.view_is
    (record { regs = regs.sizes; d = regs.d; a = regs.a; usp = regs.usp; ssp = regs.ssp; pc = regs.pc; sr = regs.sr; next = c.known_next.ensures }) in
    let valid : IsChip68 c.args.self.now = subst (λ (v : Chip68Value). IsChip68 v) c.self.view_is c.self.invariant.0.valid in
    let small : at < 2 ^ 64 = omega (arith, late, read.next) in
    spelled_back at c.args.self.now small valid read rules late
