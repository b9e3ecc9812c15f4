use Rattle.std.proofs.Common.{subst, ◌<◌, ◌^◌, arith}
use Rattle.z80_chip.specs.Validity.{Chip80Value, IsChip80}
use Rattle.z80_chip.proofs.RuleLaws.{AreInRange, IsInRange, spelled_back}
use Rattle.z80_chip.proofs.chip.Chip80.is_read_again.Goals as goal

pub returns : goal.returns
returns c = λ at late rules.
    let pairs = c.known_pairs.ensures in
    let pointers = c.known_pointers.ensures in
    let regs : AreInRange c.self.inside.sequencer.regs = record {
      af = pairs.af;
      bc = pairs.bc;
      de = pairs.de;
      hl = pairs.hl;
      af2 = pairs.af2;
      bc2 = pairs.bc2;
      de2 = pairs.de2;
      hl2 = pairs.hl2;
      ix = pointers.ix;
      iy = pointers.iy;
      sp = pointers.sp;
      pc = pointers.pc;
      i = pointers.i;
      r = pointers.r;
    } in
    let range : IsInRange c.args.self.now.state = subst (λ (v : Chip80Value). IsInRange v.state) c.self.view_is
    (record { regs = regs; next = c.known_counts.ensures.next; resets = c.known_counts.ensures.resets }) in
    let valid : IsChip80 c.args.self.now = subst (λ (v : Chip80Value). IsChip80 v) c.self.view_is c.self.invariant.valid in
    let small : at < 2 ^ 64 = omega (arith, late, range.next) in
    spelled_back at c.args.self.now small valid range rules late
