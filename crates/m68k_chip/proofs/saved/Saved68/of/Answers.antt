use Rattle.m68k_chip.proofs.saved.Saved68.of.Goals as goal

pub invariant_of-result : goal.invariant_of-result
invariant_of-result c = record { of_regs = c.known_regs.ensures.sizes; of_answers = c.padded.ensures.size; of_ram = c.requires }
