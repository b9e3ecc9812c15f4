use Rattle.std.proofs.Common.{◌++◌, is_some, ap, ◌∙◌, arith}
use Rattle.z80_chip.specs.Spelling as sub
use Rattle.z80_chip.specs.Validity.{Chip80Value}
use Rattle.save_state.proofs.writing.spell_sub.Goals as goal

pub returns-clause-bytes : goal.returns-clause-bytes
returns-clause-bytes c = c.spell.ensures.bytes ∙ (λ i. c.clear.ensures.items i ++ sub.chip_bytes (c.sub_chip-2.ensures i).state)

pub returns-clause-long : goal.returns-clause-long
returns-clause-long c =
    omega (arith, c.spell.new.into.ok.0, c.spell.ensures.length, c.clear.ensures.len, ap (λ (s : Chip80Value). sub.spelled_size (is_some s.state.store)) c.sub_chip-2.ensures)
