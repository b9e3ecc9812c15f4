use Rattle.std.proofs.Common.{◌∙◌, sym}
use Rattle.m68k_access.specs.Clauses.{memory_of}
use Rattle.m68k_exec.proofs.PrivateRows.{reads-byte, reads-long, reads-word}
use Rattle.m68k_exec.proofs.sample.private.operands.private.Goals as goal

pub returns-in-Byte-clause-value : goal.returns-in-Byte-clause-value
returns-in-Byte-clause-value c =
    reads-byte c.args.size c.args.address c.bus_address-at.result c.from.result (memory_of c.args.context.now) c.in-Byte.is c.bus_address-at.ensures.value (sym c.is_shared.ensures ∙ c.if-is_shared.false) (c.from.ensures ∙ c.byte_at.ensures)

pub returns-in-Word-clause-value : goal.returns-in-Word-clause-value
returns-in-Word-clause-value c =
    reads-word c.args.size c.args.address c.bus_address-at.result c.from-in-Word.result (memory_of c.args.context.now) c.in-Word.is c.requires c.bus_address-at.ensures.value (sym c.is_shared.ensures ∙ c.if-is_shared.false) (c.from-in-Word.ensures ∙ c.word_at.ensures)

pub returns-else-is_shared-2-clause-value : goal.returns-else-is_shared-2-clause-value
returns-else-is_shared-2-clause-value c =
    reads-long c.args.size c.args.address c.bus_address-at.result c.bus_address-second.result c.from-in-Long.result c.from-in-Long-2.result (memory_of c.args.context.now) c.in-Long.is c.requires
    c.bus_address-at.ensures.value (sym c.is_shared.ensures ∙ c.if-is_shared.false) (c.from-in-Long.ensures ∙ c.word_at-high.ensures)
    c.bus_address-second.ensures.value (sym c.is_shared-in-Long.ensures ∙ c.if-is_shared-2.false) (c.from-in-Long-2.ensures ∙ c.word_at-low.ensures)
