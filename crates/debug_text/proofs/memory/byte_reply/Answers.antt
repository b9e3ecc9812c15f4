use Rattle.std.proofs.Common.{string_bytes, sym, ◌∙◌, ◌++◌, []}
use Rattle.md_disasm.specs.Digits.{marked_byte}
use Rattle.debug_text.proofs.Turns.{no_byte, one_more_byte}
use Rattle.debug_text.proofs.memory.byte_reply.Goals as goal

pub loop-index-init : goal.loop-index-init
loop-index-init c = c.new-text.ensures.bytes ∙ sym (no_byte c.args.rom.now c.args.ram.now c.args.at)

pub loop-index-preserved : goal.loop-index-preserved
loop-index-preserved c =
    one_more_byte c.args.rom.now c.args.ram.now c.args.at c.loop-index.index (string_bytes c.loop-index.text) (string_bytes c.put_marked_byte.new.text) c.loop-index.invariant
    (c.in_ok-put_marked_byte.ensures {u = tt} ∙ (λ i. string_bytes c.loop-index.text ++ marked_byte (c.gap.ensures i) (c.byte_at.ensures i) []))
