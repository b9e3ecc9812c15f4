use Rattle.std.proofs.Common.{sym, string_bytes}
use Rattle.std.proofs.lemmas.List.{append-nil}
use Rattle.debug_text.specs.Replies.{registers_text}
use Rattle.debug_text.proofs.Turns.{one_more_register}
use Rattle.debug_text.proofs.registers.put_registers.Goals as goal

pub loop-number-init : goal.loop-number-init
unfolding registers_text
loop-number-init c = sym (append-nil (string_bytes c.args.text.now))

pub loop-number-preserved : goal.loop-number-preserved
loop-number-preserved c =
    one_more_register c.args.regs.now c.loop-number.number (string_bytes c.args.text.now) (string_bytes c.loop-number.text) (string_bytes c.put_register.new.text) c.loop-number.invariant (c.in_ok-put_register.ensures {u = tt})
