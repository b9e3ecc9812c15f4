use Rattle.std.proofs.Common.{string_bytes}
use Rattle.md_disasm.proofs.Lists68.{put_none, put_one}
use Rattle.md_disasm.proofs.list68.put_listed.Goals as goal

pub loop-n-init : goal.loop-n-init
loop-n-init c = put_none c.args.turned c.args.list (string_bytes c.args.text.now)

pub loop-n-preserved : goal.loop-n-preserved
loop-n-preserved c =
    put_one c.args.turned c.args.list c.loop-n.n c.loop-n.first c.in_ok-first.first (string_bytes c.args.text.now) (string_bytes c.loop-n.text)
    (string_bytes c.put_if_listed.new.text) c.loop-n.invariant c.in_ok-first.ensures.text c.in_ok-first.ensures.none
