use Rattle.std.proofs.Common.{arith, sym}
use Rattle.std.proofs.lemmas.Grind.{common_steps}
use Rattle.md_asm_text.proofs.Runs.{opened_front}
use Rattle.md_asm_text.proofs.splitter.split.Goals as goal

pub returns : goal.returns
returns c = rw (opened_front c.args.text.now, sym c.run_of-count.ensures.value) (grind (arith, common_steps))
