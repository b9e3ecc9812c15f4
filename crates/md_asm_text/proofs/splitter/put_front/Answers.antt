use Rattle.std.proofs.Common.{map}
use Rattle.md_asm_text.specs.Shown.{shown}
use Rattle.md_asm_text.proofs.Runs.{front_joined}
use Rattle.md_asm_text.proofs.splitter.put_front.Goals as goal

pub returns-clause-split : goal.returns-clause-split
returns-clause-split c =
    front_joined (map shown c.args.tokens.now.items) (map shown c.put_word.new.tokens.items) c.args.text.now c.run_of-count.result
    c.run_of-count.ensures.value c.in_ok-put_word.ensures
