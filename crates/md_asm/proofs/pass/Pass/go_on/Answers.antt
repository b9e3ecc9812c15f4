use Rattle.std.proofs.Common.{sym, subst}
use Rattle.md_asm_text.specs.Seen.{line_seen}
use Rattle.md_asm.specs.Kept.{IsKnown}
use Rattle.md_asm.specs.Rounds.{Round}
use Rattle.md_asm.proofs.pass.Pass.go_on.Goals as goal

pub keep-requires-clause-known : goal.keep-requires-clause-known
keep-requires-clause-known c =
    subst (λ (round : Round). IsKnown round (line_seen c.args.line.now) c.args.long c.args.bytes) (sym c.in_ok-label.ensures.seen) c.requires.known
