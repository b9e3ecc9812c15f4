use Rattle.std.proofs.Common.{◌≡◌, subst, arith}
use Rattle.md_pads.proofs.Walks.{Walked, begun, most-is, walked-all, walked-more}
use Rattle.md_pads.proofs.reading.version_of.Goals as goal

pub loop-version-init : goal.loop-version-init
loop-version-init c = begun c.args.bytes.now

pub loop-version-preserved : goal.loop-version-preserved
loop-version-preserved c =
    rw (c.max-longest.ensures, most-is) (walked-more c.args.bytes.now c.loop-version.version-index c.loop-version.longest c.longest_prefix-prefix.result c.loop-version.invariant c.longest_prefix-prefix.ensures (λ spelled. let found = c.is_spelled.ensures.1 spelled in let none = c.if-is_spelled.false in absurd cc))

pub returns-clause-invalid : goal.returns-clause-invalid
returns-clause-invalid c =
    let end : c.loop-version.version-index ≡ 5 = omega (arith, c.loop-version.auto, c.loop-version-test.false) in
    walked-all c.args.bytes.now c.loop-version.longest (subst (λ n. Walked c.args.bytes.now n c.loop-version.longest) end c.loop-version.invariant)
