use Rattle.std.proofs.Common.{◌≡◌, ◌++◌}
use Rattle.std.specs.List.{flat_map}
use Rattle.rand_core.specs.Steps.{first_words}
use Rattle.rand_pcg.specs.Pcg.{pcg32}
use Rattle.md_demo.specs.Demo.{long}
use Rattle.md_demo.proofs.push.push_stream.Given as goal

abbrev pub invariant-words : goal.invariant-words
invariant-words l =
    l.bytes.items ++ flat_map long (first_words pcg32 l.left l.generator)
    ≡ l.initial.bytes.items ++ flat_map long (first_words pcg32 l.initial.left l.initial.generator)

abbrev pub decreases-words : goal.decreases-words
decreases-words l = l.left
