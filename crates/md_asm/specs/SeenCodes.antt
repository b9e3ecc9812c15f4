-- What the code finds, as the definitions have it.
use Rattle.std.specs.BTreeMap.{get_by}
use Rattle.std.specs.Cmp.Lexicographic.{slice_cmp}
use Rattle.std.specs.Ordering.{nat_cmp}
use Rattle.md_asm.specs.Contents as contents
use Rattle.md_asm.specs.Numbers as numbers
use Rattle.md_asm.specs.declared.names.Names.{Names}
use Rattle.md_asm.specs.declared.settled.Settled.{Settled}
use Rattle.md_asm.specs.declared.settled.Settled.TheVariants as settled

abbrev pub names_seen : Names → numbers.Names
names_seen names name = get_by (λ key. slice_cmp nat_cmp name key.now) names.values

abbrev pub settled_seen : Settled → contents.Settled
settled_seen (settled.Good bytes) = contents.Good bytes.items
settled_seen settled.Unknown = contents.Unknown
settled_seen settled.Unfit = contents.Unfit
settled_seen settled.Far = contents.Far
