use Rattle.std.proofs.Common.{string_bytes}
use Rattle.std.specs.Str.{bytes_eq}
use Rattle.md_outer.proofs.Places.{position-map}
use Rattle.md_outer.proofs.names.Names.number_of.Goals as goal

pub returns-in-None : goal.returns-in-None
returns-in-None c = rw (position-map string_bytes (λ held. bytes_eq held c.args.name.now), ← c.deref.ensures.value) c.in-None.ensures

pub returns-in-Some : goal.returns-in-Some
returns-in-Some c = rw (position-map string_bytes (λ held. bytes_eq held c.args.name.now), ← c.deref.ensures.value) c.in-Some.ensures
