-- Who has the Z80's RAM and bank register.
use Rattle.std.specs.Prelude.{◌≡◌, not, is_some}
use Rattle.md_chips.specs.Console.{Console}

-- either the Z80 has them, or the bus
abbrev pub HasOneOwner : Console → Type 0
HasOneOwner z = is_some z.sub.state.store ≡ not (is_some z.shared.store)
