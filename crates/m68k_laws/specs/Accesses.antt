-- Accesses to memory: a read or a write of a byte, a word or a long. M68000 User's Manual, section 5.
use Rattle.std.specs.Prelude.{ℕ, ◌+◌, ◌%◌, ◌^◌, Bool, true, false, List, [], ◌∷◌, ◌++◌, filter, flat_map, IsFalse}
use Rattle.md_word.specs.Map.{is_shared}
use Rattle.md_word.specs.declared.size.Size.{Size}
use Rattle.md_word.specs.declared.size.Size.TheVariants.{Word, Long}
use Rattle.m68k_ea.specs.Places.{is_misaligned}
use Rattle.m68k_access.specs.Memory.{bus_address}

-- what an access does
pub data Kind : Type 0 where
  Read : Kind
  Write : Kind

-- an access, and its address of 32 bits
pub record Access : Type 0 where
  pub kind : Kind
  pub size : Size
  pub address : ℕ

-- whether it is a read
abbrev pub is_read : Kind → Bool
is_read Read = true
is_read Write = false

-- one access
abbrev pub one : Kind → Size → ℕ → List Access
one kind size address = record { kind = kind; size = size; address = address } ∷ []

-- the bus has 16 bits: a long is two words, that at the lower address first
abbrev pub halves : Kind → Size → ℕ → List Access
halves kind Long address = one kind Word address ++ one kind Word ((address + 2) % 2 ^ 32)
halves kind size address = one kind size address

-- accesses as the bus has them, of a byte or a word each
abbrev pub words : List Access → List Access
words list = flat_map (λ access. halves access.kind access.size access.address) list

-- those at addresses that the 68000 shares with other chips
abbrev pub shared : List Access → List Access
shared list = filter (λ access. is_shared (bus_address access.address)) list

-- a word at an odd address is an address error
abbrev pub is_odd : Access → Bool
is_odd access = is_misaligned access.size access.address

-- it is none
abbrev pub IsEven : Access → Type 0
IsEven access = IsFalse (is_odd access)
