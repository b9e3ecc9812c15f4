-- Places, addresses, and the memory that an image is a prefix of.
use Rattle.std.specs.Prelude.{ℕ, zero, suc, ◌+◌, ◌-◌, ◌%◌, Bool, true, false, ◌&&◌, ◌||◌, nat_le, nat_lt, List, ◌++◌, length, take, drop, replicate}
use Rattle.md_asm.specs.declared.processor.Processor.{Processor}
use Rattle.md_asm.specs.declared.processor.Processor.TheVariants as processors

-- The address at a place: for the 68000 the place itself; for the Z80 what `cpu` names at its own place, rising
-- with the place, modulo 65,536.
abbrev pub address : Processor → ℕ → ℕ
address processors.Main place = place
address (processors.Sub at from) place = (at + place + 4294967296 - from) % 65536

abbrev pub is_sub : Processor → Bool
is_sub processors.Main = false
is_sub (processors.Sub at from) = true

-- the places that were written, as a test
abbrev pub WrittenPlaces : Type 0
WrittenPlaces = ℕ → Bool

-- one of so many places from a place on was written
abbrev pub any_written : WrittenPlaces → ℕ → ℕ → Bool
any_written written place zero = false
any_written written place (suc long) = written place || any_written written (place + 1) long

-- these were written too
abbrev pub with_written : WrittenPlaces → ℕ → ℕ → WrittenPlaces
with_written written place long other = written other || (nat_le place other && nat_lt other (place + long))

-- the places of an image are below this: those of the cartridge in the 68000's address space. Genesis Technical
-- Overview, the memory map of the 68000.
abbrev pub image_limit : ℕ
image_limit = 4194304

-- the last of so many places is too large
abbrev pub is_too_large : ℕ → ℕ → Bool
is_too_large place long = nat_lt image_limit (place + long)

-- a memory of so many bytes, all of them 0
unfoldable pub zeros : ℕ → List ℕ
zeros count = replicate count 0

-- a memory in which nothing is written
abbrev pub blank : List ℕ
blank = zeros image_limit

-- a memory with these bytes at a place
unfoldable pub put : List ℕ → ℕ → List ℕ → List ℕ
put memory place bytes = take place memory ++ bytes ++ drop (place + length bytes) memory
