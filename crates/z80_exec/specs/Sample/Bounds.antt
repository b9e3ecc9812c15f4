-- What a sample of any registers, memory and answers can ask for.
use Rattle.std.specs.Prelude.{IsTrue}
use Rattle.md_word.specs.declared.sub_bus.Request80.{Request80}
use Rattle.md_word.specs.declared.sub_bus.Request80.TheVariants.{Read, Write, Yield, Take}
use Rattle.z80_exec.specs.Access.Memory.{is_shared_read, is_shared_write}

-- a read or a write at an address that is shared
abbrev pub IsAccess : Request80 → Type 0
IsAccess (Read at) = IsTrue (is_shared_read at)
IsAccess (Write at value) = IsTrue (is_shared_write at)
IsAccess (Yield parcel) = ⊥
IsAccess Take = ⊥
