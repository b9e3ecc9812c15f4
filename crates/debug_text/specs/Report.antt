-- The cycle of the next event and the registers of the 68000 as JSON. This project's profile.
use Rattle.std.specs.Prelude.{ℕ, List, ◌++◌, codes, slice_index}
use Rattle.serde_json.specs.Data.{Data, Members, number, unsigned, object, member, no_members, put}
use Rattle.serde_json.specs.Written.{compact_text}
use Rattle.md_word.specs.declared.regs.Regs.{Regs}
use Rattle.md_word.specs.Fields.{address_of}

-- a key with a number
abbrev pub numbered : List ℕ → ℕ → Members → Members
numbered key n rest = member key (number (unsigned n)) rest

-- each key once, in the order of their bytes
abbrev pub report : ℕ → Regs → Data
report cycle regs = object (
    numbered (codes "a0") (slice_index regs.a 0) (
    numbered (codes "a1") (slice_index regs.a 1) (
    numbered (codes "a2") (slice_index regs.a 2) (
    numbered (codes "a3") (slice_index regs.a 3) (
    numbered (codes "a4") (slice_index regs.a 4) (
    numbered (codes "a5") (slice_index regs.a 5) (
    numbered (codes "a6") (slice_index regs.a 6) (
    numbered (codes "a7") (address_of regs 7) (
    numbered (codes "at") cycle (
    numbered (codes "d0") (slice_index regs.d 0) (
    numbered (codes "d1") (slice_index regs.d 1) (
    numbered (codes "d2") (slice_index regs.d 2) (
    numbered (codes "d3") (slice_index regs.d 3) (
    numbered (codes "d4") (slice_index regs.d 4) (
    numbered (codes "d5") (slice_index regs.d 5) (
    numbered (codes "d6") (slice_index regs.d 6) (
    numbered (codes "d7") (slice_index regs.d 7) (
    numbered (codes "pc") regs.pc (
    numbered (codes "sr") regs.sr no_members)))))))))))))))))))

-- their text without spaces, on one line
abbrev pub report_reply : ℕ → Regs → List ℕ
report_reply cycle regs = compact_text (report cycle regs) ++ codes "\n"

-- an object with a key more
abbrev pub with_number : List ℕ → ℕ → Members → Members
with_number key n members = put key (number (unsigned n)) members

-- an object with the address registers
unfoldable pub with_addresses : Regs → Members → Members
with_addresses regs members =
    with_number (codes "a7") (address_of regs 7) (
    with_number (codes "a6") (slice_index regs.a 6) (
    with_number (codes "a5") (slice_index regs.a 5) (
    with_number (codes "a4") (slice_index regs.a 4) (
    with_number (codes "a3") (slice_index regs.a 3) (
    with_number (codes "a2") (slice_index regs.a 2) (
    with_number (codes "a1") (slice_index regs.a 1) (
    with_number (codes "a0") (slice_index regs.a 0) members)))))))

-- an object with the data registers
unfoldable pub with_data : Regs → Members → Members
with_data regs members =
    with_number (codes "d7") (slice_index regs.d 7) (
    with_number (codes "d6") (slice_index regs.d 6) (
    with_number (codes "d5") (slice_index regs.d 5) (
    with_number (codes "d4") (slice_index regs.d 4) (
    with_number (codes "d3") (slice_index regs.d 3) (
    with_number (codes "d2") (slice_index regs.d 2) (
    with_number (codes "d1") (slice_index regs.d 1) (
    with_number (codes "d0") (slice_index regs.d 0) members)))))))
