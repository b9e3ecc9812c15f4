-- What holds of each page of the table holds of what bytes decode to.
use Rattle.std.proofs.Common.{◌≡◌, ◌==◌, ℕ, ◌<◌, inl, inr, Bool, true, false, map, arith, refl}
use Rattle.std.proofs.lemmas.Bool.{cases_lt}
use Rattle.z80_decode.specs.declared.decoded80.Decoded80.{Decoded80}
use Rattle.z80_decode.specs.declared.index.Index.{Index}
use Rattle.z80_decode.specs.declared.index.Index.TheVariants as indexes
use Rattle.z80_decode.specs.declared.op80.Op80.TheVariants as ops
use Rattle.md_word.proofs.Agree.{range, same_at}
use Rattle.z80_decode.specs.Fields.{memory_of, place_of, lower}
use Rattle.z80_decode.specs.Nested.{of_bytes, bits, by_opcode, names_hl, indexed, extended, nested}
use Rattle.asm_z80.proofs.Again80.{is_prefix}

-- what the prefix chooses
pub by_page : (P : Decoded80 → Type 0) (b0 b1 b2 b3 : ℕ)
    → ((b0 == 0xcb) ≡ true → P (of_bytes 2 (bits b1 (place_of indexes.Hl (lower b1) 0)))) → ((b0 == 0xdd) ≡ true → P (indexed indexes.Ix b1 b2 b3))
    → ((b0 == 0xed) ≡ true → P (extended b1 b2 b3)) → ((b0 == 0xfd) ≡ true → P (indexed indexes.Iy b1 b2 b3)) → (is_prefix b0 ≡ false → P (by_opcode indexes.Hl b0 b1 b2))
    → (cb dd ed fd : Bool) → (b0 == 0xcb) ≡ cb → (b0 == 0xdd) ≡ dd → (b0 == 0xed) ≡ ed → (b0 == 0xfd) ≡ fd → P (nested b0 b1 b2 b3)
unfolding nested
by_page P b0 b1 b2 b3 on_bits on_ix on_extended on_iy plain true dd ed fd ecb edd eed efd = rw ecb (on_bits ecb)
by_page P b0 b1 b2 b3 on_bits on_ix on_extended on_iy plain false true ed fd ecb edd eed efd = rw (ecb, edd) (on_ix edd)
by_page P b0 b1 b2 b3 on_bits on_ix on_extended on_iy plain false false true fd ecb edd eed efd = rw (ecb, edd, eed) (on_extended eed)
by_page P b0 b1 b2 b3 on_bits on_ix on_extended on_iy plain false false false true ecb edd eed efd = rw (ecb, edd, eed, efd) (on_iy efd)
by_page P b0 b1 b2 b3 on_bits on_ix on_extended on_iy plain false false false false ecb edd eed efd =
    let none : is_prefix b0 ≡ false = rw (ecb, edd, eed, efd) refl in
    rw (ecb, edd, eed, efd) (plain none)

-- what follows DD and FD
pub by_index : (P : Decoded80 → Type 0) (index : Index) (b1 b2 b3 : ℕ)
    → ((b1 == 0xcb) ≡ true → P (of_bytes 4 (bits b3 (memory_of index b2)))) → (names_hl b1 ≡ true → P (by_opcode index b1 b2 b3)) → P (of_bytes 1 (ops.LonePrefix index))
    → (cb names : Bool) → (b1 == 0xcb) ≡ cb → names_hl b1 ≡ names → P (indexed index b1 b2 b3)
unfolding indexed
by_index P index b1 b2 b3 on_bits on_opcode alone true names ecb en = rw ecb (on_bits ecb)
by_index P index b1 b2 b3 on_bits on_opcode alone false true ecb en = rw (ecb, en) (on_opcode en)
by_index P index b1 b2 b3 on_bits on_opcode alone false false ecb en = rw (ecb, en) alone

-- of three ranges
pub joined : {A : Type 0} (f g : ℕ → A) → map f (range 64 0) ≡ map g (range 64 0) → map f (range 128 64) ≡ map g (range 128 64)
    → map f (range 64 192) ≡ map g (range 64 192) → (w : ℕ) → w < 256 → f w ≡ g w
joined f g low middle high w h = elim (cases_lt w 64) [
  | inl below ↦ same_at f g 64 0 low w (omega arith) (omega arith)
  | inr above ↦ (elim (cases_lt w 192) [
    | inl below ↦ same_at f g 128 64 middle w (omega arith) (omega arith)
    | inr beyond ↦ same_at f g 64 192 high w (omega arith) (omega arith)
  ])
]
