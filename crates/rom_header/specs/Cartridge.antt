-- What a cartridge's file has to be. This project's profile; the magic is that of Sega's Genesis
-- Technical Overview.
use Rattle.std.specs.Prelude.{◌≡◌, ◌≤◌, ℕ, ◌%◌, ◌==◌, nat_lt, Bool, ◌||◌, if◌then◌else◌, List, [], ◌∷◌, ◌++◌, length, slice_range, codes, Option, Some, None}
use Rattle.std.specs.Str.{bytes_eq}
use Rattle.rom_header.specs.declared.cart.CartFault.{CartFault}
use Rattle.rom_header.specs.declared.cart.CartFault.TheVariants.{Short, Long, NoMark}

-- "SEGA" is at 100h or at 101h
abbrev pub has_magic : List ℕ → Bool
has_magic bytes = bytes_eq (slice_range bytes 0x100 0x104) (codes "SEGA") || bytes_eq (slice_range bytes 0x101 0x105) (codes "SEGA")

-- why a file is no cartridge; none: it is one
abbrev pub fault_of : List ℕ → Option CartFault
fault_of bytes =
    if nat_lt (length bytes) 512 then Some Short
    else (if nat_lt 4194304 (length bytes) then Some Long
    else (if has_magic bytes then None else Some NoMark))

-- an odd length is padded with one 00
abbrev pub image : List ℕ → List ℕ
image bytes = if length bytes % 2 == 1 then bytes ++ 0 ∷ [] else bytes

-- what holds of each image
pub record IsImage (bytes : List ℕ) : Type 0 where
  pub least : 512 ≤ length bytes
  pub most : length bytes ≤ 4194304
  pub even : length bytes % 2 ≡ 0
