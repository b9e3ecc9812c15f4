-- A saved state of any version: the first, of NTSC alone; the second, with the region, whose pads have eight
-- buttons; and the one that is written, which keeps the falls of TH that pads count. Bytes of the older ones
-- are read as those of their migration. This project's profile.
use Rattle.std.specs.Prelude.{◌≡◌, ◌≢◌, ℕ, ◌-◌, ◌<◌, ◌≤◌, nat_le, nat_lt, min, ◌⊎◌, if◌then◌else◌, codes, List, [], ◌∷◌, ◌++◌, length, replicate, take, drop, Option, Some, None}
use Rattle.sha2.specs.Sha256.{sha256}
use Rattle.md_chips.specs.Starts.{Start}
use Rattle.save_state.specs.Layout.{digest_part, magic_part, part_of, state_size}
use Rattle.save_state.specs.OldPads.{HasPads, IsFirstFault}
use Rattle.save_state.specs.States.{IsNewest, mark}
use Rattle.save_state.specs.declared.version.Version.{Version}
use Rattle.save_state.specs.declared.version.Version.TheVariants.{First, Second, Third}

-- what a state of a version begins with
abbrev pub magic_of : Version → List ℕ
magic_of First = codes "MDSTATE1"
magic_of Second = codes "MDSTATE2"
magic_of Third = mark

-- how many bytes it has
abbrev pub size_of : Version → ℕ
size_of First = 378240
size_of Second = 393602
size_of Third = state_size

-- bytes of a version: its magic, and as many as it has
pub record HasVersion (version : Version) (bytes : List ℕ) : Type 0 where
  pub magic_is : part_of magic_part bytes ≡ magic_of version
  pub long : length bytes ≡ size_of version

-- those of the form that is written, made of the first version's: the region and the height of the display
-- come to them, both 0, sixteen scanlines after the picture, and that no pad counted a fall
unfoldable pub from_first : List ℕ → List ℕ
from_first bytes =
    mark ++ (take 40 (drop 8 bytes) ++ ((0 ∷ [])
    ++ (take 139783 (drop 48 bytes) ++ ((0 ∷ [])
    ++ (take 215050 (drop 139831 bytes) ++ (replicate 15360 0 ++ (drop 354881 bytes ++ replicate 18 0)))))))

-- and of the second's: no pad counted a fall
unfoldable pub from_second : List ℕ → List ℕ
from_second bytes = mark ++ (drop 8 bytes ++ replicate 18 0)

-- those made of a version's
unfoldable pub migrated : Version → List ℕ → List ℕ
migrated First bytes = from_first bytes
migrated Second bytes = from_second bytes
migrated Third bytes = bytes

-- the bytes that were made of others, or these, where none were made
abbrev pub newest_of : Option (List ℕ) → List ℕ → List ℕ
newest_of None bytes = bytes
newest_of (Some newest) bytes = newest

-- where an offset of those is in the bytes of the first version; what was added is where the next byte of the
-- first version is
abbrev pub place_in_first : ℕ → ℕ
place_in_first place =
    if nat_le place 48 then place
    else (if nat_le place 139832 then place - 1
    else (if nat_lt place 354883 then place - 2
    else (if nat_lt place 370243 then 354881 else min (place - 15362) 378240)))

-- where it is in the bytes of a version
unfoldable pub place_back : Version → ℕ → ℕ
place_back First place = place_in_first place
place_back Second place = min place 393602
place_back Third place = place

-- the bytes are a saved state of this cartridge and keep this machine
pub record IsState (cart bytes : List ℕ) (start : Start) : Type 0 where
  pub version : Version
  pub has : HasVersion version bytes
  pub pads : HasPads version (migrated version bytes)
  pub newest : IsNewest cart (migrated version bytes) start

-- bytes of no version are refused at this offset: they are too short for a magic, or begin with none, or are
-- longer or shorter than those of the version whose magic they have
pub data IsUnversioned (bytes : List ℕ) (place : ℕ) : Type 0 where
  unmarked : length bytes < 8 → place ≡ length bytes → IsUnversioned bytes place
  strange : 8 ≤ length bytes → ((version : Version) → part_of magic_part bytes ≢ magic_of version) → place ≡ 0 → IsUnversioned bytes place
  other_size : (version : Version) → part_of magic_part bytes ≡ magic_of version → length bytes ≢ size_of version → place ≡ min (length bytes) (size_of version) → IsUnversioned bytes place

-- bytes of a version and of this cartridge break the rule of a field at this offset, of which the one in
-- their migration is the first
pub record BreaksRuleAt (cart bytes : List ℕ) (place : ℕ) : Type 0 where
  pub version : Version
  pub has : HasVersion version bytes
  pub own : part_of digest_part bytes ≡ sha256 cart
  pub field : ℕ
  pub first : IsFirstFault version cart (migrated version bytes) field
  pub place_is : place ≡ place_back version field

-- the bytes are refused at this offset
abbrev pub IsInvalidAt : List ℕ → List ℕ → ℕ → Type 0
IsInvalidAt cart bytes place = IsUnversioned bytes place ⊎ BreaksRuleAt cart bytes place

-- the bytes have a version, and keep another digest than the cartridge's
pub record IsOtherCart (cart bytes kept given : List ℕ) : Type 0 where
  pub version : Version
  pub has : HasVersion version bytes
  pub kept_is : kept ≡ part_of digest_part bytes
  pub given_is : given ≡ sha256 cart
  pub differ : kept ≢ given
