-- The header of a cartridge's image, and the lines that print what it says. The fields are as in the
-- headers of Sega's cartridges; the lines are this project's profile.
use Rattle.std.specs.Prelude.{ℕ, ◌-◌, ◌/◌, ◌%◌, ◌==◌, nat_le, Bool, ◌||◌, ◌&&◌, if◌then◌else◌, List, [], ◌∷◌, ◌++◌, length, take, drop, map, sum, slice_range, codes, decimal}
use Rattle.std.specs.Char.{digit_char}
use Rattle.std.specs.Int.{w16, from_be_bytes}
use Rattle.std.specs.List.{suffix_len}

-- THE FIELDS

-- the name at home, 48 bytes from 120h on
abbrev pub domestic_name : List ℕ → List ℕ
domestic_name image = slice_range image 0x120 0x150

-- the name overseas, 48 bytes from 150h on
abbrev pub overseas_name : List ℕ → List ℕ
overseas_name image = slice_range image 0x150 0x180

-- the serial number, 14 bytes from 180h on
abbrev pub serial_number : List ℕ → List ℕ
serial_number image = slice_range image 0x180 0x18e

-- the regions, 3 bytes from 1F0h on
abbrev pub regions : List ℕ → List ℕ
regions image = slice_range image 0x1f0 0x1f3

-- the checksum that the header keeps, a word at 18Eh
abbrev pub kept_checksum : List ℕ → ℕ
kept_checksum image = from_be_bytes w16 (slice_range image 0x18e 0x190)

-- two bytes each as a word, high byte first
unfoldable pub words_of : List ℕ → List ℕ
words_of (high ∷ low ∷ rest) = from_be_bytes w16 (high ∷ low ∷ []) ∷ words_of rest
words_of rest = []

-- the checksum of what comes after the header: the sum of the words from 200h to the end
abbrev pub computed_checksum : List ℕ → ℕ
computed_checksum image = sum (words_of (drop 0x200 image)) % 65536

-- HOW THEY ARE SHOWN

-- a byte that fills a field up
abbrev pub is_blank : ℕ → Bool
is_blank byte = byte == 0 || byte == 0x20

-- a field without the blanks at its end
abbrev pub trimmed : List ℕ → List ℕ
trimmed field = take (length field - suffix_len is_blank field) field

-- a byte that prints in ASCII as it is, and each other one as a dot
abbrev pub printed : ℕ → ℕ
printed byte = if nat_le 0x20 byte && nat_le byte 0x7e then byte else 46

-- a field as it is shown
unfoldable pub shown : List ℕ → List ℕ
shown field = map printed (trimmed field)

-- a word in four hexadecimal digits
abbrev pub hexadecimal : ℕ → List ℕ
hexadecimal word = digit_char (word / 0x1000) ∷ digit_char (word / 0x100 % 0x10) ∷ digit_char (word / 0x10 % 0x10) ∷ digit_char (word % 0x10) ∷ []

-- whether two checksums are the same
abbrev pub verdict : ℕ → ℕ → List ℕ
verdict kept computed = if kept == computed then codes " ok" else codes " differs"

-- THE LINES

-- a label and what follows it
abbrev pub line : List ℕ → List ℕ → List ℕ
line label reported = label ++ reported ++ codes "\n"

-- both checksums, and whether they are the same
unfoldable pub checksums : ℕ → ℕ → List ℕ
checksums kept computed = hexadecimal kept ++ codes " computed " ++ hexadecimal computed ++ verdict kept computed

-- the lines of the names, the serial number and the regions
unfoldable pub field_lines : List ℕ → List ℕ
field_lines image =
    line (codes "domestic: ") (shown (domestic_name image))
    ++ line (codes "overseas: ") (shown (overseas_name image))
    ++ line (codes "serial: ") (shown (serial_number image))
    ++ line (codes "region: ") (shown (regions image))

-- the six lines of an image
unfoldable pub header_lines : List ℕ → List ℕ
header_lines image =
    field_lines image
    ++ line (codes "size: ") (decimal (length image))
    ++ line (codes "checksum: ") (checksums (kept_checksum image) (computed_checksum image))
