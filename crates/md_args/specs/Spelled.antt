-- How arguments are written as words. This project's profile.
use Rattle.std.specs.Prelude.{◌≡◌, true, false, List, [], ◌∷◌, ◌++◌, codes, ⊤}
use Rattle.std.specs.List.{flat_map, list_any}
use Rattle.clap.specs.Walk.{Text}
use Rattle.md_args.specs.Given.{Argument, has_name, is_marked}

-- an argument as it is written: an option and its value as two words or as one, a flag, or the cartridge's
-- name
pub data Written : Type 0 where
  apart : Text → Text → Written
  joined : Text → Text → Written
  raised : Text → Written
  rom : Text → Written

-- its words
abbrev pub words_of : Written → List Text
words_of (apart name value) = (codes "--" ++ name) ∷ value ∷ []
words_of (joined name value) = (codes "--" ++ name ++ codes "=" ++ value) ∷ []
words_of (raised name) = (codes "--" ++ name) ∷ []
words_of (rom name) = name ∷ []

-- the words of arguments, one after another
abbrev pub all_words : List Written → List Text
all_words = flat_map words_of

-- the argument that is written
abbrev pub argument_of : Written → Argument
argument_of (apart name value) = (name, value)
argument_of (joined name value) = (name, value)
argument_of (raised name) = (name, [])
argument_of (rom name) = (codes "rom", name)

-- it is written so that it can be read: the options and the flags are these, and a value or name that is a
-- word of its own does not look like an option
abbrev pub IsWritten : List Text → List Text → Written → Type 0
IsWritten options flags (apart name value) = (list_any (has_name name) options ≡ true) × (is_marked value ≡ false)
IsWritten options flags (joined name value) = list_any (has_name name) options ≡ true
IsWritten options flags (raised name) = (list_any (has_name name) options ≡ false) × (list_any (has_name name) flags ≡ true)
IsWritten options flags (rom name) = is_marked name ≡ false

-- each is written so that it can be read
abbrev pub AreWritten : List Text → List Text → List Written → Type 0
AreWritten options flags [] = ⊤
AreWritten options flags (first ∷ written) = IsWritten options flags first × AreWritten options flags written
