-- What words after a command's own word give: options in any order among the positional words. This
-- project's profile.
use Rattle.std.specs.Prelude.{◌==◌, Bool, true, false, ◌&&◌, not, if◌then◌else◌, List, [], ◌∷◌, find, codes, Option, Some, None}
use Rattle.std.specs.List.{list_any}
use Rattle.std.specs.Option.{option_map}
use Rattle.std.specs.Str.{bytes_eq}
use Rattle.clap.specs.Lexer.{long_of}
use Rattle.clap.specs.Walk.{Text}

-- an argument: its name and its value
abbrev pub Argument : Type 0
Argument = Text × Text

-- how the next word is read: as an option or as a positional word, as the value of the option of this
-- name, or, after `--`, as a positional word whatever it looks like
pub data Place : Type 0 where
  between : Place
  value_of : Text → Place
  ended : Place

-- one more argument in front of those after it
abbrev pub with_value : Text → Text → Option (List Argument) → Option (List Argument)
with_value name value = option_map (λ arguments. (name, value) ∷ arguments)

-- the word looks like an option: it begins with a hyphen, and is not that hyphen alone
abbrev pub is_marked : Text → Bool
is_marked (first ∷ second ∷ rest) = first == 45
is_marked word = false

-- the other is this name
abbrev pub has_name : Text → Text → Bool
has_name name other = bytes_eq other name

-- an option and its value in one word, an option whose value is the next word, or a flag, whose value is empty
abbrev pub option_word : List Text → List Text → Option (Text × Option Text) → Option (List Argument) → (Text → Option (List Argument)) → Option (List Argument)
option_word options flags (Some (name, Some value)) following waiting = if list_any (has_name name) options then with_value name value following else None
option_word options flags (Some (name, None)) following waiting =
    if list_any (has_name name) options then waiting name
    else if list_any (has_name name) flags then with_value name [] following
    else None
option_word options flags None following waiting = None

-- a positional word is the value of the first of the names that are left
abbrev pub positional_word : List Text → Text → (List Text → Option (List Argument)) → Option (List Argument)
positional_word [] word following = None
positional_word (name ∷ left) word following = with_value name word (following left)

-- The arguments that words give in their order, where these are the names of the positional words, those of
-- the options with values and those of the flags; none where the words are refused.
abbrev pub given : List Text → List Text → List Text → Place → List Text → Option (List Argument)
given positionals options flags between [] = Some []
given positionals options flags ended [] = Some []
given positionals options flags (value_of name) [] = None
given positionals options flags ended (word ∷ words) = positional_word positionals word (λ left. given left options flags ended words)
given positionals options flags (value_of name) (word ∷ words) =
    if is_marked word then None else with_value name word (given positionals options flags between words)
given positionals options flags between (word ∷ words) =
    if bytes_eq word (codes "--") then given positionals options flags ended words
    else if is_marked word
    then option_word options flags (long_of word) (given positionals options flags between words) (λ name. given positionals options flags (value_of name) words)
    else positional_word positionals word (λ left. given left options flags between words)

-- no argument comes twice
abbrev pub are_single : List Argument → Bool
are_single [] = true
are_single (argument ∷ arguments) = not (list_any (λ other. has_name argument.0 other.0) arguments) && are_single arguments

-- the value of an argument
abbrev pub value_in : List Argument → Text → Option Text
value_in arguments name = option_map (λ argument. argument.1) (find (λ argument. has_name name argument.0) arguments)

-- what is made of the arguments' values, where none comes twice
abbrev pub meant_by : {X : Type 0} → ((Text → Option Text) → Option X) → List Argument → Option X
meant_by meaning arguments = if are_single arguments then meaning (value_in arguments) else None
