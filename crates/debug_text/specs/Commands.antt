-- What a line of a script asks for. This project's profile.
use Rattle.std.specs.Prelude.{ℕ, ◌%◌, ◌==◌, ◌&&◌, nat_lt, nat_le, Bool, if◌then◌else◌, List, length, codes, bytes_eq, Option, Some, None, option_map, option_and_then, Result, Ok, Err}
use Rattle.std.specs.List.{list_all, position_or_len, before_first, after_first}
use Rattle.text_lines.specs.Digits.{decimal_of}
use Rattle.debug_text.specs.Numbers.{address_of}
use Rattle.md_word.specs.Clock.{last_cycle}
use Rattle.debug_text.specs.declared.command.Command.{Command}
use Rattle.debug_text.specs.declared.command.Command.TheVariants.{Step, RunTo, Back, Regs, Mem, Dis, Trace, Report}
use Rattle.debug_text.specs.declared.command.CommandWord.{CommandWord}
use Rattle.debug_text.specs.declared.command.CommandWord.TheVariants as words
use Rattle.debug_text.specs.declared.command.Misread.{Misread}
use Rattle.debug_text.specs.declared.command.Misread.TheVariants.{UnknownWord, BadNumber}

abbrev pub is_blank : ℕ → Bool
is_blank c = c == 32

-- a byte of ASCII
abbrev pub is_seven_bit : ℕ → Bool
is_seven_bit c = nat_lt c 128

-- the first word of a text, up to its first blank
abbrev pub word_in : List ℕ → List ℕ
word_in text = before_first is_blank text

-- what follows that blank, if there is one
abbrev pub following : List ℕ → Option (List ℕ)
following text = if nat_lt (position_or_len is_blank text) (length text) then Some (after_first is_blank text) else None

-- a number within bounds
abbrev pub within : ℕ → ℕ → ℕ → Option ℕ
within low high n = if nat_le low n && nat_le n high then Some n else None

-- the one number that a text is; so the text has no blank
abbrev pub number_in : ℕ → ℕ → Option (List ℕ) → Option ℕ
number_in low high text = option_and_then (within low high) (option_and_then decimal_of text)

-- an address modulo 2^24
abbrev pub bus_address_in : List ℕ → Option ℕ
bus_address_in word = option_map (λ at. at % 16777216) (address_of word)

-- an address, and how many items are from there on
abbrev pub place_in : List ℕ → Option (ℕ × ℕ)
place_in text = option_and_then (λ at. option_map (λ count. (at, count)) (number_in 1 256 (following text))) (bus_address_in (word_in text))

-- an address of an instruction is even
abbrev pub even_place : ℕ × ℕ → Option (ℕ × ℕ)
even_place place = if place.0 % 2 == 0 then Some place else None

-- a command without numbers
abbrev pub bare : Command → Option (List ℕ) → Option Command
bare command None = Some command
bare command (Some text) = None

-- what a line with this word asks for, by what follows the word
abbrev pub commanded : CommandWord → Option (List ℕ) → Option Command
commanded words.Step text = option_map Step (number_in 1 1000000 text)
commanded words.Run text = option_map RunTo (number_in 0 last_cycle text)
commanded words.Back text = option_map Back (number_in 1 18446744073709551615 text)
commanded words.Regs text = bare Regs text
commanded words.Mem text = option_map (λ place. Mem place.0 place.1) (option_and_then place_in text)
commanded words.Dis text = option_map (λ place. Dis place.0 place.1) (option_and_then even_place (option_and_then place_in text))
commanded words.Trace text = option_map Trace (number_in 1 256 text)
commanded words.Report text = bare Report text

-- the words of the commands
abbrev pub word_of : List ℕ → Option CommandWord
word_of word =
    if bytes_eq word (codes "step") then Some words.Step else
    (if bytes_eq word (codes "run") then Some words.Run else
    (if bytes_eq word (codes "back") then Some words.Back else
    (if bytes_eq word (codes "regs") then Some words.Regs else
    (if bytes_eq word (codes "mem") then Some words.Mem else
    (if bytes_eq word (codes "dis") then Some words.Dis else
    (if bytes_eq word (codes "trace") then Some words.Trace else
    (if bytes_eq word (codes "report") then Some words.Report else None)))))))

abbrev pub numbered : Option Command → Result Command Misread
numbered (Some command) = Ok command
numbered None = Err BadNumber

abbrev pub read_by : Option CommandWord → Option (List ℕ) → Result Command Misread
read_by (Some word) text = numbered (commanded word text)
read_by None text = Err UnknownWord

-- the command of a line, or the first thing that is wrong with it: its word, then its numbers
abbrev pub command_of : List ℕ → Result Command Misread
command_of line = if list_all is_seven_bit line then read_by (word_of (word_in line)) (following line) else Err UnknownWord
