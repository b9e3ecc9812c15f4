-- What a line of a session's script asks for. This project's profile.
use Rattle.std.specs.Prelude.{ℕ, if◌then◌else◌, List, codes, bytes_eq, Option, Some, None, option_map, option_and_then}
use Rattle.std.specs.List.{list_all}
use Rattle.text_lines.specs.Digits.{decimal_of, hexadecimal_of, is_hexadecimal}
use Rattle.debug_text.specs.Commands.{following, is_seven_bit, word_in}
use Rattle.md_rollback.specs.declared.line.Line.{Line}
use Rattle.md_rollback.specs.declared.line.Line.TheVariants.{Press, Advance}
use Rattle.md_rollback.specs.declared.line.Player.{Player}
use Rattle.md_rollback.specs.declared.line.Player.TheVariants.{Local, Remote}

-- 1 to 4 hexadecimal digits of either case, with a value of 16 bits
abbrev pub buttons_of : List ℕ → Option ℕ
buttons_of word = hexadecimal_of is_hexadecimal 4 16 word

-- a frame, and after a blank the buttons that a player has in it
abbrev pub press_of : Player → List ℕ → Option Line
press_of player numbers =
    option_and_then (λ frame. option_map (Press player frame) (option_and_then buttons_of (following numbers))) (decimal_of (word_in numbers))

-- `l` is player 1, `r` player 2
abbrev pub player_of : List ℕ → Option Player
player_of word = if bytes_eq word (codes "l") then Some Local else (if bytes_eq word (codes "r") then Some Remote else None)

-- `a` is the next frame; else a player is first
abbrev pub line_in : List ℕ → Option Line
line_in line =
    if bytes_eq line (codes "a") then Some Advance
    else option_and_then (λ player. option_and_then (press_of player) (following line)) (player_of (word_in line))

-- what a line asks for, which has ASCII alone
abbrev pub line_of : List ℕ → Option Line
line_of line = if list_all is_seven_bit line then line_in line else None
