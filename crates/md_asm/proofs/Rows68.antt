-- The tokens of the 68000's rows, and what they are with 8 for a number.
use Rattle.std.proofs.Common.{◌≡◌, ℕ, ◌==◌, Bool, true, false, List, [], ◌∷◌, ◌++◌, refl, ap, ◌∙◌, Option, Some, None}
use Rattle.md_word.specs.declared.mode.Mode.{Mode}
use Rattle.md_word.specs.declared.mode.Mode.TheVariants as modes
use Rattle.md_word.specs.declared.size.Size.{Size}
use Rattle.md_word.specs.declared.size.Size.TheVariants.{Byte, Word, Long}
use Rattle.md_disasm.specs.Operands68.{register_name}
use Rattle.md_disasm.specs.Rows68.{Row68}
use Rattle.md_disasm.specs.declared.operand68.Operand68.{Operand68}
use Rattle.md_disasm.specs.declared.operand68.Operand68.TheVariants as operands
use Rattle.md_asm_text.specs.Tokens as tokens
use Rattle.md_asm_text.specs.Tokens.{Token}
use Rattle.md_asm.specs.Numbers.{filled}
use Rattle.asm_m68k.proofs.Lists.{list_tokens, listed, more_tokens, names_tokens}
use Rattle.asm_m68k.proofs.Operands.{mode_tokens, number_tokens}
use Rattle.asm_m68k.proofs.Sources.{led_tokens, operand_tokens, row_tokens, size_tokens}
use Rattle.md_asm.proofs.Fits.{filled_both, is_single}

-- another number in the place of a mode's own
abbrev pub mode_with : ℕ → Mode → Mode
mode_with v (modes.Displaced n by) = modes.Displaced n v
mode_with v (modes.Indexed n index long by) = modes.Indexed n index long v
mode_with v (modes.AbsShort at) = modes.AbsShort v
mode_with v (modes.AbsLong at) = modes.AbsLong v
mode_with v (modes.PcDisplaced by) = modes.PcDisplaced v
mode_with v (modes.PcIndexed index long by) = modes.PcIndexed index long v
mode_with v (modes.Immediate n) = modes.Immediate v
mode_with v mode = mode

abbrev pub mode_filled : Mode → Mode
mode_filled mode = mode_with 8 mode

abbrev pub mode_kept : Bool → Mode → Mode
mode_kept true mode = mode
mode_kept false mode = mode_filled mode

abbrev pub number_kept : Bool → ℕ → ℕ
number_kept true n = n
number_kept false n = 8

-- another number in the place of an operand's own
abbrev pub operand_with : ℕ → Operand68 → Operand68
operand_with v (operands.Place size mode) = operands.Place size (mode_with v mode)
operand_with v (operands.Digit n) = operands.Digit v
operand_with v (operands.Number size n) = operands.Number size v
operand_with v (operands.Target address) = operands.Target v
operand_with v (operands.Opcode word) = operands.Opcode v
operand_with v o = o

abbrev pub operand_filled : Operand68 → Operand68
operand_filled o = operand_with 8 o

abbrev pub kept : Bool → Operand68 → Operand68
kept true o = o
kept false o = operand_filled o

-- a row with 8 for the numbers of an operand that is not kept
abbrev pub row_kept : Bool → Bool → Row68 → Row68
row_kept first second row = record { name = row.name; size = row.size; first = kept first row.first; second = kept second row.second }

number_tokens_filled : (size : Size) (n : ℕ) → filled (number_tokens size n) ≡ number_tokens size 8
number_tokens_filled Byte n = refl
number_tokens_filled Word n = refl
number_tokens_filled Long n = refl

mode_tokens_filled : (size : Size) (mode : Mode) → filled (mode_tokens size mode) ≡ mode_tokens size (mode_filled mode)
mode_tokens_filled size (modes.Immediate n) = number_tokens_filled size n
mode_tokens_filled size (modes.Indexed n index true by) = refl
mode_tokens_filled size (modes.Indexed n index false by) = refl
mode_tokens_filled size (modes.PcIndexed index true by) = refl
mode_tokens_filled size (modes.PcIndexed index false by) = refl
mode_tokens_filled size mode = refl

more_filled : (ns : List ℕ) → filled (more_tokens ns) ≡ more_tokens ns
more_filled [] = refl
more_filled (n ∷ ns) = ap (λ (l : List Token). tokens.Mark 47 ∷ tokens.Word (register_name n) ∷ l) (more_filled ns)

names_filled : (ns : List ℕ) → filled (names_tokens ns) ≡ names_tokens ns
names_filled [] = refl
names_filled (n ∷ ns) = ap (λ (l : List Token). tokens.Word (register_name n) ∷ l) (more_filled ns)

list_filled : (b : Bool) (turned : Bool) (list : ℕ) → (list == 0) ≡ b → filled (list_tokens turned list) ≡ list_tokens turned list
list_filled true turned list is = rw is refl
list_filled false turned list is = rw is (names_filled (listed turned list))

operand_tokens_filled : (o : Operand68) → filled (operand_tokens o) ≡ operand_tokens (operand_filled o)
operand_tokens_filled (operands.Place size mode) = mode_tokens_filled size mode
operand_tokens_filled (operands.Number size n) = number_tokens_filled size n
operand_tokens_filled (operands.Registers turned list) = list_filled (list == 0) turned list refl
operand_tokens_filled operands.Nothing = refl
operand_tokens_filled _ = refl

pub led_filled : (c : ℕ) (o : Operand68) → filled (led_tokens c o) ≡ led_tokens c (operand_filled o)
led_filled c operands.Nothing = refl
led_filled c o = ap (λ (l : List Token). tokens.Mark c ∷ l) (operand_tokens_filled o)

pub size_filled : (size : Option Size) → filled (size_tokens size) ≡ size_tokens size
size_filled None = refl
size_filled (Some Byte) = refl
size_filled (Some Word) = refl
size_filled (Some Long) = refl

pub row_filled : (row : Row68) → filled (row_tokens row) ≡ row_tokens (row_kept false false row)
row_filled row =
    ap (λ (l : List Token). tokens.Word row.name ∷ l)
    (filled_both (size_tokens row.size) (led_tokens 32 row.first ++ led_tokens 44 row.second)
    ∙ ap (λ (l : List Token). l ++ filled (led_tokens 32 row.first ++ led_tokens 44 row.second)) (size_filled row.size)
    ∙ ap (λ (l : List Token). size_tokens row.size ++ l)
    (filled_both (led_tokens 32 row.first) (led_tokens 44 row.second)
    ∙ ap (λ (l : List Token). l ++ filled (led_tokens 44 row.second)) (led_filled 32 row.first)
    ∙ ap (λ (l : List Token). led_tokens 32 (operand_filled row.first) ++ l) (led_filled 44 row.second)))

-- ---- the number of an operand

number_single : (size : Size) (n : ℕ) → is_single (number_tokens size n) ≡ true
number_single Byte n = refl
number_single Word n = refl
number_single Long n = refl

mode_single : (size : Size) (mode : Mode) → is_single (mode_tokens size mode) ≡ true
mode_single size (modes.Immediate n) = number_single size n
mode_single size (modes.Indexed n index long by) = refl
mode_single size (modes.PcIndexed index long by) = refl
mode_single size mode = refl

more_single : (ns : List ℕ) → is_single (more_tokens ns) ≡ true
more_single [] = refl
more_single (n ∷ ns) = more_single ns

names_single : (ns : List ℕ) → is_single (names_tokens ns) ≡ true
names_single [] = refl
names_single (n ∷ ns) = more_single ns

list_single : (b : Bool) (turned : Bool) (list : ℕ) → (list == 0) ≡ b → is_single (list_tokens turned list) ≡ true
list_single true turned list is = rw is refl
list_single false turned list is = rw is (names_single (listed turned list))

pub led_single : (c : ℕ) (o : Operand68) → is_single (led_tokens c o) ≡ true
led_single c operands.Nothing = refl
led_single c (operands.Place size mode) = mode_single size mode
led_single c (operands.Number size n) = number_single size n
led_single c (operands.Registers turned list) = list_single (list == 0) turned list refl
led_single c o = refl

pub size_single : (size : Option Size) → is_single (size_tokens size) ≡ true
size_single None = refl
size_single (Some Byte) = refl
size_single (Some Word) = refl
size_single (Some Long) = refl
