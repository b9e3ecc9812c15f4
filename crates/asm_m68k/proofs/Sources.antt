-- What is read of the text of a row: its name, its size and the forms of its operands.
use Rattle.std.proofs.Common.{◌≡◌, ℕ, ◌+◌, ◌-◌, ◌<◌, true, false, List, [], ◌∷◌, ◌++◌, append_assoc, append-nil, refl, ap, ◌∙◌, sym, codes, Option, Some, None}
use Rattle.md_word.specs.Modes.{IsMode}
use Rattle.md_word.specs.declared.mode.Mode.{Mode}
use Rattle.md_word.specs.declared.mode.Mode.TheVariants as modes
use Rattle.md_word.specs.declared.size.Size.{Size}
use Rattle.md_word.specs.declared.size.Size.TheVariants.{Byte, Word, Long}
use Rattle.md_disasm.specs.Digits.{one_digit, four_digits, eight_digits, marked_digit, marked_word, marked_long}
use Rattle.md_disasm.specs.Operands68.{operand_text, register_name}
use Rattle.md_disasm.specs.Rows68.{Row68}
use Rattle.md_disasm.specs.Texts68.{led, row_text, size_text}
use Rattle.md_disasm.specs.declared.operand68.Operand68.{Operand68}
use Rattle.md_disasm.specs.declared.operand68.Operand68.TheVariants as operands
use Rattle.md_asm_text.specs.Operands.{operands_of}
use Rattle.md_asm_text.specs.Tokens as tokens
use Rattle.md_asm_text.specs.Tokens.{Token, every, is_worded, is_name, split, token_of, opened}
use Rattle.md_asm_text.proofs.Splits.{is_end, name_opens, register_split, number_1, number_4, number_8, mark_split, word_split, following, apart}
use Rattle.asm_m68k.specs.Reading.{Source, operand_form, word_form, read_source, with_operands, with_size}
use Rattle.asm_m68k.specs.declared.form.Form.{Form}
use Rattle.asm_m68k.specs.declared.form.Form.TheVariants as forms
use Rattle.asm_m68k.proofs.Operands.{IsWritten, data_word, address_word, either_form, data_read, address_read, form_of_mode, form_of_number, mode_tokens, mode_read, mode_split, name_split, number_parts, number_tokens, number_read, register_form}
use Rattle.asm_m68k.proofs.Lists.{list_alone, list_apart, list_form, list_tokens, list_read, list_split}

-- ---- operands

abbrev pub operand_tokens : Operand68 → List Token
operand_tokens operands.Nothing = []
operand_tokens (operands.Place size mode) = mode_tokens size mode
operand_tokens (operands.Data n) = data_word n ∷ []
operand_tokens (operands.Address n) = address_word n ∷ []
operand_tokens (operands.Either n) = tokens.Word (register_name n) ∷ []
operand_tokens operands.Sr = tokens.Word (codes "sr") ∷ []
operand_tokens operands.Ccr = tokens.Word (codes "ccr") ∷ []
operand_tokens operands.Usp = tokens.Word (codes "usp") ∷ []
operand_tokens (operands.Digit n) = tokens.Mark 35 ∷ tokens.Number n ∷ []
operand_tokens (operands.Number size n) = number_tokens size n
operand_tokens (operands.Target address) = tokens.Number address ∷ []
operand_tokens (operands.Opcode word) = tokens.Number word ∷ []
operand_tokens (operands.Registers turned list) = list_tokens turned list

-- its registers are some that there are, and its numbers have as many digits as are written
abbrev pub IsShown : Operand68 → Type 0
IsShown operands.Nothing = Unit {0}
IsShown (operands.Place size mode) = IsMode mode × IsWritten mode
IsShown (operands.Data n) = n < 8
IsShown (operands.Address n) = n < 8
IsShown (operands.Either n) = n < 16
IsShown operands.Sr = Unit {0}
IsShown operands.Ccr = Unit {0}
IsShown operands.Usp = Unit {0}
IsShown (operands.Digit n) = n < 16
IsShown (operands.Number size n) = n < 4294967296
IsShown (operands.Target address) = address < 4294967296
IsShown (operands.Opcode word) = word < 65536
IsShown (operands.Registers turned list) = list < 65536

-- a word of letters
pub operand_split : (o : Operand68) (e : List ℕ) → IsShown o → is_end e ≡ true → split [] (operand_text o ++ e) ≡ operand_tokens o ++ split [] e
unfolding marked_digit marked_word marked_long is_worded token_of is_name
operand_split operands.Nothing e h ends = refl
operand_split (operands.Place size mode) e h ends = mode_split size mode e h.1 ends
operand_split (operands.Data n) e h ends = ap (split []) (apart (codes "d") (one_digit n) [] e) ∙ register_split 100 n e refl refl ends
operand_split (operands.Address n) e h ends = ap (split []) (apart (codes "a") (one_digit n) [] e) ∙ register_split 97 n e refl refl ends
operand_split (operands.Either n) e h ends = name_split n e ends
operand_split operands.Sr e h ends = word_split (codes "sr") e refl ends
operand_split operands.Ccr e h ends = word_split (codes "ccr") e refl ends
operand_split operands.Usp e h ends = word_split (codes "usp") e refl ends
operand_split (operands.Digit n) e h ends =
    ap (split []) (apart (codes "#$") (one_digit n) [] e) ∙ mark_split 35 (36 ∷ (one_digit n ++ e)) refl ∙ following _ _ _ (number_1 n e h ends)
operand_split (operands.Number size n) e h ends = number_parts size n e h ends
operand_split (operands.Target address) e h ends = ap (split []) (apart (codes "$") (eight_digits address) [] e) ∙ number_8 address e h ends
operand_split (operands.Opcode word) e h ends = ap (split []) (apart (codes "$") (four_digits word) [] e) ∙ number_4 word e h ends
operand_split (operands.Registers turned list) e h ends = list_split turned list e ends

abbrev pub form_of : Operand68 → Form
form_of operands.Nothing = forms.Nothing
form_of (operands.Place size mode) = form_of_mode size mode
form_of (operands.Data n) = forms.Register n
form_of (operands.Address n) = forms.Register (8 + n)
form_of (operands.Either n) = forms.Register n
form_of operands.Sr = forms.Sr
form_of operands.Ccr = forms.Ccr
form_of operands.Usp = forms.Usp
form_of (operands.Digit n) = forms.Immediate n
form_of (operands.Number size n) = form_of_number size n
form_of (operands.Target address) = forms.Bare address
form_of (operands.Opcode word) = forms.Bare word
form_of (operands.Registers turned list) = list_form turned list

pub operand_read : (o : Operand68) → IsShown o → operand_form (operand_tokens o) ≡ form_of o
unfolding operand_form word_form
operand_read operands.Nothing h = refl
operand_read (operands.Place size mode) h = mode_read size mode h.0
operand_read (operands.Data n) h = register_form 100 n refl ∙ ap forms.Register (data_read n h)
operand_read (operands.Address n) h = register_form 97 n refl ∙ ap forms.Register (address_read n h)
operand_read (operands.Either n) h = either_form n h
operand_read operands.Sr h = refl
operand_read operands.Ccr h = refl
operand_read operands.Usp h = refl
operand_read (operands.Digit n) h = refl
operand_read (operands.Number size n) h = number_read size n
operand_read (operands.Target address) h = refl
operand_read (operands.Opcode word) h = refl
operand_read (operands.Registers turned list) h = list_read turned list

-- ---- the comma between two operands

abbrev comma : Token
comma = tokens.Mark 44

pub mode_apart : (size : Size) (mode : Mode) (rest : List Token) → operands_of false (mode_tokens size mode ++ comma ∷ rest) ≡ (mode_tokens size mode, rest)
unfolding operands_of
mode_apart size (modes.Data n) rest = refl
mode_apart size (modes.Address n) rest = refl
mode_apart size (modes.Indirect n) rest = refl
mode_apart size (modes.PostInc n) rest = refl
mode_apart size (modes.PreDec n) rest = refl
mode_apart size (modes.Displaced n by) rest = refl
mode_apart size (modes.Indexed n index long by) rest = refl
mode_apart size (modes.AbsShort at) rest = refl
mode_apart size (modes.AbsLong at) rest = refl
mode_apart size (modes.PcDisplaced by) rest = refl
mode_apart size (modes.PcIndexed index long by) rest = refl
mode_apart Byte (modes.Immediate n) rest = refl
mode_apart Word (modes.Immediate n) rest = refl
mode_apart Long (modes.Immediate n) rest = refl

mode_alone : (size : Size) (mode : Mode) → operands_of false (mode_tokens size mode) ≡ (mode_tokens size mode, [])
unfolding operands_of
mode_alone size (modes.Data n) = refl
mode_alone size (modes.Address n) = refl
mode_alone size (modes.Indirect n) = refl
mode_alone size (modes.PostInc n) = refl
mode_alone size (modes.PreDec n) = refl
mode_alone size (modes.Displaced n by) = refl
mode_alone size (modes.Indexed n index long by) = refl
mode_alone size (modes.AbsShort at) = refl
mode_alone size (modes.AbsLong at) = refl
mode_alone size (modes.PcDisplaced by) = refl
mode_alone size (modes.PcIndexed index long by) = refl
mode_alone Byte (modes.Immediate n) = refl
mode_alone Word (modes.Immediate n) = refl
mode_alone Long (modes.Immediate n) = refl

number_apart : (size : Size) (n : ℕ) (rest : List Token) → operands_of false (number_tokens size n ++ comma ∷ rest) ≡ (number_tokens size n, rest)
unfolding operands_of
number_apart Byte n rest = refl
number_apart Word n rest = refl
number_apart Long n rest = refl

number_alone : (size : Size) (n : ℕ) → operands_of false (number_tokens size n) ≡ (number_tokens size n, [])
unfolding operands_of
number_alone Byte n = refl
number_alone Word n = refl
number_alone Long n = refl

pub operand_apart : (o : Operand68) (rest : List Token) → operands_of false (operand_tokens o ++ comma ∷ rest) ≡ (operand_tokens o, rest)
unfolding operands_of
operand_apart operands.Nothing rest = refl
operand_apart (operands.Place size mode) rest = mode_apart size mode rest
operand_apart (operands.Data n) rest = refl
operand_apart (operands.Address n) rest = refl
operand_apart (operands.Either n) rest = refl
operand_apart operands.Sr rest = refl
operand_apart operands.Ccr rest = refl
operand_apart operands.Usp rest = refl
operand_apart (operands.Digit n) rest = refl
operand_apart (operands.Number size n) rest = number_apart size n rest
operand_apart (operands.Target address) rest = refl
operand_apart (operands.Opcode word) rest = refl
operand_apart (operands.Registers turned list) rest = list_apart turned list rest

pub operand_alone : (o : Operand68) → operands_of false (operand_tokens o) ≡ (operand_tokens o, [])
unfolding operands_of
operand_alone operands.Nothing = refl
operand_alone (operands.Place size mode) = mode_alone size mode
operand_alone (operands.Data n) = refl
operand_alone (operands.Address n) = refl
operand_alone (operands.Either n) = refl
operand_alone operands.Sr = refl
operand_alone operands.Ccr = refl
operand_alone operands.Usp = refl
operand_alone (operands.Digit n) = refl
operand_alone (operands.Number size n) = number_alone size n
operand_alone (operands.Target address) = refl
operand_alone (operands.Opcode word) = refl
operand_alone (operands.Registers turned list) = list_alone turned list

-- ---- rows

abbrev pub led_tokens : ℕ → Operand68 → List Token
led_tokens mark operands.Nothing = []
led_tokens mark o = tokens.Mark mark ∷ operand_tokens o

led_split : (c : ℕ) (o : Operand68) (e : List ℕ) → is_worded c ≡ false → IsShown o → is_end e ≡ true → split [] (led (c ∷ []) o ++ e) ≡ led_tokens c o ++ split [] e
led_split c operands.Nothing e is h ends = refl
led_split c (operands.Place size mode) e is h ends = mark_split c (operand_text (operands.Place size mode) ++ e) is ∙ following _ _ _ (operand_split (operands.Place size mode) e h ends)
led_split c (operands.Data n) e is h ends = mark_split c (operand_text (operands.Data n) ++ e) is ∙ following _ _ _ (operand_split (operands.Data n) e h ends)
led_split c (operands.Address n) e is h ends = mark_split c (operand_text (operands.Address n) ++ e) is ∙ following _ _ _ (operand_split (operands.Address n) e h ends)
led_split c (operands.Either n) e is h ends = mark_split c (operand_text (operands.Either n) ++ e) is ∙ following _ _ _ (operand_split (operands.Either n) e h ends)
led_split c operands.Sr e is h ends = mark_split c (operand_text operands.Sr ++ e) is ∙ following _ _ _ (operand_split operands.Sr e h ends)
led_split c operands.Ccr e is h ends = mark_split c (operand_text operands.Ccr ++ e) is ∙ following _ _ _ (operand_split operands.Ccr e h ends)
led_split c operands.Usp e is h ends = mark_split c (operand_text operands.Usp ++ e) is ∙ following _ _ _ (operand_split operands.Usp e h ends)
led_split c (operands.Digit n) e is h ends = mark_split c (operand_text (operands.Digit n) ++ e) is ∙ following _ _ _ (operand_split (operands.Digit n) e h ends)
led_split c (operands.Number size n) e is h ends = mark_split c (operand_text (operands.Number size n) ++ e) is ∙ following _ _ _ (operand_split (operands.Number size n) e h ends)
led_split c (operands.Target address) e is h ends = mark_split c (operand_text (operands.Target address) ++ e) is ∙ following _ _ _ (operand_split (operands.Target address) e h ends)
led_split c (operands.Opcode word) e is h ends = mark_split c (operand_text (operands.Opcode word) ++ e) is ∙ following _ _ _ (operand_split (operands.Opcode word) e h ends)
led_split c (operands.Registers turned list) e is h ends = mark_split c (operand_text (operands.Registers turned list) ++ e) is ∙ following _ _ _ (operand_split (operands.Registers turned list) e h ends)

led_end : (c : ℕ) (o : Operand68) (e : List ℕ) → is_worded c ≡ false → is_end e ≡ true → is_end (led (c ∷ []) o ++ e) ≡ true
led_end c operands.Nothing e is ends = ends
led_end c (operands.Place size mode) e is ends = rw is refl
led_end c (operands.Data n) e is ends = rw is refl
led_end c (operands.Address n) e is ends = rw is refl
led_end c (operands.Either n) e is ends = rw is refl
led_end c operands.Sr e is ends = rw is refl
led_end c operands.Ccr e is ends = rw is refl
led_end c operands.Usp e is ends = rw is refl
led_end c (operands.Digit n) e is ends = rw is refl
led_end c (operands.Number size n) e is ends = rw is refl
led_end c (operands.Target address) e is ends = rw is refl
led_end c (operands.Opcode word) e is ends = rw is refl
led_end c (operands.Registers turned list) e is ends = rw is refl

abbrev pub size_tokens : Option Size → List Token
size_tokens None = []
size_tokens (Some Byte) = tokens.Mark 46 ∷ tokens.Word (codes "b") ∷ []
size_tokens (Some Word) = tokens.Mark 46 ∷ tokens.Word (codes "w") ∷ []
size_tokens (Some Long) = tokens.Mark 46 ∷ tokens.Word (codes "l") ∷ []

size_split : (size : Option Size) (e : List ℕ) → is_end e ≡ true → split [] (size_text size ++ e) ≡ size_tokens size ++ split [] e
unfolding is_worded token_of is_name
size_split None e ends = refl
size_split (Some Byte) e ends = mark_split 46 (98 ∷ e) refl ∙ following _ _ _ (word_split (codes "b") e refl ends)
size_split (Some Word) e ends = mark_split 46 (119 ∷ e) refl ∙ following _ _ _ (word_split (codes "w") e refl ends)
size_split (Some Long) e ends = mark_split 46 (108 ∷ e) refl ∙ following _ _ _ (word_split (codes "l") e refl ends)

pub size_end : (size : Option Size) (e : List ℕ) → is_end e ≡ true → is_end (size_text size ++ e) ≡ true
unfolding is_worded
size_end None e ends = ends
size_end (Some Byte) e ends = refl
size_end (Some Word) e ends = refl
size_end (Some Long) e ends = refl

abbrev pub row_tokens : Row68 → List Token
row_tokens row = tokens.Word row.name ∷ (size_tokens row.size ++ (led_tokens 32 row.first ++ led_tokens 44 row.second))

pub row_shape : (name size first second : List ℕ) → ((name ++ size) ++ first) ++ second ≡ name ++ (size ++ (first ++ (second ++ [])))
row_shape name size first second =
    append_assoc (name ++ size) first second ∙ append_assoc name size (first ++ second) ∙ ap (λ (l : List ℕ). name ++ (size ++ (first ++ l))) (sym (append-nil second))

comma_worded : is_worded 44 ≡ false
unfolding is_worded
comma_worded = refl

blank_worded : is_worded 32 ≡ false
unfolding is_worded
blank_worded = refl

nothing_left : split [] [] ≡ []
unfolding split
nothing_left = refl

pub row_split : (row : Row68) → every is_worded row.name ≡ true → IsShown row.first → IsShown row.second → opened [] (row_text row) ≡ row_tokens row
row_split row named first second =
    let last = led (codes ",") row.second ++ [] in
    let end_2 : is_end last ≡ true = led_end 44 row.second [] comma_worded refl in
    let end_1 : is_end (led (codes " ") row.first ++ last) ≡ true = led_end 32 row.first last blank_worded end_2 in
    ap (opened []) (row_shape row.name (size_text row.size) (led (codes " ") row.first) (led (codes ",") row.second))
    ∙ name_opens row.name (size_text row.size ++ (led (codes " ") row.first ++ last)) named (size_end row.size _ end_1)
    ∙ following _ _ _ (size_split row.size _ end_1
    ∙ ap (λ (l : List Token). size_tokens row.size ++ l) (led_split 32 row.first last blank_worded first end_2
    ∙ ap (λ (l : List Token). led_tokens 32 row.first ++ l) (led_split 44 row.second [] comma_worded second refl
    ∙ ap (λ (l : List Token). led_tokens 44 row.second ++ l) nothing_left ∙ append-nil (led_tokens 44 row.second))))

-- ---- what is read of a row

abbrev pub source_of : Row68 → Source
source_of row = record { mnemonic = row.name; size = row.size; first = form_of row.first; second = form_of row.second }

none_sized : (mnemonic : List ℕ) (ps : List Token) → with_size mnemonic (tokens.Mark 32 ∷ ps) ≡ with_operands mnemonic None (tokens.Mark 32 ∷ ps)
none_sized mnemonic [] = refl
none_sized mnemonic (tokens.Word w ∷ ps) = refl
none_sized mnemonic (tokens.Number n ∷ ps) = refl
none_sized mnemonic (tokens.Name s ∷ ps) = refl
none_sized mnemonic (tokens.Mark c ∷ ps) = refl

-- the operands of a row: there are none, one or two
abbrev tail : Operand68 → Operand68 → List Token
tail first second = led_tokens 32 first ++ led_tokens 44 second

abbrev read_tail : List ℕ → Option Size → Operand68 → Operand68 → Source
read_tail mnemonic size first second = record { mnemonic = mnemonic; size = size; first = form_of first; second = form_of second }

two_read : (mnemonic : List ℕ) (size : Option Size) (first second : Operand68) → IsShown first → IsShown second
    → with_operands mnemonic size (tokens.Mark 32 ∷ (operand_tokens first ++ (comma ∷ operand_tokens second))) ≡ read_tail mnemonic size first second
two_read mnemonic size first second f s = rw (operand_apart first (operand_tokens second), operand_read first f, operand_read second s) refl

nothing_read : operand_form [] ≡ forms.Nothing
unfolding operand_form
nothing_read = refl

one_read : (mnemonic : List ℕ) (size : Option Size) (first : Operand68) → IsShown first
    → with_operands mnemonic size (tokens.Mark 32 ∷ operand_tokens first) ≡ read_tail mnemonic size first operands.Nothing
one_read mnemonic size first f = rw (operand_alone first, operand_read first f, nothing_read) refl

sized_read : (mnemonic : List ℕ) (size : Option Size) (ps : List Token) → with_size mnemonic (size_tokens size ++ (tokens.Mark 32 ∷ ps)) ≡ with_operands mnemonic size (tokens.Mark 32 ∷ ps)
sized_read mnemonic None ps = none_sized mnemonic ps
sized_read mnemonic (Some Byte) ps = refl
sized_read mnemonic (Some Word) ps = refl
sized_read mnemonic (Some Long) ps = refl

opened_read : (row : Row68) → every is_worded row.name ≡ true → IsShown row.first → IsShown row.second
    → read_source (opened [] (row_text row)) ≡ with_size row.name (size_tokens row.size ++ (led_tokens 32 row.first ++ led_tokens 44 row.second))
unfolding read_source
opened_read row named first second = ap read_source (row_split row named first second)

-- what is read of a row of two operands, of one and of none
pub row_of_two : (row : Row68) → every is_worded row.name ≡ true → IsShown row.first → IsShown row.second
    → led_tokens 32 row.first ≡ tokens.Mark 32 ∷ operand_tokens row.first → led_tokens 44 row.second ≡ comma ∷ operand_tokens row.second
    → read_source (opened [] (row_text row)) ≡ source_of row
row_of_two row named first second one two =
    opened_read row named first second
    ∙ ap (λ (l : List Token). with_size row.name (size_tokens row.size ++ (l ++ led_tokens 44 row.second))) one
    ∙ ap (λ (l : List Token). with_size row.name (size_tokens row.size ++ (tokens.Mark 32 ∷ (operand_tokens row.first ++ l)))) two
    ∙ sized_read row.name row.size (operand_tokens row.first ++ (comma ∷ operand_tokens row.second))
    ∙ two_read row.name row.size row.first row.second first second

abbrev pub single : List ℕ → Option Size → Operand68 → Row68
single name size first = record { name = name; size = size; first = first; second = operands.Nothing }

pub row_of_one : (name : List ℕ) (size : Option Size) (first : Operand68) → every is_worded name ≡ true → IsShown first
    → led_tokens 32 first ≡ tokens.Mark 32 ∷ operand_tokens first → read_source (opened [] (row_text (single name size first))) ≡ source_of (single name size first)
row_of_one name size first named shown one =
    opened_read (single name size first) named shown tt
    ∙ ap (λ (l : List Token). with_size name (size_tokens size ++ (l ++ []))) one
    ∙ ap (λ (l : List Token). with_size name (size_tokens size ++ (tokens.Mark 32 ∷ l))) (append-nil (operand_tokens first))
    ∙ sized_read name size (operand_tokens first)
    ∙ one_read name size first shown
