-- What the code reads of an instruction's tokens. It takes every text for one of the forms that its
-- kinds of tokens allow; what it made of it is compared with the text afterwards, so nobody has to
-- believe this file.
use Rattle.std.specs.Prelude.{ℕ, ◌+◌, ◌-◌, ◌%◌, ◌^◌, ◌==◌, Bool, false, if◌then◌else◌, List, [], ◌∷◌, Option, Some, None}
use Rattle.md_word.specs.declared.size.Size.{Size}
use Rattle.md_word.specs.declared.size.Size.TheVariants.{Byte, Word, Long}
use Rattle.md_asm_text.specs.Operands.{operands_of}
use Rattle.md_asm_text.specs.Tokens as tokens
use Rattle.md_asm_text.specs.Tokens.{Token}
use Rattle.asm_m68k.specs.declared.form.Form.{Form}
use Rattle.asm_m68k.specs.declared.form.Form.TheVariants as forms

-- a register of sixteen: a letter and a digit
unfoldable pub register_of : List ℕ → ℕ
register_of (c ∷ d ∷ cs) = if c == 97 then 8 + d % 8 else d % 8
register_of _ = 0

-- the same of one kind
abbrev pub low_register_of : List ℕ → ℕ
low_register_of word = register_of word % 8

-- whether a word begins with this character
abbrev pub begins : ℕ → List ℕ → Bool
begins c [] = false
begins c (d ∷ cs) = d == c

-- a word that is an operand
unfoldable pub word_form : List ℕ → Form
word_form (a ∷ b ∷ []) = if a == 115 then forms.Sr else forms.Register (register_of (a ∷ b ∷ []))
word_form (a ∷ b ∷ c ∷ []) = if a == 99 then forms.Ccr else forms.Usp
word_form _ = forms.Registers 0 0

-- the bits of a list's registers, from D0 up and from A7 down
abbrev pub Masks : Type 0
Masks = ℕ × ℕ

abbrev pub with_register : ℕ → Masks → Masks
with_register n masks = ((2 ^ n + masks.0) % 65536, (2 ^ (15 - n) + masks.1) % 65536)

unfoldable pub masks_of : List Token → Masks
masks_of [] = (0, 0)
masks_of (tokens.Word word ∷ ps) = with_register (register_of word) (masks_of ps)
masks_of (p ∷ ps) = masks_of ps

abbrev pub registers_of : List Token → Form
registers_of ps = forms.Registers (masks_of ps).0 (masks_of ps).1

-- (An) or (An)+, by what follows An
abbrev pub bracketed : List ℕ → List Token → Form
bracketed word [] = forms.Nothing
bracketed word (p ∷ []) = forms.Indirect (low_register_of word)
bracketed word (p ∷ q ∷ ps) = forms.PostInc (low_register_of word)

-- after -(
abbrev pub lowered : List Token → Form
lowered (tokens.Word word ∷ ps) = forms.PreDec (low_register_of word)
lowered ps = forms.Nothing

-- after a character
abbrev pub marked : List Token → Form
marked [] = forms.Nothing
marked (tokens.Number n ∷ ps) = forms.Immediate n
marked (tokens.Word word ∷ ps) = bracketed word ps
marked (p ∷ ps) = lowered ps

-- d8(An,Xn) and d8(PC,Xn)
abbrev pub indexed : ℕ → List ℕ → List ℕ → List ℕ → Form
indexed n word index size =
    if begins 112 word then forms.PcIndexed (register_of index) (begins 108 size) n
    else forms.Indexed (low_register_of word) (register_of index) (begins 108 size) n

-- after the index register
abbrev pub with_index : ℕ → List ℕ → List ℕ → List Token → Form
with_index n word index (p ∷ tokens.Word size ∷ ps) = indexed n word index size
with_index n word index ps = forms.Nothing

-- after the base register and a bracket or a comma
abbrev pub based : ℕ → List ℕ → List Token → Form
based n word [] = if begins 112 word then forms.PcDisplaced n else forms.Displaced (low_register_of word) n
based n word (tokens.Word index ∷ ps) = with_index n word index ps
based n word (p ∷ ps) = forms.Nothing

-- after a number and a word
abbrev pub sized : ℕ → List ℕ → List Token → Form
sized n word [] = if begins 119 word then forms.Short n else forms.Long n
sized n word (p ∷ ps) = based n word ps

-- after a number and a character
abbrev pub after_number : ℕ → List Token → Form
after_number n (tokens.Word word ∷ ps) = sized n word ps
after_number n ps = forms.Nothing

abbrev pub numbered : ℕ → List Token → Form
numbered n [] = forms.Bare n
numbered n (p ∷ ps) = after_number n ps

-- a word alone, or a list of registers
abbrev pub worded : List ℕ → List Token → Form
worded word [] = word_form word
worded word (p ∷ ps) = registers_of (tokens.Word word ∷ p ∷ ps)

-- the form of an operand
unfoldable pub operand_form : List Token → Form
operand_form [] = forms.Nothing
operand_form (tokens.Word word ∷ ps) = worded word ps
operand_form (tokens.Number n ∷ ps) = numbered n ps
operand_form (p ∷ ps) = marked ps

-- an instruction as it is written
pub record Source : Type 0 where
  pub mnemonic : List ℕ
  pub size : Option Size
  pub first : Form
  pub second : Form

-- the size of a letter
abbrev pub size_of : List ℕ → Size
size_of word = if begins 98 word then Byte else (if begins 119 word then Word else Long)

abbrev pub with_operands : List ℕ → Option Size → List Token → Source
with_operands mnemonic size [] = record { mnemonic = mnemonic; size = size; first = forms.Nothing; second = forms.Nothing }
with_operands mnemonic size (p ∷ ps) =
    record { mnemonic = mnemonic; size = size; first = operand_form (operands_of false ps).0; second = operand_form (operands_of false ps).1 }

abbrev pub with_size : List ℕ → List Token → Source
with_size mnemonic (tokens.Mark c ∷ tokens.Word word ∷ ps) =
    if c == 46 then with_operands mnemonic (Some (size_of word)) ps else with_operands mnemonic None (tokens.Mark c ∷ tokens.Word word ∷ ps)
with_size mnemonic ps = with_operands mnemonic None ps

unfoldable pub read_source : List Token → Source
read_source (tokens.Word mnemonic ∷ ps) = with_size mnemonic ps
read_source _ = with_operands [] None []
