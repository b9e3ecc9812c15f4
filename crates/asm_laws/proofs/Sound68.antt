-- What is read of tokens of the 68000 has registers that there are, and addresses and lists of their size.
use Rattle.std.proofs.Common.{ℕ, ◌+◌, ◌%◌, ◌<◌, ◌==◌, Bool, true, false, not, ◌&&◌, List, [], ◌∷◌, arith, if◌then◌else◌, Option, Some, None}
use Rattle.md_word.specs.declared.size.Size.{Size}
use Rattle.md_asm_text.specs.Operands.{opens, operands_of, is_comma}
use Rattle.md_asm_text.specs.Tokens as tokens
use Rattle.md_asm_text.specs.Tokens.{Token}
use Rattle.asm_m68k.specs.Forms.{IsForm}
use Rattle.asm_m68k.specs.Reading.{Source, based, begins, after_number, bracketed, indexed, lowered, low_register_of, marked, masks_of, operand_form, read_source, register_of, size_of, sized, with_index, with_operands, with_size, word_form}
use Rattle.asm_m68k.specs.declared.form.Form.{Form}
use Rattle.asm_m68k.specs.declared.form.Form.TheVariants as forms

-- ---- the forms that are read

-- numbers of 32 bits
abbrev pub AreLongs : List Token → Type 0
AreLongs [] = Unit {0}
AreLongs (tokens.Number n ∷ ps) = (n < 4294967296) × AreLongs ps
AreLongs (tokens.Word word ∷ ps) = AreLongs ps
AreLongs (tokens.Name name ∷ ps) = AreLongs ps
AreLongs (tokens.Mark c ∷ ps) = AreLongs ps

-- its registers are some that there are, and an address and a list are of their size
abbrev pub IsSound : Form → Type 0
IsSound (forms.Long at) = at < 4294967296
IsSound (forms.Registers up down) = (up < 65536) × (down < 65536)
IsSound form = IsForm form

pub either_sound : (b : Bool) (x y : Form) → IsSound x → IsSound y → IsSound (if b then x else y)
either_sound true x y h k = h
either_sound false x y h k = k

pub register_below : (word : List ℕ) → register_of word < 16
unfolding register_of
register_below [] = omega arith
register_below (c ∷ []) = omega arith
register_below (c ∷ d ∷ cs) = by (c == 97)
  where
    by : (b : Bool) → (if b then 8 + d % 8 else d % 8) < 16
    by true = omega arith
    by false = omega arith

pub low_below : (word : List ℕ) → low_register_of word < 8
low_below word = omega arith

pub none_listed : (0 < 65536) × (0 < 65536)
none_listed = (omega arith, omega arith)

pub word_sound : (word : List ℕ) → IsSound (word_form word)
unfolding word_form
word_sound [] = none_listed
word_sound (a ∷ []) = none_listed
word_sound (a ∷ b ∷ []) = either_sound (a == 115) forms.Sr (forms.Register (register_of (a ∷ b ∷ []))) tt (register_below (a ∷ b ∷ []))
word_sound (a ∷ b ∷ c ∷ []) = either_sound (a == 99) forms.Ccr forms.Usp tt tt
word_sound (a ∷ b ∷ c ∷ d ∷ more) = none_listed

pub masks_below : (ps : List Token) → ((masks_of ps).0 < 65536) × ((masks_of ps).1 < 65536)
unfolding masks_of
masks_below [] = none_listed
masks_below (tokens.Word word ∷ ps) = (omega arith, omega arith)
masks_below (tokens.Number n ∷ ps) = masks_below ps
masks_below (tokens.Name name ∷ ps) = masks_below ps
masks_below (tokens.Mark c ∷ ps) = masks_below ps

pub bracketed_sound : (word : List ℕ) (ps : List Token) → IsSound (bracketed word ps)
bracketed_sound word [] = tt
bracketed_sound word (p ∷ []) = low_below word
bracketed_sound word (p ∷ q ∷ ps) = low_below word

pub lowered_sound : (ps : List Token) → IsSound (lowered ps)
lowered_sound [] = tt
lowered_sound (tokens.Word word ∷ ps) = low_below word
lowered_sound (tokens.Number n ∷ ps) = tt
lowered_sound (tokens.Name name ∷ ps) = tt
lowered_sound (tokens.Mark c ∷ ps) = tt

pub marked_sound : (ps : List Token) → IsSound (marked ps)
marked_sound [] = tt
marked_sound (tokens.Number n ∷ ps) = tt
marked_sound (tokens.Word word ∷ ps) = bracketed_sound word ps
marked_sound (tokens.Name name ∷ ps) = lowered_sound ps
marked_sound (tokens.Mark c ∷ ps) = lowered_sound ps

pub indexed_sound : (n : ℕ) (word index size : List ℕ) → IsSound (indexed n word index size)
indexed_sound n word index size =
    either_sound (begins 112 word) (forms.PcIndexed (register_of index) (begins 108 size) n) (forms.Indexed (low_register_of word) (register_of index) (begins 108 size) n)
    (register_below index) (low_below word, register_below index)

pub with_index_sound : (n : ℕ) (word index : List ℕ) (ps : List Token) → IsSound (with_index n word index ps)
with_index_sound n word index [] = tt
with_index_sound n word index (p ∷ []) = tt
with_index_sound n word index (p ∷ tokens.Word size ∷ ps) = indexed_sound n word index size
with_index_sound n word index (p ∷ tokens.Number m ∷ ps) = tt
with_index_sound n word index (p ∷ tokens.Name name ∷ ps) = tt
with_index_sound n word index (p ∷ tokens.Mark c ∷ ps) = tt

pub based_sound : (n : ℕ) (word : List ℕ) (ps : List Token) → IsSound (based n word ps)
based_sound n word [] = either_sound (begins 112 word) (forms.PcDisplaced n) (forms.Displaced (low_register_of word) n) tt (low_below word)
based_sound n word (tokens.Word index ∷ ps) = with_index_sound n word index ps
based_sound n word (tokens.Number m ∷ ps) = tt
based_sound n word (tokens.Name name ∷ ps) = tt
based_sound n word (tokens.Mark c ∷ ps) = tt

pub sized_sound : (n : ℕ) (word : List ℕ) (ps : List Token) → n < 4294967296 → IsSound (sized n word ps)
sized_sound n word [] h = either_sound (begins 119 word) (forms.Short n) (forms.Long n) tt h
sized_sound n word (p ∷ ps) h = based_sound n word ps

pub after_sound : (n : ℕ) (ps : List Token) → n < 4294967296 → IsSound (after_number n ps)
after_sound n [] h = tt
after_sound n (tokens.Word word ∷ ps) h = sized_sound n word ps h
after_sound n (tokens.Number m ∷ ps) h = tt
after_sound n (tokens.Name name ∷ ps) h = tt
after_sound n (tokens.Mark c ∷ ps) h = tt

pub operand_sound : (ps : List Token) → AreLongs ps → IsSound (operand_form ps)
unfolding operand_form
operand_sound [] h = tt
operand_sound (tokens.Word word ∷ []) h = word_sound word
operand_sound (tokens.Word word ∷ p ∷ ps) h = masks_below (tokens.Word word ∷ p ∷ ps)
operand_sound (tokens.Number n ∷ []) h = tt
operand_sound (tokens.Number n ∷ p ∷ ps) h = after_sound n ps (h.0)
operand_sound (tokens.Name name ∷ ps) h = marked_sound ps
operand_sound (tokens.Mark c ∷ ps) h = marked_sound ps

-- one token more at the start
pub long_more : (p : Token) (ps rest : List Token) → AreLongs (p ∷ rest) → AreLongs ps → AreLongs (p ∷ ps)
long_more (tokens.Number n) ps rest h k = (h.0, k)
long_more (tokens.Word word) ps rest h k = k
long_more (tokens.Name name) ps rest h k = k
long_more (tokens.Mark c) ps rest h k = k

pub long_rest : (p : Token) (ps : List Token) → AreLongs (p ∷ ps) → AreLongs ps
long_rest (tokens.Number n) ps h = h.1
long_rest (tokens.Word word) ps h = h
long_rest (tokens.Name name) ps h = h
long_rest (tokens.Mark c) ps h = h

-- both operands
pub parts_long : (inside : Bool) (ps : List Token) → AreLongs ps → AreLongs (operands_of inside ps).0 × AreLongs (operands_of inside ps).1
unfolding operands_of
parts_long inside [] h = (tt, tt)
parts_long inside (p ∷ ps) h = by (not inside && is_comma p) (parts_long (opens inside p) ps (long_rest p ps h))
  where
    whole : List Token × List Token
    whole = (p ∷ (operands_of (opens inside p) ps).0, (operands_of (opens inside p) ps).1)

    by : (b : Bool) → AreLongs (operands_of (opens inside p) ps).0 × AreLongs (operands_of (opens inside p) ps).1
        → AreLongs (if b then ([], ps) else whole).0 × AreLongs (if b then ([], ps) else whole).1
    by true k = (tt, long_rest p ps h)
    by false k = (long_more p (operands_of (opens inside p) ps).0 ps h k.0, k.1)

-- both are sound
pub record IsSource68 (source : Source) : Type 0 where
  pub first : IsSound source.first
  pub second : IsSound source.second

pub operands_sound : (mnemonic : List ℕ) (size : Option Size) (ps : List Token) → AreLongs ps → IsSource68 (with_operands mnemonic size ps)
operands_sound mnemonic size [] h = record { first = tt; second = tt }
operands_sound mnemonic size (p ∷ ps) h =
    let parts = parts_long false ps (long_rest p ps h) in
    record { first = operand_sound (operands_of false ps).0 parts.0; second = operand_sound (operands_of false ps).1 parts.1 }

pub either_source : (b : Bool) (x y : Source) → IsSource68 x → IsSource68 y → IsSource68 (if b then x else y)
either_source true x y h k = h
either_source false x y h k = k

pub sized_source : (mnemonic : List ℕ) (ps : List Token) → AreLongs ps → IsSource68 (with_size mnemonic ps)
sized_source mnemonic [] h = operands_sound mnemonic None [] h
sized_source mnemonic (tokens.Mark c ∷ []) h = operands_sound mnemonic None (tokens.Mark c ∷ []) h
sized_source mnemonic (tokens.Mark c ∷ tokens.Word word ∷ ps) h =
    either_source (c == 46) _ _ (operands_sound mnemonic (Some (size_of word)) ps h) (operands_sound mnemonic None (tokens.Mark c ∷ tokens.Word word ∷ ps) h)
sized_source mnemonic (tokens.Mark c ∷ tokens.Number n ∷ ps) h = operands_sound mnemonic None (tokens.Mark c ∷ tokens.Number n ∷ ps) h
sized_source mnemonic (tokens.Mark c ∷ tokens.Name name ∷ ps) h = operands_sound mnemonic None (tokens.Mark c ∷ tokens.Name name ∷ ps) h
sized_source mnemonic (tokens.Mark c ∷ tokens.Mark d ∷ ps) h = operands_sound mnemonic None (tokens.Mark c ∷ tokens.Mark d ∷ ps) h
sized_source mnemonic (tokens.Word word ∷ ps) h = operands_sound mnemonic None (tokens.Word word ∷ ps) h
sized_source mnemonic (tokens.Number n ∷ ps) h = operands_sound mnemonic None (tokens.Number n ∷ ps) h
sized_source mnemonic (tokens.Name name ∷ ps) h = operands_sound mnemonic None (tokens.Name name ∷ ps) h

pub read_sound : (line_tokens : List Token) → AreLongs line_tokens → IsSource68 (read_source line_tokens)
unfolding read_source
read_sound [] h = operands_sound [] None [] tt
read_sound (tokens.Word mnemonic ∷ ps) h = sized_source mnemonic ps h
read_sound (tokens.Number n ∷ ps) h = operands_sound [] None [] tt
read_sound (tokens.Name name ∷ ps) h = operands_sound [] None [] tt
read_sound (tokens.Mark c ∷ ps) h = operands_sound [] None [] tt
