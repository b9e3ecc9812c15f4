-- How the texts of operands fall into tokens, and what is read of them.
use Rattle.std.proofs.Common.{◌≡◌, ℕ, ◌+◌, ◌-◌, ◌%◌, ◌<◌, ◌==◌, Bool, true, false, List, [], ◌∷◌, ◌++◌, nat_lt, append_assoc, append-nil, refl, ap, ◌∙◌, arith, if◌then◌else◌, codes}
use Rattle.std.specs.Fmt.{digit_glyph}
use Rattle.std.proofs.lemmas.Bool.Decides.{nat_tests}
use Rattle.md_word.specs.Modes.{IsMode}
use Rattle.md_word.specs.declared.mode.Mode.{Mode}
use Rattle.md_word.specs.declared.mode.Mode.TheVariants as modes
use Rattle.md_word.specs.declared.size.Size.{Size}
use Rattle.md_word.specs.declared.size.Size.TheVariants.{Byte, Word, Long}
use Rattle.md_disasm.specs.Digits.{one_digit, two_digits, four_digits, eight_digits, marked_digit, marked_byte, marked_word, marked_long}
use Rattle.md_disasm.specs.Operands68.{index_text, mode_text, number_text, register_name}
use Rattle.md_asm_text.specs.Tokens as tokens
use Rattle.md_asm_text.specs.Tokens.{Token, is_worded, is_name, split, token_of}
use Rattle.md_asm_text.proofs.Splits.{is_end, register_split, number_2, number_4, number_8, mark_split, word_split, following, apart}
use Rattle.asm_m68k.specs.Reading.{operand_form, register_of, low_register_of, word_form}
use Rattle.asm_m68k.specs.declared.form.Form.{Form}
use Rattle.asm_m68k.specs.declared.form.Form.TheVariants as forms

-- ---- the tokens of operands

abbrev pub data_word : ℕ → Token
data_word n = tokens.Word (100 ∷ one_digit n)

abbrev pub address_word : ℕ → Token
address_word n = tokens.Word (97 ∷ one_digit n)

abbrev pub index_tokens : ℕ → Bool → List Token
index_tokens index long = tokens.Word (register_name index) ∷ tokens.Mark 46 ∷ tokens.Word (if long then codes "l" else codes "w") ∷ tokens.Mark 41 ∷ []

abbrev pub number_tokens : Size → ℕ → List Token
number_tokens Byte n = tokens.Mark 35 ∷ tokens.Number (n % 256) ∷ []
number_tokens Word n = tokens.Mark 35 ∷ tokens.Number (n % 65536) ∷ []
number_tokens Long n = tokens.Mark 35 ∷ tokens.Number n ∷ []

abbrev pub mode_tokens : Size → Mode → List Token
mode_tokens size (modes.Data n) = data_word n ∷ []
mode_tokens size (modes.Address n) = address_word n ∷ []
mode_tokens size (modes.Indirect n) = tokens.Mark 40 ∷ address_word n ∷ tokens.Mark 41 ∷ []
mode_tokens size (modes.PostInc n) = tokens.Mark 40 ∷ address_word n ∷ tokens.Mark 41 ∷ tokens.Mark 43 ∷ []
mode_tokens size (modes.PreDec n) = tokens.Mark 45 ∷ tokens.Mark 40 ∷ address_word n ∷ tokens.Mark 41 ∷ []
mode_tokens size (modes.Displaced n by) = tokens.Number by ∷ tokens.Mark 40 ∷ address_word n ∷ tokens.Mark 41 ∷ []
mode_tokens size (modes.Indexed n index long by) = tokens.Number by ∷ tokens.Mark 40 ∷ address_word n ∷ tokens.Mark 44 ∷ index_tokens index long
mode_tokens size (modes.AbsShort at) = tokens.Number at ∷ tokens.Mark 46 ∷ tokens.Word (codes "w") ∷ []
mode_tokens size (modes.AbsLong at) = tokens.Number at ∷ tokens.Mark 46 ∷ tokens.Word (codes "l") ∷ []
mode_tokens size (modes.PcDisplaced by) = tokens.Number by ∷ tokens.Mark 40 ∷ tokens.Word (codes "pc") ∷ tokens.Mark 41 ∷ []
mode_tokens size (modes.PcIndexed index long by) = tokens.Number by ∷ tokens.Mark 40 ∷ tokens.Word (codes "pc") ∷ tokens.Mark 44 ∷ index_tokens index long
mode_tokens size (modes.Immediate n) = number_tokens size n

-- the numbers of a mode have as many digits as are written
abbrev pub IsWritten : Mode → Type 0
IsWritten (modes.Displaced n by) = by < 65536
IsWritten (modes.Indexed n index long by) = by < 256
IsWritten (modes.AbsShort at) = at < 65536
IsWritten (modes.AbsLong at) = at < 4294967296
IsWritten (modes.PcDisplaced by) = by < 65536
IsWritten (modes.PcIndexed index long by) = by < 256
IsWritten (modes.Immediate n) = n < 4294967296
IsWritten mode = Unit {0}

-- ---- texts fall into these tokens

-- An and a bracket after it
in_bracket : (n : ℕ) (e : List ℕ) → split [] (40 ∷ 97 ∷ (one_digit n ++ (41 ∷ e))) ≡ tokens.Mark 40 ∷ address_word n ∷ tokens.Mark 41 ∷ split [] e
unfolding is_worded
in_bracket n e =
    mark_split 40 (97 ∷ (one_digit n ++ (41 ∷ e))) refl
    ∙ following _ _ _ (register_split 97 n (41 ∷ e) refl refl refl)
    ∙ following _ _ _ (following _ _ _ (mark_split 41 e refl))

-- a register of sixteen
name_split_by : (b : Bool) (n : ℕ) (e : List ℕ) → nat_lt n 8 ≡ b → is_end e ≡ true → split [] (register_name n ++ e) ≡ tokens.Word (register_name n) ∷ split [] e
unfolding register_name marked_digit is_worded one_digit
name_split_by true n e is ends = rw (is, append-nil (100 ∷ one_digit (n % 8))) (register_split 100 (n % 8) e refl refl ends)
name_split_by false n e is ends = rw (is, append-nil (97 ∷ one_digit (n % 8))) (register_split 97 (n % 8) e refl refl ends)

pub name_split : (n : ℕ) (e : List ℕ) → is_end e ≡ true → split [] (register_name n ++ e) ≡ tokens.Word (register_name n) ∷ split [] e
name_split n e ends = name_split_by (nat_lt n 8) n e refl ends

-- an index register with its size
size_letter : (long : Bool) (e : List ℕ) → split [] (46 ∷ ((if long then codes "l" else codes "w") ++ (41 ∷ e))) ≡ tokens.Mark 46 ∷ tokens.Word (if long then codes "l" else codes "w") ∷ tokens.Mark 41 ∷ split [] e
unfolding split is_worded token_of is_name
size_letter true e = refl
size_letter false e = refl

index_shape : (index : ℕ) (long : Bool) (e : List ℕ) → index_text index long ++ e ≡ register_name index ++ (46 ∷ ((if long then codes "l" else codes "w") ++ (41 ∷ e)))
unfolding index_text
index_shape index true e = append_assoc (register_name index) (codes ".l)") e
index_shape index false e = append_assoc (register_name index) (codes ".w)") e

index_split : (index : ℕ) (long : Bool) (e : List ℕ) → split [] (index_text index long ++ e) ≡ index_tokens index long ++ split [] e
unfolding is_worded
index_split index long e =
    ap (split []) (index_shape index long e)
    ∙ name_split index (46 ∷ ((if long then codes "l" else codes "w") ++ (41 ∷ e))) refl
    ∙ following _ _ _ (size_letter long e)

pub number_parts : (size : Size) (n : ℕ) (e : List ℕ) → n < 4294967296 → is_end e ≡ true → split [] (number_text size n ++ e) ≡ number_tokens size n ++ split [] e
unfolding marked_byte marked_word marked_long is_worded
number_parts Byte n e h ends =
    ap (split []) (apart (codes "#$") (two_digits (n % 256)) [] e)
    ∙ mark_split 35 (36 ∷ (two_digits (n % 256) ++ e)) refl ∙ following _ _ _ (number_2 (n % 256) e (omega arith) ends)
number_parts Word n e h ends =
    ap (split []) (apart (codes "#$") (four_digits (n % 65536)) [] e)
    ∙ mark_split 35 (36 ∷ (four_digits (n % 65536) ++ e)) refl ∙ following _ _ _ (number_4 (n % 65536) e (omega arith) ends)
number_parts Long n e h ends =
    ap (split []) (apart (codes "#$") (eight_digits n) [] e)
    ∙ mark_split 35 (36 ∷ (eight_digits n ++ e)) refl ∙ following _ _ _ (number_8 n e h ends)

-- An with a comma after it, and an index
in_index : (n index : ℕ) (long : Bool) (e : List ℕ) → is_end e ≡ true
    → split [] (40 ∷ 97 ∷ (one_digit n ++ (44 ∷ (index_text index long ++ e)))) ≡ tokens.Mark 40 ∷ address_word n ∷ tokens.Mark 44 ∷ (index_tokens index long ++ split [] e)
unfolding is_worded
in_index n index long e ends =
    mark_split 40 (97 ∷ (one_digit n ++ (44 ∷ (index_text index long ++ e)))) refl
    ∙ following _ _ _ (register_split 97 n (44 ∷ (index_text index long ++ e)) refl refl refl
    ∙ following _ _ _ (mark_split 44 (index_text index long ++ e) refl ∙ following _ _ _ (index_split index long e)))

-- PC and a bracket after it
in_pc : (e : List ℕ) → split [] (40 ∷ 112 ∷ 99 ∷ 41 ∷ e) ≡ tokens.Mark 40 ∷ tokens.Word (codes "pc") ∷ tokens.Mark 41 ∷ split [] e
unfolding split is_worded token_of is_name
in_pc e = refl

pc_comma : (l : List ℕ) → split [] (40 ∷ 112 ∷ 99 ∷ 44 ∷ l) ≡ tokens.Mark 40 ∷ tokens.Word (codes "pc") ∷ tokens.Mark 44 ∷ split [] l
unfolding split is_worded token_of is_name
pc_comma l = refl

in_pc_index : (index : ℕ) (long : Bool) (e : List ℕ)
    → split [] (40 ∷ 112 ∷ 99 ∷ 44 ∷ (index_text index long ++ e)) ≡ tokens.Mark 40 ∷ tokens.Word (codes "pc") ∷ tokens.Mark 44 ∷ (index_tokens index long ++ split [] e)
in_pc_index index long e = pc_comma (index_text index long ++ e) ∙ following _ _ _ (following _ _ _ (following _ _ _ (index_split index long e)))

-- a size after an address
short_end : (e : List ℕ) → is_end e ≡ true → split [] (46 ∷ 119 ∷ e) ≡ tokens.Mark 46 ∷ tokens.Word (codes "w") ∷ split [] e
unfolding is_worded token_of is_name
short_end e ends = mark_split 46 (119 ∷ e) refl ∙ following _ _ _ (word_split (codes "w") e refl ends)

long_end : (e : List ℕ) → is_end e ≡ true → split [] (46 ∷ 108 ∷ e) ≡ tokens.Mark 46 ∷ tokens.Word (codes "l") ∷ split [] e
unfolding is_worded token_of is_name
long_end e ends = mark_split 46 (108 ∷ e) refl ∙ following _ _ _ (word_split (codes "l") e refl ends)

pub mode_split : (size : Size) (mode : Mode) (e : List ℕ) → IsWritten mode → is_end e ≡ true → split [] (mode_text size mode ++ e) ≡ mode_tokens size mode ++ split [] e
unfolding marked_digit marked_byte marked_word marked_long is_worded
mode_split size (modes.Data n) e h ends = ap (split []) (apart (codes "d") (one_digit n) [] e) ∙ register_split 100 n e refl refl ends
mode_split size (modes.Address n) e h ends = ap (split []) (apart (codes "a") (one_digit n) [] e) ∙ register_split 97 n e refl refl ends
mode_split size (modes.Indirect n) e h ends = ap (split []) (apart (codes "(a") (one_digit n) (codes ")") e) ∙ in_bracket n e
mode_split size (modes.PostInc n) e h ends =
    ap (split []) (apart (codes "(a") (one_digit n) (codes ")+") e) ∙ in_bracket n (43 ∷ e)
    ∙ following _ _ _ (following _ _ _ (following _ _ _ (mark_split 43 e refl)))
mode_split size (modes.PreDec n) e h ends =
    ap (split []) (apart (codes "-(a") (one_digit n) (codes ")") e) ∙ mark_split 45 _ refl ∙ following _ _ _ (in_bracket n e)
mode_split size (modes.Displaced n by) e h ends =
    ap (split []) (append_assoc (marked_word (codes "$") by (codes "(a")) (marked_digit [] n (codes ")")) e
    ∙ apart (codes "$") (four_digits by) (codes "(a") (marked_digit [] n (codes ")") ++ e)
    ∙ ap (λ (l : List ℕ). 36 ∷ (four_digits by ++ (40 ∷ 97 ∷ l))) (append_assoc (one_digit n) (codes ")") e))
    ∙ number_4 by (40 ∷ 97 ∷ (one_digit n ++ (41 ∷ e))) h refl ∙ following _ _ _ (in_bracket n e)
mode_split size (modes.Indexed n index long by) e h ends =
    ap (split []) (apart (marked_byte (codes "$") by (codes "(a")) (marked_digit [] n (codes ",")) (index_text index long) e
    ∙ apart (codes "$") (two_digits by) (codes "(a") (marked_digit [] n (codes ",") ++ (index_text index long ++ e))
    ∙ ap (λ (l : List ℕ). 36 ∷ (two_digits by ++ (40 ∷ 97 ∷ l))) (append_assoc (one_digit n) (codes ",") (index_text index long ++ e)))
    ∙ number_2 by (40 ∷ 97 ∷ (one_digit n ++ (44 ∷ (index_text index long ++ e)))) h refl ∙ following _ _ _ (in_index n index long e ends)
mode_split size (modes.AbsShort at) e h ends =
    ap (split []) (apart (codes "$") (four_digits at) (codes ".w") e) ∙ number_4 at (46 ∷ 119 ∷ e) h refl ∙ following _ _ _ (short_end e ends)
mode_split size (modes.AbsLong at) e h ends =
    ap (split []) (apart (codes "$") (eight_digits at) (codes ".l") e) ∙ number_8 at (46 ∷ 108 ∷ e) h refl ∙ following _ _ _ (long_end e ends)
mode_split size (modes.PcDisplaced by) e h ends =
    ap (split []) (apart (codes "$") (four_digits by) (codes "(pc)") e) ∙ number_4 by (40 ∷ 112 ∷ 99 ∷ 41 ∷ e) h refl ∙ following _ _ _ (in_pc e)
mode_split size (modes.PcIndexed index long by) e h ends =
    ap (split []) (append_assoc (marked_byte (codes "$") by (codes "(pc,")) (index_text index long) e
    ∙ apart (codes "$") (two_digits by) (codes "(pc,") (index_text index long ++ e))
    ∙ number_2 by (40 ∷ 112 ∷ 99 ∷ 44 ∷ (index_text index long ++ e)) h refl ∙ following _ _ _ (in_pc_index index long e)
mode_split size (modes.Immediate n) e h ends = number_parts size n e h ends

-- ---- what is read of them

low_glyph : (n : ℕ) → n < 8 → digit_glyph false (n % 16) % 8 ≡ n
low_glyph n h = by (nat_lt (n % 16) 10) refl
  where
    by : (b : Bool) → nat_lt (n % 16) 10 ≡ b → (if b then 48 + n % 16 else (if false then 55 + n % 16 else 87 + n % 16)) % 8 ≡ n
    by true is = grind (arith, nat_tests)
    by false is = grind (arith, nat_tests)

pub data_read : (n : ℕ) → n < 8 → register_of (100 ∷ one_digit n) ≡ n
unfolding register_of one_digit
data_read n h = low_glyph n h

pub address_read : (n : ℕ) → n < 8 → register_of (97 ∷ one_digit n) ≡ 8 + n
unfolding register_of one_digit
address_read n h = ap (λ (x : ℕ). 8 + x) (low_glyph n h)

address_low : (n : ℕ) → n < 8 → low_register_of (97 ∷ one_digit n) ≡ n
address_low n h = let e = address_read n h in omega (arith, e)

name_read_by : (b : Bool) (n : ℕ) → n < 16 → nat_lt n 8 ≡ b → register_of (register_name n) ≡ n
unfolding register_name marked_digit
name_read_by true n h is =
    let e : register_of (100 ∷ one_digit (n % 8)) ≡ n % 8 = data_read (n % 8) (omega arith) in
    rw (is, append-nil (100 ∷ one_digit (n % 8)), e) (grind (arith, nat_tests))
name_read_by false n h is =
    let e : register_of (97 ∷ one_digit (n % 8)) ≡ 8 + n % 8 = address_read (n % 8) (omega arith) in
    rw (is, append-nil (97 ∷ one_digit (n % 8)), e) (grind (arith, nat_tests))

pub name_read : (n : ℕ) → n < 16 → register_of (register_name n) ≡ n
name_read n h = name_read_by (nat_lt n 8) n h refl

-- the word of a register of sixteen is no other operand
either_by : (b : Bool) (n : ℕ) → nat_lt n 8 ≡ b → operand_form (tokens.Word (register_name n) ∷ []) ≡ forms.Register (register_of (register_name n))
unfolding operand_form word_form register_name marked_digit one_digit
either_by true n is = rw is refl
either_by false n is = rw is refl

pub either_form : (n : ℕ) → n < 16 → operand_form (tokens.Word (register_name n) ∷ []) ≡ forms.Register n
either_form n h = either_by (nat_lt n 8) n refl ∙ ap forms.Register (name_read n h)

-- the form of a mode
abbrev pub form_of_number : Size → ℕ → Form
form_of_number Byte n = forms.Immediate (n % 256)
form_of_number Word n = forms.Immediate (n % 65536)
form_of_number Long n = forms.Immediate n

abbrev pub form_of_mode : Size → Mode → Form
form_of_mode size (modes.Data n) = forms.Register n
form_of_mode size (modes.Address n) = forms.Register (8 + n)
form_of_mode size (modes.Indirect n) = forms.Indirect n
form_of_mode size (modes.PostInc n) = forms.PostInc n
form_of_mode size (modes.PreDec n) = forms.PreDec n
form_of_mode size (modes.Displaced n by) = forms.Displaced n by
form_of_mode size (modes.Indexed n index long by) = forms.Indexed n index long by
form_of_mode size (modes.AbsShort at) = forms.Short at
form_of_mode size (modes.AbsLong at) = forms.Long at
form_of_mode size (modes.PcDisplaced by) = forms.PcDisplaced by
form_of_mode size (modes.PcIndexed index long by) = forms.PcIndexed index long by
form_of_mode size (modes.Immediate n) = form_of_number size n

pub number_read : (size : Size) (n : ℕ) → operand_form (number_tokens size n) ≡ form_of_number size n
unfolding operand_form
number_read Byte n = refl
number_read Word n = refl
number_read Long n = refl

pub register_form : (c : ℕ) (n : ℕ) → (c == 115) ≡ false → operand_form (tokens.Word (c ∷ one_digit n) ∷ []) ≡ forms.Register (register_of (c ∷ one_digit n))
unfolding operand_form word_form one_digit
register_form c n h = rw h refl

pub mode_read : (size : Size) (mode : Mode) → IsMode mode → operand_form (mode_tokens size mode) ≡ form_of_mode size mode
unfolding operand_form
mode_read size (modes.Data n) h = register_form 100 n refl ∙ ap forms.Register (data_read n h)
mode_read size (modes.Address n) h = register_form 97 n refl ∙ ap forms.Register (address_read n h)
mode_read size (modes.Indirect n) h = ap forms.Indirect (address_low n h)
mode_read size (modes.PostInc n) h = ap forms.PostInc (address_low n h)
mode_read size (modes.PreDec n) h = ap forms.PreDec (address_low n h)
mode_read size (modes.Displaced n by) h = ap (λ (r : ℕ). forms.Displaced r by) (address_low n h)
mode_read size (modes.Indexed n index true by) h = rw (address_low n h.0, name_read index h.1) refl
mode_read size (modes.Indexed n index false by) h = rw (address_low n h.0, name_read index h.1) refl
mode_read size (modes.AbsShort at) h = refl
mode_read size (modes.AbsLong at) h = refl
mode_read size (modes.PcDisplaced by) h = refl
mode_read size (modes.PcIndexed index true by) h = rw (name_read index h) refl
mode_read size (modes.PcIndexed index false by) h = rw (name_read index h) refl
mode_read size (modes.Immediate n) h = number_read size n
