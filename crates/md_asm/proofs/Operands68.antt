-- The numbers of the 68000's operands: an instruction's own are in their ranges, and others of the range take their places.
use Rattle.std.proofs.Common.{◌≡◌, ℕ, ◌%◌, ◌<◌, ◌≤◌, ◌==◌, Bool, true, false, ◌&&◌, nat_le, nat_lt, List, [], ◌∷◌, refl, ap, subst, arith, Some, None}
use Rattle.std.specs.Prelude.{slice_index}
use Rattle.std.proofs.lemmas.Bool.{lt-ltb}
use Rattle.std.proofs.lemmas.Bool.Decides.{nat_tests}
use Rattle.md_word.specs.Width.{modulus_of}
use Rattle.md_word.specs.declared.mode.Mode.{Mode}
use Rattle.md_word.specs.declared.mode.Mode.TheVariants as modes
use Rattle.md_word.specs.declared.size.Size.{Size}
use Rattle.md_word.specs.declared.size.Size.TheVariants.{Byte, Word, Long}
use Rattle.m68k_decode.specs.Fields.{quick}
use Rattle.m68k_decode.specs.Instructions.{made}
use Rattle.m68k_decode.specs.Rows as rows
use Rattle.m68k_decode.specs.Rows.{Row}
use Rattle.m68k_decode.specs.declared.op.Op.{Op}
use Rattle.md_disasm.specs.Rows68.{row_of}
use Rattle.md_disasm.specs.declared.operand68.Operand68.{Operand68}
use Rattle.md_disasm.specs.declared.operand68.Operand68.TheVariants as operands
use Rattle.md_asm_text.specs.Tokens as tokens
use Rattle.md_asm_text.specs.Tokens.{Token}
use Rattle.asm_m68k.proofs.Lists.{list_tokens, listed, more_tokens, names_tokens}
use Rattle.asm_m68k.proofs.Operands.{IsWritten, mode_tokens, number_tokens}
use Rattle.asm_m68k.proofs.Sources.{IsShown, led_tokens}
use Rattle.asm_m68k.proofs.Decoded.{quick_in}
use Rattle.asm_m68k.specs.Table.{IsEntered}
use Rattle.md_asm.specs.Ranges.{digit_allows, main_allows, mode_limit}
use Rattle.md_asm.proofs.Among.{below, byte_stays, no_number, put_all}
use Rattle.md_asm.proofs.Fits.{number_of}
use Rattle.md_asm.proofs.Rows68.{mode_with, operand_with}

-- ---- an instruction's own number

fits_below : (n m limit : ℕ) → m ≡ n → m < limit → nat_lt n limit ≡ true
fits_below n m limit e h = lt-ltb n limit (omega (arith, e, h))

-- a number of one digit is one that its instruction has, and no operand is the word of what is no instruction
abbrev pub DigitFits : Op → Operand68 → Type 0
DigitFits op (operands.Digit n) = digit_allows op n ≡ true
DigitFits op (operands.Opcode word) = ⊥
DigitFits op o = Unit {0}

number_allows : (size : Size) (m n c : ℕ) → m < 4294967296 → number_of (tokens.Mark c ∷ number_tokens size m) ≡ Some n → nat_lt n (modulus_of size) ≡ true
number_allows Byte m n c h is = let e : m % 256 ≡ n = cc in fits_below n (m % 256) 256 e (omega arith)
number_allows Word m n c h is = let e : m % 65536 ≡ n = cc in fits_below n (m % 65536) 65536 e (omega arith)
number_allows Long m n c h is = let e : m ≡ n = cc in fits_below n m 4294967296 e h

mode_allows : (size : Size) (mode : Mode) (n c : ℕ) → IsWritten mode → number_of (tokens.Mark c ∷ mode_tokens size mode) ≡ Some n → nat_lt n (mode_limit size mode) ≡ true
mode_allows size (modes.Displaced r by) n c h is = let e : by ≡ n = cc in fits_below n by 65536 e h
mode_allows size (modes.Indexed r index long by) n c h is = let e : by ≡ n = cc in fits_below n by 256 e h
mode_allows size (modes.AbsShort at) n c h is = let e : at ≡ n = cc in fits_below n at 65536 e h
mode_allows size (modes.AbsLong at) n c h is = let e : at ≡ n = cc in fits_below n at 4294967296 e h
mode_allows size (modes.PcDisplaced by) n c h is = let e : by ≡ n = cc in fits_below n by 65536 e h
mode_allows size (modes.PcIndexed index long by) n c h is = let e : by ≡ n = cc in fits_below n by 256 e h
mode_allows size (modes.Immediate m) n c h is = number_allows size m n c h is
mode_allows size (modes.Data r) n c h is = cc
mode_allows size _ n c h is = cc

more_number : (ns : List ℕ) → number_of (more_tokens ns) ≡ None
more_number [] = refl
more_number (n ∷ ns) = more_number ns

names_number : (ns : List ℕ) → number_of (names_tokens ns) ≡ None
names_number [] = refl
names_number (n ∷ ns) = more_number ns

list_number : (b : Bool) (turned : Bool) (list : ℕ) → (list == 0) ≡ b → number_of (list_tokens turned list) ≡ None
list_number true turned list is = rw is refl
list_number false turned list is = rw is (names_number (listed turned list))

pub operand_allows : (op : Op) (c : ℕ) (o : Operand68) (n : ℕ) → IsShown o → DigitFits op o → number_of (led_tokens c o) ≡ Some n → main_allows op o n ≡ true
operand_allows op c (operands.Place size mode) n h d is = mode_allows size mode n c h.1 is
operand_allows op c (operands.Digit m) n h d is = let e : m ≡ n = cc in subst (λ (k : ℕ). digit_allows op k ≡ true) e d
operand_allows op c (operands.Number size m) n h d is = number_allows size m n c h is
operand_allows op c (operands.Target address) n h d is = let e : address ≡ n = cc in fits_below n address 4294967296 e h
operand_allows op c (operands.Opcode word) n h d is = absurd d
operand_allows op c (operands.Registers turned list) n h d is = let none = list_number (list == 0) turned list refl in cc
operand_allows op c operands.Nothing n h d is = cc
operand_allows op c _ n h d is = cc

-- ---- the numbers of one digit

quick_allows : (n : ℕ) → (0 < n) × (n ≤ 8) → (nat_le 1 n && nat_le n 8) ≡ true
quick_allows n h = let low = h.0 in let high = h.1 in grind (arith, nat_tests)

vector_allows : (w : ℕ) → nat_lt (w % 16) 16 ≡ true
vector_allows w = lt-ltb (w % 16) 16 (omega arith)

pub row_digits : (row : Row) (words : List ℕ) (at : ℕ) → IsEntered row (slice_index words 0)
    → DigitFits (made row words).op (row_of (made row words).op at).first × DigitFits (made row words).op (row_of (made row words).op at).second
unfolding made
row_digits (rows.Quick own) words at is = (quick_allows (quick words) (quick_in words), tt)
row_digits rows.Trap words at is = (vector_allows (slice_index words 0), tt)
row_digits rows.ShiftByNumber words at is = (quick_allows (quick words) (quick_in words), tt)
row_digits rows.Illegal words at is = absurd is
row_digits _ words at is = (tt, tt)

-- ---- another number in its place

word_stays : (n : ℕ) → n < 65536 → n % 65536 ≡ n
word_stays n h = omega arith

number_with : (size : Size) (m n : ℕ) → nat_lt n (modulus_of size) ≡ true → number_tokens size n ≡ put_all n (number_tokens size m)
number_with Byte m n h = rw (byte_stays n (below n 256 h)) refl
number_with Word m n h = rw (word_stays n (below n 65536 h)) refl
number_with Long m n h = refl

tokens_with : (size : Size) (mode : Mode) (n : ℕ) → nat_lt n (mode_limit size mode) ≡ true → mode_tokens size (mode_with n mode) ≡ put_all n (mode_tokens size mode)
tokens_with size (modes.Displaced r by) n h = refl
tokens_with size (modes.Indexed r index true by) n h = refl
tokens_with size (modes.Indexed r index false by) n h = refl
tokens_with size (modes.AbsShort at) n h = refl
tokens_with size (modes.AbsLong at) n h = refl
tokens_with size (modes.PcDisplaced by) n h = refl
tokens_with size (modes.PcIndexed index true by) n h = refl
tokens_with size (modes.PcIndexed index false by) n h = refl
tokens_with size (modes.Immediate m) n h = number_with size m n h
tokens_with size (modes.Data r) n h = absurd (no_number n h)
tokens_with size _ n h = absurd (no_number n h)

pub led_with : (op : Op) (c : ℕ) (o : Operand68) (n : ℕ) → main_allows op o n ≡ true → led_tokens c (operand_with n o) ≡ put_all n (led_tokens c o)
led_with op c (operands.Place size mode) n h = ap (λ (l : List Token). tokens.Mark c ∷ l) (tokens_with size mode n h)
led_with op c (operands.Digit m) n h = refl
led_with op c (operands.Number size m) n h = ap (λ (l : List Token). tokens.Mark c ∷ l) (number_with size m n h)
led_with op c (operands.Target address) n h = refl
led_with op c operands.Nothing n h = cc
led_with op c _ n h = cc
