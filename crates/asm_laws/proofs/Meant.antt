-- The other direction: a line that has a length has the form of some instruction, and a number that fits is in one.
use Rattle.std.proofs.Common.{◌≡◌, ℕ, ◌<◌, Bool, true, false, List, [], ◌∷◌, ◌++◌, length, append-nil, refl, ap, ◌∙◌, sym, arith, Option, Some, None}
use Rattle.std.specs.Prelude.{is_some, option_map}
use Rattle.m68k_decode.specs.Instructions as main
use Rattle.z80_decode.specs.Instructions as sub
use Rattle.md_disasm.specs.Texts68 as main_texts
use Rattle.md_disasm.specs.Texts80 as sub_texts
use Rattle.md_asm_text.specs.Tokens as tokens
use Rattle.md_asm_text.specs.Tokens.{Token}
use Rattle.asm_m68k.specs.Table.{AreWords}
use Rattle.asm_z80.specs.Coded80.{AreBytes}
use Rattle.md_asm_text.specs.declared.body.Body.TheVariants.{Instruction}
use Rattle.md_asm.specs.Codes.{code, in_bytes, main_code, sub_code}
use Rattle.md_asm.specs.Contents.{misfit, size, under}
use Rattle.md_asm.specs.Numbers.{alone, filled}
use Rattle.asm_laws.proofs.MainChosen.{least}
use Rattle.asm_laws.proofs.SubChosen.{chosen}
use Rattle.md_asm.proofs.SubTexts as sub_found
use Rattle.md_asm.proofs.Texts as main_found
use Rattle.md_asm.specs.Forms.{HasNumber, IsForm, IsMainForm, IsSubForm, StandsIn}
use Rattle.md_asm.proofs.Among.{not_false}
use Rattle.md_asm.proofs.Fits.{alone_is, filled_both, filled_long}
use Rattle.asm_laws.proofs.Places80.{none_byte}
use Rattle.asm_laws.proofs.Sound68.{AreLongs}
use Rattle.asm_laws.proofs.Tried68.{tried_words}
use Rattle.asm_laws.proofs.Tried80.{tried_bytes}
use Rattle.md_asm.proofs.Coded68.{in_bytes_long}

-- ---- tokens with 8 for their numbers

filled_again : (line_tokens : List Token) → filled (filled line_tokens) ≡ filled line_tokens
filled_again [] = refl
filled_again (tokens.Word word ∷ ps) = ap (λ (l : List Token). tokens.Word word ∷ l) (filled_again ps)
filled_again (tokens.Number n ∷ ps) = ap (λ (l : List Token). tokens.Number 8 ∷ l) (filled_again ps)
filled_again (tokens.Name name ∷ ps) = ap (λ (l : List Token). tokens.Number 8 ∷ l) (filled_again ps)
filled_again (tokens.Mark c ∷ ps) = ap (λ (l : List Token). tokens.Mark c ∷ l) (filled_again ps)

filled_longs : (line_tokens : List Token) → AreLongs (filled line_tokens)
filled_longs [] = tt
filled_longs (tokens.Word word ∷ ps) = filled_longs ps
filled_longs (tokens.Number n ∷ ps) = (omega arith, filled_longs ps)
filled_longs (tokens.Name name ∷ ps) = (omega arith, filled_longs ps)
filled_longs (tokens.Mark c ∷ ps) = filled_longs ps

longs_both : (xs ys : List Token) → AreLongs xs → AreLongs ys → AreLongs (xs ++ ys)
longs_both [] ys h k = k
longs_both (tokens.Word word ∷ ps) ys h k = longs_both ps ys h k
longs_both (tokens.Number n ∷ ps) ys h k = (h.0, longs_both ps ys h.1 k)
longs_both (tokens.Name name ∷ ps) ys h k = longs_both ps ys h k
longs_both (tokens.Mark c ∷ ps) ys h k = longs_both ps ys h k

-- with one number beside
single_filled : (front following : List Token) (n : ℕ) → filled (filled front ++ tokens.Number n ∷ filled following) ≡ filled (front ++ tokens.Number n ∷ following)
single_filled front following n =
    filled_both (filled front) (tokens.Number n ∷ filled following)
    ∙ ap (λ (l : List Token). l ++ tokens.Number 8 ∷ filled (filled following)) (filled_again front)
    ∙ ap (λ (l : List Token). filled front ++ tokens.Number 8 ∷ l) (filled_again following)
    ∙ sym (filled_both front (tokens.Number n ∷ following))

-- ---- what is assembled has a text

-- bytes of the Z80 that are found for tokens
record IsSubText (line_tokens : List Token) (at : ℕ) (bytes : List ℕ) : Type 0 where
  form : (other : List Token) → filled other ≡ filled line_tokens → IsSubForm other bytes at
  text : tokens.tokens (sub_texts.text_of (sub.instruction_of bytes) at) ≡ line_tokens
  long : (sub.instruction_of bytes).length ≡ length bytes

sub_text : (line_tokens : List Token) (at : ℕ) (bytes : List ℕ) → at < 65536 → sub_code line_tokens at ≡ Some bytes → IsSubText line_tokens at bytes
sub_text line_tokens at bytes a is =
    let own = sub_found.found line_tokens bytes at is in
    let all : AreBytes bytes = rw own.own (tried_bytes line_tokens at) in
    let best = chosen line_tokens bytes at all a is in
    let text : tokens.tokens (sub_texts.text_of (sub.instruction_of bytes) at) ≡ line_tokens
    = ap (λ (l : List ℕ). tokens.tokens (sub_texts.text_of (sub.instruction_of l) at)) (sym (append-nil bytes)) ∙ best.text.text [] none_byte in record {
      form = λ other same. record { all = all; instruction = best.text.instruction; address = a; alike = same ∙ ap filled (sym text) };
      text = text;
      long = ap (λ (l : List ℕ). (sub.instruction_of l).length) (sym (append-nil bytes)) ∙ best.text.whole [] none_byte;
    }

-- words of the 68000
record IsMainText (line_tokens : List Token) (at : ℕ) (words : List ℕ) : Type 0 where
  word : ℕ
  tail : List ℕ
  are : words ≡ word ∷ tail
  form : (other : List Token) → filled other ≡ filled line_tokens → IsMainForm other word tail at
  text : tokens.tokens (main_texts.text_of (main.instruction_of (word ∷ tail)) at) ≡ line_tokens
  long : (main.instruction_of (word ∷ tail)).length ≡ length (in_bytes words)

main_text : (line_tokens : List Token) (at : ℕ) (words : List ℕ) → AreLongs line_tokens → at < 4294967296 → main_code line_tokens at ≡ Some words → IsMainText line_tokens at words
main_text line_tokens at [] longs a is = let own = (main_found.found line_tokens [] at is).own in cc
main_text line_tokens at (word ∷ tail) longs a is =
    let own = main_found.found line_tokens (word ∷ tail) at is in
    let all : AreWords (word ∷ tail) = rw own.own (tried_words line_tokens at longs) in
    let best = least line_tokens (word ∷ tail) at all a is in
    let text : tokens.tokens (main_texts.text_of (main.instruction_of (word ∷ tail)) at) ≡ line_tokens
    = ap (λ (l : List ℕ). tokens.tokens (main_texts.text_of (main.instruction_of l) at)) (sym (append-nil (word ∷ tail))) ∙ best.text.text [] in record {
      word = word;
      tail = tail;
      are = refl;
      form = λ other same. record { first = all 0; instruction = best.instruction; words = all; address = a; alike = same ∙ ap filled (sym text) };
      text = text;
      long = ap (λ (l : List ℕ). (main.instruction_of l).length) (sym (append-nil (word ∷ tail))) ∙ best.text.whole [] ∙ sym (in_bytes_long (word ∷ tail));
    }

-- ---- what has a value

found_of : (found : Option (List ℕ)) → is_some found ≡ true → (bytes : List ℕ) × (found ≡ Some bytes)
found_of None h = cc
found_of (Some bytes) h = (bytes, refl)

mapped : (found : Option (List ℕ)) (long : ℕ) → option_map length found ≡ Some long → (bytes : List ℕ) × (found ≡ Some bytes) × (length bytes ≡ long)
mapped None long h = cc
mapped (Some bytes) long h = (bytes, refl, cc)

main_mapped : (found : Option (List ℕ)) (bytes : List ℕ) → option_map in_bytes found ≡ Some bytes → (words : List ℕ) × (found ≡ Some words) × (in_bytes words ≡ bytes)
main_mapped None bytes h = cc
main_mapped (Some words) bytes h = (words, refl, cc)

-- ---- the other direction

pub size_form : (z80 : Bool) (line_tokens : List Token) (long : ℕ) → size z80 Instruction line_tokens ≡ Some long → IsForm z80 line_tokens long
size_form true line_tokens long h =
    let there = mapped (sub_code (filled line_tokens) 4) long h in
    let own = sub_text (filled line_tokens) 4 there.0 (omega arith) there.1 in
    (there.0, 4, own.form line_tokens (sym (filled_again line_tokens)), own.long ∙ there.2)
size_form false line_tokens long h =
    let there = mapped (option_map in_bytes (main_code (filled line_tokens) 4)) long h in
    let words = main_mapped (main_code (filled line_tokens) 4) there.0 there.1 in
    let own = main_text (filled line_tokens) 4 words.0 (filled_longs line_tokens) (omega arith) words.1 in
    (own.word, own.tail, 4, own.form line_tokens (sym (filled_again line_tokens)), own.long ∙ ap length words.2 ∙ there.2)

under_sub : (n : ℕ) → under true n < 65536
under_sub n = omega arith

under_main : (n : ℕ) → under false n < 4294967296
under_main n = omega arith

-- with 8 for all numbers but one
alone_stands : (line_tokens front following : List Token) (place n : ℕ) → line_tokens ≡ front ++ tokens.Number n ∷ following → length front ≡ place
    → alone line_tokens place (tokens.Number n) ≡ filled front ++ tokens.Number n ∷ filled following
alone_stands line_tokens front following place n is long =
    ap (λ (l : List Token). alone l place (tokens.Number n)) is ∙ ap (λ (k : ℕ). alone (front ++ tokens.Number n ∷ following) k (tokens.Number n)) (sym long) ∙ alone_is front following n

pub fits_has : (z80 : Bool) (line_tokens : List Token) (place n : ℕ) → n < 4294967296 → StandsIn line_tokens place (tokens.Number n) → misfit z80 line_tokens place (tokens.Number n) ≡ false
    → HasNumber z80 line_tokens place n
fits_has true line_tokens place n low (front, following, is, long) h =
    let tried = alone line_tokens place (tokens.Number n) in
    let there = found_of (sub_code tried (under true n)) (not_false _ h) in
    let own = sub_text tried (under true n) there.0 (under_sub n) there.1 in
    let same = alone_stands line_tokens front following place n is long in (
      there.0,
      under true n,
      own.form line_tokens (ap filled is ∙ sym (single_filled front following n) ∙ ap filled (sym same)),
      (filled front, filled following, own.text ∙ same, filled_long front ∙ long),
    )
fits_has false line_tokens place n low (front, following, is, long) h =
    let tried = alone line_tokens place (tokens.Number n) in
    let same = alone_stands line_tokens front following place n is long in
    let longs : AreLongs tried = rw same (longs_both (filled front) (tokens.Number n ∷ filled following) (filled_longs front) (low, filled_longs following)) in
    let found = found_of (code false tried (under false n)) (not_false _ h) in
    let words = main_mapped (main_code tried (under false n)) found.0 found.1 in
    let own = main_text tried (under false n) words.0 longs (under_main n) words.1 in (
      own.word,
      own.tail,
      under false n,
      own.form line_tokens (ap filled is ∙ sym (single_filled front following n) ∙ ap filled (sym same)),
      (filled front, filled following, own.text ∙ same, filled_long front ∙ long),
    )
