-- A number is one that some instruction of the line's form has at its place exactly where it is in the range of that place.
use Rattle.std.proofs.Common.{◌≡◌, ℕ, ◌<◌, Bool, true, false, nat_lt, List, [], ◌∷◌, ◌++◌, length, append_assoc, refl, ap, ◌∙◌, sym, subst, if◌then◌else◌}
use Rattle.m68k_decode.specs.Instructions as main
use Rattle.m68k_decode.specs.declared.op.Op.{Op}
use Rattle.z80_decode.specs.Instructions as sub
use Rattle.md_disasm.specs.Rows68 as main_rows
use Rattle.md_disasm.specs.Rows68.{Row68}
use Rattle.md_disasm.specs.Rows80 as sub_rows
use Rattle.md_disasm.specs.Rows80.{Row80}
use Rattle.md_disasm.specs.Texts68 as main_texts
use Rattle.md_disasm.specs.Texts80 as sub_texts
use Rattle.md_disasm.specs.declared.operand80.Operand80.TheVariants as sub_operands
use Rattle.md_asm_text.specs.Tokens as tokens
use Rattle.md_asm_text.specs.Tokens.{Token}
use Rattle.asm_m68k.proofs.Sources as main_tokens
use Rattle.asm_z80.specs.Coded80.{AreBytes}
use Rattle.asm_z80.specs.Instruction.{is_db}
use Rattle.asm_z80.proofs.Sources as sub_tokens
use Rattle.md_asm.specs.Numbers.{filled}
use Rattle.md_asm.specs.Forms.{HasNumber, StandsIn}
use Rattle.md_asm.specs.Ranges.{IsInRange, main_allows, main_operand, sub_allows, sub_operand}
use Rattle.md_asm.proofs.Among.{first_number, first_put, put_all, put_filled, put_plain, put_both, put_stands, second_number, second_put}
use Rattle.md_asm.proofs.Fill80 as fill
use Rattle.md_asm.proofs.Fits.{filled_both}
use Rattle.md_asm.proofs.Operands68.{led_with}
use Rattle.asm_laws.proofs.Operands80.{first_allows, row_put, second_allows}
use Rattle.md_asm.proofs.Coded68 as main_trip
use Rattle.md_asm.proofs.Coded80 as sub_trip
use Rattle.md_asm.proofs.Rows68 as main_kept
use Rattle.md_asm.proofs.Rows80 as sub_kept
use Rattle.md_asm.proofs.With68 as main_with
use Rattle.md_asm.proofs.With80 as sub_with
use Rattle.md_asm.proofs.Coded68.{AreMain}

-- ---- the Z80

abbrev sub_left : Row80 → List Token
sub_left row = (tokens.Word row.name ∷ []) ++ sub_tokens.led_tokens 32 row.first

module _ (bytes : List ℕ) (at : ℕ) (all : AreBytes bytes) (instruction : is_db (sub.instruction_of bytes).op ≡ false) where
  abbrev sub_row : Row80
  sub_row = sub_rows.row_of (sub.instruction_of bytes).op at

  sub_is : tokens.tokens (sub_texts.text_of (sub.instruction_of bytes) at) ≡ sub_left sub_row ++ sub_tokens.led_tokens 44 sub_row.second
  sub_is = sub_trip.own_tokens bytes at all instruction

  sub_own : (place n : ℕ) → StandsIn (tokens.tokens (sub_texts.text_of (sub.instruction_of bytes) at)) place (tokens.Number n) → sub_allows (sub.instruction_of bytes).op (sub_operand sub_row place) n ≡ true
  sub_own place n stands =
      let here : StandsIn (sub_left sub_row ++ sub_tokens.led_tokens 44 sub_row.second) place (tokens.Number n) = subst (λ (l : List Token). StandsIn l place (tokens.Number n)) sub_is stands in
      rw (sub_trip.front_tokens bytes at all instruction) (by (nat_lt place (length (sub_left sub_row))) refl here)
    where
      even : fill.IsEven (sub.instruction_of bytes).op
      even = fill.not_odd bytes all instruction

      by : (b : Bool) → nat_lt place (length (sub_left sub_row)) ≡ b → StandsIn (sub_left sub_row ++ sub_tokens.led_tokens 44 sub_row.second) place (tokens.Number n)
          → sub_allows (sub.instruction_of bytes).op (if b then sub_row.first else sub_row.second) n ≡ true
      by true low here =
          first_allows (sub.instruction_of bytes).op at n even.even (sub_trip.own_shown bytes at all instruction).0
          (first_number (tokens.Word sub_row.name ∷ []) (sub_tokens.led_tokens 32 sub_row.first) (sub_tokens.led_tokens 44 sub_row.second) place n refl (sub_kept.led_single 32 sub_row.first) low here)
      by false high here =
          second_allows (sub.instruction_of bytes).op at n even.even (sub_trip.own_shown bytes at all instruction).1
          (second_number (sub_left sub_row) (sub_tokens.led_tokens 44 sub_row.second) place n (sub_kept.led_single 44 sub_row.second) high here)

  sub_there : at < 65536 → (place n : ℕ) → sub_allows (sub.instruction_of bytes).op (sub_operand sub_row place) n ≡ true → sub_with.IsSomewhere (sub_with.row_with n sub_row)
  sub_there a place n allowed = by (nat_lt place (length (tokens.tokens (sub_texts.row_text (record sub_row { second = sub_operands.Nothing }))))) allowed
    where
      by : (b : Bool) → sub_allows (sub.instruction_of bytes).op (if b then sub_row.first else sub_row.second) n ≡ true → sub_with.IsSomewhere (sub_with.row_with n sub_row)
      by true h = sub_with.first_there n bytes at a all instruction h
      by false h = sub_with.second_there n bytes at a all instruction h

sub_in : (line_tokens : List Token) (place n : ℕ) → HasNumber true line_tokens place n → IsInRange true line_tokens place n
sub_in line_tokens place n (bytes, at, form, stands) =
    (bytes, at, record { form = form; own = n; stands = stands; allowed = sub_own bytes at form.all form.instruction place n stands })

sub_has : (line_tokens : List Token) (place n : ℕ) → IsInRange true line_tokens place n → HasNumber true line_tokens place n
sub_has line_tokens place n (bytes, at, range) =
    let form = range.form in
    let row = sub_rows.row_of (sub.instruction_of bytes).op at in
    let there = sub_there bytes at form.all form.instruction form.address place n range.allowed in
    let other = there.reached in
    let own : tokens.tokens (sub_texts.text_of (sub.instruction_of bytes) at) ≡ sub_tokens.row_tokens row = sub_trip.own_tokens bytes at form.all form.instruction in
    let text : tokens.tokens (sub_texts.text_of (sub.instruction_of other.bytes) there.at) ≡ put_all n (sub_tokens.row_tokens row)
    = sub_trip.own_tokens other.bytes there.at other.all other.none ∙ ap sub_tokens.row_tokens other.is ∙ row_put n row in
    let stands : StandsIn (sub_tokens.row_tokens row) place (tokens.Number range.own) = subst (λ (l : List Token). StandsIn l place (tokens.Number range.own)) own range.stands in (
      other.bytes,
      there.at,
      record {
        all = other.all;
        instruction = other.none;
        address = there.low;
        alike = form.alike ∙ ap filled own ∙ sym (put_filled n (sub_tokens.row_tokens row)) ∙ ap filled (sym text);
      },
      subst (λ (l : List Token). StandsIn l place (tokens.Number n)) (sym text) (put_stands n range.own (sub_tokens.row_tokens row) place stands),
    )

-- ---- the 68000

abbrev main_left : Row68 → List Token
main_left row = main_trip.front row ++ main_tokens.led_tokens 32 row.first

-- the tokens of a row, with the seam after its first operand
seam : (row : Row68) → main_tokens.row_tokens row ≡ main_left row ++ main_tokens.led_tokens 44 row.second
seam row = sym (append_assoc (main_trip.front row) (main_tokens.led_tokens 32 row.first) (main_tokens.led_tokens 44 row.second))

module _ (word : ℕ) (tail : List ℕ) (at : ℕ) (main_words : AreMain word tail) where
  abbrev main_row : Row68
  main_row = main_rows.row_of (main.instruction_of (word ∷ tail)).op at

  main_own : (place n : ℕ) → StandsIn (tokens.tokens (main_texts.text_of (main.instruction_of (word ∷ tail)) at)) place (tokens.Number n)
      → main_allows (main.instruction_of (word ∷ tail)).op (main_operand main_row place) n ≡ true
  main_own place n stands =
      let here : StandsIn (main_left main_row ++ main_tokens.led_tokens 44 main_row.second) place (tokens.Number n)
      = subst (λ (l : List Token). StandsIn l place (tokens.Number n)) (main_trip.own_tokens word tail at main_words ∙ seam main_row) stands in
      rw (main_trip.front_tokens word tail at main_words) (by (nat_lt place (length (main_left main_row))) refl here)
    where
      known : main_trip.IsKnown (main.instruction_of (word ∷ tail)) at
      known = main_trip.known word tail at main_words

      by : (b : Bool) → nat_lt place (length (main_left main_row)) ≡ b → StandsIn (main_left main_row ++ main_tokens.led_tokens 44 main_row.second) place (tokens.Number n)
          → main_allows (main.instruction_of (word ∷ tail)).op (if b then main_row.first else main_row.second) n ≡ true
      by true low here =
          known.first_allows n
          (first_number (main_trip.front main_row) (main_tokens.led_tokens 32 main_row.first) (main_tokens.led_tokens 44 main_row.second) place n (main_trip.size_plain main_row) (main_kept.led_single 32 main_row.first) low here)
      by false high here =
          known.second_allows n
          (second_number (main_left main_row) (main_tokens.led_tokens 44 main_row.second) place n (main_kept.led_single 44 main_row.second) high here)

main_in : (line_tokens : List Token) (place n : ℕ) → HasNumber false line_tokens place n → IsInRange false line_tokens place n
main_in line_tokens place n (word, tail, at, form, stands) =
    let own : AreMain word tail = record { low = form.first; entered = form.instruction; all = form.words } in
    (word, tail, at, record { form = form; own = n; stands = stands; allowed = main_own word tail at own place n stands })

-- a row that is that of an instruction at some address has the number
main_other : (line_tokens : List Token) (place n m : ℕ) (row wanted : Row68) → main_with.IsSomewhere wanted → filled line_tokens ≡ filled (main_tokens.row_tokens wanted) → StandsIn (main_tokens.row_tokens wanted) place (tokens.Number n)
    → HasNumber false line_tokens place n
main_other line_tokens place n m row wanted there same stands =
    let other = there.reached in
    let text : tokens.tokens (main_texts.text_of (main.instruction_of (other.word ∷ other.tail)) there.at) ≡ main_tokens.row_tokens wanted
    = main_trip.own_tokens other.word other.tail there.at (record { low = other.low; entered = other.entered; all = other.all }) ∙ ap main_tokens.row_tokens other.is in (
      other.word,
      other.tail,
      there.at,
      record { first = other.low; instruction = other.entered; words = other.all; address = there.low; alike = same ∙ ap filled (sym text) },
      subst (λ (l : List Token). StandsIn l place (tokens.Number n)) (sym text) stands,
    )

filled_part : (xs ys zs : List Token) → filled ys ≡ filled zs → filled (xs ++ ys) ≡ filled (xs ++ zs)
filled_part xs ys zs e = filled_both xs ys ∙ ap (λ (l : List Token). filled xs ++ l) e ∙ sym (filled_both xs zs)

filled_front : (xs ys zs : List Token) → filled xs ≡ filled ys → filled (xs ++ zs) ≡ filled (ys ++ zs)
filled_front xs ys zs e = filled_both xs zs ∙ ap (λ (l : List Token). l ++ filled zs) e ∙ sym (filled_both ys zs)

-- the tokens before the seam with another number
left_put : (op : Op) (row : Row68) (n : ℕ) → main_allows op row.first n ≡ true → main_left (main_with.first_with n row) ≡ put_all n (main_left row)
left_put op row n h =
    ap (λ (l : List Token). main_trip.front row ++ l) (led_with op 32 row.first n h)
    ∙ ap (λ (l : List Token). l ++ put_all n (main_tokens.led_tokens 32 row.first)) (sym (put_plain n (main_trip.front row) (main_trip.size_plain row)))
    ∙ sym (put_both n (main_trip.front row) (main_tokens.led_tokens 32 row.first))

main_has : (line_tokens : List Token) (place n : ℕ) → IsInRange false line_tokens place n → HasNumber false line_tokens place n
main_has line_tokens place n (word, tail, at, range) = rw_by (nat_lt place (length (main_left row))) refl allowed
  where
    row : Row68
    row = main_rows.row_of (main.instruction_of (word ∷ tail)).op at

    op : Op
    op = (main.instruction_of (word ∷ tail)).op

    own : AreMain word tail
    own = record { low = range.form.first; entered = range.form.instruction; all = range.form.words }

    text : tokens.tokens (main_texts.text_of (main.instruction_of (word ∷ tail)) at) ≡ main_left row ++ main_tokens.led_tokens 44 row.second
    text = main_trip.own_tokens word tail at own ∙ seam row

    allowed : main_allows op (if nat_lt place (length (main_left row)) then row.first else row.second) n ≡ true
    allowed = rw (main_trip.front_tokens word tail at own) at range.allowed

    stands : StandsIn (main_left row ++ main_tokens.led_tokens 44 row.second) place (tokens.Number range.own)
    stands = subst (λ (l : List Token). StandsIn l place (tokens.Number range.own)) text range.stands

    same : filled line_tokens ≡ filled (main_left row ++ main_tokens.led_tokens 44 row.second)
    same = range.form.alike ∙ ap filled text

    rw_by : (b : Bool) → nat_lt place (length (main_left row)) ≡ b → main_allows op (if b then row.first else row.second) n ≡ true → HasNumber false line_tokens place n
    rw_by true low h =
        let wanted = main_with.first_with n row in
        let is : main_tokens.row_tokens wanted ≡ put_all n (main_left row) ++ main_tokens.led_tokens 44 row.second
        = seam wanted ∙ ap (λ (l : List Token). l ++ main_tokens.led_tokens 44 row.second) (left_put op row n h) in
        main_other line_tokens place n range.own row wanted (main_trip.first_there word tail at n own range.form.address h)
        (same ∙ filled_front (main_left row) (put_all n (main_left row)) (main_tokens.led_tokens 44 row.second) (sym (put_filled n (main_left row))) ∙ ap filled (sym is))
        (subst (λ (l : List Token). StandsIn l place (tokens.Number n)) (sym is) (first_put (main_left row) (main_tokens.led_tokens 44 row.second) place range.own n low stands))
    rw_by false high h =
        let wanted = main_with.second_with n row in
        let is : main_tokens.row_tokens wanted ≡ main_left row ++ put_all n (main_tokens.led_tokens 44 row.second)
        = seam wanted ∙ ap (λ (l : List Token). main_left row ++ l) (led_with op 44 row.second n h) in
        main_other line_tokens place n range.own row wanted (main_trip.second_there word tail at n own range.form.address h)
        (same ∙ filled_part (main_left row) (main_tokens.led_tokens 44 row.second) (put_all n (main_tokens.led_tokens 44 row.second)) (sym (put_filled n (main_tokens.led_tokens 44 row.second))) ∙ ap filled (sym is))
        (subst (λ (l : List Token). StandsIn l place (tokens.Number n)) (sym is) (second_put (main_left row) (main_tokens.led_tokens 44 row.second) place range.own n high stands))

-- ---- both

pub has_in : (z80 : Bool) (line_tokens : List Token) (place n : ℕ) → HasNumber z80 line_tokens place n → IsInRange z80 line_tokens place n
has_in true line_tokens place n has = sub_in line_tokens place n has
has_in false line_tokens place n has = main_in line_tokens place n has

pub in_has : (z80 : Bool) (line_tokens : List Token) (place n : ℕ) → IsInRange z80 line_tokens place n → HasNumber z80 line_tokens place n
in_has true line_tokens place n range = sub_has line_tokens place n range
in_has false line_tokens place n range = main_has line_tokens place n range
