-- The numbers of the Z80's operands: an instruction's own are in their ranges, and others take their places.
use Rattle.std.proofs.Common.{◌≡◌, ℕ, ◌==◌, ◌%◌, true, false, ◌&&◌, nat_lt, List, ◌∷◌, ◌++◌, refl, ap, ◌∙◌, sym, subst, Some}
use Rattle.std.specs.Prelude.{nat_le}
use Rattle.z80_decode.specs.declared.op80.Op80.{Op80}
use Rattle.z80_decode.specs.declared.op80.Op80.TheVariants as ops
use Rattle.z80_decode.specs.declared.place8.Place8.{Place8}
use Rattle.z80_decode.specs.declared.place8.Place8.TheVariants as places
use Rattle.md_disasm.specs.Rows80.{Row80, row_of}
use Rattle.md_disasm.specs.declared.operand80.Operand80.{Operand80}
use Rattle.md_disasm.specs.declared.operand80.Operand80.TheVariants as operands
use Rattle.md_asm_text.specs.Tokens as tokens
use Rattle.md_asm_text.specs.Tokens.{Token}
use Rattle.asm_z80.proofs.Operands.{place_tokens, shown}
use Rattle.asm_z80.proofs.Sources.{led_tokens, row_tokens}
use Rattle.md_asm.specs.Ranges.{byte_allows, place_limit, sub_allows}
use Rattle.md_asm.proofs.Among.{not_false, put_all, put_both}
use Rattle.md_asm.proofs.Fits.{number_of}
use Rattle.md_asm.proofs.Pages80.{is_uneven}
use Rattle.md_asm.proofs.Rows80.{operand_with, place_with}
use Rattle.md_asm.proofs.With80.{row_with}

-- ---- an instruction's own number

same_below : (n m limit : ℕ) → m ≡ n → nat_lt m limit ≡ true → nat_lt n limit ≡ true
same_below n m limit e h = subst (λ (k : ℕ). nat_lt k limit ≡ true) e h

place_allows : (place : Place8) (n c : ℕ) → shown (operands.Place place) ≡ true → number_of (tokens.Mark c ∷ place_tokens place) ≡ Some n → nat_lt n (place_limit place) ≡ true
place_allows (places.AtIx by) n c h is = let e : by ≡ n = cc in same_below n by 256 e h
place_allows (places.AtIy by) n c h is = let e : by ≡ n = cc in same_below n by 256 e h
place_allows (places.At address) n c h is = let e : address ≡ n = cc in same_below n address 65536 e h
place_allows (places.Number m) n c h is = let e : m ≡ n = cc in same_below n m 256 e h
place_allows places.A n c h is = cc
place_allows _ n c h is = cc

operand_allows : (op : Op80) (c : ℕ) (o : Operand80) (n : ℕ) → ((m : ℕ) → o ≡ operands.Byte m → nat_lt m 256 ≡ true → byte_allows op m ≡ true) → shown o ≡ true
    → number_of (led_tokens c o) ≡ Some n → sub_allows op o n ≡ true
operand_allows op c (operands.Place place) n byte h is = place_allows place n c h is
operand_allows op c (operands.Byte m) n byte h is = let e : m ≡ n = cc in subst (λ (k : ℕ). byte_allows op k ≡ true) e (byte m refl h)
operand_allows op c (operands.Port m) n byte h is = let e : m ≡ n = cc in same_below n m 256 e h
operand_allows op c (operands.Word m) n byte h is = let e : m ≡ n = cc in same_below n m 65536 e h
operand_allows op c (operands.AtWord address) n byte h is = let e : address ≡ n = cc in same_below n address 65536 e h
operand_allows op c operands.Nothing n byte h is = cc
operand_allows op c _ n byte h is = cc

-- the byte of RST is one that it has
restart_allows : (address m : ℕ) → is_uneven (ops.Restart address) ≡ false → operands.Byte address ≡ operands.Byte m → byte_allows (ops.Restart address) m ≡ true
restart_allows address m even is = let e : address ≡ m = cc in subst (λ (k : ℕ). (nat_le k 56 && k % 8 == 0) ≡ true) e (not_false _ even)

pub first_allows : (op : Op80) (at n : ℕ) → is_uneven op ≡ false → shown (row_of op at).first ≡ true → number_of (led_tokens 32 (row_of op at).first) ≡ Some n → sub_allows op (row_of op at).first n ≡ true
first_allows (ops.Restart address) at n even h is = operand_allows (ops.Restart address) 32 (operands.Byte address) n (λ m e low. restart_allows address m even e) h is
first_allows op at n even h is = operand_allows op 32 (row_of op at).first n (λ m e low. low) h is

pub second_allows : (op : Op80) (at n : ℕ) → is_uneven op ≡ false → shown (row_of op at).second ≡ true → number_of (led_tokens 44 (row_of op at).second) ≡ Some n → sub_allows op (row_of op at).second n ≡ true
second_allows (ops.Restart address) at n even h is = cc
second_allows op at n even h is = operand_allows op 44 (row_of op at).second n (λ m e low. low) h is

-- ---- another number in its place

place_put : (n : ℕ) (place : Place8) → place_tokens (place_with n place) ≡ put_all n (place_tokens place)
place_put n places.A = refl
place_put n _ = refl

led_put : (n c : ℕ) (o : Operand80) → led_tokens c (operand_with n o) ≡ put_all n (led_tokens c o)
led_put n c operands.Nothing = refl
led_put n c (operands.Place place) = ap (λ (l : List Token). tokens.Mark c ∷ l) (place_put n place)
led_put n c o = refl

pub row_put : (n : ℕ) (row : Row80) → row_tokens (row_with n row) ≡ put_all n (row_tokens row)
row_put n row =
    ap (λ (l : List Token). tokens.Word row.name ∷ l)
    (ap (λ (l : List Token). l ++ led_tokens 44 (operand_with n row.second)) (led_put n 32 row.first)
    ∙ ap (λ (l : List Token). put_all n (led_tokens 32 row.first) ++ l) (led_put n 44 row.second)
    ∙ (sym (put_both n (led_tokens 32 row.first) (led_tokens 44 row.second))))
