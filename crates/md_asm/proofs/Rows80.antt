-- The tokens of the Z80's rows, and what they are with 8 for a number.
use Rattle.std.proofs.Common.{◌≡◌, ℕ, Bool, true, false, not, ◌&&◌, ◌||◌, List, [], ◌∷◌, ◌++◌, append-nil, refl, ap, ◌∙◌, codes, None}
use Rattle.std.proofs.lemmas.Bool.{and_parts}
use Rattle.z80_decode.specs.declared.place8.Place8.{Place8}
use Rattle.z80_decode.specs.declared.place8.Place8.TheVariants as places
use Rattle.md_disasm.specs.Rows80.{Row80}
use Rattle.md_disasm.specs.Texts80.{led, row_text}
use Rattle.md_disasm.specs.declared.operand80.Operand80.{Operand80}
use Rattle.md_disasm.specs.declared.operand80.Operand80.TheVariants as operands
use Rattle.md_asm_text.specs.Tokens as tokens
use Rattle.md_asm_text.specs.Tokens.{Token, every, is_worded, split}
use Rattle.md_asm_text.proofs.Splits.{following, is_end}
use Rattle.md_asm.specs.Numbers.{filled}
use Rattle.asm_z80.proofs.Operands.{operand_tokens, place_tokens, shown}
use Rattle.asm_z80.proofs.Sources.{is_none, is_read, led_end, led_tokens, led_split, row_opens, row_tokens}
use Rattle.md_asm.proofs.Fits.{filled_both, is_single, number_of}

-- ---- a row falls into its tokens

pub row_split : (row : Row80) → every is_worded row.name ≡ true → shown row.first ≡ true → shown row.second ≡ true → tokens.tokens (row_text row) ≡ row_tokens row
unfolding is_worded split
row_split row named first second =
    let ends : is_end (led (codes ",") row.second ++ []) ≡ true = led_end (is_none row.second) 44 row.second [] refl refl refl in
    row_opens row named
    ∙ following _ _ _ (led_split (is_none row.first) 32 row.first (led (codes ",") row.second ++ []) refl refl first ends
    ∙ ap (λ (l : List Token). led_tokens 32 row.first ++ l) (led_split (is_none row.second) 44 row.second [] refl refl second refl ∙ append-nil (led_tokens 44 row.second)))

pub read_split : (row : Row80) → is_read row ≡ true → (shown row.first ≡ true) × (shown row.second ≡ true) × (tokens.tokens (row_text row) ≡ row_tokens row)
read_split row h =
    let a = and_parts (every is_worded row.name) (shown row.first && (shown row.second && (not (is_none row.first) || is_none row.second))) h in
    let b = and_parts (shown row.first) (shown row.second && (not (is_none row.first) || is_none row.second)) a.1 in
    let c = and_parts (shown row.second) (not (is_none row.first) || is_none row.second) b.1 in
    (b.0, c.0, row_split row a.0 b.0 c.0)

-- without its second operand
pub front_split : (row : Row80) → is_read row ≡ true → tokens.tokens (row_text (record row { second = operands.Nothing })) ≡ tokens.Word row.name ∷ led_tokens 32 row.first
front_split row h =
    let a = and_parts (every is_worded row.name) (shown row.first && (shown row.second && (not (is_none row.first) || is_none row.second))) h in
    let b = and_parts (shown row.first) (shown row.second && (not (is_none row.first) || is_none row.second)) a.1 in
    row_split (record row { second = operands.Nothing }) a.0 b.0 refl ∙ ap (λ (l : List Token). tokens.Word row.name ∷ l) (append-nil (led_tokens 32 row.first))

-- ---- 8 for the numbers

abbrev pub place_with : ℕ → Place8 → Place8
place_with v (places.AtIx by) = places.AtIx v
place_with v (places.AtIy by) = places.AtIy v
place_with v (places.At address) = places.At v
place_with v (places.Number n) = places.Number v
place_with v place = place

abbrev pub place_filled : Place8 → Place8
place_filled place = place_with 8 place

-- another number in the place of an operand's own
abbrev pub operand_with : ℕ → Operand80 → Operand80
operand_with v (operands.Place place) = operands.Place (place_with v place)
operand_with v (operands.Byte n) = operands.Byte v
operand_with v (operands.Port n) = operands.Port v
operand_with v (operands.Word n) = operands.Word v
operand_with v (operands.AtWord address) = operands.AtWord v
operand_with v o = o

abbrev pub operand_filled : Operand80 → Operand80
operand_filled o = operand_with 8 o

abbrev pub kept : Bool → Operand80 → Operand80
kept true o = o
kept false o = operand_filled o

-- a row with 8 for the numbers of an operand that is not kept
abbrev pub row_kept : Bool → Bool → Row80 → Row80
row_kept first second row = record { name = row.name; first = kept first row.first; second = kept second row.second }

place_tokens_filled : (place : Place8) → filled (place_tokens place) ≡ place_tokens (place_filled place)
place_tokens_filled places.A = refl
place_tokens_filled _ = refl

operand_tokens_filled : (o : Operand80) → filled (operand_tokens o) ≡ operand_tokens (operand_filled o)
operand_tokens_filled (operands.Place place) = place_tokens_filled place
operand_tokens_filled operands.Nothing = refl
operand_tokens_filled _ = refl

pub led_filled : (c : ℕ) (o : Operand80) → filled (led_tokens c o) ≡ led_tokens c (operand_filled o)
led_filled c operands.Nothing = refl
led_filled c o = ap (λ (l : List Token). tokens.Mark c ∷ l) (operand_tokens_filled o)

pub row_filled : (row : Row80) → filled (row_tokens row) ≡ row_tokens (row_kept false false row)
row_filled row =
    ap (λ (l : List Token). tokens.Word row.name ∷ l)
    (filled_both (led_tokens 32 row.first) (led_tokens 44 row.second)
    ∙ ap (λ (l : List Token). l ++ filled (led_tokens 44 row.second)) (led_filled 32 row.first)
    ∙ ap (λ (l : List Token). led_tokens 32 (operand_filled row.first) ++ l) (led_filled 44 row.second))

-- ---- the number of an operand

place_single : (place : Place8) → is_single (place_tokens place) ≡ true
place_single places.A = refl
place_single _ = refl

pub led_single : (c : ℕ) (o : Operand80) → is_single (led_tokens c o) ≡ true
led_single c operands.Nothing = refl
led_single c (operands.Place place) = place_single place
led_single c o = refl

abbrev pub place_numbered : Place8 → Bool
place_numbered (places.AtIx by) = true
place_numbered (places.AtIy by) = true
place_numbered (places.At address) = true
place_numbered (places.Number n) = true
place_numbered place = false

abbrev pub is_numbered : Operand80 → Bool
is_numbered (operands.Place place) = place_numbered place
is_numbered (operands.Byte n) = true
is_numbered (operands.Port n) = true
is_numbered (operands.Word n) = true
is_numbered (operands.AtWord address) = true
is_numbered o = false

place_same : (place : Place8) → place_numbered place ≡ false → place_filled place ≡ place
place_same (places.AtIx by) h = cc
place_same (places.AtIy by) h = cc
place_same (places.At address) h = cc
place_same (places.Number n) h = cc
place_same place h = refl

pub same_filled : (o : Operand80) → is_numbered o ≡ false → operand_filled o ≡ o
same_filled (operands.Place place) h = ap operands.Place (place_same place h)
same_filled (operands.Byte n) h = cc
same_filled (operands.Port n) h = cc
same_filled (operands.Word n) h = cc
same_filled (operands.AtWord address) h = cc
same_filled o h = refl

place_number : (place : Place8) → place_numbered place ≡ false → number_of (place_tokens place) ≡ None
place_number (places.AtIx by) h = cc
place_number (places.AtIy by) h = cc
place_number (places.At address) h = cc
place_number (places.Number n) h = cc
place_number place h = refl

pub no_number : (c : ℕ) (o : Operand80) → is_numbered o ≡ false → number_of (led_tokens c o) ≡ None
no_number c operands.Nothing h = refl
no_number c (operands.Place place) h = place_number place h
no_number c (operands.Byte n) h = cc
no_number c (operands.Port n) h = cc
no_number c (operands.Word n) h = cc
no_number c (operands.AtWord address) h = cc
no_number c o h = refl
