-- What is read of the text of a row: its name and the forms of its operands.
use Rattle.std.proofs.Common.{◌≡◌, ℕ, Bool, true, false, not, List, [], ◌∷◌, ◌++◌, refl, ap, ◌∙◌, sym, append_assoc, append-nil, codes, if◌then◌else◌}
use Rattle.std.specs.Prelude.{◌&&◌, ◌||◌}
use Rattle.std.proofs.lemmas.Bool.{and_parts}
use Rattle.md_disasm.specs.Operands80.{operand_text}
use Rattle.md_disasm.specs.Rows80.{Row80}
use Rattle.md_disasm.specs.Texts80.{led, row_text}
use Rattle.md_disasm.specs.declared.operand80.Operand80.{Operand80}
use Rattle.md_disasm.specs.declared.operand80.Operand80.TheVariants as operands
use Rattle.md_asm_text.specs.Tokens as tokens
use Rattle.md_asm_text.specs.Tokens.{Token, every, is_worded, split, opened}
use Rattle.md_asm_text.proofs.Splits.{is_end, name_opens, mark_split, following}
use Rattle.asm_z80.specs.Reading.{Source, read_source, with_operands}
use Rattle.asm_z80.proofs.Operands.{form_of, operand_alone, operand_apart, operand_tokens, operand_read, operand_split, shown}

abbrev pub is_none : Operand80 → Bool
is_none operands.Nothing = true
is_none operand = false

none_tokens : (o : Operand80) → is_none o ≡ true → operand_tokens o ≡ []
none_tokens operands.Nothing h = refl
none_tokens (operands.Place place) h = cc
none_tokens (operands.Register pair) h = cc
none_tokens (operands.AtRegister pair) h = cc
none_tokens operands.OtherAf h = cc
none_tokens (operands.Special special) h = cc
none_tokens (operands.Condition condition) h = cc
none_tokens (operands.Bit bit) h = cc
none_tokens (operands.Mode mode) h = cc
none_tokens (operands.Byte n) h = cc
none_tokens (operands.Port n) h = cc
none_tokens operands.PortC h = cc
none_tokens (operands.Word n) h = cc
none_tokens (operands.AtWord address) h = cc
none_tokens (operands.ByteAndWord byte word) h = cc

pub led_by : (mark : List ℕ) (o : Operand80) → led mark o ≡ (if is_none o then [] else mark ++ operand_text o)
led_by mark operands.Nothing = refl
led_by mark (operands.Place place) = refl
led_by mark (operands.Register pair) = refl
led_by mark (operands.AtRegister pair) = refl
led_by mark operands.OtherAf = refl
led_by mark (operands.Special special) = refl
led_by mark (operands.Condition condition) = refl
led_by mark (operands.Bit bit) = refl
led_by mark (operands.Mode mode) = refl
led_by mark (operands.Byte n) = refl
led_by mark (operands.Port n) = refl
led_by mark operands.PortC = refl
led_by mark (operands.Word n) = refl
led_by mark (operands.AtWord address) = refl
led_by mark (operands.ByteAndWord byte word) = refl

abbrev pub led_tokens : ℕ → Operand80 → List Token
led_tokens c o = if is_none o then [] else tokens.Mark c ∷ operand_tokens o

pub led_split : (b : Bool) (c : ℕ) (o : Operand80) (e : List ℕ) → is_none o ≡ b → is_worded c ≡ false → shown o ≡ true → is_end e ≡ true
    → split [] (led (c ∷ []) o ++ e) ≡ led_tokens c o ++ split [] e
led_split true c o e none is h ends = rw (led_by (c ∷ []) o, none) refl
led_split false c o e none is h ends = rw (led_by (c ∷ []) o, none) (mark_split c (operand_text o ++ e) is ∙ following _ _ _ (operand_split o e h ends))

pub led_end : (b : Bool) (c : ℕ) (o : Operand80) (e : List ℕ) → is_none o ≡ b → is_worded c ≡ false → is_end e ≡ true → is_end (led (c ∷ []) o ++ e) ≡ true
led_end true c o e none is ends = rw (led_by (c ∷ []) o, none) ends
led_end false c o e none is ends = rw (led_by (c ∷ []) o, none, is) refl

abbrev pub row_tokens : Row80 → List Token
row_tokens row = tokens.Word row.name ∷ (led_tokens 32 row.first ++ led_tokens 44 row.second)

row_shape : (name first second : List ℕ) → (name ++ first) ++ second ≡ name ++ (first ++ (second ++ []))
row_shape name first second = append_assoc name first second ∙ ap (λ (l : List ℕ). name ++ (first ++ l)) (sym (append-nil second))

pub row_opens : (row : Row80) → every is_worded row.name ≡ true
    → opened [] (row_text row) ≡ tokens.Word row.name ∷ split [] (led (codes " ") row.first ++ (led (codes ",") row.second ++ []))
unfolding is_worded split
row_opens row named =
    let ends : is_end (led (codes ",") row.second ++ []) ≡ true = led_end (is_none row.second) 44 row.second [] refl refl refl in
    ap (opened []) (row_shape row.name (led (codes " ") row.first) (led (codes ",") row.second))
    ∙ name_opens row.name (led (codes " ") row.first ++ (led (codes ",") row.second ++ [])) named (led_end (is_none row.first) 32 row.first (led (codes ",") row.second ++ []) refl refl ends)

row_split : (row : Row80) → every is_worded row.name ≡ true → shown row.first ≡ true → shown row.second ≡ true → opened [] (row_text row) ≡ row_tokens row
unfolding is_worded split
row_split row named first second =
    let ends : is_end (led (codes ",") row.second ++ []) ≡ true = led_end (is_none row.second) 44 row.second [] refl refl refl in
    row_opens row named
    ∙ following _ _ _ (led_split (is_none row.first) 32 row.first (led (codes ",") row.second ++ []) refl refl first ends
    ∙ ap (λ (l : List Token). led_tokens 32 row.first ++ l) (led_split (is_none row.second) 44 row.second [] refl refl second refl ∙ append-nil (led_tokens 44 row.second)))

-- its operands are read
abbrev read_of : List ℕ → Operand80 → Operand80 → Source
read_of name first second = record { mnemonic = name; first = form_of first; second = form_of second }

read_none : (name : List ℕ) (first second : Operand80) → is_none first ≡ true → is_none second ≡ true → with_operands name [] ≡ read_of name first second
read_none name first second none other =
    rw (sym (operand_read first), sym (operand_read second), none_tokens first none, none_tokens second other) refl

read_one : (name : List ℕ) (first second : Operand80) → is_none second ≡ true → with_operands name (tokens.Mark 32 ∷ (operand_tokens first ++ [])) ≡ read_of name first second
read_one name first second other =
    rw (append-nil (operand_tokens first), operand_alone first, operand_read first, sym (operand_read second), none_tokens second other) refl

read_two : (name : List ℕ) (first second : Operand80) → with_operands name (tokens.Mark 32 ∷ (operand_tokens first ++ (tokens.Mark 44 ∷ operand_tokens second))) ≡ read_of name first second
read_two name first second = rw (operand_apart first (operand_tokens second), operand_read first, operand_read second) refl

read_by : (none other : Bool) (name : List ℕ) (first second : Operand80) → is_none first ≡ none → is_none second ≡ other → (not none || other) ≡ true
    → with_operands name (led_tokens 32 first ++ led_tokens 44 second) ≡ read_of name first second
read_by true true name first second e o h = rw (e, o) (read_none name first second e o)
read_by true false name first second e o h = cc
read_by false true name first second e o h = rw (e, o) (read_one name first second o)
read_by false false name first second e o h = rw (e, o) (read_two name first second)

-- a row whose text is read as it is written
abbrev pub is_read : Row80 → Bool
is_read row = every is_worded row.name && (shown row.first && (shown row.second && (not (is_none row.first) || is_none row.second)))

pub source_again : (row : Row80) → is_read row ≡ true → read_source (opened [] (row_text row)) ≡ read_of row.name row.first row.second
unfolding read_source
source_again row h =
    let a = and_parts (every is_worded row.name) (shown row.first && (shown row.second && (not (is_none row.first) || is_none row.second))) h in
    let b = and_parts (shown row.first) (shown row.second && (not (is_none row.first) || is_none row.second)) a.1 in
    let c = and_parts (shown row.second) (not (is_none row.first) || is_none row.second) b.1 in
    rw (row_split row a.0 b.0 c.0) (read_by (is_none row.first) (is_none row.second) row.name row.first row.second refl refl c.1)
