-- Words that are tried for tokens and say them are no directive's: for a directive's text NOP is tried.
use Rattle.std.proofs.Common.{◌≡◌, ℕ, ◌/◌, ◌<◌, Bool, true, false, List, [], ◌∷◌, ◌++◌, Option, Some, None, refl, ap, ◌∙◌, sym, subst, codes, if◌then◌else◌}
use Rattle.std.specs.Prelude.{◌==◌, slice_index}
use Rattle.md_word.specs.declared.size.Size.{Size}
use Rattle.m68k_decode.specs.Fields.{opcode}
use Rattle.m68k_decode.specs.Instructions.{instruction_of, made, picked, unmatched}
use Rattle.m68k_decode.specs.Nested.{controls, group_4, group_48, group_4e, nested, tests, unaries, with_register, with_status}
use Rattle.m68k_decode.specs.Rows as rows
use Rattle.m68k_decode.specs.Rows.{Row}
use Rattle.m68k_decode.specs.declared.decoded.Decoded.{Decoded}
use Rattle.m68k_decode.specs.declared.op.Op.TheVariants as ops
use Rattle.m68k_decode.proofs.Table.{decoded_is_picked}
use Rattle.asm_m68k.specs.Encoding.{encoded, extension, first_word}
use Rattle.md_disasm.specs.Texts68.{text_of}
use Rattle.md_asm_text.specs.Tokens as texts
use Rattle.md_asm_text.specs.Tokens.{Token, is_worded, opened, tokens, split}
use Rattle.asm_m68k.specs.Reading.{Source, size_of, read_source, with_operands, with_size}
use Rattle.asm_m68k.specs.Building.{built, meant, mnemonic_in, mnemonic_of}
use Rattle.asm_m68k.specs.Checked.{tried}
use Rattle.asm_m68k.specs.Table.{IsInstruction}

-- ---- what is read of a directive's text

operands_mnemonic : (mnemonic : List ℕ) (size : Option Size) (ps : List Token) → (with_operands mnemonic size ps).mnemonic ≡ mnemonic
operands_mnemonic mnemonic size [] = refl
operands_mnemonic mnemonic size (p ∷ ps) = refl

size_mnemonic : (b : Bool) (mnemonic : List ℕ) (size : Size) (ps qs : List Token)
    → (if b then with_operands mnemonic (Some size) ps else with_operands mnemonic None qs).mnemonic ≡ mnemonic
size_mnemonic true mnemonic size ps qs = operands_mnemonic mnemonic (Some size) ps
size_mnemonic false mnemonic size ps qs = operands_mnemonic mnemonic None qs

mnemonic_stays : (mnemonic : List ℕ) (ps : List Token) → (with_size mnemonic ps).mnemonic ≡ mnemonic
mnemonic_stays mnemonic [] = refl
mnemonic_stays mnemonic (texts.Word w ∷ ps) = refl
mnemonic_stays mnemonic (texts.Number n ∷ ps) = refl
mnemonic_stays mnemonic (texts.Name w ∷ ps) = refl
mnemonic_stays mnemonic (texts.Mark c ∷ []) = refl
mnemonic_stays mnemonic (texts.Mark c ∷ texts.Word w ∷ ps) = size_mnemonic (c == 46) mnemonic (size_of w) ps (texts.Mark c ∷ texts.Word w ∷ ps)
mnemonic_stays mnemonic (texts.Mark c ∷ texts.Number n ∷ ps) = refl
mnemonic_stays mnemonic (texts.Mark c ∷ texts.Name w ∷ ps) = refl
mnemonic_stays mnemonic (texts.Mark c ∷ texts.Mark d ∷ ps) = refl

meant_of : (s : Source) (at : ℕ) → s.mnemonic ≡ codes "dc" → meant s at ≡ ops.Nop
unfolding meant mnemonic_of mnemonic_in built
meant_of s at is = rw is refl

tried_dc : (more : List Token) (at : ℕ) → tried (texts.Word (codes "dc") ∷ more) at ≡ 0x4e71 ∷ []
unfolding read_source first_word extension
tried_dc more at = ap encoded (meant_of (read_source (texts.Word (codes "dc") ∷ more)) at (mnemonic_stays (codes "dc") more))

dc_opens : (rest : List ℕ) → (more : List Token) × (tokens (codes "dc.w" ++ rest) ≡ texts.Word (codes "dc") ∷ more)
unfolding opened is_worded
dc_opens rest = (texts.Mark 46 ∷ split [] (119 ∷ rest), refl)

-- an instruction that is written by `dc.w`
abbrev IsDirective : Decoded → Type 0
IsDirective d = (at : ℕ) → (rest : List ℕ) × (text_of d at ≡ codes "dc.w" ++ rest)

tried_nop : (d : Decoded) (line_tokens : List Token) (at : ℕ) → IsDirective d → tokens (text_of d at) ≡ line_tokens → tried line_tokens at ≡ 0x4e71 ∷ []
tried_nop d line_tokens at is text =
    let own = is at in
    let opens = dc_opens own.0 in
    ap (λ (s : List Token). tried s at) (sym text ∙ ap tokens own.1 ∙ opens.1) ∙ tried_dc opens.0 at

-- ---- which words are written so

unmatched_by : (a f : Bool) (words : List ℕ) → (opcode words / 4096 == 10) ≡ a → (opcode words / 4096 == 15) ≡ f → IsDirective (unmatched words)
unfolding unmatched
unmatched_by true f words ea ef at = rw ea (_, refl)
unmatched_by false true words ea ef at = rw (ea, ef) (_, refl)
unmatched_by false false words ea ef at = rw (ea, ef) (_, refl)

illegal_is : (words : List ℕ) → IsDirective (made rows.Illegal words)
unfolding made
illegal_is words at = (_, refl)

nop_is : IsInstruction (nested 0x4e71)
unfolding nested group_4 with_register with_status unaries tests group_48 group_4e controls
nop_is = tt

entered : (word : ℕ) (found : Option Row) → word ≡ 0x4e71 → nested word ≡ found → IsInstruction found
entered word found nop is = subst (λ (f : Option Row). IsInstruction f) (ap nested (sym nop) ∙ is) nop_is

-- the row of a first word that is tried and says the tokens
by_row : (found : Option Row) (word : ℕ) (tail : List ℕ) (line_tokens : List Token) (at : ℕ) → word < 65536 → nested word ≡ found
    → (front : List ℕ) → (slice_index front 0 ≡ word) → front ≡ tried line_tokens at → tokens (text_of (picked found (word ∷ tail)) at) ≡ line_tokens → IsInstruction found
by_row None word tail line_tokens at below is front first own text =
    let nop : word ≡ 0x4e71 = sym first ∙ ap (λ (l : List ℕ). slice_index l 0) (own ∙ tried_nop (unmatched (word ∷ tail)) line_tokens at (unmatched_by _ _ (word ∷ tail) refl refl) text) in
    entered word None nop is
by_row (Some rows.Illegal) word tail line_tokens at below is front first own text =
    let nop : word ≡ 0x4e71 = sym first ∙ ap (λ (l : List ℕ). slice_index l 0) (own ∙ tried_nop (made rows.Illegal (word ∷ tail)) line_tokens at (illegal_is (word ∷ tail)) text) in
    entered word (Some rows.Illegal) nop is
by_row (Some _) word tail line_tokens at below is front first own text = tt

pub tried_instruction : (word : ℕ) (tail : List ℕ) (line_tokens : List Token) (at : ℕ) → word < 65536 → (front : List ℕ) → slice_index front 0 ≡ word → front ≡ tried line_tokens at
    → tokens (text_of (instruction_of (word ∷ tail)) at) ≡ line_tokens → IsInstruction (nested word)
tried_instruction word tail line_tokens at below front first own text =
    by_row (nested word) word tail line_tokens at below refl front first own (rw (decoded_is_picked (word ∷ tail) below) at text)
