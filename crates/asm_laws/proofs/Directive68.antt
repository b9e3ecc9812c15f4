-- What is no instruction of the 68000: its text is a directive's, which is assembled to its word.
use Rattle.std.proofs.Common.{◌≡◌, ℕ, ◌+◌, ◌/◌, ◌%◌, ◌<◌, ◌≤◌, ◌==◌, Bool, true, false, List, [], ◌∷◌, ◌++◌, nat_le, length, take, append-nil, refl, ap, ◌∙◌, sym, subst, arith, codes, Option, Some, None}
use Rattle.std.proofs.lemmas.Bool.Decides.{nat_tests}
use Rattle.m68k_decode.specs.declared.decoded.Decoded.{Decoded}
use Rattle.m68k_decode.specs.Instructions.{instruction_of, made, picked, unmatched}
use Rattle.m68k_decode.specs.Nested.{nested}
use Rattle.m68k_decode.specs.Rows as rows
use Rattle.m68k_decode.specs.Rows.{Row}
use Rattle.m68k_decode.proofs.Table.{decoded_is_picked}
use Rattle.md_disasm.specs.Digits.{four_digits, marked_word}
use Rattle.md_disasm.specs.Rows68.{Row68, one}
use Rattle.md_disasm.specs.Texts68.{row_text, text_of}
use Rattle.md_disasm.specs.declared.operand68.Operand68.TheVariants as operands
use Rattle.md_asm_text.specs.Tokens as tokens
use Rattle.md_asm_text.specs.Tokens.{Token, is_name, is_worded, opened, split}
use Rattle.md_asm_text.proofs.Splits.{mark_split, name_opens, number_4, word_split}
use Rattle.md_asm_text.specs.Bodies.{are_values, directive_of}
use Rattle.md_asm_text.specs.Lines.{line_of}
use Rattle.md_asm_text.specs.declared.body.Body.TheVariants as bodies
use Rattle.asm_m68k.specs.Table.{AreWords, IsInstruction}
use Rattle.md_asm.specs.Codes.{in_bytes}
use Rattle.md_asm.specs.Contents.{Good, settled_line}
use Rattle.md_asm.specs.Numbers.{Names, any_over, count, has_name, resolved, words_of}
use Rattle.md_asm.specs.Assembly.{Done, assembly, places_of, second}
use Rattle.md_asm.specs.Places.{blank, image_limit, put}
use Rattle.md_asm.specs.Rounds.{On, following, line_step, round_one, round_two, start}
use Rattle.md_asm.specs.declared.placed.Placed.{Placed}
use Rattle.asm_laws.specs.Places.{words_from}
use Rattle.asm_laws.specs.Sources.{main_source}
use Rattle.md_asm.proofs.Line.{line_is}
use Rattle.md_asm.proofs.Named68.{row_is_text}
use Rattle.asm_laws.proofs.Rounds.{even, max_zero, org_is, org_line, org_text, plain_line, small, two_lines}
use Rattle.md_asm.proofs.Solid.{IsText}
use Rattle.asm_laws.proofs.RoundTrip68.{from_front, front_long, image_is, main_round_trip, words_back}
use Rattle.asm_m68k.proofs.Again.{none_op}

abbrev word_row : ℕ → Row68
word_row w = one (codes "dc.w") (operands.Opcode w)

abbrev word_text : ℕ → List ℕ
word_text w = row_text (word_row w)

abbrev line_tokens : ℕ → List Token
line_tokens w = tokens.Word (codes "dc") ∷ tokens.Mark 46 ∷ tokens.Word (codes "w") ∷ tokens.Mark 32 ∷ tokens.Number w ∷ []

-- ---- the line

word_is_text : (w : ℕ) → IsText (word_text w)
word_is_text w = row_is_text (word_row w) refl refl

text_shape : (w : ℕ) → word_text w ≡ codes "dc" ++ (46 ∷ 119 ∷ 32 ∷ 36 ∷ (four_digits w ++ []))
unfolding marked_word
text_shape w = append-nil _

word_tokens : (w : ℕ) → w < 65536 → tokens.tokens (word_text w) ≡ line_tokens w
unfolding is_worded tokens.token_of is_name split
word_tokens w h =
    ap (opened []) (text_shape w)
    ∙ name_opens (codes "dc") (46 ∷ 119 ∷ 32 ∷ 36 ∷ (four_digits w ++ [])) refl refl
    ∙ ap (λ (l : List Token). tokens.Word (codes "dc") ∷ l) (mark_split 46 (119 ∷ 32 ∷ 36 ∷ (four_digits w ++ [])) refl
    ∙ ap (λ (l : List Token). tokens.Mark 46 ∷ l) (word_split (codes "w") (32 ∷ 36 ∷ (four_digits w ++ [])) refl refl
    ∙ ap (λ (l : List Token). tokens.Word (codes "w") ∷ l) (mark_split 32 (36 ∷ (four_digits w ++ [])) refl
    ∙ ap (λ (l : List Token). tokens.Mark 32 ∷ l) (number_4 w [] h refl))))

word_line : (w : ℕ) → w < 65536 → line_of (word_text w) ≡ plain_line (word_text w) bodies.Words
unfolding directive_of are_values
word_line w h = line_is (word_text w) bodies.Words (word_is_text w) (ap directive_of (word_tokens w h))

-- ---- the rounds

fits : (w : ℕ) → w < 65536 → nat_le 65536 w ≡ false
fits w h = cases (nat_le 65536 w) refl
  where
    cases : (b : Bool) → nat_le 65536 w ≡ b → b ≡ false
    cases true is = absurd (grind (arith, nat_tests))
    cases false is = refl

word_step : (first text : List ℕ) (at w : ℕ) → tokens.tokens text ≡ line_tokens w → w < 65536 → at % 2 ≡ 0 → at + 2 ≤ image_limit
    → line_step (following start 1 (plain_line first (bodies.Org at)) 0) 2 (plain_line text bodies.Words) ≡ On (following (following start 1 (plain_line first (bodies.Org at)) 0) 2 (plain_line text bodies.Words) 2)
unfolding count any_over
word_step first text at w is h e room = rw (is, fits w h, even at e, small at 2 room) refl

settled : (names : Names) (text : List ℕ) (at w : ℕ) → tokens.tokens text ≡ line_tokens w → w < 65536
    → settled_line false bodies.Words 2 (resolved names (tokens.tokens text)) at ≡ Good (w / 256 % 256 ∷ w % 256 ∷ [])
unfolding has_name any_over words_of
settled names text at w is h = rw (is, fits w h) refl

word_done : (at w : ℕ) → w < 65536 → at % 2 ≡ 0 → at + 2 ≤ image_limit
    → assembly (main_source at (word_text w)) ≡ Done (take (at + 2) (put blank at (w / 256 % 256 ∷ w % 256 ∷ []))) []
unfolding assembly round_one round_two places_of
word_done at w h e room =
    let own = settled (λ name. None) (word_text w) at w (word_tokens w h) h in
    ap (λ (l : List (List ℕ)). second (round_one start 1 l)) (two_lines (org_line at) (word_text w) (org_text at) (word_is_text w))
    ∙ rw (org_is at (omega arith), word_line w h, word_step (org_line at) (word_text w) at w (word_tokens w h) h e room, own, max_zero (at + 2)) refl

-- ---- what words decode to that are no instruction

record IsWord (d : Decoded) (w : ℕ) : Type 0 where
  text : (at : ℕ) → text_of d at ≡ word_text w
  whole : d.length ≡ 2

unmatched_by : (a f : Bool) (w : ℕ) (tail : List ℕ) → (w / 4096 == 10) ≡ a → (w / 4096 == 15) ≡ f → IsWord (unmatched (w ∷ tail)) w
unfolding unmatched
unmatched_by true f w tail ea ef = rw ea (record { text = λ at. refl; whole = refl })
unmatched_by false true w tail ea ef = rw (ea, ef) (record { text = λ at. refl; whole = refl })
unmatched_by false false w tail ea ef = rw (ea, ef) (record { text = λ at. refl; whole = refl })

illegal_is : (w : ℕ) (tail : List ℕ) → IsWord (made rows.Illegal (w ∷ tail)) w
unfolding made
illegal_is w tail = record { text = λ at. refl; whole = refl }

illegal_same : (w : ℕ) (tail rest : List ℕ) → made rows.Illegal (w ∷ rest) ≡ made rows.Illegal (w ∷ tail)
unfolding made
illegal_same w tail rest = refl

bytes_are : (w : ℕ) → w < 65536 → w / 256 % 256 ∷ w % 256 ∷ [] ≡ in_bytes (w ∷ [])
unfolding in_bytes
bytes_are w h = let e : w / 256 % 256 ≡ w / 256 = omega arith in rw e refl

two_long : (w : ℕ) → length (in_bytes (w ∷ [])) ≡ 2
unfolding in_bytes
two_long w = refl

abbrev IsRoundTrip : ℕ → List ℕ → ℕ → Type 0
IsRoundTrip w tail at =
    (image : List ℕ) × (lines : List Placed) × (assembly (main_source at (text_of (instruction_of (w ∷ tail)) at)) ≡ Done image lines)
    × (instruction_of (words_from image at) ≡ instruction_of (w ∷ tail))

word_round_trip : (w : ℕ) (tail : List ℕ) (at : ℕ) → w < 65536 → IsWord (instruction_of (w ∷ tail)) w → ((rest : List ℕ) → instruction_of (w ∷ rest) ≡ instruction_of (w ∷ tail))
    → at % 2 ≡ 0 → at + (instruction_of (w ∷ tail)).length ≤ image_limit → IsRoundTrip w tail at
word_round_trip w tail at h is same e room =
    let whole = is.whole in
    let within : at + 2 ≤ image_limit = omega (arith, whole, room) in
    let image : take (at + 2) (put blank at (w / 256 % 256 ∷ w % 256 ∷ [])) ≡ take at blank ++ in_bytes (w ∷ [])
    = ap (λ (l : List ℕ). take (at + 2) (put blank at l)) (bytes_are w h)
    ∙ ap (λ (n : ℕ). take (at + n) (put blank at (in_bytes (w ∷ [])))) (sym (two_long w))
    ∙ image_is at (in_bytes (w ∷ [])) (omega arith) in (
      take at blank ++ in_bytes (w ∷ []),
      [],
      ap (λ (l : List ℕ). assembly (main_source at l)) (is.text at) ∙ word_done at w h e within ∙ ap (λ (l : List ℕ). Done l []) image,
      ap instruction_of (from_front (take at blank) (in_bytes (w ∷ [])) at (front_long at (omega arith)) ∙ words_back (w ∷ []) (omega arith)) ∙ same (0 ∷ 0 ∷ 0 ∷ 0 ∷ []),
    )

round_trip_by : (found : Option Row) (w : ℕ) (tail : List ℕ) (at : ℕ) → w < 65536 → nested w ≡ found → AreWords (w ∷ tail) → at % 2 ≡ 0
    → at + (instruction_of (w ∷ tail)).length ≤ image_limit → IsRoundTrip w tail at
round_trip_by None w tail at h is all e room =
    let picks : (rest : List ℕ) → instruction_of (w ∷ rest) ≡ unmatched (w ∷ rest) = λ rest. decoded_is_picked (w ∷ rest) h ∙ ap (λ (r : Option Row). picked r (w ∷ rest)) is in
    word_round_trip w tail at h (subst (λ (d : Decoded). IsWord d w) (sym (picks tail)) (unmatched_by _ _ w tail refl refl))
    (λ rest. picks rest ∙ none_op w tail rest ∙ sym (picks tail)) e room
round_trip_by (Some rows.Illegal) w tail at h is all e room =
    let picks : (rest : List ℕ) → instruction_of (w ∷ rest) ≡ made rows.Illegal (w ∷ rest) = λ rest. decoded_is_picked (w ∷ rest) h ∙ ap (λ (r : Option Row). picked r (w ∷ rest)) is in
    word_round_trip w tail at h (subst (λ (d : Decoded). IsWord d w) (sym (picks tail)) (illegal_is w tail))
    (λ rest. picks rest ∙ illegal_same w tail rest ∙ sym (picks tail)) e room
round_trip_by (Some _) w tail at h is all e room = main_round_trip w tail at h (subst (λ (r : Option Row). IsInstruction r) (sym is) tt) all e room

pub every_round_trip : (w : ℕ) (tail : List ℕ) (at : ℕ) → w < 65536 → AreWords (w ∷ tail) → at % 2 ≡ 0 → at + (instruction_of (w ∷ tail)).length ≤ image_limit
    → (image : List ℕ) × (lines : List Placed) × (assembly (main_source at (text_of (instruction_of (w ∷ tail)) at)) ≡ Done image lines)
    × (instruction_of (words_from image at) ≡ instruction_of (w ∷ tail))
every_round_trip w tail at h all e room = round_trip_by (nested w) w tail at h refl all e room
