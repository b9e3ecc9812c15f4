-- An image says its lines: what is assembled of a line has its text, whatever follows it.
use Rattle.std.proofs.Common.{◌≡◌, ℕ, zero, suc, ◌+◌, ◌*◌, ◌/◌, ◌%◌, ◌<◌, ◌≤◌, inl, inr, Bool, true, false, List, [], ◌∷◌, ◌++◌, length, get_or, drop, Option, Some, None, refl, ap, sym, subst, ◌∙◌, arith, if◌then◌else◌, add-zero}
use Rattle.std.specs.Prelude.{◌==◌, option_map, slice_index}
use Rattle.std.proofs.lemmas.Bool.{cases_lt}
use Rattle.std.proofs.lemmas.List.{get_or-append-add, get_or_past}
use Rattle.m68k_decode.specs.Instructions as main
use Rattle.m68k_decode.specs.Nested.{nested}
use Rattle.z80_decode.specs.Instructions as sub
use Rattle.md_disasm.specs.Texts68 as main_texts
use Rattle.md_disasm.specs.Texts80 as sub_texts
use Rattle.md_asm_text.specs.Tokens.{Token, tokens}
use Rattle.md_asm_text.specs.declared.body.Body.{Body}
use Rattle.md_asm_text.specs.declared.body.Body.TheVariants as bodies
use Rattle.asm_m68k.specs.Table.{AreWords, IsInstruction}
use Rattle.asm_z80.specs.Coded80.{AreBytes}
use Rattle.asm_z80.specs.Instruction.{is_db}
use Rattle.md_asm.specs.Codes.{code, in_bytes, main_code, sub_code}
use Rattle.md_asm.specs.Contents.{Far, Good, Unfit, Unknown, is_unfit, settled_line, sized}
use Rattle.md_asm.specs.Numbers.{Names, has_name, resolved}
use Rattle.md_asm.specs.Assembly.{Done, assembly, is_instruction}
use Rattle.md_asm.specs.Held.{AreHeld, IsAddress, IsHeld, StandsAt}
use Rattle.md_asm.specs.Rounds.{Slot}
use Rattle.md_asm.specs.declared.placed.Placed.{Placed}
use Rattle.md_asm.proofs.Held.{lines_held}
use Rattle.asm_laws.specs.Chosen.{AreChosen, AreLeast}
use Rattle.md_asm.proofs.SubTexts as sub_laws
use Rattle.md_asm.proofs.Texts as main_laws
use Rattle.asm_laws.specs.Lines.{AllRoundTrip, IsKept, IsRoundTrip, IsWritten, SaysLines}
use Rattle.asm_laws.specs.Places.{bytes_from, text_at, word_at, words_from}

-- ---- the laws of what tokens are assembled to

pub record Laws : Type 0 where
  pub main_again : (word : ℕ) (tail : List ℕ) (at : ℕ) → word < 65536 → IsInstruction (nested word) → AreWords (word ∷ tail) → at < 4294967296
      → (words : List ℕ) × (main_code (tokens (main_texts.text_of (main.instruction_of (word ∷ tail)) at)) at ≡ Some words)
      × ((rest : List ℕ) → main.instruction_of (words ++ rest) ≡ main.instruction_of (word ∷ tail))
  pub sub_again : (bytes : List ℕ) (at : ℕ) → AreBytes bytes → at < 65536 → is_db (sub.instruction_of bytes).op ≡ false
      → (found : List ℕ) × (sub_code (tokens (sub_texts.text_of (sub.instruction_of bytes) at)) at ≡ Some found)
      × ((rest : List ℕ) → AreBytes rest → sub.instruction_of (found ++ rest) ≡ sub.instruction_of bytes)
  pub main_least : (line_tokens : List Token) (words : List ℕ) (at : ℕ) → AreWords words → at < 4294967296 → main_code line_tokens at ≡ Some words → AreLeast words line_tokens at
  pub sub_best : (line_tokens : List Token) (bytes : List ℕ) (at : ℕ) → AreBytes bytes → at < 65536 → sub_code line_tokens at ≡ Some bytes → AreChosen bytes line_tokens at

-- ---- what an instruction results in is what is found for it

sized_is : (long : ℕ) (own bytes : List ℕ) (b : Bool) → (if b then Good own else Far) ≡ Good bytes → own ≡ bytes
sized_is long own bytes true is = cc
sized_is long own bytes false is = cc

sized_by : (long : ℕ) (found : Option (List ℕ)) (bytes : List ℕ) → sized long found ≡ Good bytes → found ≡ Some bytes
sized_by long None bytes is = cc
sized_by long (Some own) bytes is = ap Some (sized_is long own bytes (length own == long) is)

chosen : (b c : Bool) (long : ℕ) (found : Option (List ℕ)) (bytes : List ℕ)
    → (if b then Unknown else (if c then Unfit else sized long found)) ≡ Good bytes → found ≡ Some bytes
chosen true c long found bytes is = cc
chosen false true long found bytes is = cc
chosen false false long found bytes is = sized_by long found bytes is

code_of : (z80 : Bool) (body : Body) (long : ℕ) (line_tokens : List Token) (at : ℕ) (bytes : List ℕ) → is_instruction body ≡ true
    → settled_line z80 body long line_tokens at ≡ Good bytes → code z80 line_tokens at ≡ Some bytes
code_of z80 bodies.Instruction long line_tokens at bytes instruction is = chosen (has_name line_tokens) (is_unfit z80 bodies.Instruction line_tokens) long (code z80 line_tokens at) bytes is
code_of z80 bodies.Words long line_tokens at bytes instruction is = cc
code_of z80 bodies.Bytes long line_tokens at bytes instruction is = cc
code_of z80 bodies.Nothing long line_tokens at bytes instruction is = cc
code_of z80 (bodies.Org place) long line_tokens at bytes instruction is = cc
code_of z80 bodies.Main long line_tokens at bytes instruction is = cc
code_of z80 (bodies.Sub n) long line_tokens at bytes instruction is = cc
code_of z80 bodies.Bad long line_tokens at bytes instruction is = cc

-- ---- bytes that are in an image

pub stand_bytes : (image : List ℕ) (place : ℕ) (bytes : List ℕ) → AreBytes image → StandsAt image place bytes → AreBytes bytes
stand_bytes image place bytes all stands k = elim (cases_lt k (length bytes)) [
  | inl within ↦ (let here = all (place + k) in let e = stands k within in omega (arith, here, e))
  | inr past ↦ (let e = get_or_past bytes k 0 past in omega (arith, e))
]

first_of : (image : List ℕ) (place a : ℕ) (more : List ℕ) → StandsAt image place (a ∷ more) → slice_index image place ≡ a
first_of image place a more stands = ap (λ (n : ℕ). get_or image n 0) (sym (add-zero place)) ∙ stands 0 (omega arith)

-- what is read at a place begins with the bytes that are there
record Begins (read bytes : List ℕ) : Type 0 where
  rest : List ℕ
  whole : read ≡ bytes ++ rest

bytes_begin : (image : List ℕ) (place : ℕ) (bytes : List ℕ) → length bytes ≤ 4 → StandsAt image place bytes → Begins (bytes_from image place) bytes
bytes_begin image place [] few stands = record { rest = bytes_from image place; whole = refl }
bytes_begin image place (a ∷ []) few stands =
    let ea = first_of image place a [] stands in record { rest = drop 1 (bytes_from image place); whole = rw ea refl }
bytes_begin image place (a ∷ b ∷ []) few stands =
    let ea = first_of image place a (b ∷ []) stands in
    let eb : slice_index image (place + 1) ≡ b = stands 1 (omega arith) in record { rest = drop 2 (bytes_from image place); whole = rw (ea, eb) refl }
bytes_begin image place (a ∷ b ∷ c ∷ []) few stands =
    let ea = first_of image place a (b ∷ c ∷ []) stands in
    let eb : slice_index image (place + 1) ≡ b = stands 1 (omega arith) in
    let ec : slice_index image (place + 2) ≡ c = stands 2 (omega arith) in record { rest = drop 3 (bytes_from image place); whole = rw (ea, eb, ec) refl }
bytes_begin image place (a ∷ b ∷ c ∷ d ∷ []) few stands =
    let ea = first_of image place a (b ∷ c ∷ d ∷ []) stands in
    let eb : slice_index image (place + 1) ≡ b = stands 1 (omega arith) in
    let ec : slice_index image (place + 2) ≡ c = stands 2 (omega arith) in
    let ed : slice_index image (place + 3) ≡ d = stands 3 (omega arith) in record { rest = []; whole = rw (ea, eb, ec, ed) refl }
bytes_begin image place (a ∷ b ∷ c ∷ d ∷ e ∷ more) few stands = absurd (omega arith)

read_bytes : (image : List ℕ) (place : ℕ) → AreBytes image → AreBytes (bytes_from image place)
read_bytes image place all zero = all place
read_bytes image place all (suc zero) = all (place + 1)
read_bytes image place all (suc (suc zero)) = all (place + 2)
read_bytes image place all (suc (suc (suc zero))) = all (place + 3)
read_bytes image place all (suc (suc (suc (suc k)))) = omega arith

rest_bytes : (bytes rest : List ℕ) → AreBytes (bytes ++ rest) → AreBytes rest
rest_bytes bytes rest all k = let here = all (length bytes + k) in let e = get_or-append-add bytes rest k 0 in omega (arith, here, e)

-- ---- words that are in an image

-- bytes of words that are bytes are those of words
pub words_are : (words : List ℕ) → AreBytes (in_bytes words) → AreWords words
unfolding in_bytes
words_are [] all k = omega arith
words_are (word ∷ more) all zero = let high = all 0 in omega (arith, high)
words_are (word ∷ more) all (suc k) = words_are more (λ i. all (suc (suc i))) k

word_of : (high low word : ℕ) → high ≡ word / 256 → low ≡ word % 256 → high * 256 + low ≡ word
word_of high low word eh el = omega arith

first_word : (image : List ℕ) (place word : ℕ) (more : List ℕ) → StandsAt image place (in_bytes (word ∷ more)) → word_at image place ≡ word
unfolding in_bytes
first_word image place word more stands =
    word_of (slice_index image place) (slice_index image (place + 1)) word (first_of image place (word / 256) (word % 256 ∷ in_bytes more) stands) (stands 1 (omega arith))

two_on : (place next k : ℕ) → next ≡ place + 2 → next + k ≡ place + suc (suc k)
two_on place next k is = omega arith

words_after : (image : List ℕ) (place next word : ℕ) (more : List ℕ) → next ≡ place + 2 → StandsAt image place (in_bytes (word ∷ more)) → StandsAt image next (in_bytes more)
unfolding in_bytes
words_after image place next word more is stands k within =
    ap (λ (n : ℕ). get_or image n 0) (two_on place next k is) ∙ stands (suc (suc k)) (omega arith)

words_begin : (image : List ℕ) (place : ℕ) (words : List ℕ) → length words ≤ 5 → StandsAt image place (in_bytes words) → Begins (words_from image place) words
words_begin image place [] few stands = record { rest = words_from image place; whole = refl }
words_begin image place (a ∷ []) few stands =
    let ea = first_word image place a [] stands in record { rest = drop 1 (words_from image place); whole = rw ea refl }
words_begin image place (a ∷ b ∷ []) few stands =
    let ea = first_word image place a (b ∷ []) stands in
    let sb = words_after image place (place + 2) a (b ∷ []) refl stands in
    let eb = first_word image (place + 2) b [] sb in record { rest = drop 2 (words_from image place); whole = rw (ea, eb) refl }
words_begin image place (a ∷ b ∷ c ∷ []) few stands =
    let ea = first_word image place a (b ∷ c ∷ []) stands in
    let sb = words_after image place (place + 2) a (b ∷ c ∷ []) refl stands in
    let eb = first_word image (place + 2) b (c ∷ []) sb in
    let sc = words_after image (place + 2) (place + 4) b (c ∷ []) (omega arith) sb in
    let ec = first_word image (place + 4) c [] sc in record { rest = drop 3 (words_from image place); whole = rw (ea, eb, ec) refl }
words_begin image place (a ∷ b ∷ c ∷ d ∷ []) few stands =
    let ea = first_word image place a (b ∷ c ∷ d ∷ []) stands in
    let sb = words_after image place (place + 2) a (b ∷ c ∷ d ∷ []) refl stands in
    let eb = first_word image (place + 2) b (c ∷ d ∷ []) sb in
    let sc = words_after image (place + 2) (place + 4) b (c ∷ d ∷ []) (omega arith) sb in
    let ec = first_word image (place + 4) c (d ∷ []) sc in
    let sd = words_after image (place + 4) (place + 6) c (d ∷ []) (omega arith) sc in
    let ed = first_word image (place + 6) d [] sd in record { rest = drop 4 (words_from image place); whole = rw (ea, eb, ec, ed) refl }
words_begin image place (a ∷ b ∷ c ∷ d ∷ e ∷ []) few stands =
    let ea = first_word image place a (b ∷ c ∷ d ∷ e ∷ []) stands in
    let sb = words_after image place (place + 2) a (b ∷ c ∷ d ∷ e ∷ []) refl stands in
    let eb = first_word image (place + 2) b (c ∷ d ∷ e ∷ []) sb in
    let sc = words_after image (place + 2) (place + 4) b (c ∷ d ∷ e ∷ []) (omega arith) sb in
    let ec = first_word image (place + 4) c (d ∷ e ∷ []) sc in
    let sd = words_after image (place + 4) (place + 6) c (d ∷ e ∷ []) (omega arith) sc in
    let ed = first_word image (place + 6) d (e ∷ []) sd in
    let se = words_after image (place + 6) (place + 8) d (e ∷ []) (omega arith) sd in
    let ee = first_word image (place + 8) e [] se in record { rest = []; whole = rw (ea, eb, ec, ed, ee) refl }
words_begin image place (a ∷ b ∷ c ∷ d ∷ e ∷ f ∷ more) few stands = absurd (omega arith)

-- ---- a line

mapped : (found : Option (List ℕ)) (bytes : List ℕ) → option_map in_bytes found ≡ Some bytes → (words : List ℕ) × (found ≡ Some words) × (bytes ≡ in_bytes words)
mapped None bytes is = cc
mapped (Some words) bytes is = (words, refl, cc)

address_stays : (at : ℕ) → at < 65536 → at % 65536 ≡ at
address_stays at below = omega arith

round_trips_by : (z80 : Bool) (image : List ℕ) (place at : ℕ) (line_tokens : List Token) (bytes : List ℕ) → AreBytes image → IsAddress z80 at → StandsAt image place bytes
    → code z80 line_tokens at ≡ Some bytes → tokens (text_at z80 image place at) ≡ line_tokens
round_trips_by true image place at line_tokens bytes all below stands is =
    let own = stand_bytes image place bytes all stands in
    let begins = bytes_begin image place bytes (sub_laws.few line_tokens bytes at own below is) stands in
    let rest = rest_bytes bytes begins.rest (subst (λ (l : List ℕ). AreBytes l) begins.whole (read_bytes image place all)) in
    ap (λ (l : List ℕ). tokens (sub_texts.text_of (sub.instruction_of l) (at % 65536))) begins.whole
    ∙ ap (λ (n : ℕ). tokens (sub_texts.text_of (sub.instruction_of (bytes ++ begins.rest)) n)) (address_stays at below)
    ∙ sub_laws.keeps_text line_tokens bytes begins.rest at own rest below is
round_trips_by false image place at line_tokens bytes all below stands is =
    let found = mapped (main_code line_tokens at) bytes is in
    let stood : StandsAt image place (in_bytes found.0) = subst (λ (l : List ℕ). StandsAt image place l) found.2 stands in
    let own = words_are found.0 (stand_bytes image place (in_bytes found.0) all stood) in
    let begins = words_begin image place found.0 (main_laws.few line_tokens found.0 at found.1) stood in
    ap (λ (l : List ℕ). tokens (main_texts.text_of (main.instruction_of l) at)) begins.whole
    ∙ main_laws.keeps_text line_tokens found.0 begins.rest at own below found.1

one_found : (found : Option (List ℕ)) (own other : List ℕ) → found ≡ Some own → found ≡ Some other → own ≡ other
one_found found own other is too = cc

kept_by : Laws → (z80 : Bool) (image : List ℕ) (place at : ℕ) (line_tokens : List Token) (bytes : List ℕ) → AreBytes image → IsAddress z80 at → StandsAt image place bytes
    → code z80 line_tokens at ≡ Some bytes → IsKept z80 image place line_tokens at
kept_by laws true image place at line_tokens bytes all below stands is = λ other others none text.
    let own = stand_bytes image place bytes all stands in
    let begins = bytes_begin image place bytes (sub_laws.few line_tokens bytes at own below is) stands in
    let rest = rest_bytes bytes begins.rest (subst (λ (l : List ℕ). AreBytes l) begins.whole (read_bytes image place all)) in
    let again = laws.sub_again other at others below none in
    let same : bytes ≡ again.0 = one_found (sub_code line_tokens at) bytes again.0 is (ap (λ (s : List Token). sub_code s at) (sym text) ∙ again.1) in
    ap sub.instruction_of begins.whole ∙ ap (λ (l : List ℕ). sub.instruction_of (l ++ begins.rest)) same ∙ again.2 begins.rest rest
kept_by laws false image place at line_tokens bytes all below stands is = λ word tail low entered words text.
    let found = mapped (main_code line_tokens at) bytes is in
    let stood : StandsAt image place (in_bytes found.0) = subst (λ (l : List ℕ). StandsAt image place l) found.2 stands in
    let begins = words_begin image place found.0 (main_laws.few line_tokens found.0 at found.1) stood in
    let again = laws.main_again word tail at low entered words below in
    let same : found.0 ≡ again.0 = one_found (main_code line_tokens at) found.0 again.0 found.1 (ap (λ (s : List Token). main_code s at) (sym text) ∙ again.1) in
    ap main.instruction_of begins.whole ∙ ap (λ (l : List ℕ). main.instruction_of (l ++ begins.rest)) same ∙ again.2 begins.rest

written_by : Laws → (z80 : Bool) (image : List ℕ) (place at : ℕ) (line_tokens : List Token) (bytes : List ℕ) → AreBytes image → IsAddress z80 at → StandsAt image place bytes
    → code z80 line_tokens at ≡ Some bytes → IsWritten z80 bytes line_tokens at
written_by laws true image place at line_tokens bytes all below stands is = laws.sub_best line_tokens bytes at (stand_bytes image place bytes all stands) below is
written_by laws false image place at line_tokens bytes all below stands is =
    let found = mapped (main_code line_tokens at) bytes is in
    let stood : StandsAt image place (in_bytes found.0) = subst (λ (l : List ℕ). StandsAt image place l) found.2 stands in
    (found.0, found.2, laws.main_least line_tokens found.0 at (words_are found.0 (stand_bytes image place (in_bytes found.0) all stood)) below found.1)

slot_round_trips : Laws → (image : List ℕ) (names : Names) (slot : Slot) → AreBytes image → IsHeld image names slot → is_instruction slot.body ≡ true → IsRoundTrip image names slot
slot_round_trips laws image names slot all is instruction =
    let own = code_of slot.sub slot.body slot.long (resolved names (tokens slot.text)) slot.address is.bytes instruction is.settled in record {
      text = round_trips_by slot.sub image slot.place slot.address (resolved names (tokens slot.text)) is.bytes all is.addressed is.stands own;
      kept = kept_by laws slot.sub image slot.place slot.address (resolved names (tokens slot.text)) is.bytes all is.addressed is.stands own;
      bytes = is.bytes;
      stands = is.stands;
      chosen = written_by laws slot.sub image slot.place slot.address (resolved names (tokens slot.text)) is.bytes all is.addressed is.stands own;
    }

slots_round_trips : Laws → (image : List ℕ) (names : Names) (slots : List Slot) → AreBytes image → AreHeld image names slots → AllRoundTrip image names slots
slots_round_trips laws image names [] all held = tt
slots_round_trips laws image names (slot ∷ more) all held = (λ instruction. slot_round_trips laws image names slot all held.0 instruction, slots_round_trips laws image names more all held.1)

pub lines_round_trips : Laws → (source image : List ℕ) (lines : List Placed) → AreBytes image → assembly source ≡ Done image lines → SaysLines source image lines
lines_round_trips laws source image lines all is =
    let holds = lines_held source image lines is in record {
      round = holds.round;
      read = holds.read;
      places = holds.places;
      round_trips = slots_round_trips laws image holds.round.names holds.round.slots all holds.held;
    }
