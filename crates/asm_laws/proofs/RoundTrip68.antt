-- The text of what words of the 68000 decode to is assembled, as a source's line, to bytes that decode to it.
use Rattle.std.proofs.Common.{◌≡◌, ℕ, ◌+◌, ◌*◌, ◌/◌, ◌%◌, ◌<◌, ◌≤◌, false, List, [], ◌∷◌, ◌++◌, length, take, drop, length-append, refl, ap, ◌∙◌, sym, arith}
use Rattle.std.specs.Prelude.{slice_index}
use Rattle.std.proofs.lemmas.List.{get_or-append-add, length-take-le}
use Rattle.std.proofs.Math.Seq.{take-append_seam}
use Rattle.m68k_decode.specs.Instructions.{instruction_of}
use Rattle.m68k_decode.specs.Nested.{nested}
use Rattle.md_disasm.specs.Texts68.{text_of}
use Rattle.asm_m68k.specs.Checked.{padded}
use Rattle.asm_m68k.specs.Table.{AreWords, IsInstruction}
use Rattle.md_asm.specs.Codes.{in_bytes}
use Rattle.md_asm.proofs.Lengths.{filled_up}
use Rattle.md_asm.specs.Assembly.{Done, assembly}
use Rattle.md_asm.specs.Places.{blank, image_limit, put}
use Rattle.md_asm.proofs.Memory.{zeros_long}
use Rattle.md_asm.specs.declared.placed.Placed.{Placed}
use Rattle.asm_laws.specs.Places.{word_at, words_from}
use Rattle.asm_laws.specs.Sources.{main_source}
use Rattle.md_asm.proofs.Named68.{op_line}
use Rattle.asm_laws.proofs.Rounds.{main_done}
use Rattle.md_asm.proofs.Coded68.{AreMain, known, main_coded}

-- ---- the image

blank_long : length blank ≡ image_limit
blank_long = zeros_long image_limit

pub front_long : (at : ℕ) → at ≤ image_limit → length (take at blank) ≡ at
front_long at h = let e = blank_long in length-take-le at blank (omega (arith, e))

image_by : (place bytes rest : List ℕ) (at : ℕ) → length place ≡ at → take (at + length bytes) ((place ++ bytes) ++ rest) ≡ place ++ bytes
image_by place bytes rest at e =
    ap (λ (n : ℕ). take n ((place ++ bytes) ++ rest)) (let l = length-append place bytes in omega (arith, e, l)) ∙ take-append_seam (place ++ bytes) rest

pub image_is : (at : ℕ) (bytes : List ℕ) → at ≤ image_limit → take (at + length bytes) (put blank at bytes) ≡ take at blank ++ bytes
unfolding put
image_is at bytes h = image_by (take at blank) bytes (drop (at + length bytes) blank) at (front_long at h)

at_front : (place xs : List ℕ) (at k p : ℕ) → length place ≡ at → p ≡ at + k → slice_index (place ++ xs) p ≡ slice_index xs k
at_front place xs at k p e f =
    ap (λ (n : ℕ). slice_index (place ++ xs) n) (f ∙ ap (λ (n : ℕ). n + k) (sym e)) ∙ get_or-append-add place xs k 0

word_front : (place xs : List ℕ) (at k p : ℕ) → length place ≡ at → p ≡ at + k → word_at (place ++ xs) p ≡ slice_index xs k * 256 + slice_index xs (k + 1)
word_front place xs at k p e f =
    let high = at_front place xs at k p e f in
    let low = at_front place xs at (k + 1) (p + 1) e (omega (arith, f)) in
    rw (high, low) refl

pub from_front : (place xs : List ℕ) (at : ℕ) → length place ≡ at → words_from (place ++ xs) at ≡ words_from xs 0
from_front place xs at e =
    rw (word_front place xs at 0 at e (omega arith), word_front place xs at 2 (at + 2) e refl, word_front place xs at 4 (at + 4) e refl, word_front place xs at 6 (at + 6) e refl, word_front place xs at 8 (at + 8) e refl) refl

back : (w : ℕ) → w / 256 * 256 + w % 256 ≡ w
back w = omega arith

pub words_back : (words : List ℕ) → length words ≤ 5 → words_from (in_bytes words) 0 ≡ padded words
unfolding in_bytes
words_back [] h = refl
words_back (a ∷ []) h = rw (back a) refl
words_back (a ∷ b ∷ []) h = rw (back a, back b) refl
words_back (a ∷ b ∷ c ∷ []) h = rw (back a, back b, back c) refl
words_back (a ∷ b ∷ c ∷ d ∷ []) h = rw (back a, back b, back c, back d) refl
words_back (a ∷ b ∷ c ∷ d ∷ e ∷ []) h = rw (back a, back b, back c, back d, back e) refl
words_back (a ∷ b ∷ c ∷ d ∷ e ∷ f ∷ more) h = absurd (omega arith)

-- a source of its text has an image whose words decode to it
pub main_round_trip : (w : ℕ) (tail : List ℕ) (at : ℕ) → w < 65536 → IsInstruction (nested w) → AreWords (w ∷ tail) → at % 2 ≡ 0 → at + (instruction_of (w ∷ tail)).length ≤ image_limit
    → (image : List ℕ) × (lines : List Placed) × (assembly (main_source at (text_of (instruction_of (w ∷ tail)) at)) ≡ Done image lines)
    × (instruction_of (words_from image at) ≡ instruction_of (w ∷ tail))
main_round_trip w tail at below entered all even room =
    let main : AreMain w tail = record { low = below; entered = entered; all = all } in
    let own = main_coded w tail at main (omega arith) in
    let k = known w tail at main in
    let line = op_line (instruction_of (w ∷ tail)).op at k.name in
    let long = own.long in
    let within : at + length (in_bytes own.words) ≤ image_limit = omega (arith, long, room) in
    let up = filled_up own.words own.short in (
      take at blank ++ in_bytes own.words,
      record { place = at; address = at; z80 = false } ∷ [],
      main_done (text_of (instruction_of (w ∷ tail)) at) at (in_bytes own.words) line.0 line.1 own.coded even within
          ∙ ap (λ (l : List ℕ). Done l (record { place = at; address = at; z80 = false } ∷ [])) (image_is at (in_bytes own.words) (omega arith)),
      ap instruction_of (from_front (take at blank) (in_bytes own.words) at (front_long at (omega arith)) ∙ words_back own.words own.short ∙ up.1) ∙ own.again up.0,
    )
