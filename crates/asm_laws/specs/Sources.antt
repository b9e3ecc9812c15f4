-- Sources of one instruction at an address, and that it is in their image.
use Rattle.std.specs.Prelude.{◌≡◌, ℕ, ◌+◌, ◌%◌, ◌<◌, ◌≤◌, false, List, [], ◌∷◌, ◌++◌, codes}
use Rattle.m68k_decode.specs.Instructions as main
use Rattle.z80_decode.specs.Instructions as sub
use Rattle.md_disasm.specs.Digits.{marked_long, marked_word}
use Rattle.md_disasm.specs.Texts68 as main_texts
use Rattle.md_disasm.specs.Texts80 as sub_texts
use Rattle.asm_m68k.specs.Table.{AreWords}
use Rattle.asm_z80.specs.Coded80.{AreBytes}
use Rattle.asm_z80.specs.Instruction.{is_db}
use Rattle.md_asm.specs.Assembly.{AssemblyOutcome, Done, Failed}
use Rattle.md_asm.specs.Places.{image_limit}
use Rattle.asm_laws.specs.Places.{bytes_from, words_from}

-- for the 68000: `org` with the address, and the text on a line of its own
abbrev pub main_source : ℕ → List ℕ → List ℕ
main_source at text = marked_long (codes "org $") at [] ++ 10 ∷ (text ++ 10 ∷ [])

-- for the Z80: `cpu z80` with the address, so that place 0 has it, and the text on a line of its own
abbrev pub sub_source : ℕ → List ℕ → List ℕ
sub_source at text = marked_word (codes "cpu z80 $") at [] ++ 10 ∷ (text ++ 10 ∷ [])

-- a source is that of the text of what words of the 68000 decode to, at an even address from which its bytes stay
-- below 400000h
pub record IsMainSource (source : List ℕ) (word : ℕ) (tail : List ℕ) (at : ℕ) : Type 0 where
  pub first : word < 65536
  pub words : AreWords (word ∷ tail)
  pub even : at % 2 ≡ 0
  pub room : at + (main.instruction_of (word ∷ tail)).length ≤ image_limit
  pub text : source ≡ main_source at (main_texts.text_of (main.instruction_of (word ∷ tail)) at)

-- or of what bytes of the Z80 decode to that is no directive, at an address
pub record IsSubSource (source bytes : List ℕ) (at : ℕ) : Type 0 where
  pub all : AreBytes bytes
  pub address : at < 65536
  pub instruction : is_db (sub.instruction_of bytes).op ≡ false
  pub text : source ≡ sub_source at (sub_texts.text_of (sub.instruction_of bytes) at)

-- there is an image, and what is in it at the address, or for the Z80 at place 0, decodes to the instruction
abbrev pub KeepsMain : AssemblyOutcome → ℕ → List ℕ → ℕ → Type 0
KeepsMain (Done image lines) word tail at = main.instruction_of (words_from image at) ≡ main.instruction_of (word ∷ tail)
KeepsMain (Failed line kind) word tail at = ⊥

abbrev pub KeepsSub : AssemblyOutcome → List ℕ → Type 0
KeepsSub (Done image lines) bytes = sub.instruction_of (bytes_from image 0) ≡ sub.instruction_of bytes
KeepsSub (Failed line kind) bytes = ⊥

-- a source that is one instruction's is assembled to it; so one that is refused is none
pub record KeepsInstruction (source : List ℕ) (outcome : AssemblyOutcome) : Type 0 where
  pub main_kept : (word : ℕ) (tail : List ℕ) (at : ℕ) → IsMainSource source word tail at → KeepsMain outcome word tail at
  pub sub_kept : (bytes : List ℕ) (at : ℕ) → IsSubSource source bytes at → KeepsSub outcome bytes
