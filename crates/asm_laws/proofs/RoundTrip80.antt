-- The text of what bytes of the Z80 decode to is assembled, as a source's line, to bytes that decode to it.
use Rattle.std.proofs.Common.{◌≡◌, ℕ, ◌+◌, ◌<◌, ◌≤◌, true, false, List, [], ◌∷◌, ◌++◌, length, take, drop, refl, ap, ◌∙◌, arith}
use Rattle.std.proofs.Math.Seq.{take-append_seam}
use Rattle.z80_decode.specs.Instructions.{instruction_of}
use Rattle.md_disasm.specs.Texts80.{text_of}
use Rattle.asm_z80.specs.Coded80.{AreBytes}
use Rattle.asm_z80.specs.Checked.{padded}
use Rattle.asm_z80.specs.Instruction.{is_db}
use Rattle.asm_z80.proofs.Lengths.{decoded_few}
use Rattle.md_asm.proofs.Bytes.{filled_up}
use Rattle.md_asm.specs.Assembly.{Done, assembly}
use Rattle.md_asm.specs.Places.{blank, put}
use Rattle.md_asm.specs.declared.placed.Placed.{Placed}
use Rattle.asm_laws.specs.Places.{bytes_from}
use Rattle.asm_laws.specs.Sources.{sub_source}
use Rattle.md_asm.proofs.Named80.{op_line}
use Rattle.asm_laws.proofs.Rounds.{sub_done}
use Rattle.md_asm.proofs.Coded80.{sub_coded}

-- ---- the image

image_is : (bytes rest : List ℕ) → take (length bytes) (([] ++ bytes) ++ rest) ≡ bytes
image_is bytes rest = take-append_seam bytes rest

put_is : (memory bytes : List ℕ) → take (length bytes) (put memory 0 bytes) ≡ bytes
unfolding put
put_is memory bytes = image_is bytes (drop (0 + length bytes) memory)

from_is : (bytes : List ℕ) → length bytes ≤ 4 → bytes_from bytes 0 ≡ padded bytes
from_is [] few = refl
from_is (a ∷ []) few = refl
from_is (a ∷ b ∷ []) few = refl
from_is (a ∷ b ∷ c ∷ []) few = refl
from_is (a ∷ b ∷ c ∷ d ∷ []) few = refl
from_is (a ∷ b ∷ c ∷ d ∷ e ∷ more) few = absurd (omega arith)

-- its text at an address is assembled there to bytes that decode to it
pub sub_round_trip : (bytes : List ℕ) (at : ℕ) → AreBytes bytes → at < 65536 → is_db (instruction_of bytes).op ≡ false
    → (image : List ℕ) × (lines : List Placed) × (assembly (sub_source at (text_of (instruction_of bytes) at)) ≡ Done image lines)
    × (instruction_of (bytes_from image 0) ≡ instruction_of bytes)
sub_round_trip bytes at h a none =
    let coded = sub_coded bytes at h a none in
    let line = op_line (instruction_of bytes).op at none in
    let long = coded.2 in
    let most = decoded_few bytes h in
    let few : length coded.0 ≤ 4 = omega (arith, long, most) in
    let up = filled_up coded.0 few in (
      coded.0,
      record { place = 0; address = at; z80 = true } ∷ [],
      sub_done (text_of (instruction_of bytes) at) at coded.0 line.0 line.1 coded.1 a few
          ∙ ap (λ (l : List ℕ). Done l (record { place = 0; address = at; z80 = true } ∷ [])) (put_is blank coded.0),
      ap instruction_of (from_is coded.0 few ∙ up.up) ∙ coded.3 up.more up.bytes_too,
    )
