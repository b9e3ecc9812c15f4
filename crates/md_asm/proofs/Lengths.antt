-- An instruction of the 68000 has five words at the most.
use Rattle.std.proofs.Common.{◌≡◌, ℕ, zero, suc, ◌<◌, ◌≤◌, List, [], ◌∷◌, ◌++◌, length, length-append, refl, arith}
use Rattle.md_word.specs.declared.mode.Mode.{Mode}
use Rattle.md_word.specs.declared.mode.Mode.TheVariants as modes
use Rattle.md_word.specs.declared.size.Size.{Size}
use Rattle.md_word.specs.declared.size.Size.TheVariants.{Byte, Word, Long}
use Rattle.m68k_decode.specs.declared.op.Op.{Op}
use Rattle.m68k_decode.specs.declared.op.Op.TheVariants as ops
use Rattle.m68k_decode.specs.declared.displacement.Displacement.{Displacement}
use Rattle.m68k_decode.specs.declared.displacement.Displacement.TheVariants as displacements
use Rattle.asm_m68k.specs.Encoding.{displacement_words, encoded, extension, mode_words, number_words}
use Rattle.asm_m68k.specs.Checked.{padded}
use Rattle.asm_m68k.specs.Table.{AreWords}

number_few : (size : Size) (n : ℕ) → length (number_words size n) ≤ 2
number_few Byte n = omega arith
number_few Word n = omega arith
number_few Long n = omega arith

mode_few : (size : Size) (mode : Mode) → length (mode_words size mode) ≤ 2
unfolding mode_words
mode_few size (modes.Data n) = omega arith
mode_few size (modes.Address n) = omega arith
mode_few size (modes.Indirect n) = omega arith
mode_few size (modes.PostInc n) = omega arith
mode_few size (modes.PreDec n) = omega arith
mode_few size (modes.Displaced n by) = omega arith
mode_few size (modes.Indexed n index long by) = omega arith
mode_few size (modes.AbsShort at) = omega arith
mode_few size (modes.AbsLong at) = omega arith
mode_few size (modes.PcDisplaced by) = omega arith
mode_few size (modes.PcIndexed index long by) = omega arith
mode_few size (modes.Immediate value) = number_few size value

displacement_few : (displacement : Displacement) → length (displacement_words displacement) ≤ 1
displacement_few (displacements.Byte by) = omega arith
displacement_few (displacements.Word by) = omega arith

both : (first second : List ℕ) → length first ≤ 2 → length second ≤ 2 → length (first ++ second) ≤ 4
both first second h k = omega (arith, h, k, length-append first second)

extension_few : (op : Op) → length (extension op) ≤ 4
unfolding extension
extension_few (ops.Immediate other1 size value mode) = both (number_words size value) (mode_words size mode) (number_few size value) (mode_few size mode)
extension_few (ops.CompareImmediate size value mode) = both (number_words size value) (mode_words size mode) (number_few size value) (mode_few size mode)
extension_few (ops.ImmediateToCcr other1 value) = omega arith
extension_few (ops.ImmediateToSr other1 value) = omega arith
extension_few (ops.BitByRegister other1 n mode) = let h = mode_few Byte mode in omega (arith, h)
extension_few (ops.BitByNumber other1 value mode) = let h = mode_few Byte mode in omega (arith, h)
extension_few (ops.MovepToRegister size n r by) = omega arith
extension_few (ops.MovepToMemory size n r by) = omega arith
extension_few (ops.Move size source target) = both (mode_words size source) (mode_words size target) (mode_few size source) (mode_few size target)
extension_few (ops.Movea size n mode) = let h = mode_few size mode in omega (arith, h)
extension_few (ops.Unary other1 size mode) = let h = mode_few size mode in omega (arith, h)
extension_few (ops.MoveFromSr mode) = let h = mode_few Word mode in omega (arith, h)
extension_few (ops.MoveToCcr mode) = let h = mode_few Word mode in omega (arith, h)
extension_few (ops.MoveToSr mode) = let h = mode_few Word mode in omega (arith, h)
extension_few (ops.Nbcd mode) = let h = mode_few Byte mode in omega (arith, h)
extension_few (ops.Pea mode) = let h = mode_few Long mode in omega (arith, h)
extension_few (ops.MovemToMemory size list mode) = let h = mode_few size mode in omega (arith, h)
extension_few (ops.MovemToRegisters size list mode) = let h = mode_few size mode in omega (arith, h)
extension_few (ops.Tst size mode) = let h = mode_few size mode in omega (arith, h)
extension_few (ops.Tas mode) = let h = mode_few Byte mode in omega (arith, h)
extension_few (ops.Link r by) = omega arith
extension_few (ops.Stop value) = omega arith
extension_few (ops.Jsr mode) = let h = mode_few Long mode in omega (arith, h)
extension_few (ops.Jmp mode) = let h = mode_few Long mode in omega (arith, h)
extension_few (ops.Lea n mode) = let h = mode_few Long mode in omega (arith, h)
extension_few (ops.Chk n mode) = let h = mode_few Word mode in omega (arith, h)
extension_few (ops.Quick other1 size number mode) = let h = mode_few size mode in omega (arith, h)
extension_few (ops.Scc condition mode) = let h = mode_few Byte mode in omega (arith, h)
extension_few (ops.Dbcc condition r by) = omega arith
extension_few (ops.Bra displacement) = let h = displacement_few displacement in omega (arith, h)
extension_few (ops.Bsr displacement) = let h = displacement_few displacement in omega (arith, h)
extension_few (ops.Bcc condition displacement) = let h = displacement_few displacement in omega (arith, h)
extension_few (ops.Divu n mode) = let h = mode_few Word mode in omega (arith, h)
extension_few (ops.Divs n mode) = let h = mode_few Word mode in omega (arith, h)
extension_few (ops.ToRegister other1 size n mode) = let h = mode_few size mode in omega (arith, h)
extension_few (ops.ToMemory other1 size n mode) = let h = mode_few size mode in omega (arith, h)
extension_few (ops.ToAddress other1 size n mode) = let h = mode_few size mode in omega (arith, h)
extension_few (ops.Cmp size n mode) = let h = mode_few size mode in omega (arith, h)
extension_few (ops.Cmpa size n mode) = let h = mode_few size mode in omega (arith, h)
extension_few (ops.Eor size n mode) = let h = mode_few size mode in omega (arith, h)
extension_few (ops.Mulu n mode) = let h = mode_few Word mode in omega (arith, h)
extension_few (ops.Muls n mode) = let h = mode_few Word mode in omega (arith, h)
extension_few (ops.ShiftMemory other1 mode) = let h = mode_few Word mode in omega (arith, h)
extension_few _ = omega arith

pub encoded_few : (op : Op) → length (encoded op) ≤ 5
encoded_few op = let h = extension_few op in omega (arith, h)

-- up to five words are filled up with others after them
pub filled_up : (words : List ℕ) → length words ≤ 5 → (rest : List ℕ) × (padded words ≡ words ++ rest)
filled_up [] few = (0 ∷ 0 ∷ 0 ∷ 0 ∷ 0 ∷ [], refl)
filled_up (a ∷ []) few = (0 ∷ 0 ∷ 0 ∷ 0 ∷ [], refl)
filled_up (a ∷ b ∷ []) few = (0 ∷ 0 ∷ 0 ∷ [], refl)
filled_up (a ∷ b ∷ c ∷ []) few = (0 ∷ 0 ∷ [], refl)
filled_up (a ∷ b ∷ c ∷ d ∷ []) few = (0 ∷ [], refl)
filled_up (a ∷ b ∷ c ∷ d ∷ e ∷ []) few = ([], refl)
filled_up (a ∷ b ∷ c ∷ d ∷ e ∷ f ∷ more) few = absurd (omega arith)

five : (a b c d e : ℕ) → a < 65536 → b < 65536 → c < 65536 → d < 65536 → e < 65536 → AreWords (a ∷ b ∷ c ∷ d ∷ e ∷ [])
five a b c d e ha hb hc hd he zero = ha
five a b c d e ha hb hc hd he (suc zero) = hb
five a b c d e ha hb hc hd he (suc (suc zero)) = hc
five a b c d e ha hb hc hd he (suc (suc (suc zero))) = hd
five a b c d e ha hb hc hd he (suc (suc (suc (suc zero)))) = he
five a b c d e ha hb hc hd he (suc (suc (suc (suc (suc i))))) = omega arith

none : 0 < 65536
none = omega arith

pub padded_words : (words : List ℕ) → AreWords words → AreWords (padded words)
padded_words [] h = five 0 0 0 0 0 none none none none none
padded_words (a ∷ []) h = five a 0 0 0 0 (h 0) none none none none
padded_words (a ∷ b ∷ []) h = five a b 0 0 0 (h 0) (h 1) none none none
padded_words (a ∷ b ∷ c ∷ []) h = five a b c 0 0 (h 0) (h 1) (h 2) none none
padded_words (a ∷ b ∷ c ∷ d ∷ []) h = five a b c d 0 (h 0) (h 1) (h 2) (h 3) none
padded_words (a ∷ b ∷ c ∷ d ∷ e ∷ more) h = five a b c d e (h 0) (h 1) (h 2) (h 3) (h 4)
