-- What the code makes of the text of an instruction is that instruction.
use Rattle.std.proofs.Common.{◌≡◌, ℕ, ◌+◌, ◌-◌, ◌%◌, ◌<◌, ◌≤◌, ◌==◌, Bool, true, false, not, List, [], ◌∷◌, ◌++◌, nat_lt, refl, ap, ◌∙◌, arith, codes, Some, None, mod-eq_of_lt}
use Rattle.std.proofs.lemmas.Bool.Decides.{nat_tests}
use Rattle.std.proofs.lemmas.Int.{ints}
use Rattle.md_word.specs.Modes.{IsMode}
use Rattle.md_word.specs.Width.{modulus_of, extended, signed_of}
use Rattle.md_word.specs.declared.mode.Mode.{Mode}
use Rattle.md_word.specs.declared.mode.Mode.TheVariants as modes
use Rattle.md_word.specs.declared.size.Size.{Size}
use Rattle.md_word.specs.declared.size.Size.TheVariants.{Byte, Word, Long}
use Rattle.md_word.specs.declared.task.Task.{Task}
use Rattle.md_word.specs.declared.task.Task.TheVariants as tasks
use Rattle.m68k_decode.specs.declared.condition.Condition.{Condition}
use Rattle.m68k_decode.specs.declared.condition.Condition.TheVariants as conditions
use Rattle.m68k_decode.specs.declared.displacement.Displacement.{Displacement}
use Rattle.m68k_decode.specs.declared.displacement.Displacement.TheVariants as displacements
use Rattle.m68k_decode.specs.declared.op.Op.{Op}
use Rattle.m68k_decode.specs.declared.op.Op.TheVariants as ops
use Rattle.m68k_decode.specs.Addressing.{control_or_postincrement, memory_alterable}
use Rattle.m68k_decode.specs.Operands.{FitsSize, IsOf}
use Rattle.md_disasm.specs.Operands68.{condition_name}
use Rattle.md_disasm.specs.Rows68.{is_turned, row_of, size_of, target}
use Rattle.md_disasm.specs.Texts68.{row_text}
use Rattle.md_disasm.specs.declared.operand68.Operand68.TheVariants as operands
use Rattle.md_asm_text.specs.Tokens.{every, is_worded, opened, split}
use Rattle.asm_m68k.specs.Reading.{Source, read_source}
use Rattle.asm_m68k.specs.Building.{built, meant, mnemonic_in, mnemonic_of, register, number, quick, displacement, base, by_word, either, is_ccr, is_data, is_sr, is_usp, offset, is_list, list, list_with, turned}
use Rattle.asm_m68k.specs.Building as building
use Rattle.asm_m68k.specs.Table.{IsBit, IsDecimal, IsExtended, IsImmediate, IsLogic, IsQuick, IsShift, IsSum, IsUnary}
use Rattle.asm_m68k.specs.declared.form.Form.TheVariants as forms
use Rattle.asm_m68k.specs.declared.mnemonic.Mnemonic.TheVariants as stems
use Rattle.asm_m68k.proofs.Operands.{IsWritten, form_of_mode, form_of_number}
use Rattle.asm_m68k.proofs.Lists.{down_whole, list_form, listed, register_masks, names_form, up_whole}
use Rattle.asm_m68k.proofs.Sources.{row_of_one, row_of_two}

-- an operand as decoding gives it
pub record IsRead (size : Size) (mode : Mode) : Type 0 where
  pub registers : IsMode mode
  pub written : IsWritten mode
  pub fits : FitsSize size mode

-- ---- operands

number_back : (size : Size) (n : ℕ) → n < modulus_of size → building.mode size (form_of_number size n) ≡ modes.Immediate n
unfolding building.mode
number_back Byte n h = ap modes.Immediate (omega arith)
number_back Word n h = ap modes.Immediate (omega arith)
number_back Long n h = ap modes.Immediate (omega arith)

pub mode_back : (size : Size) (mode : Mode) → IsRead size mode → building.mode size (form_of_mode size mode) ≡ mode
unfolding building.mode
mode_back size (modes.Data n) h = let e : nat_lt n 8 ≡ true = grind (arith, nat_tests, h.registers) in rw e refl
mode_back size (modes.Address n) h =
    let e : nat_lt (8 + n) 8 ≡ false = grind (arith, nat_tests) in
    let f : (8 + n) % 8 ≡ n = (let k : n < 8 = h.registers in omega arith) in
    rw (e, f) refl
mode_back size (modes.Indirect n) h = refl
mode_back size (modes.PostInc n) h = refl
mode_back size (modes.PreDec n) h = refl
mode_back size (modes.Displaced n by) h = ap (modes.Displaced n) (mod-eq_of_lt h.written)
mode_back size (modes.Indexed n index long by) h = ap (modes.Indexed n index long) (mod-eq_of_lt h.written)
mode_back size (modes.AbsShort at) h = ap modes.AbsShort (mod-eq_of_lt h.written)
mode_back size (modes.AbsLong at) h = refl
mode_back size (modes.PcDisplaced by) h = ap modes.PcDisplaced (mod-eq_of_lt h.written)
mode_back size (modes.PcIndexed index long by) h = ap (modes.PcIndexed index long) (mod-eq_of_lt h.written)
mode_back size (modes.Immediate n) h = number_back size n h.fits

register_back : (n : ℕ) → n < 8 → register (forms.Register (8 + n)) ≡ n
unfolding register
register_back n h = omega arith

quick_back : (n : ℕ) → 0 < n → n ≤ 8 → quick (forms.Immediate n) ≡ n
unfolding number
quick_back n h k = omega arith

-- ---- branches

extended_byte : (d : ℕ) → d < 256 → extended Byte d % 256 ≡ d
unfolding extended signed_of
extended_byte d h = grind (arith, ints, nat_tests)

extended_word : (d : ℕ) → d < 65536 → extended Word d % 65536 ≡ d
unfolding extended signed_of
extended_word d h = grind (arith, ints, nat_tests)

byte_from : (at x : ℕ) → at < 4294967296 → ((at + 2 + x) % 0x1_0000_0000 + 0x2_0000_0000 - at - 2) % 256 ≡ x % 256
byte_from at x h = omega arith

word_from : (at x : ℕ) → at < 4294967296 → ((at + 2 + x) % 0x1_0000_0000 + 0x2_0000_0000 - at - 2) % 65536 ≡ x % 65536
word_from at x h = omega arith

abbrev pub IsDisplacement : Displacement → Type 0
IsDisplacement (displacements.Byte by) = by < 256
IsDisplacement (displacements.Word by) = by < 65536

displacement_back : (d : Displacement) (at : ℕ) → at < 4294967296 → IsDisplacement d → displacement (size_of d) at (forms.Bare (target at d)) ≡ d
unfolding number target
displacement_back (displacements.Byte by) at h k = ap displacements.Byte (byte_from at (extended Byte by) h ∙ extended_byte by k)
displacement_back (displacements.Word by) at h k = ap displacements.Word (word_from at (extended Word by) h ∙ extended_word by k)

pub target_below : (at : ℕ) (d : Displacement) → target at d < 4294967296
unfolding target
target_below at d = omega arith

-- ---- kinds of operands

not_ccr : (size : Size) (mode : Mode) → is_ccr (form_of_mode size mode) ≡ false
not_ccr size (modes.Data n) = refl
not_ccr size (modes.Address n) = refl
not_ccr size (modes.Indirect n) = refl
not_ccr size (modes.PostInc n) = refl
not_ccr size (modes.PreDec n) = refl
not_ccr size (modes.Displaced n by) = refl
not_ccr size (modes.Indexed n index long by) = refl
not_ccr size (modes.AbsShort a) = refl
not_ccr size (modes.AbsLong a) = refl
not_ccr size (modes.PcDisplaced by) = refl
not_ccr size (modes.PcIndexed index long by) = refl
not_ccr Byte (modes.Immediate n) = refl
not_ccr Word (modes.Immediate n) = refl
not_ccr Long (modes.Immediate n) = refl

not_sr : (size : Size) (mode : Mode) → is_sr (form_of_mode size mode) ≡ false
not_sr size (modes.Data n) = refl
not_sr size (modes.Address n) = refl
not_sr size (modes.Indirect n) = refl
not_sr size (modes.PostInc n) = refl
not_sr size (modes.PreDec n) = refl
not_sr size (modes.Displaced n by) = refl
not_sr size (modes.Indexed n index long by) = refl
not_sr size (modes.AbsShort a) = refl
not_sr size (modes.AbsLong a) = refl
not_sr size (modes.PcDisplaced by) = refl
not_sr size (modes.PcIndexed index long by) = refl
not_sr Byte (modes.Immediate n) = refl
not_sr Word (modes.Immediate n) = refl
not_sr Long (modes.Immediate n) = refl

not_usp : (size : Size) (mode : Mode) → is_usp (form_of_mode size mode) ≡ false
not_usp size (modes.Data n) = refl
not_usp size (modes.Address n) = refl
not_usp size (modes.Indirect n) = refl
not_usp size (modes.PostInc n) = refl
not_usp size (modes.PreDec n) = refl
not_usp size (modes.Displaced n by) = refl
not_usp size (modes.Indexed n index long by) = refl
not_usp size (modes.AbsShort a) = refl
not_usp size (modes.AbsLong a) = refl
not_usp size (modes.PcDisplaced by) = refl
not_usp size (modes.PcIndexed index long by) = refl
not_usp Byte (modes.Immediate n) = refl
not_usp Word (modes.Immediate n) = refl
not_usp Long (modes.Immediate n) = refl

-- memory is no data register
not_data : (size : Size) (mode : Mode) → IsOf memory_alterable mode → is_data (form_of_mode size mode) ≡ false
not_data size (modes.Data n) h = absurd (cc)
not_data size (modes.Address n) h = absurd (cc)
not_data size (modes.Indirect n) h = refl
not_data size (modes.PostInc n) h = refl
not_data size (modes.PreDec n) h = refl
not_data size (modes.Displaced n by) h = refl
not_data size (modes.Indexed n index long by) h = refl
not_data size (modes.AbsShort a) h = refl
not_data size (modes.AbsLong a) h = refl
not_data size (modes.PcDisplaced by) h = absurd (cc)
not_data size (modes.PcIndexed index long by) h = absurd (cc)
not_data size (modes.Immediate n) h = absurd (cc)

data_is : (n : ℕ) → n < 8 → is_data (forms.Register n) ≡ true
data_is n h = grind (arith, nat_tests)

data_back : (n : ℕ) → n < 8 → register (forms.Register n) ≡ n
unfolding register
data_back n h = omega arith

fits_long : (size : Size) (n : ℕ) → n < modulus_of size → n < 4294967296
fits_long Byte n h = omega arith
fits_long Word n h = omega arith
fits_long Long n h = h

number_is : (size : Size) (n : ℕ) → n < modulus_of size → number (form_of_number size n) % modulus_of size ≡ n
unfolding number
number_is Byte n h = omega arith
number_is Word n h = omega arith
number_is Long n h = omega arith

byte_is : (n : ℕ) → n < 256 → number (forms.Immediate (n % 256)) % 256 ≡ n
unfolding number
byte_is n h = omega arith

word_is : (n : ℕ) → n < 65536 → number (forms.Immediate (n % 65536)) % 65536 ≡ n
unfolding number
word_is n h = omega arith

vector_is : (n : ℕ) → n < 16 → number (forms.Immediate n) % 16 ≡ n
unfolding number
vector_is n h = omega arith

by_word_is : (d at : ℕ) → at < 4294967296 → d < 65536 → by_word at (forms.Bare (target at (displacements.Word d))) ≡ d
unfolding number target
by_word_is d at h k = word_from at (extended Word d) h ∙ extended_word d k

-- ---- instructions

-- what is made of the text of an instruction at an address
abbrev pub again : Op → ℕ → Op
again op at = meant (read_source (opened [] (row_text (row_of op at)))) at

pub immediate_again : (task : Task) (size : Size) (n : ℕ) (mode : Mode) (at : ℕ) → IsImmediate task → n < modulus_of size → IsRead size mode → again (ops.Immediate task size n mode) at ≡ ops.Immediate task size n mode
unfolding meant built mnemonic_of mnemonic_in is_worded base either offset
immediate_again tasks.Or size n mode at is h m =
    ap (λ (s : Source). meant s at) (row_of_two (row_of (ops.Immediate tasks.Or size n mode) at) refl (fits_long size n h) (m.registers, m.written) refl refl)
    ∙ rw (not_ccr size mode, not_sr size mode, number_is size n h, mode_back size mode m) refl
immediate_again tasks.And size n mode at is h m =
    ap (λ (s : Source). meant s at) (row_of_two (row_of (ops.Immediate tasks.And size n mode) at) refl (fits_long size n h) (m.registers, m.written) refl refl)
    ∙ rw (not_ccr size mode, not_sr size mode, number_is size n h, mode_back size mode m) refl
immediate_again tasks.Sub size n mode at is h m =
    ap (λ (s : Source). meant s at) (row_of_two (row_of (ops.Immediate tasks.Sub size n mode) at) refl (fits_long size n h) (m.registers, m.written) refl refl)
    ∙ rw (not_ccr size mode, not_sr size mode, number_is size n h, mode_back size mode m) refl
immediate_again tasks.Add size n mode at is h m =
    ap (λ (s : Source). meant s at) (row_of_two (row_of (ops.Immediate tasks.Add size n mode) at) refl (fits_long size n h) (m.registers, m.written) refl refl)
    ∙ rw (not_ccr size mode, not_sr size mode, number_is size n h, mode_back size mode m) refl
immediate_again tasks.Eor size n mode at is h m =
    ap (λ (s : Source). meant s at) (row_of_two (row_of (ops.Immediate tasks.Eor size n mode) at) refl (fits_long size n h) (m.registers, m.written) refl refl)
    ∙ rw (not_ccr size mode, not_sr size mode, number_is size n h, mode_back size mode m) refl
immediate_again _ size n mode at is h m = absurd is

pub compare_again : (size : Size) (n : ℕ) (mode : Mode) (at : ℕ) → n < modulus_of size → IsRead size mode → again (ops.CompareImmediate size n mode) at ≡ ops.CompareImmediate size n mode
unfolding meant built mnemonic_of mnemonic_in is_worded base either offset
compare_again size n mode at h m =
    ap (λ (s : Source). meant s at) (row_of_two (row_of (ops.CompareImmediate size n mode) at) refl (fits_long size n h) (m.registers, m.written) refl refl)
    ∙ rw (number_is size n h, mode_back size mode m) refl

pub ccr_again : (task : Task) (n : ℕ) (at : ℕ) → IsLogic task → n < 256 → again (ops.ImmediateToCcr task n) at ≡ ops.ImmediateToCcr task n
unfolding meant built mnemonic_of mnemonic_in is_worded base either offset
ccr_again tasks.Or n at is h =
    ap (λ (s : Source). meant s at) (row_of_two (row_of (ops.ImmediateToCcr tasks.Or n) at) refl (omega arith) tt refl refl)
    ∙ rw (byte_is n h) refl
ccr_again tasks.And n at is h =
    ap (λ (s : Source). meant s at) (row_of_two (row_of (ops.ImmediateToCcr tasks.And n) at) refl (omega arith) tt refl refl)
    ∙ rw (byte_is n h) refl
ccr_again tasks.Eor n at is h =
    ap (λ (s : Source). meant s at) (row_of_two (row_of (ops.ImmediateToCcr tasks.Eor n) at) refl (omega arith) tt refl refl)
    ∙ rw (byte_is n h) refl
ccr_again _ n at is h = absurd is

pub sr_again : (task : Task) (n : ℕ) (at : ℕ) → IsLogic task → n < 65536 → again (ops.ImmediateToSr task n) at ≡ ops.ImmediateToSr task n
unfolding meant built mnemonic_of mnemonic_in is_worded base either offset
sr_again tasks.Or n at is h =
    ap (λ (s : Source). meant s at) (row_of_two (row_of (ops.ImmediateToSr tasks.Or n) at) refl (omega arith) tt refl refl)
    ∙ rw (word_is n h) refl
sr_again tasks.And n at is h =
    ap (λ (s : Source). meant s at) (row_of_two (row_of (ops.ImmediateToSr tasks.And n) at) refl (omega arith) tt refl refl)
    ∙ rw (word_is n h) refl
sr_again tasks.Eor n at is h =
    ap (λ (s : Source). meant s at) (row_of_two (row_of (ops.ImmediateToSr tasks.Eor n) at) refl (omega arith) tt refl refl)
    ∙ rw (word_is n h) refl
sr_again _ n at is h = absurd is

pub bit_register_again : (task : Task) (n : ℕ) (mode : Mode) (at : ℕ) → IsBit task → n < 8 → IsRead Byte mode → again (ops.BitByRegister task n mode) at ≡ ops.BitByRegister task n mode
unfolding meant built mnemonic_of mnemonic_in is_worded base either offset
bit_register_again tasks.Btst n mode at is h m =
    ap (λ (s : Source). meant s at) (row_of_two (row_of (ops.BitByRegister tasks.Btst n mode) at) refl h (m.registers, m.written) refl refl)
    ∙ rw (data_back n h, mode_back Byte mode m) refl
bit_register_again tasks.Bchg n mode at is h m =
    ap (λ (s : Source). meant s at) (row_of_two (row_of (ops.BitByRegister tasks.Bchg n mode) at) refl h (m.registers, m.written) refl refl)
    ∙ rw (data_back n h, mode_back Byte mode m) refl
bit_register_again tasks.Bclr n mode at is h m =
    ap (λ (s : Source). meant s at) (row_of_two (row_of (ops.BitByRegister tasks.Bclr n mode) at) refl h (m.registers, m.written) refl refl)
    ∙ rw (data_back n h, mode_back Byte mode m) refl
bit_register_again tasks.Bset n mode at is h m =
    ap (λ (s : Source). meant s at) (row_of_two (row_of (ops.BitByRegister tasks.Bset n mode) at) refl h (m.registers, m.written) refl refl)
    ∙ rw (data_back n h, mode_back Byte mode m) refl
bit_register_again _ n mode at is h m = absurd is

pub bit_number_again : (task : Task) (n : ℕ) (mode : Mode) (at : ℕ) → IsBit task → n < 256 → IsRead Byte mode → again (ops.BitByNumber task n mode) at ≡ ops.BitByNumber task n mode
unfolding meant built mnemonic_of mnemonic_in is_worded base either offset
bit_number_again tasks.Btst n mode at is h m =
    ap (λ (s : Source). meant s at) (row_of_two (row_of (ops.BitByNumber tasks.Btst n mode) at) refl (omega arith) (m.registers, m.written) refl refl)
    ∙ rw (byte_is n h, mode_back Byte mode m) refl
bit_number_again tasks.Bchg n mode at is h m =
    ap (λ (s : Source). meant s at) (row_of_two (row_of (ops.BitByNumber tasks.Bchg n mode) at) refl (omega arith) (m.registers, m.written) refl refl)
    ∙ rw (byte_is n h, mode_back Byte mode m) refl
bit_number_again tasks.Bclr n mode at is h m =
    ap (λ (s : Source). meant s at) (row_of_two (row_of (ops.BitByNumber tasks.Bclr n mode) at) refl (omega arith) (m.registers, m.written) refl refl)
    ∙ rw (byte_is n h, mode_back Byte mode m) refl
bit_number_again tasks.Bset n mode at is h m =
    ap (λ (s : Source). meant s at) (row_of_two (row_of (ops.BitByNumber tasks.Bset n mode) at) refl (omega arith) (m.registers, m.written) refl refl)
    ∙ rw (byte_is n h, mode_back Byte mode m) refl
bit_number_again _ n mode at is h m = absurd is

pub movep_load_again : (size : Size) (x y d : ℕ) (at : ℕ) → x < 8 → y < 8 → d < 65536 → again (ops.MovepToRegister size x y d) at ≡ ops.MovepToRegister size x y d
unfolding meant built mnemonic_of mnemonic_in is_worded base either offset
movep_load_again size x y d at h k l =
    ap (λ (s : Source). meant s at) (row_of_two (row_of (ops.MovepToRegister size x y d) at) refl (k, l) h refl refl)
    ∙ rw (data_back x h, mod-eq_of_lt l) refl

pub movep_store_again : (size : Size) (x y d : ℕ) (at : ℕ) → x < 8 → y < 8 → d < 65536 → again (ops.MovepToMemory size x y d) at ≡ ops.MovepToMemory size x y d
unfolding meant built mnemonic_of mnemonic_in is_worded base either offset
movep_store_again size x y d at h k l =
    ap (λ (s : Source). meant s at) (row_of_two (row_of (ops.MovepToMemory size x y d) at) refl h (k, l) refl refl)
    ∙ rw (data_back x h, mod-eq_of_lt l) refl

pub move_again : (size : Size) (from to : Mode) (at : ℕ) → IsRead size from → IsRead size to → again (ops.Move size from to) at ≡ ops.Move size from to
unfolding meant built mnemonic_of mnemonic_in is_worded base either offset
move_again size from to at f t =
    ap (λ (s : Source). meant s at) (row_of_two (row_of (ops.Move size from to) at) refl (f.registers, f.written) (t.registers, t.written) refl refl)
    ∙ rw (not_sr size from, not_usp size from, not_ccr size to, not_sr size to, not_usp size to, mode_back size from f, mode_back size to t) refl

pub movea_again : (size : Size) (n : ℕ) (mode : Mode) (at : ℕ) → n < 8 → IsRead size mode → again (ops.Movea size n mode) at ≡ ops.Movea size n mode
unfolding meant built mnemonic_of mnemonic_in is_worded base either offset
movea_again size n mode at h m =
    ap (λ (s : Source). meant s at) (row_of_two (row_of (ops.Movea size n mode) at) refl (m.registers, m.written) h refl refl)
    ∙ rw (register_back n h, mode_back size mode m) refl

pub unary_again : (task : Task) (size : Size) (mode : Mode) (at : ℕ) → IsUnary task → IsRead size mode → again (ops.Unary task size mode) at ≡ ops.Unary task size mode
unfolding meant built mnemonic_of mnemonic_in is_worded base either offset
unary_again tasks.Negx size mode at is m =
    ap (λ (s : Source). meant s at) (row_of_one (codes "negx") (Some size) (operands.Place size mode) refl (m.registers, m.written) refl)
    ∙ rw (mode_back size mode m) refl
unary_again tasks.Clr size mode at is m =
    ap (λ (s : Source). meant s at) (row_of_one (codes "clr") (Some size) (operands.Place size mode) refl (m.registers, m.written) refl)
    ∙ rw (mode_back size mode m) refl
unary_again tasks.Neg size mode at is m =
    ap (λ (s : Source). meant s at) (row_of_one (codes "neg") (Some size) (operands.Place size mode) refl (m.registers, m.written) refl)
    ∙ rw (mode_back size mode m) refl
unary_again tasks.Not size mode at is m =
    ap (λ (s : Source). meant s at) (row_of_one (codes "not") (Some size) (operands.Place size mode) refl (m.registers, m.written) refl)
    ∙ rw (mode_back size mode m) refl
unary_again _ size mode at is m = absurd is

pub from_sr_again : (mode : Mode) (at : ℕ) → IsRead Word mode → again (ops.MoveFromSr mode) at ≡ ops.MoveFromSr mode
unfolding meant built mnemonic_of mnemonic_in is_worded base either offset
from_sr_again mode at m =
    ap (λ (s : Source). meant s at) (row_of_two (row_of (ops.MoveFromSr mode) at) refl tt (m.registers, m.written) refl refl)
    ∙ rw (mode_back Word mode m) refl

pub to_ccr_again : (mode : Mode) (at : ℕ) → IsRead Word mode → again (ops.MoveToCcr mode) at ≡ ops.MoveToCcr mode
unfolding meant built mnemonic_of mnemonic_in is_worded base either offset
to_ccr_again mode at m =
    ap (λ (s : Source). meant s at) (row_of_two (row_of (ops.MoveToCcr mode) at) refl (m.registers, m.written) tt refl refl)
    ∙ rw (not_sr Word mode, not_usp Word mode, mode_back Word mode m) refl

pub to_sr_again : (mode : Mode) (at : ℕ) → IsRead Word mode → again (ops.MoveToSr mode) at ≡ ops.MoveToSr mode
unfolding meant built mnemonic_of mnemonic_in is_worded base either offset
to_sr_again mode at m =
    ap (λ (s : Source). meant s at) (row_of_two (row_of (ops.MoveToSr mode) at) refl (m.registers, m.written) tt refl refl)
    ∙ rw (not_sr Word mode, not_usp Word mode, mode_back Word mode m) refl

pub nbcd_again : (mode : Mode) (at : ℕ) → IsRead Byte mode → again (ops.Nbcd mode) at ≡ ops.Nbcd mode
unfolding meant built mnemonic_of mnemonic_in is_worded base either offset
nbcd_again mode at m =
    ap (λ (s : Source). meant s at) (row_of_one (codes "nbcd") None (operands.Place Byte mode) refl (m.registers, m.written) refl)
    ∙ rw (mode_back Byte mode m) refl

pub pea_again : (mode : Mode) (at : ℕ) → IsRead Long mode → again (ops.Pea mode) at ≡ ops.Pea mode
unfolding meant built mnemonic_of mnemonic_in is_worded base either offset
pea_again mode at m =
    ap (λ (s : Source). meant s at) (row_of_one (codes "pea") None (operands.Place Long mode) refl (m.registers, m.written) refl)
    ∙ rw (mode_back Long mode m) refl

pub tas_again : (mode : Mode) (at : ℕ) → IsRead Byte mode → again (ops.Tas mode) at ≡ ops.Tas mode
unfolding meant built mnemonic_of mnemonic_in is_worded base either offset
tas_again mode at m =
    ap (λ (s : Source). meant s at) (row_of_one (codes "tas") None (operands.Place Byte mode) refl (m.registers, m.written) refl)
    ∙ rw (mode_back Byte mode m) refl

pub jsr_again : (mode : Mode) (at : ℕ) → IsRead Long mode → again (ops.Jsr mode) at ≡ ops.Jsr mode
unfolding meant built mnemonic_of mnemonic_in is_worded base either offset
jsr_again mode at m =
    ap (λ (s : Source). meant s at) (row_of_one (codes "jsr") None (operands.Place Long mode) refl (m.registers, m.written) refl)
    ∙ rw (mode_back Long mode m) refl

pub jmp_again : (mode : Mode) (at : ℕ) → IsRead Long mode → again (ops.Jmp mode) at ≡ ops.Jmp mode
unfolding meant built mnemonic_of mnemonic_in is_worded base either offset
jmp_again mode at m =
    ap (λ (s : Source). meant s at) (row_of_one (codes "jmp") None (operands.Place Long mode) refl (m.registers, m.written) refl)
    ∙ rw (mode_back Long mode m) refl

pub swap_again : (n : ℕ) (at : ℕ) → n < 8 → again (ops.Swap n) at ≡ ops.Swap n
unfolding meant built mnemonic_of mnemonic_in is_worded base either offset
swap_again n at h =
    ap (λ (s : Source). meant s at) (row_of_one (codes "swap") None (operands.Data n) refl h refl)
    ∙ rw (data_back n h) refl

pub ext_again : (size : Size) (n : ℕ) (at : ℕ) → n < 8 → again (ops.Ext size n) at ≡ ops.Ext size n
unfolding meant built mnemonic_of mnemonic_in is_worded base either offset
ext_again size n at h =
    ap (λ (s : Source). meant s at) (row_of_one (codes "ext") (Some size) (operands.Data n) refl h refl)
    ∙ rw (data_back n h) refl

pub tst_again : (size : Size) (mode : Mode) (at : ℕ) → IsRead size mode → again (ops.Tst size mode) at ≡ ops.Tst size mode
unfolding meant built mnemonic_of mnemonic_in is_worded base either offset
tst_again size mode at m =
    ap (λ (s : Source). meant s at) (row_of_one (codes "tst") (Some size) (operands.Place size mode) refl (m.registers, m.written) refl)
    ∙ rw (mode_back size mode m) refl

pub trap_again : (n : ℕ) (at : ℕ) → n < 16 → again (ops.Trap n) at ≡ ops.Trap n
unfolding meant built mnemonic_of mnemonic_in is_worded base either offset
trap_again n at h =
    ap (λ (s : Source). meant s at) (row_of_one (codes "trap") None (operands.Digit n) refl h refl)
    ∙ rw (vector_is n h) refl

pub link_again : (n d : ℕ) (at : ℕ) → n < 8 → d < 65536 → again (ops.Link n d) at ≡ ops.Link n d
unfolding meant built mnemonic_of mnemonic_in is_worded base either offset
link_again n d at h l =
    ap (λ (s : Source). meant s at) (row_of_two (row_of (ops.Link n d) at) refl h (omega arith) refl refl)
    ∙ rw (register_back n h, word_is d l) refl

pub unlk_again : (n : ℕ) (at : ℕ) → n < 8 → again (ops.Unlk n) at ≡ ops.Unlk n
unfolding meant built mnemonic_of mnemonic_in is_worded base either offset
unlk_again n at h =
    ap (λ (s : Source). meant s at) (row_of_one (codes "unlk") None (operands.Address n) refl h refl)
    ∙ rw (register_back n h) refl

pub to_usp_again : (n : ℕ) (at : ℕ) → n < 8 → again (ops.MoveToUsp n) at ≡ ops.MoveToUsp n
unfolding meant built mnemonic_of mnemonic_in is_worded base either offset
to_usp_again n at h =
    ap (λ (s : Source). meant s at) (row_of_two (row_of (ops.MoveToUsp n) at) refl h tt refl refl)
    ∙ rw (register_back n h) refl

pub from_usp_again : (n : ℕ) (at : ℕ) → n < 8 → again (ops.MoveFromUsp n) at ≡ ops.MoveFromUsp n
unfolding meant built mnemonic_of mnemonic_in is_worded base either offset
from_usp_again n at h =
    ap (λ (s : Source). meant s at) (row_of_two (row_of (ops.MoveFromUsp n) at) refl tt h refl refl)
    ∙ rw (register_back n h) refl

pub stop_again : (n : ℕ) (at : ℕ) → n < 65536 → again (ops.Stop n) at ≡ ops.Stop n
unfolding meant built mnemonic_of mnemonic_in is_worded base either offset
stop_again n at h =
    ap (λ (s : Source). meant s at) (row_of_one (codes "stop") None (operands.Number Word n) refl (omega arith) refl)
    ∙ rw (word_is n h) refl

pub reset_again : (at : ℕ) → again ops.Reset at ≡ ops.Reset
unfolding meant built mnemonic_of mnemonic_in is_worded base either offset read_source opened split
reset_again at = refl

pub nop_again : (at : ℕ) → again ops.Nop at ≡ ops.Nop
unfolding meant built mnemonic_of mnemonic_in is_worded base either offset read_source opened split
nop_again at = refl

pub rte_again : (at : ℕ) → again ops.Rte at ≡ ops.Rte
unfolding meant built mnemonic_of mnemonic_in is_worded base either offset read_source opened split
rte_again at = refl

pub rts_again : (at : ℕ) → again ops.Rts at ≡ ops.Rts
unfolding meant built mnemonic_of mnemonic_in is_worded base either offset read_source opened split
rts_again at = refl

pub trapv_again : (at : ℕ) → again ops.Trapv at ≡ ops.Trapv
unfolding meant built mnemonic_of mnemonic_in is_worded base either offset read_source opened split
trapv_again at = refl

pub rtr_again : (at : ℕ) → again ops.Rtr at ≡ ops.Rtr
unfolding meant built mnemonic_of mnemonic_in is_worded base either offset read_source opened split
rtr_again at = refl

pub lea_again : (n : ℕ) (mode : Mode) (at : ℕ) → n < 8 → IsRead Long mode → again (ops.Lea n mode) at ≡ ops.Lea n mode
unfolding meant built mnemonic_of mnemonic_in is_worded base either offset
lea_again n mode at h m =
    ap (λ (s : Source). meant s at) (row_of_two (row_of (ops.Lea n mode) at) refl (m.registers, m.written) h refl refl)
    ∙ rw (register_back n h, mode_back Long mode m) refl

pub quick_again : (task : Task) (size : Size) (n : ℕ) (mode : Mode) (at : ℕ) → IsQuick task → 0 < n → n ≤ 8 → IsRead size mode → again (ops.Quick task size n mode) at ≡ ops.Quick task size n mode
unfolding meant built mnemonic_of mnemonic_in is_worded base either offset
quick_again tasks.Add size n mode at is h k m =
    ap (λ (s : Source). meant s at) (row_of_two (row_of (ops.Quick tasks.Add size n mode) at) refl (omega arith) (m.registers, m.written) refl refl)
    ∙ rw (quick_back n h k, mode_back size mode m) refl
quick_again tasks.Sub size n mode at is h k m =
    ap (λ (s : Source). meant s at) (row_of_two (row_of (ops.Quick tasks.Sub size n mode) at) refl (omega arith) (m.registers, m.written) refl refl)
    ∙ rw (quick_back n h k, mode_back size mode m) refl
quick_again _ size n mode at is h k m = absurd is

pub chk_again : (n : ℕ) (mode : Mode) (at : ℕ) → n < 8 → IsRead Word mode → again (ops.Chk n mode) at ≡ ops.Chk n mode
unfolding meant built mnemonic_of mnemonic_in is_worded base either offset
chk_again n mode at h m =
    ap (λ (s : Source). meant s at) (row_of_two (row_of (ops.Chk n mode) at) refl (m.registers, m.written) h refl refl)
    ∙ rw (data_back n h, mode_back Word mode m) refl

pub divu_again : (n : ℕ) (mode : Mode) (at : ℕ) → n < 8 → IsRead Word mode → again (ops.Divu n mode) at ≡ ops.Divu n mode
unfolding meant built mnemonic_of mnemonic_in is_worded base either offset
divu_again n mode at h m =
    ap (λ (s : Source). meant s at) (row_of_two (row_of (ops.Divu n mode) at) refl (m.registers, m.written) h refl refl)
    ∙ rw (data_back n h, mode_back Word mode m) refl

pub divs_again : (n : ℕ) (mode : Mode) (at : ℕ) → n < 8 → IsRead Word mode → again (ops.Divs n mode) at ≡ ops.Divs n mode
unfolding meant built mnemonic_of mnemonic_in is_worded base either offset
divs_again n mode at h m =
    ap (λ (s : Source). meant s at) (row_of_two (row_of (ops.Divs n mode) at) refl (m.registers, m.written) h refl refl)
    ∙ rw (data_back n h, mode_back Word mode m) refl

pub mulu_again : (n : ℕ) (mode : Mode) (at : ℕ) → n < 8 → IsRead Word mode → again (ops.Mulu n mode) at ≡ ops.Mulu n mode
unfolding meant built mnemonic_of mnemonic_in is_worded base either offset
mulu_again n mode at h m =
    ap (λ (s : Source). meant s at) (row_of_two (row_of (ops.Mulu n mode) at) refl (m.registers, m.written) h refl refl)
    ∙ rw (data_back n h, mode_back Word mode m) refl

pub muls_again : (n : ℕ) (mode : Mode) (at : ℕ) → n < 8 → IsRead Word mode → again (ops.Muls n mode) at ≡ ops.Muls n mode
unfolding meant built mnemonic_of mnemonic_in is_worded base either offset
muls_again n mode at h m =
    ap (λ (s : Source). meant s at) (row_of_two (row_of (ops.Muls n mode) at) refl (m.registers, m.written) h refl refl)
    ∙ rw (data_back n h, mode_back Word mode m) refl

pub bra_again : (d : Displacement) (at : ℕ) → at < 4294967296 → IsDisplacement d → again (ops.Bra d) at ≡ ops.Bra d
unfolding meant built mnemonic_of mnemonic_in is_worded base either offset
bra_again d at h k =
    ap (λ (s : Source). meant s at) (row_of_one (codes "bra") (Some (size_of d)) (operands.Target (target at d)) refl (target_below at d) refl)
    ∙ rw (displacement_back d at h k) refl

pub bsr_again : (d : Displacement) (at : ℕ) → at < 4294967296 → IsDisplacement d → again (ops.Bsr d) at ≡ ops.Bsr d
unfolding meant built mnemonic_of mnemonic_in is_worded base either offset
bsr_again d at h k =
    ap (λ (s : Source). meant s at) (row_of_one (codes "bsr") (Some (size_of d)) (operands.Target (target at d)) refl (target_below at d) refl)
    ∙ rw (displacement_back d at h k) refl

bcc_named : (c : Condition) → every is_worded (codes "b" ++ condition_name c) ≡ true
unfolding is_worded
bcc_named conditions.True = refl
bcc_named conditions.False = refl
bcc_named conditions.High = refl
bcc_named conditions.LowOrSame = refl
bcc_named conditions.CarryClear = refl
bcc_named conditions.CarrySet = refl
bcc_named conditions.NotEqual = refl
bcc_named conditions.Equal = refl
bcc_named conditions.OverflowClear = refl
bcc_named conditions.OverflowSet = refl
bcc_named conditions.Plus = refl
bcc_named conditions.Minus = refl
bcc_named conditions.GreaterOrEqual = refl
bcc_named conditions.LessThan = refl
bcc_named conditions.GreaterThan = refl
bcc_named conditions.LessOrEqual = refl

bcc_mnemonic : (c : Condition) → mnemonic_of (codes "b" ++ condition_name c) ≡ stems.Bcc c
unfolding mnemonic_of mnemonic_in
bcc_mnemonic conditions.True = refl
bcc_mnemonic conditions.False = refl
bcc_mnemonic conditions.High = refl
bcc_mnemonic conditions.LowOrSame = refl
bcc_mnemonic conditions.CarryClear = refl
bcc_mnemonic conditions.CarrySet = refl
bcc_mnemonic conditions.NotEqual = refl
bcc_mnemonic conditions.Equal = refl
bcc_mnemonic conditions.OverflowClear = refl
bcc_mnemonic conditions.OverflowSet = refl
bcc_mnemonic conditions.Plus = refl
bcc_mnemonic conditions.Minus = refl
bcc_mnemonic conditions.GreaterOrEqual = refl
bcc_mnemonic conditions.LessThan = refl
bcc_mnemonic conditions.GreaterThan = refl
bcc_mnemonic conditions.LessOrEqual = refl

scc_named : (c : Condition) → every is_worded (codes "s" ++ condition_name c) ≡ true
unfolding is_worded
scc_named conditions.True = refl
scc_named conditions.False = refl
scc_named conditions.High = refl
scc_named conditions.LowOrSame = refl
scc_named conditions.CarryClear = refl
scc_named conditions.CarrySet = refl
scc_named conditions.NotEqual = refl
scc_named conditions.Equal = refl
scc_named conditions.OverflowClear = refl
scc_named conditions.OverflowSet = refl
scc_named conditions.Plus = refl
scc_named conditions.Minus = refl
scc_named conditions.GreaterOrEqual = refl
scc_named conditions.LessThan = refl
scc_named conditions.GreaterThan = refl
scc_named conditions.LessOrEqual = refl

scc_mnemonic : (c : Condition) → mnemonic_of (codes "s" ++ condition_name c) ≡ stems.Scc c
unfolding mnemonic_of mnemonic_in
scc_mnemonic conditions.True = refl
scc_mnemonic conditions.False = refl
scc_mnemonic conditions.High = refl
scc_mnemonic conditions.LowOrSame = refl
scc_mnemonic conditions.CarryClear = refl
scc_mnemonic conditions.CarrySet = refl
scc_mnemonic conditions.NotEqual = refl
scc_mnemonic conditions.Equal = refl
scc_mnemonic conditions.OverflowClear = refl
scc_mnemonic conditions.OverflowSet = refl
scc_mnemonic conditions.Plus = refl
scc_mnemonic conditions.Minus = refl
scc_mnemonic conditions.GreaterOrEqual = refl
scc_mnemonic conditions.LessThan = refl
scc_mnemonic conditions.GreaterThan = refl
scc_mnemonic conditions.LessOrEqual = refl

dbcc_named : (c : Condition) → every is_worded (codes "db" ++ condition_name c) ≡ true
unfolding is_worded
dbcc_named conditions.True = refl
dbcc_named conditions.False = refl
dbcc_named conditions.High = refl
dbcc_named conditions.LowOrSame = refl
dbcc_named conditions.CarryClear = refl
dbcc_named conditions.CarrySet = refl
dbcc_named conditions.NotEqual = refl
dbcc_named conditions.Equal = refl
dbcc_named conditions.OverflowClear = refl
dbcc_named conditions.OverflowSet = refl
dbcc_named conditions.Plus = refl
dbcc_named conditions.Minus = refl
dbcc_named conditions.GreaterOrEqual = refl
dbcc_named conditions.LessThan = refl
dbcc_named conditions.GreaterThan = refl
dbcc_named conditions.LessOrEqual = refl

dbcc_mnemonic : (c : Condition) → mnemonic_of (codes "db" ++ condition_name c) ≡ stems.Dbcc c
unfolding mnemonic_of mnemonic_in
dbcc_mnemonic conditions.True = refl
dbcc_mnemonic conditions.False = refl
dbcc_mnemonic conditions.High = refl
dbcc_mnemonic conditions.LowOrSame = refl
dbcc_mnemonic conditions.CarryClear = refl
dbcc_mnemonic conditions.CarrySet = refl
dbcc_mnemonic conditions.NotEqual = refl
dbcc_mnemonic conditions.Equal = refl
dbcc_mnemonic conditions.OverflowClear = refl
dbcc_mnemonic conditions.OverflowSet = refl
dbcc_mnemonic conditions.Plus = refl
dbcc_mnemonic conditions.Minus = refl
dbcc_mnemonic conditions.GreaterOrEqual = refl
dbcc_mnemonic conditions.LessThan = refl
dbcc_mnemonic conditions.GreaterThan = refl
dbcc_mnemonic conditions.LessOrEqual = refl

pub bcc_again : (c : Condition) (d : Displacement) (at : ℕ) → at < 4294967296 → IsDisplacement d → again (ops.Bcc c d) at ≡ ops.Bcc c d
unfolding meant built
bcc_again c d at h k =
    ap (λ (s : Source). meant s at) (row_of_one (codes "b" ++ condition_name c) (Some (size_of d)) (operands.Target (target at d)) (bcc_named c) (target_below at d) refl)
    ∙ rw (bcc_mnemonic c) (ap (ops.Bcc c) (displacement_back d at h k))

pub scc_again : (c : Condition) (mode : Mode) (at : ℕ) → IsRead Byte mode → again (ops.Scc c mode) at ≡ ops.Scc c mode
unfolding meant built
scc_again c mode at m =
    ap (λ (s : Source). meant s at) (row_of_one (codes "s" ++ condition_name c) None (operands.Place Byte mode) (scc_named c) (m.registers, m.written) refl)
    ∙ rw (scc_mnemonic c) (ap (ops.Scc c) (mode_back Byte mode m))

pub dbcc_again : (c : Condition) (n d : ℕ) (at : ℕ) → at < 4294967296 → n < 8 → d < 65536 → again (ops.Dbcc c n d) at ≡ ops.Dbcc c n d
unfolding meant built
dbcc_again c n d at h k l =
    ap (λ (s : Source). meant s at) (row_of_two (row_of (ops.Dbcc c n d) at) (dbcc_named c) k (target_below at (displacements.Word d)) refl refl)
    ∙ rw (dbcc_mnemonic c, data_back n k, by_word_is d at h l) refl

pub moveq_again : (n v : ℕ) (at : ℕ) → n < 8 → v < 256 → again (ops.Moveq n v) at ≡ ops.Moveq n v
unfolding meant built mnemonic_of mnemonic_in is_worded base either offset
moveq_again n v at h l =
    ap (λ (s : Source). meant s at) (row_of_two (row_of (ops.Moveq n v) at) refl (omega arith) h refl refl)
    ∙ rw (data_back n h, byte_is v l) refl

pub decimal_again : (task : Task) (from to : Mode) (at : ℕ) → IsDecimal task → IsRead Byte from → IsRead Byte to → again (ops.Decimal task from to) at ≡ ops.Decimal task from to
unfolding meant built mnemonic_of mnemonic_in is_worded base either offset
decimal_again tasks.Abcd from to at is f t =
    ap (λ (s : Source). meant s at) (row_of_two (row_of (ops.Decimal tasks.Abcd from to) at) refl (f.registers, f.written) (t.registers, t.written) refl refl)
    ∙ rw (mode_back Byte from f, mode_back Byte to t) refl
decimal_again tasks.Sbcd from to at is f t =
    ap (λ (s : Source). meant s at) (row_of_two (row_of (ops.Decimal tasks.Sbcd from to) at) refl (f.registers, f.written) (t.registers, t.written) refl refl)
    ∙ rw (mode_back Byte from f, mode_back Byte to t) refl
decimal_again _ from to at is f t = absurd is

pub extended_again : (task : Task) (size : Size) (from to : Mode) (at : ℕ) → IsExtended task → IsRead size from → IsRead size to → again (ops.Extended task size from to) at ≡ ops.Extended task size from to
unfolding meant built mnemonic_of mnemonic_in is_worded base either offset
extended_again tasks.Addx size from to at is f t =
    ap (λ (s : Source). meant s at) (row_of_two (row_of (ops.Extended tasks.Addx size from to) at) refl (f.registers, f.written) (t.registers, t.written) refl refl)
    ∙ rw (mode_back size from f, mode_back size to t) refl
extended_again tasks.Subx size from to at is f t =
    ap (λ (s : Source). meant s at) (row_of_two (row_of (ops.Extended tasks.Subx size from to) at) refl (f.registers, f.written) (t.registers, t.written) refl refl)
    ∙ rw (mode_back size from f, mode_back size to t) refl
extended_again _ size from to at is f t = absurd is

pub to_register_again : (task : Task) (size : Size) (n : ℕ) (mode : Mode) (at : ℕ) → IsSum task → n < 8 → IsRead size mode → again (ops.ToRegister task size n mode) at ≡ ops.ToRegister task size n mode
unfolding meant built mnemonic_of mnemonic_in is_worded base either offset
to_register_again tasks.Or size n mode at is h m =
    ap (λ (s : Source). meant s at) (row_of_two (row_of (ops.ToRegister tasks.Or size n mode) at) refl (m.registers, m.written) h refl refl)
    ∙ rw (data_is n h, data_back n h, mode_back size mode m) refl
to_register_again tasks.Sub size n mode at is h m =
    ap (λ (s : Source). meant s at) (row_of_two (row_of (ops.ToRegister tasks.Sub size n mode) at) refl (m.registers, m.written) h refl refl)
    ∙ rw (data_is n h, data_back n h, mode_back size mode m) refl
to_register_again tasks.And size n mode at is h m =
    ap (λ (s : Source). meant s at) (row_of_two (row_of (ops.ToRegister tasks.And size n mode) at) refl (m.registers, m.written) h refl refl)
    ∙ rw (data_is n h, data_back n h, mode_back size mode m) refl
to_register_again tasks.Add size n mode at is h m =
    ap (λ (s : Source). meant s at) (row_of_two (row_of (ops.ToRegister tasks.Add size n mode) at) refl (m.registers, m.written) h refl refl)
    ∙ rw (data_is n h, data_back n h, mode_back size mode m) refl
to_register_again _ size n mode at is h m = absurd is

pub to_memory_again : (task : Task) (size : Size) (n : ℕ) (mode : Mode) (at : ℕ) → IsSum task → n < 8 → IsRead size mode → IsOf memory_alterable mode → again (ops.ToMemory task size n mode) at ≡ ops.ToMemory task size n mode
unfolding meant built mnemonic_of mnemonic_in is_worded base either offset
to_memory_again tasks.Or size n mode at is h m x =
    ap (λ (s : Source). meant s at) (row_of_two (row_of (ops.ToMemory tasks.Or size n mode) at) refl h (m.registers, m.written) refl refl)
    ∙ rw (not_data size mode x, data_back n h, mode_back size mode m) refl
to_memory_again tasks.Sub size n mode at is h m x =
    ap (λ (s : Source). meant s at) (row_of_two (row_of (ops.ToMemory tasks.Sub size n mode) at) refl h (m.registers, m.written) refl refl)
    ∙ rw (not_data size mode x, data_back n h, mode_back size mode m) refl
to_memory_again tasks.And size n mode at is h m x =
    ap (λ (s : Source). meant s at) (row_of_two (row_of (ops.ToMemory tasks.And size n mode) at) refl h (m.registers, m.written) refl refl)
    ∙ rw (not_data size mode x, data_back n h, mode_back size mode m) refl
to_memory_again tasks.Add size n mode at is h m x =
    ap (λ (s : Source). meant s at) (row_of_two (row_of (ops.ToMemory tasks.Add size n mode) at) refl h (m.registers, m.written) refl refl)
    ∙ rw (not_data size mode x, data_back n h, mode_back size mode m) refl
to_memory_again _ size n mode at is h m x = absurd is

pub to_address_again : (task : Task) (size : Size) (n : ℕ) (mode : Mode) (at : ℕ) → IsQuick task → n < 8 → IsRead size mode → again (ops.ToAddress task size n mode) at ≡ ops.ToAddress task size n mode
unfolding meant built mnemonic_of mnemonic_in is_worded base either offset
to_address_again tasks.Add size n mode at is h m =
    ap (λ (s : Source). meant s at) (row_of_two (row_of (ops.ToAddress tasks.Add size n mode) at) refl (m.registers, m.written) h refl refl)
    ∙ rw (register_back n h, mode_back size mode m) refl
to_address_again tasks.Sub size n mode at is h m =
    ap (λ (s : Source). meant s at) (row_of_two (row_of (ops.ToAddress tasks.Sub size n mode) at) refl (m.registers, m.written) h refl refl)
    ∙ rw (register_back n h, mode_back size mode m) refl
to_address_again _ size n mode at is h m = absurd is

pub cmp_again : (size : Size) (n : ℕ) (mode : Mode) (at : ℕ) → n < 8 → IsRead size mode → again (ops.Cmp size n mode) at ≡ ops.Cmp size n mode
unfolding meant built mnemonic_of mnemonic_in is_worded base either offset
cmp_again size n mode at h m =
    ap (λ (s : Source). meant s at) (row_of_two (row_of (ops.Cmp size n mode) at) refl (m.registers, m.written) h refl refl)
    ∙ rw (data_back n h, mode_back size mode m) refl

pub cmpa_again : (size : Size) (n : ℕ) (mode : Mode) (at : ℕ) → n < 8 → IsRead size mode → again (ops.Cmpa size n mode) at ≡ ops.Cmpa size n mode
unfolding meant built mnemonic_of mnemonic_in is_worded base either offset
cmpa_again size n mode at h m =
    ap (λ (s : Source). meant s at) (row_of_two (row_of (ops.Cmpa size n mode) at) refl (m.registers, m.written) h refl refl)
    ∙ rw (register_back n h, mode_back size mode m) refl

pub eor_again : (size : Size) (n : ℕ) (mode : Mode) (at : ℕ) → n < 8 → IsRead size mode → again (ops.Eor size n mode) at ≡ ops.Eor size n mode
unfolding meant built mnemonic_of mnemonic_in is_worded base either offset
eor_again size n mode at h m =
    ap (λ (s : Source). meant s at) (row_of_two (row_of (ops.Eor size n mode) at) refl h (m.registers, m.written) refl refl)
    ∙ rw (data_back n h, mode_back size mode m) refl

pub cmpm_again : (size : Size) (x y : ℕ) (at : ℕ) → x < 8 → y < 8 → again (ops.Cmpm size x y) at ≡ ops.Cmpm size x y
unfolding meant built mnemonic_of mnemonic_in is_worded base either offset
cmpm_again size x y at h k =
    ap (λ (s : Source). meant s at) (row_of_two (row_of (ops.Cmpm size x y) at) refl (k, tt) (h, tt) refl refl)
    ∙ refl

pub exg_again : (x y : ℕ) (at : ℕ) → x < 16 → y < 16 → again (ops.Exg x y) at ≡ ops.Exg x y
unfolding meant built mnemonic_of mnemonic_in is_worded base either offset
exg_again x y at h k =
    ap (λ (s : Source). meant s at) (row_of_two (row_of (ops.Exg x y) at) refl h k refl refl)
    ∙ refl

pub shift_number_again : (task : Task) (size : Size) (n r : ℕ) (at : ℕ) → IsShift task → 0 < n → n ≤ 8 → r < 8 → again (ops.ShiftByNumber task size n r) at ≡ ops.ShiftByNumber task size n r
unfolding meant built mnemonic_of mnemonic_in is_worded base either offset
shift_number_again tasks.Asl size n r at is h k l =
    ap (λ (s : Source). meant s at) (row_of_two (row_of (ops.ShiftByNumber tasks.Asl size n r) at) refl (omega arith) l refl refl)
    ∙ rw (quick_back n h k, data_back r l) refl
shift_number_again tasks.Asr size n r at is h k l =
    ap (λ (s : Source). meant s at) (row_of_two (row_of (ops.ShiftByNumber tasks.Asr size n r) at) refl (omega arith) l refl refl)
    ∙ rw (quick_back n h k, data_back r l) refl
shift_number_again tasks.Lsl size n r at is h k l =
    ap (λ (s : Source). meant s at) (row_of_two (row_of (ops.ShiftByNumber tasks.Lsl size n r) at) refl (omega arith) l refl refl)
    ∙ rw (quick_back n h k, data_back r l) refl
shift_number_again tasks.Lsr size n r at is h k l =
    ap (λ (s : Source). meant s at) (row_of_two (row_of (ops.ShiftByNumber tasks.Lsr size n r) at) refl (omega arith) l refl refl)
    ∙ rw (quick_back n h k, data_back r l) refl
shift_number_again tasks.Roxl size n r at is h k l =
    ap (λ (s : Source). meant s at) (row_of_two (row_of (ops.ShiftByNumber tasks.Roxl size n r) at) refl (omega arith) l refl refl)
    ∙ rw (quick_back n h k, data_back r l) refl
shift_number_again tasks.Roxr size n r at is h k l =
    ap (λ (s : Source). meant s at) (row_of_two (row_of (ops.ShiftByNumber tasks.Roxr size n r) at) refl (omega arith) l refl refl)
    ∙ rw (quick_back n h k, data_back r l) refl
shift_number_again tasks.Rol size n r at is h k l =
    ap (λ (s : Source). meant s at) (row_of_two (row_of (ops.ShiftByNumber tasks.Rol size n r) at) refl (omega arith) l refl refl)
    ∙ rw (quick_back n h k, data_back r l) refl
shift_number_again tasks.Ror size n r at is h k l =
    ap (λ (s : Source). meant s at) (row_of_two (row_of (ops.ShiftByNumber tasks.Ror size n r) at) refl (omega arith) l refl refl)
    ∙ rw (quick_back n h k, data_back r l) refl
shift_number_again _ size n r at is h k l = absurd is

pub shift_register_again : (task : Task) (size : Size) (n r : ℕ) (at : ℕ) → IsShift task → n < 8 → r < 8 → again (ops.ShiftByRegister task size n r) at ≡ ops.ShiftByRegister task size n r
unfolding meant built mnemonic_of mnemonic_in is_worded base either offset
shift_register_again tasks.Asl size n r at is h l =
    ap (λ (s : Source). meant s at) (row_of_two (row_of (ops.ShiftByRegister tasks.Asl size n r) at) refl h l refl refl)
    ∙ rw (data_back n h, data_back r l) refl
shift_register_again tasks.Asr size n r at is h l =
    ap (λ (s : Source). meant s at) (row_of_two (row_of (ops.ShiftByRegister tasks.Asr size n r) at) refl h l refl refl)
    ∙ rw (data_back n h, data_back r l) refl
shift_register_again tasks.Lsl size n r at is h l =
    ap (λ (s : Source). meant s at) (row_of_two (row_of (ops.ShiftByRegister tasks.Lsl size n r) at) refl h l refl refl)
    ∙ rw (data_back n h, data_back r l) refl
shift_register_again tasks.Lsr size n r at is h l =
    ap (λ (s : Source). meant s at) (row_of_two (row_of (ops.ShiftByRegister tasks.Lsr size n r) at) refl h l refl refl)
    ∙ rw (data_back n h, data_back r l) refl
shift_register_again tasks.Roxl size n r at is h l =
    ap (λ (s : Source). meant s at) (row_of_two (row_of (ops.ShiftByRegister tasks.Roxl size n r) at) refl h l refl refl)
    ∙ rw (data_back n h, data_back r l) refl
shift_register_again tasks.Roxr size n r at is h l =
    ap (λ (s : Source). meant s at) (row_of_two (row_of (ops.ShiftByRegister tasks.Roxr size n r) at) refl h l refl refl)
    ∙ rw (data_back n h, data_back r l) refl
shift_register_again tasks.Rol size n r at is h l =
    ap (λ (s : Source). meant s at) (row_of_two (row_of (ops.ShiftByRegister tasks.Rol size n r) at) refl h l refl refl)
    ∙ rw (data_back n h, data_back r l) refl
shift_register_again tasks.Ror size n r at is h l =
    ap (λ (s : Source). meant s at) (row_of_two (row_of (ops.ShiftByRegister tasks.Ror size n r) at) refl h l refl refl)
    ∙ rw (data_back n h, data_back r l) refl
shift_register_again _ size n r at is h l = absurd is

pub shift_memory_again : (task : Task) (mode : Mode) (at : ℕ) → IsShift task → IsRead Word mode → again (ops.ShiftMemory task mode) at ≡ ops.ShiftMemory task mode
unfolding meant built mnemonic_of mnemonic_in is_worded base either offset
shift_memory_again tasks.Asl mode at is m =
    ap (λ (s : Source). meant s at) (row_of_one (codes "asl") None (operands.Place Word mode) refl (m.registers, m.written) refl)
    ∙ rw (mode_back Word mode m) refl
shift_memory_again tasks.Asr mode at is m =
    ap (λ (s : Source). meant s at) (row_of_one (codes "asr") None (operands.Place Word mode) refl (m.registers, m.written) refl)
    ∙ rw (mode_back Word mode m) refl
shift_memory_again tasks.Lsl mode at is m =
    ap (λ (s : Source). meant s at) (row_of_one (codes "lsl") None (operands.Place Word mode) refl (m.registers, m.written) refl)
    ∙ rw (mode_back Word mode m) refl
shift_memory_again tasks.Lsr mode at is m =
    ap (λ (s : Source). meant s at) (row_of_one (codes "lsr") None (operands.Place Word mode) refl (m.registers, m.written) refl)
    ∙ rw (mode_back Word mode m) refl
shift_memory_again tasks.Roxl mode at is m =
    ap (λ (s : Source). meant s at) (row_of_one (codes "roxl") None (operands.Place Word mode) refl (m.registers, m.written) refl)
    ∙ rw (mode_back Word mode m) refl
shift_memory_again tasks.Roxr mode at is m =
    ap (λ (s : Source). meant s at) (row_of_one (codes "roxr") None (operands.Place Word mode) refl (m.registers, m.written) refl)
    ∙ rw (mode_back Word mode m) refl
shift_memory_again tasks.Rol mode at is m =
    ap (λ (s : Source). meant s at) (row_of_one (codes "rol") None (operands.Place Word mode) refl (m.registers, m.written) refl)
    ∙ rw (mode_back Word mode m) refl
shift_memory_again tasks.Ror mode at is m =
    ap (λ (s : Source). meant s at) (row_of_one (codes "ror") None (operands.Place Word mode) refl (m.registers, m.written) refl)
    ∙ rw (mode_back Word mode m) refl
shift_memory_again _ mode at is m = absurd is

-- ---- lists of registers

list_names : (ns : List ℕ) → list (names_form ns) ≡ (register_masks ns).0
unfolding list
list_names [] = refl
list_names (n ∷ []) = omega arith
list_names (n ∷ m ∷ ns) = refl

turned_names : (ns : List ℕ) → turned (names_form ns) ≡ (register_masks ns).1
unfolding turned
turned_names [] = refl
turned_names (n ∷ []) = omega arith
turned_names (n ∷ m ∷ ns) = refl

list_by : (b : Bool) (l : ℕ) → l < 65536 → (l == 0) ≡ b → list (list_form false l) ≡ l
unfolding list
list_by true l h is = rw is (grind (arith, nat_tests))
list_by false l h is = rw is (list_names (listed false l) ∙ up_whole l h)

turned_by : (b : Bool) (l : ℕ) → l < 65536 → (l == 0) ≡ b → turned (list_form true l) ≡ l
unfolding turned
turned_by true l h is = rw is (grind (arith, nat_tests))
turned_by false l h is = rw is (turned_names (listed true l) ∙ down_whole l h)

up_listed : (ns : List ℕ) (l : ℕ) → (register_masks ns).0 ≡ l → (l == 0) ≡ false → is_list (names_form ns) ≡ true
up_listed [] l e is = absurd (grind (arith, nat_tests))
up_listed (n ∷ []) l e is = refl
up_listed (n ∷ m ∷ ns) l e is = refl

down_listed : (ns : List ℕ) (l : ℕ) → (register_masks ns).1 ≡ l → (l == 0) ≡ false → is_list (names_form ns) ≡ true
down_listed [] l e is = absurd (grind (arith, nat_tests))
down_listed (n ∷ []) l e is = refl
down_listed (n ∷ m ∷ ns) l e is = refl

is_list_up : (b : Bool) (l : ℕ) → l < 65536 → (l == 0) ≡ b → is_list (list_form false l) ≡ true
is_list_up true l h is = rw is refl
is_list_up false l h is = rw is (up_listed (listed false l) l (up_whole l h) is)

is_list_down : (b : Bool) (l : ℕ) → l < 65536 → (l == 0) ≡ b → is_list (list_form true l) ≡ true
is_list_down true l h is = rw is refl
is_list_down false l h is = rw is (down_listed (listed true l) l (down_whole l h) is)

-- a list is read again, turned round or not
list_is_list : (t : Bool) (l : ℕ) → l < 65536 → is_list (list_form t l) ≡ true
list_is_list true l h = is_list_down (l == 0) l h refl
list_is_list false l h = is_list_up (l == 0) l h refl

list_back : (mode : Mode) (l : ℕ) → l < 65536 → list_with mode (list_form (is_turned mode) l) ≡ l
list_back (modes.PreDec n) l h = turned_by (l == 0) l h refl
list_back (modes.Data n) l h = list_by (l == 0) l h refl
list_back (modes.Address n) l h = list_by (l == 0) l h refl
list_back (modes.Indirect n) l h = list_by (l == 0) l h refl
list_back (modes.PostInc n) l h = list_by (l == 0) l h refl
list_back (modes.Displaced n by) l h = list_by (l == 0) l h refl
list_back (modes.Indexed n index long by) l h = list_by (l == 0) l h refl
list_back (modes.AbsShort a) l h = list_by (l == 0) l h refl
list_back (modes.AbsLong a) l h = list_by (l == 0) l h refl
list_back (modes.PcDisplaced by) l h = list_by (l == 0) l h refl
list_back (modes.PcIndexed index long by) l h = list_by (l == 0) l h refl
list_back (modes.Immediate n) l h = list_by (l == 0) l h refl

pub store_again : (size : Size) (l : ℕ) (mode : Mode) (at : ℕ) → l < 65536 → IsRead size mode → again (ops.MovemToMemory size l mode) at ≡ ops.MovemToMemory size l mode
unfolding meant built mnemonic_of mnemonic_in is_worded
store_again size l mode at h m =
    ap (λ (s : Source). meant s at) (row_of_two (row_of (ops.MovemToMemory size l mode) at) refl h (m.registers, m.written) refl refl)
    ∙ rw (list_is_list (is_turned mode) l h, mode_back size mode m, list_back mode l h) refl

-- the modes of MOVEM to registers are no registers
no_list : (size : Size) (mode : Mode) → IsOf control_or_postincrement mode → is_list (form_of_mode size mode) ≡ false
no_list size (modes.Data n) h = absurd (cc)
no_list size (modes.Address n) h = absurd (cc)
no_list Byte (modes.Immediate n) h = refl
no_list Word (modes.Immediate n) h = refl
no_list Long (modes.Immediate n) h = refl
no_list size (modes.Indirect n) h = refl
no_list size (modes.PostInc n) h = refl
no_list size (modes.PreDec n) h = refl
no_list size (modes.Displaced n by) h = refl
no_list size (modes.Indexed n index long by) h = refl
no_list size (modes.AbsShort a) h = refl
no_list size (modes.AbsLong a) h = refl
no_list size (modes.PcDisplaced by) h = refl
no_list size (modes.PcIndexed index long by) h = refl

pub load_again : (size : Size) (l : ℕ) (mode : Mode) (at : ℕ) → l < 65536 → IsRead size mode → IsOf control_or_postincrement mode
    → again (ops.MovemToRegisters size l mode) at ≡ ops.MovemToRegisters size l mode
unfolding meant built mnemonic_of mnemonic_in is_worded
load_again size l mode at h m of =
    ap (λ (s : Source). meant s at) (row_of_two (row_of (ops.MovemToRegisters size l mode) at) refl (m.registers, m.written) h refl refl)
    ∙ rw (no_list size mode of, mode_back size mode m, list_by (l == 0) l h refl) refl
