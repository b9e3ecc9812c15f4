-- What words decode to is read again from its text: for the instructions of this crate's table.
use Rattle.std.proofs.Common.{◌≡◌, ℕ, zero, suc, ◌+◌, ◌%◌, ◌<◌, ◌≤◌, ◌==◌, Bool, true, false, List, refl, arith, if◌then◌else◌}
use Rattle.std.specs.Prelude.{slice_index}
use Rattle.std.proofs.lemmas.Bool.Decides.{nat_tests}
use Rattle.md_word.specs.declared.mode.Mode.TheVariants as modes
use Rattle.md_word.specs.declared.size.Size.{Size}
use Rattle.md_word.specs.declared.size.Size.TheVariants.{Byte, Word, Long}
use Rattle.md_word.specs.declared.task.Task.TheVariants as tasks
use Rattle.m68k_decode.specs.declared.displacement.Displacement.TheVariants as displacements
use Rattle.m68k_decode.specs.Fields.{high_register, low_register, paired, shift_of, low_mode, high_mode, mode_of, number_at, quick, displacement_of}
use Rattle.m68k_decode.specs.Instructions.{made}
use Rattle.m68k_decode.specs.Rows as rows
use Rattle.m68k_decode.proofs.Classes.{loads-below}
use Rattle.m68k_decode.proofs.DecodedModes.{low-number}
use Rattle.m68k_decode.specs.Rows.{Row}
use Rattle.asm_m68k.specs.Table.{AreWords, IsEntered, IsShift}
use Rattle.md_word.specs.Fields.{bit_of}
use Rattle.m68k_decode.specs.Addressing.{control_or_postincrement, low_mode_number, memory_alterable}
use Rattle.m68k_decode.specs.Operands.{IsOf}
use Rattle.asm_m68k.proofs.Instructions.{IsDisplacement, IsRead, again, bcc_again, bit_number_again, bit_register_again, bra_again, bsr_again, ccr_again, chk_again, cmp_again, cmpa_again, cmpm_again, compare_again, dbcc_again, decimal_again, divs_again, divu_again, eor_again, exg_again, ext_again, extended_again, from_sr_again, from_usp_again, immediate_again, jmp_again, jsr_again, lea_again, link_again, load_again, move_again, movea_again, movep_load_again, movep_store_again, moveq_again, muls_again, mulu_again, nbcd_again, nop_again, pea_again, quick_again, reset_again, rte_again, rtr_again, rts_again, scc_again, shift_memory_again, shift_number_again, shift_register_again, sr_again, stop_again, store_again, swap_again, tas_again, to_address_again, to_ccr_again, to_memory_again, to_register_again, to_sr_again, to_usp_again, trap_again, trapv_again, tst_again, unary_again, unlk_again}

pub number_below : (size : Size) (k : ℕ) (words : List ℕ) → AreWords words → IsRead size (modes.Immediate (number_at size k words))
unfolding number_at
number_below Byte k words all = record { registers = tt; written = omega arith; fits = omega arith }
number_below Word k words all = let h = all k in record { registers = tt; written = omega arith; fits = omega arith }
number_below Long k words all = let h = all k in let l = all (k + 1) in record { registers = tt; written = omega arith; fits = omega arith }

mode_is_read : (m r : ℕ) (size : Size) (k : ℕ) (words : List ℕ) → AreWords words → m < 8 → r < 8 → IsRead size (mode_of m r size k words)
unfolding mode_of
mode_is_read zero r size k words all g h = record { registers = h; written = tt; fits = tt }
mode_is_read (suc zero) r size k words all g h = record { registers = h; written = tt; fits = tt }
mode_is_read (suc (suc zero)) r size k words all g h = record { registers = h; written = tt; fits = tt }
mode_is_read (suc (suc (suc zero))) r size k words all g h = record { registers = h; written = tt; fits = tt }
mode_is_read (suc (suc (suc (suc zero)))) r size k words all g h = record { registers = h; written = tt; fits = tt }
mode_is_read (suc (suc (suc (suc (suc zero))))) r size k words all g h = record { registers = h; written = all k; fits = tt }
mode_is_read (suc (suc (suc (suc (suc (suc zero)))))) r size k words all g h = let x = all k in record { registers = (h, omega arith); written = omega arith; fits = tt }
mode_is_read (suc (suc (suc (suc (suc (suc (suc zero))))))) zero size k words all g h = record { registers = tt; written = all k; fits = tt }
mode_is_read (suc (suc (suc (suc (suc (suc (suc zero))))))) (suc zero) size k words all g h = let n = number_below Long k words all in record { registers = tt; written = n.written; fits = tt }
mode_is_read (suc (suc (suc (suc (suc (suc (suc zero))))))) (suc (suc zero)) size k words all g h = record { registers = tt; written = all k; fits = tt }
mode_is_read (suc (suc (suc (suc (suc (suc (suc zero))))))) (suc (suc (suc zero))) size k words all g h = let x = all k in record { registers = omega arith; written = omega arith; fits = tt }
mode_is_read (suc (suc (suc (suc (suc (suc (suc zero))))))) (suc (suc (suc (suc zero)))) size k words all g h = number_below size k words all
mode_is_read (suc (suc (suc (suc (suc (suc (suc zero))))))) (suc (suc (suc (suc (suc zero))))) size k words all g h = number_below size k words all
mode_is_read (suc (suc (suc (suc (suc (suc (suc zero))))))) (suc (suc (suc (suc (suc (suc zero)))))) size k words all g h = number_below size k words all
mode_is_read (suc (suc (suc (suc (suc (suc (suc zero))))))) (suc (suc (suc (suc (suc (suc (suc zero))))))) size k words all g h = number_below size k words all
mode_is_read (suc (suc (suc (suc (suc (suc (suc zero))))))) (suc (suc (suc (suc (suc (suc (suc (suc r)))))))) size k words all g h = absurd (omega arith)
mode_is_read (suc (suc (suc (suc (suc (suc (suc (suc m)))))))) r size k words all g h = absurd (omega arith)

pub low_is_read : (size : Size) (k : ℕ) (words : List ℕ) → AreWords words → IsRead size (low_mode size k words)
unfolding low_mode
low_is_read size k words all = mode_is_read _ _ size k words all (omega arith) (omega arith)

pub high_is_read : (size : Size) (k : ℕ) (words : List ℕ) → AreWords words → IsRead size (high_mode size k words)
unfolding high_mode
high_is_read size k words all = mode_is_read _ _ size k words all (omega arith) (omega arith)

pub high_below : (words : List ℕ) → high_register words < 8
unfolding high_register
high_below words = omega arith

quick_by : (b : Bool) (n : ℕ) → n < 8 → (n == 0) ≡ b → (0 < (if b then 8 else n)) × ((if b then 8 else n) ≤ 8)
quick_by true n h e = (omega arith, omega arith)
quick_by false n h e = (grind (arith, nat_tests), omega arith)

pub quick_in : (words : List ℕ) → (0 < quick words) × (quick words ≤ 8)
unfolding quick
quick_in words = quick_by (high_register words == 0) (high_register words) (high_below words) refl

displacement_by : (b : Bool) (words : List ℕ) → AreWords words → IsDisplacement (if b then displacements.Word (slice_index words 1) else displacements.Byte (slice_index words 0 % 256))
displacement_by true words all = all 1
displacement_by false words all = omega arith

displacement_in : (words : List ℕ) → AreWords words → IsDisplacement (displacement_of words)
unfolding displacement_of
displacement_in words all = displacement_by (slice_index words 0 % 256 == 0) words all

pub low_below : (words : List ℕ) → low_register words < 8
unfolding low_register
low_below words = omega arith

pub byte_below : (words : List ℕ) → number_at Byte 1 words < 256
unfolding number_at
byte_below words = omega arith

pub word_below : (words : List ℕ) → AreWords words → number_at Word 1 words < 65536
unfolding number_at
word_below words all = all 1

paired_by : (b : Bool) (size : Size) (n : ℕ) → n < 8 → IsRead size (if b then modes.PreDec n else modes.Data n)
paired_by true size n h = record { registers = h; written = tt; fits = tt }
paired_by false size n h = record { registers = h; written = tt; fits = tt }

pub paired_is_read : (size : Size) (words : List ℕ) (n : ℕ) → n < 8 → IsRead size (paired words n)
unfolding paired
paired_is_read size words n h = paired_by (bit_of (slice_index words 0) 8) size n h

shift_by : (a b c l : Bool) → IsShift (if a then (if l then tasks.Asl else tasks.Asr) else (if b then (if l then tasks.Lsl else tasks.Lsr) else (if c then (if l then tasks.Roxl else tasks.Roxr) else (if l then tasks.Rol else tasks.Ror))))
shift_by true b c true = tt
shift_by true b c false = tt
shift_by false true c true = tt
shift_by false true c false = tt
shift_by false false true true = tt
shift_by false false true false = tt
shift_by false false false true = tt
shift_by false false false false = tt

shift_is : (kind : ℕ) (left : Bool) → IsShift (shift_of kind left)
unfolding shift_of
shift_is kind left = shift_by (kind == 0) (kind == 1) (kind == 2) left

memory-below : (n : ℕ) → memory_alterable n ≡ true → n < 12
memory-below n is = grind (arith, nat_tests)

low_is_memory : (size : Size) (k : ℕ) (words : List ℕ) → memory_alterable (low_mode_number (slice_index words 0)) ≡ true → IsOf memory_alterable (low_mode size k words)
low_is_memory size k words is = rw (low-number size k words (memory-below _ is)) is

low_is_load : (size : Size) (k : ℕ) (words : List ℕ) → control_or_postincrement (low_mode_number (slice_index words 0)) ≡ true → IsOf control_or_postincrement (low_mode size k words)
low_is_load size k words is = rw (low-number size k words (loads-below _ is)) is

pub row_again : (row : Row) (words : List ℕ) (at : ℕ) → IsEntered row (slice_index words 0) → AreWords words → at < 4294967296 → again (made row words).op at ≡ (made row words).op
unfolding made
row_again (rows.Immediate task) words at is all h = immediate_again task _ _ _ at is (number_below _ 1 words all).fits (low_is_read _ _ words all)
row_again rows.CompareImmediate words at is all h = compare_again _ _ _ at (number_below _ 1 words all).fits (low_is_read _ _ words all)
row_again (rows.ImmediateToCcr task) words at is all h = ccr_again task _ at is (byte_below words)
row_again (rows.ImmediateToSr task) words at is all h = sr_again task _ at is (word_below words all)
row_again (rows.BitByRegister task) words at is all h = bit_register_again task _ _ at is (high_below words) (low_is_read Byte 1 words all)
row_again (rows.BitByNumber task) words at is all h = bit_number_again task _ _ at is (byte_below words) (low_is_read Byte 2 words all)
row_again rows.MovepToRegister words at is all h = movep_load_again _ _ _ _ at (high_below words) (low_below words) (word_below words all)
row_again rows.MovepToMemory words at is all h = movep_store_again _ _ _ _ at (high_below words) (low_below words) (word_below words all)
row_again (rows.Move size) words at is all h = move_again size _ _ at (low_is_read size 1 words all) (high_is_read size _ words all)
row_again (rows.Movea size) words at is all h = movea_again size _ _ at (high_below words) (low_is_read size 1 words all)
row_again (rows.Unary task) words at is all h = unary_again task _ _ at is (low_is_read _ 1 words all)
row_again rows.MoveFromSr words at is all h = from_sr_again _ at (low_is_read Word 1 words all)
row_again rows.MoveToCcr words at is all h = to_ccr_again _ at (low_is_read Word 1 words all)
row_again rows.MoveToSr words at is all h = to_sr_again _ at (low_is_read Word 1 words all)
row_again rows.Nbcd words at is all h = nbcd_again _ at (low_is_read Byte 1 words all)
row_again rows.Swap words at is all h = swap_again _ at (low_below words)
row_again rows.Ext words at is all h = ext_again _ _ at (low_below words)
row_again rows.Pea words at is all h = pea_again _ at (low_is_read Long 1 words all)
row_again rows.MovemToMemory words at is all h = store_again _ _ _ at (word_below words all) (low_is_read _ 2 words all)
row_again rows.MovemToRegisters words at is all h = load_again _ _ _ at (word_below words all) (low_is_read _ 2 words all) (low_is_load _ 2 words is)
row_again rows.Tst words at is all h = tst_again _ _ at (low_is_read _ 1 words all)
row_again rows.Tas words at is all h = tas_again _ at (low_is_read Byte 1 words all)
row_again rows.Illegal words at is all h = absurd is
row_again rows.Trap words at is all h = trap_again _ at (omega arith)
row_again rows.Link words at is all h = link_again _ _ at (low_below words) (word_below words all)
row_again rows.Unlk words at is all h = unlk_again _ at (low_below words)
row_again rows.MoveToUsp words at is all h = to_usp_again _ at (low_below words)
row_again rows.MoveFromUsp words at is all h = from_usp_again _ at (low_below words)
row_again rows.Reset words at is all h = reset_again at
row_again rows.Nop words at is all h = nop_again at
row_again rows.Stop words at is all h = stop_again _ at (word_below words all)
row_again rows.Rte words at is all h = rte_again at
row_again rows.Rts words at is all h = rts_again at
row_again rows.Trapv words at is all h = trapv_again at
row_again rows.Rtr words at is all h = rtr_again at
row_again rows.Jsr words at is all h = jsr_again _ at (low_is_read Long 1 words all)
row_again rows.Jmp words at is all h = jmp_again _ at (low_is_read Long 1 words all)
row_again rows.Lea words at is all h = lea_again _ _ at (high_below words) (low_is_read Long 1 words all)
row_again rows.Chk words at is all h = chk_again _ _ at (high_below words) (low_is_read Word 1 words all)
row_again (rows.Quick task) words at is all h = quick_again task _ _ _ at is (quick_in words).0 (quick_in words).1 (low_is_read _ 1 words all)
row_again rows.Scc words at is all h = scc_again _ _ at (low_is_read Byte 1 words all)
row_again rows.Dbcc words at is all h = dbcc_again _ _ _ at h (low_below words) (word_below words all)
row_again rows.Bra words at is all h = bra_again _ at h (displacement_in words all)
row_again rows.Bsr words at is all h = bsr_again _ at h (displacement_in words all)
row_again rows.Bcc words at is all h = bcc_again _ _ at h (displacement_in words all)
row_again rows.Moveq words at is all h = moveq_again _ _ at (high_below words) (omega arith)
row_again rows.Divu words at is all h = divu_again _ _ at (high_below words) (low_is_read Word 1 words all)
row_again rows.Divs words at is all h = divs_again _ _ at (high_below words) (low_is_read Word 1 words all)
row_again (rows.Decimal task) words at is all h = decimal_again task _ _ at is (paired_is_read Byte words _ (low_below words)) (paired_is_read Byte words _ (high_below words))
row_again (rows.Extended task) words at is all h = extended_again task _ _ _ at is (paired_is_read _ words _ (low_below words)) (paired_is_read _ words _ (high_below words))
row_again (rows.ToRegister task) words at is all h = to_register_again task _ _ _ at is (high_below words) (low_is_read _ 1 words all)
row_again (rows.ToMemory task) words at is all h = to_memory_again task _ _ _ at is.0 (high_below words) (low_is_read _ 1 words all) (low_is_memory _ 1 words is.1)
row_again (rows.ToAddress task) words at is all h = to_address_again task _ _ _ at is (high_below words) (low_is_read _ 1 words all)
row_again rows.Cmp words at is all h = cmp_again _ _ _ at (high_below words) (low_is_read _ 1 words all)
row_again rows.Cmpa words at is all h = cmpa_again _ _ _ at (high_below words) (low_is_read _ 1 words all)
row_again rows.Eor words at is all h = eor_again _ _ _ at (high_below words) (low_is_read _ 1 words all)
row_again rows.Cmpm words at is all h = cmpm_again _ _ _ at (high_below words) (low_below words)
row_again rows.Mulu words at is all h = mulu_again _ _ at (high_below words) (low_is_read Word 1 words all)
row_again rows.Muls words at is all h = muls_again _ _ at (high_below words) (low_is_read Word 1 words all)
row_again rows.ExgData words at is all h = (let x = (high_below words) in let y = (low_below words) in exg_again _ _ at (omega arith) (omega arith))
row_again rows.ExgAddress words at is all h = (let x = (high_below words) in let y = (low_below words) in exg_again _ _ at (omega arith) (omega arith))
row_again rows.ExgMixed words at is all h = (let x = (high_below words) in let y = (low_below words) in exg_again _ _ at (omega arith) (omega arith))
row_again rows.ShiftByNumber words at is all h = shift_number_again _ _ _ _ at (shift_is _ _) (quick_in words).0 (quick_in words).1 (low_below words)
row_again rows.ShiftByRegister words at is all h = shift_register_again _ _ _ _ at (shift_is _ _) (high_below words) (low_below words)
row_again rows.ShiftMemory words at is all h = shift_memory_again _ _ at (shift_is _ _) (low_is_read Word 1 words all)
