-- The words that are tried for tokens of the 68000 are words.
use Rattle.std.proofs.Common.{ℕ, ◌%◌, ◌<◌, Bool, true, false, List, [], ◌∷◌, arith, if◌then◌else◌}
use Rattle.std.specs.Str.{bytes_eq}
use Rattle.md_word.specs.Width.{modulus_of}
use Rattle.md_word.specs.declared.size.Size.{Size}
use Rattle.md_word.specs.declared.size.Size.TheVariants.{Byte, Word, Long}
use Rattle.md_word.specs.declared.task.Task.{Task}
use Rattle.md_word.specs.declared.task.Task.TheVariants as tasks
use Rattle.m68k_decode.specs.declared.condition.Condition.{Condition}
use Rattle.m68k_decode.specs.declared.condition.Condition.TheVariants as conditions
use Rattle.m68k_decode.specs.declared.op.Op.{Op}
use Rattle.m68k_decode.specs.declared.op.Op.TheVariants as ops
use Rattle.md_asm_text.specs.Tokens.{Token}
use Rattle.asm_m68k.specs.Encoding.{extension, first_word, mode_words, number_words}
use Rattle.asm_m68k.specs.Reading.{read_source}
use Rattle.asm_m68k.specs.declared.form.Form.{Form}
use Rattle.asm_m68k.specs.Building as building
use Rattle.asm_m68k.specs.Building.{Entry, base, bit, built, by_word, displacement, either, immediate, list, list_with, meant, move, movem, movep, number, offset, quick, register, shift, mnemonic_in, mnemonic_of, sum, table, written}
use Rattle.asm_m68k.specs.Checked.{tried}
use Rattle.asm_m68k.specs.Table.{AreWords}
use Rattle.md_asm.proofs.Low68.{cons_low, append_low, mode_low, none_low, size_low}
use Rattle.asm_laws.proofs.Sound68.{AreLongs, IsSound, read_sound}
use Rattle.md_asm.proofs.First68.{condition_low}
use Rattle.asm_laws.proofs.Codes68.{base_low, code_low, cut, either_low, exchange_low, group_low, list_low, listed_low, long_below, mode_read, move_below, offset_low, quick_low, register_low, size_below, task_low}

-- ---- instructions

infixr 4 ◌also◌
◌also◌ : {A B : Type 0} → A → B → A × B
a also b = (a, b)

-- the words of an instruction are words
record IsWhole (op : Op) : Type 0 where
  first : first_word op < 65536
  more : AreWords (extension op)

either_whole : (b : Bool) (x y : Op) → IsWhole x → IsWhole y → IsWhole (if b then x else y)
either_whole true x y h k = h
either_whole false x y h k = k

word_alone : (n : ℕ) → n < 65536 → AreWords (n ∷ [])
word_alone n h = cons_low n [] h none_low

module _ (size : Size) (first second : Form) (f : IsSound first) (s : IsSound second) where
  -- the extension words of an operand
  words_of : (own : Size) (form : Form) → IsSound form → AreWords (mode_words own (building.mode own form))
  words_of own form h = mode_low own (building.mode own form) (mode_read own form h)

  immediate_whole : (task : Task) → IsWhole (immediate task size first second)
  unfolding first_word extension
  immediate_whole task =
      either_whole (building.is_ccr second) (ops.ImmediateToCcr task (number first % 256)) _
      (record { first = omega (arith, task_low task); more = word_alone (number first % 256) (omega arith) })
      (either_whole (building.is_sr second) (ops.ImmediateToSr task (number first % 65536)) (ops.Immediate task size (number first % modulus_of size) (building.mode size second))
      (record { first = omega (arith, task_low task); more = word_alone (number first % 65536) (omega arith) })
      (record {
        first = omega (arith, task_low task, size_below size, code_low size second s);
        more = append_low (number_words size (number first % modulus_of size)) (mode_words size (building.mode size second)) (size_low size (number first % modulus_of size) (cut size (number first))) (words_of size second s);
      }))

  bit_whole : (task : Task) → IsWhole (bit task first second)
  unfolding first_word extension
  bit_whole task =
      either_whole (building.is_immediate_form first) (ops.BitByNumber task (number first % 256) (building.mode Byte second)) (ops.BitByRegister task (register first) (building.mode Byte second))
      (record {
        first = omega (arith, task_low task, code_low Byte second s);
        more = cons_low (number first % 256) (mode_words Byte (building.mode Byte second)) (omega arith) (words_of Byte second s);
      })
      (record { first = omega (arith, task_low task, register_low first, code_low Byte second s); more = words_of Byte second s })

  movep_whole : IsWhole (movep size first second)
  unfolding first_word extension
  movep_whole =
      either_whole (building.is_displaced first) (ops.MovepToRegister size (register second) (base first) (offset first)) (ops.MovepToMemory size (register first) (base second) (offset second))
      (record { first = omega (arith, register_low second, base_low first f, long_below size); more = word_alone (offset first) (offset_low first) })
      (record { first = omega (arith, register_low first, base_low second s, long_below size); more = word_alone (offset second) (offset_low second) })

  move_whole : IsWhole (move size first second)
  unfolding first_word extension
  move_whole =
      either_whole (building.is_sr first) (ops.MoveFromSr (building.mode Word second)) _ (record { first = omega (arith, code_low Word second s); more = words_of Word second s })
      (either_whole (building.is_usp first) (ops.MoveFromUsp (register second)) _ (record { first = omega (arith, register_low second); more = none_low })
      (either_whole (building.is_ccr second) (ops.MoveToCcr (building.mode Word first)) _ (record { first = omega (arith, code_low Word first f); more = words_of Word first f })
      (either_whole (building.is_sr second) (ops.MoveToSr (building.mode Word first)) _ (record { first = omega (arith, code_low Word first f); more = words_of Word first f })
      (either_whole (building.is_usp second) (ops.MoveToUsp (register first)) (ops.Move size (building.mode size first) (building.mode size second)) (record { first = omega (arith, register_low first); more = none_low })
      (record {
        first = omega (arith, move_below size, code_low size first f, code_low size second s);
        more = append_low (mode_words size (building.mode size first)) (mode_words size (building.mode size second)) (words_of size first f) (words_of size second s);
      })))))

  movem_whole : IsWhole (movem size first second)
  unfolding first_word extension
  movem_whole =
      either_whole (building.is_list first) (ops.MovemToMemory size (list_with (building.mode size second) first) (building.mode size second)) (ops.MovemToRegisters size (list second) (building.mode size first))
      (record {
        first = omega (arith, long_below size, code_low size second s);
        more = cons_low (list_with (building.mode size second) first) (mode_words size (building.mode size second)) (listed_low (building.mode size second) first f) (words_of size second s);
      })
      (record {
        first = omega (arith, long_below size, code_low size first f);
        more = cons_low (list second) (mode_words size (building.mode size first)) (list_low second s) (words_of size first f);
      })

  sum_whole : (task : Task) → IsWhole (sum task size first second)
  unfolding first_word extension
  sum_whole task =
      either_whole (building.is_data second) (ops.ToRegister task size (register second) (building.mode size first)) (ops.ToMemory task size (register first) (building.mode size second))
      (record { first = omega (arith, group_low task, size_below size, register_low second, code_low size first f); more = words_of size first f })
      (record { first = omega (arith, group_low task, size_below size, register_low first, code_low size second s); more = words_of size second s })

  shift_whole : (task : Task) → IsWhole (shift task size first second)
  unfolding first_word extension
  shift_whole task =
      either_whole (building.is_nothing second) (ops.ShiftMemory task (building.mode Word first)) _ (record { first = omega (arith, task_low task, code_low Word first f); more = words_of Word first f })
      (either_whole (building.is_immediate_form first) (ops.ShiftByNumber task size (quick first) (register second)) (ops.ShiftByRegister task size (register first) (register second))
      (record { first = omega (arith, task_low task, size_below size, register_low second); more = none_low })
      (record { first = omega (arith, task_low task, size_below size, register_low first, register_low second); more = none_low }))

  bra_whole : (own : Size) (at : ℕ) → IsWhole (ops.Bra (displacement own at first))
  unfolding first_word extension
  bra_whole Byte at = record { first = omega arith; more = none_low }
  bra_whole Word at = record { first = omega arith; more = word_alone (by_word at first) (omega arith) }
  bra_whole Long at = record { first = omega arith; more = word_alone (by_word at first) (omega arith) }

  bsr_whole : (own : Size) (at : ℕ) → IsWhole (ops.Bsr (displacement own at first))
  unfolding first_word extension
  bsr_whole Byte at = record { first = omega arith; more = none_low }
  bsr_whole Word at = record { first = omega arith; more = word_alone (by_word at first) (omega arith) }
  bsr_whole Long at = record { first = omega arith; more = word_alone (by_word at first) (omega arith) }

  bcc_whole : (condition : Condition) (own : Size) (at : ℕ) → IsWhole (ops.Bcc condition (displacement own at first))
  unfolding first_word extension
  bcc_whole condition Byte at = record { first = omega (arith, condition_low condition); more = none_low }
  bcc_whole condition Word at = record { first = omega (arith, condition_low condition); more = word_alone (by_word at first) (omega arith) }
  bcc_whole condition Long at = record { first = omega (arith, condition_low condition); more = word_alone (by_word at first) (omega arith) }

  compare_immediate_whole : IsWhole (ops.CompareImmediate size (number first % modulus_of size) (building.mode size second))
  unfolding first_word extension
  compare_immediate_whole = record {
    first = omega (arith, size_below size, code_low size second s);
    more = append_low (number_words size (number first % modulus_of size)) (mode_words size (building.mode size second)) (size_low size (number first % modulus_of size) (cut size (number first))) (words_of size second s);
  }

  movea_whole : IsWhole (ops.Movea size (register second) (building.mode size first))
  unfolding first_word extension
  movea_whole = record { first = omega (arith, move_below size, register_low second, code_low size first f); more = words_of size first f }

  unary_whole : (task : Task) → IsWhole (ops.Unary task size (building.mode size first))
  unfolding first_word extension
  unary_whole task = record { first = omega (arith, task_low task, size_below size, code_low size first f); more = words_of size first f }

  nbcd_whole : IsWhole (ops.Nbcd (building.mode Byte first))
  unfolding first_word extension
  nbcd_whole = record { first = omega (arith, code_low Byte first f); more = words_of Byte first f }

  swap_whole : IsWhole (ops.Swap (register first))
  unfolding first_word extension
  swap_whole = record { first = omega (arith, register_low first); more = none_low }

  ext_whole : IsWhole (ops.Ext size (register first))
  unfolding first_word extension
  ext_whole = record { first = omega (arith, long_below size, register_low first); more = none_low }

  pea_whole : IsWhole (ops.Pea (building.mode Long first))
  unfolding first_word extension
  pea_whole = record { first = omega (arith, code_low Long first f); more = words_of Long first f }

  tst_whole : IsWhole (ops.Tst size (building.mode size first))
  unfolding first_word extension
  tst_whole = record { first = omega (arith, size_below size, code_low size first f); more = words_of size first f }

  tas_whole : IsWhole (ops.Tas (building.mode Byte first))
  unfolding first_word extension
  tas_whole = record { first = omega (arith, code_low Byte first f); more = words_of Byte first f }

  trap_whole : IsWhole (ops.Trap (number first % 16))
  unfolding first_word extension
  trap_whole = record { first = omega arith; more = none_low }

  link_whole : IsWhole (ops.Link (register first) (number second % 65536))
  unfolding first_word extension
  link_whole = record { first = omega (arith, register_low first); more = word_alone (number second % 65536) (omega arith) }

  unlk_whole : IsWhole (ops.Unlk (register first))
  unfolding first_word extension
  unlk_whole = record { first = omega (arith, register_low first); more = none_low }

  reset_whole : IsWhole ops.Reset
  unfolding first_word extension
  reset_whole = record { first = omega arith; more = none_low }

  nop_whole : IsWhole ops.Nop
  unfolding first_word extension
  nop_whole = record { first = omega arith; more = none_low }

  stop_whole : IsWhole (ops.Stop (number first % 65536))
  unfolding first_word extension
  stop_whole = record { first = omega arith; more = word_alone (number first % 65536) (omega arith) }

  rte_whole : IsWhole ops.Rte
  unfolding first_word extension
  rte_whole = record { first = omega arith; more = none_low }

  rts_whole : IsWhole ops.Rts
  unfolding first_word extension
  rts_whole = record { first = omega arith; more = none_low }

  trapv_whole : IsWhole ops.Trapv
  unfolding first_word extension
  trapv_whole = record { first = omega arith; more = none_low }

  rtr_whole : IsWhole ops.Rtr
  unfolding first_word extension
  rtr_whole = record { first = omega arith; more = none_low }

  jsr_whole : IsWhole (ops.Jsr (building.mode Long first))
  unfolding first_word extension
  jsr_whole = record { first = omega (arith, code_low Long first f); more = words_of Long first f }

  jmp_whole : IsWhole (ops.Jmp (building.mode Long first))
  unfolding first_word extension
  jmp_whole = record { first = omega (arith, code_low Long first f); more = words_of Long first f }

  lea_whole : IsWhole (ops.Lea (register second) (building.mode Long first))
  unfolding first_word extension
  lea_whole = record { first = omega (arith, register_low second, code_low Long first f); more = words_of Long first f }

  chk_whole : IsWhole (ops.Chk (register second) (building.mode Word first))
  unfolding first_word extension
  chk_whole = record { first = omega (arith, register_low second, code_low Word first f); more = words_of Word first f }

  quick_whole : (task : Task) → IsWhole (ops.Quick task size (quick first) (building.mode size second))
  unfolding first_word extension
  quick_whole task = record { first = omega (arith, quick_low task, size_below size, code_low size second s); more = words_of size second s }

  scc_whole : (condition : Condition) → IsWhole (ops.Scc condition (building.mode Byte first))
  unfolding first_word extension
  scc_whole condition = record { first = omega (arith, condition_low condition, code_low Byte first f); more = words_of Byte first f }

  dbcc_whole : (condition : Condition) (at : ℕ) → IsWhole (ops.Dbcc condition (register first) (by_word at second))
  unfolding first_word extension
  dbcc_whole condition at = record { first = omega (arith, condition_low condition, register_low first); more = word_alone (by_word at second) (omega arith) }

  moveq_whole : IsWhole (ops.Moveq (register second) (number first % 256))
  unfolding first_word extension
  moveq_whole = record { first = omega (arith, register_low second); more = none_low }

  divu_whole : IsWhole (ops.Divu (register second) (building.mode Word first))
  unfolding first_word extension
  divu_whole = record { first = omega (arith, register_low second, code_low Word first f); more = words_of Word first f }

  divs_whole : IsWhole (ops.Divs (register second) (building.mode Word first))
  unfolding first_word extension
  divs_whole = record { first = omega (arith, register_low second, code_low Word first f); more = words_of Word first f }

  decimal_whole : (task : Task) → IsWhole (ops.Decimal task (building.mode Byte first) (building.mode Byte second))
  unfolding first_word extension
  decimal_whole task = record { first = omega (arith, group_low task, code_low Byte first f, code_low Byte second s); more = none_low }

  extended_whole : (task : Task) → IsWhole (ops.Extended task size (building.mode size first) (building.mode size second))
  unfolding first_word extension
  extended_whole task = record { first = omega (arith, group_low task, size_below size, code_low size first f, code_low size second s); more = none_low }

  to_address_whole : (task : Task) → IsWhole (ops.ToAddress task size (register second) (building.mode size first))
  unfolding first_word extension
  to_address_whole task = record { first = omega (arith, group_low task, long_below size, register_low second, code_low size first f); more = words_of size first f }

  cmp_whole : IsWhole (ops.Cmp size (register second) (building.mode size first))
  unfolding first_word extension
  cmp_whole = record { first = omega (arith, size_below size, register_low second, code_low size first f); more = words_of size first f }

  cmpa_whole : IsWhole (ops.Cmpa size (register second) (building.mode size first))
  unfolding first_word extension
  cmpa_whole = record { first = omega (arith, long_below size, register_low second, code_low size first f); more = words_of size first f }

  eor_whole : IsWhole (ops.Eor size (register first) (building.mode size second))
  unfolding first_word extension
  eor_whole = record { first = omega (arith, size_below size, register_low first, code_low size second s); more = words_of size second s }

  cmpm_whole : IsWhole (ops.Cmpm size (base second) (base first))
  unfolding first_word extension
  cmpm_whole = record { first = omega (arith, size_below size, base_low second s, base_low first f); more = none_low }

  mulu_whole : IsWhole (ops.Mulu (register second) (building.mode Word first))
  unfolding first_word extension
  mulu_whole = record { first = omega (arith, register_low second, code_low Word first f); more = words_of Word first f }

  muls_whole : IsWhole (ops.Muls (register second) (building.mode Word first))
  unfolding first_word extension
  muls_whole = record { first = omega (arith, register_low second, code_low Word first f); more = words_of Word first f }

  exg_whole : IsWhole (ops.Exg (either first) (either second))
  unfolding first_word extension
  exg_whole = record { first = exchange_low (either first) (either second) (either_low first f) (either_low second s); more = none_low }

  -- so are those of all names of the table
  abbrev AreWhole : List Entry → ℕ → Type 0
  AreWhole [] at = Unit {0}
  AreWhole (entry ∷ more) at = IsWhole (built entry.mnemonic size first second at) × AreWhole more at

  table_whole : (at : ℕ) → AreWhole table at
  unfolding built
  table_whole at =
      decimal_whole tasks.Abcd
      also sum_whole tasks.Add
      also to_address_whole tasks.Add
      also immediate_whole tasks.Add
      also quick_whole tasks.Add
      also extended_whole tasks.Addx
      also sum_whole tasks.And
      also immediate_whole tasks.And
      also shift_whole tasks.Asl
      also shift_whole tasks.Asr
      also bcc_whole conditions.CarryClear size at
      also bit_whole tasks.Bchg
      also bit_whole tasks.Bclr
      also bcc_whole conditions.CarrySet size at
      also bcc_whole conditions.Equal size at
      also bcc_whole conditions.False size at
      also bcc_whole conditions.GreaterOrEqual size at
      also bcc_whole conditions.GreaterThan size at
      also bcc_whole conditions.High size at
      also bcc_whole conditions.LessOrEqual size at
      also bcc_whole conditions.LowOrSame size at
      also bcc_whole conditions.LessThan size at
      also bcc_whole conditions.Minus size at
      also bcc_whole conditions.NotEqual size at
      also bcc_whole conditions.Plus size at
      also bra_whole size at
      also bit_whole tasks.Bset
      also bsr_whole size at
      also bcc_whole conditions.True size at
      also bit_whole tasks.Btst
      also bcc_whole conditions.OverflowClear size at
      also bcc_whole conditions.OverflowSet size at
      also chk_whole
      also unary_whole tasks.Clr
      also cmp_whole
      also cmpa_whole
      also compare_immediate_whole
      also cmpm_whole
      also dbcc_whole conditions.CarryClear at
      also dbcc_whole conditions.CarrySet at
      also dbcc_whole conditions.Equal at
      also dbcc_whole conditions.False at
      also dbcc_whole conditions.GreaterOrEqual at
      also dbcc_whole conditions.GreaterThan at
      also dbcc_whole conditions.High at
      also dbcc_whole conditions.LessOrEqual at
      also dbcc_whole conditions.LowOrSame at
      also dbcc_whole conditions.LessThan at
      also dbcc_whole conditions.Minus at
      also dbcc_whole conditions.NotEqual at
      also dbcc_whole conditions.Plus at
      also dbcc_whole conditions.True at
      also dbcc_whole conditions.OverflowClear at
      also dbcc_whole conditions.OverflowSet at
      also divs_whole
      also divu_whole
      also eor_whole
      also immediate_whole tasks.Eor
      also exg_whole
      also ext_whole
      also jmp_whole
      also jsr_whole
      also lea_whole
      also link_whole
      also shift_whole tasks.Lsl
      also shift_whole tasks.Lsr
      also move_whole
      also movea_whole
      also movem_whole
      also movep_whole
      also moveq_whole
      also muls_whole
      also mulu_whole
      also nbcd_whole
      also unary_whole tasks.Neg
      also unary_whole tasks.Negx
      also nop_whole
      also unary_whole tasks.Not
      also sum_whole tasks.Or
      also immediate_whole tasks.Or
      also pea_whole
      also reset_whole
      also shift_whole tasks.Rol
      also shift_whole tasks.Ror
      also shift_whole tasks.Roxl
      also shift_whole tasks.Roxr
      also rte_whole
      also rtr_whole
      also rts_whole
      also decimal_whole tasks.Sbcd
      also scc_whole conditions.CarryClear
      also scc_whole conditions.CarrySet
      also scc_whole conditions.Equal
      also scc_whole conditions.False
      also scc_whole conditions.GreaterOrEqual
      also scc_whole conditions.GreaterThan
      also scc_whole conditions.High
      also scc_whole conditions.LessOrEqual
      also scc_whole conditions.LowOrSame
      also scc_whole conditions.LessThan
      also scc_whole conditions.Minus
      also scc_whole conditions.NotEqual
      also scc_whole conditions.Plus
      also scc_whole conditions.True
      also stop_whole
      also sum_whole tasks.Sub
      also to_address_whole tasks.Sub
      also immediate_whole tasks.Sub
      also quick_whole tasks.Sub
      also extended_whole tasks.Subx
      also scc_whole conditions.OverflowClear
      also scc_whole conditions.OverflowSet
      also swap_whole
      also tas_whole
      also trap_whole
      also trapv_whole
      also tst_whole
      also unlk_whole
      also tt

  mnemonic_whole : (entries : List Entry) (text : List ℕ) (at : ℕ) → AreWhole entries at → IsWhole (built (mnemonic_in entries text) size first second at)
  unfolding mnemonic_in built
  mnemonic_whole [] text at h = nop_whole
  mnemonic_whole (entry ∷ more) text at h = by (bytes_eq entry.text text) (h.0) (mnemonic_whole more text at (h.1))
    where
      by : (b : Bool) → IsWhole (built entry.mnemonic size first second at) → IsWhole (built (mnemonic_in more text) size first second at)
          → IsWhole (built (if b then entry.mnemonic else mnemonic_in more text) size first second at)
      by true own rest = own
      by false own rest = rest

-- what is tried for tokens whose numbers have 32 bits
pub tried_words : (line_tokens : List Token) (at : ℕ) → AreLongs line_tokens → AreWords (tried line_tokens at)
unfolding meant mnemonic_of
tried_words line_tokens at h =
    let source = read_sound line_tokens h in
    let whole = mnemonic_whole (written (read_source line_tokens).size) (read_source line_tokens).first (read_source line_tokens).second source.first source.second table (read_source line_tokens).mnemonic at
    (table_whole (written (read_source line_tokens).size) (read_source line_tokens).first (read_source line_tokens).second source.first source.second at) in
    cons_low (first_word (meant (read_source line_tokens) at)) (extension (meant (read_source line_tokens) at)) whole.first whole.more
