-- The bytes that are tried for tokens are bytes.
use Rattle.std.proofs.Common.{◌≡◌, ℕ, ◌<◌, Bool, true, false, List, [], ◌∷◌, refl, arith, if◌then◌else◌}
use Rattle.std.specs.Str.{bytes_eq}
use Rattle.md_word.specs.declared.bit.Bit.{Bit}
use Rattle.md_word.specs.declared.task80.Task80.{Task80}
use Rattle.md_word.specs.declared.task80.Task80.TheVariants as tasks
use Rattle.z80_decode.specs.declared.block.Block.TheVariants.{Increment, Decrement, IncrementRepeat, DecrementRepeat}
use Rattle.z80_decode.specs.declared.op80.Op80.{Op80}
use Rattle.z80_decode.specs.declared.op80.Op80.TheVariants as ops
use Rattle.md_asm_text.specs.Tokens.{Token}
use Rattle.asm_z80.specs.Coded80.{AreBytes}
use Rattle.asm_z80.specs.Encoding80.{arithmetic_code, displaced_code, encoded, index_of_pair, opcode_of, operand_bytes, operands, prefixes}
use Rattle.asm_z80.proofs.Bytes80.{all_bytes}
use Rattle.asm_z80.proofs.Law80.{all_are}
use Rattle.asm_z80.specs.Building as building
use Rattle.asm_z80.specs.Building.{Entry, built, distance, meant, mnemonic_in, mnemonic_of, table}
use Rattle.asm_z80.specs.Forms.{Form}
use Rattle.asm_z80.specs.Checked.{tried}
use Rattle.asm_z80.specs.Reading.{read_source}
use Rattle.asm_z80.specs.Words.{bit_of, condition_of, mode_of, special_of}
use Rattle.asm_laws.proofs.Places80.{IsPlace, append_bytes, arithmetic_low, bit_low, byte_alone, change_low, changed_low, computed_low, condition_low, cons_byte, displaced_low, extended_prefix, form_place, index_bytes, interrupt_low, load_low, none_byte, pair_low, place_bytes, place_low, prefix_place, special_low, step_low, two_bytes}

-- ---- instructions

infixr 4 ◌also◌
◌also◌ : {A B : Type 0} → A → B → A × B
a also b = (a, b)

-- the bytes of an instruction are bytes
record IsWhole (op : Op80) : Type 0 where
  front : AreBytes (prefixes op)
  code : opcode_of op < 256
  following : AreBytes (operands op)

either_whole : (b : Bool) (x y : Op80) → IsWhole x → IsWhole y → IsWhole (if b then x else y)
either_whole true x y h k = h
either_whole false x y h k = k

word_low : (form : Form) → building.word form < 65536
word_low form = omega arith

byte_low : (form : Form) → building.byte form < 256
byte_low form = omega arith

distance_low : (at to : ℕ) → distance at to < 256
unfolding distance
distance_low at to = omega arith

module _ (first second : Form) where
  first_place : IsPlace (building.place first)
  first_place = form_place first

  second_place : IsPlace (building.place second)
  second_place = form_place second

  load_pair_whole : IsWhole (building.load_pair first second)
  unfolding prefixes opcode_of operands
  load_pair_whole =
      either_whole (building.names_pair second) (ops.LoadStackPointer (building.index second)) _
      (record { front = index_bytes (building.index second); code = omega arith; following = none_byte })
      (either_whole (building.is_at_number second) _ (ops.LoadPair (building.pair first) (building.word second))
      (either_whole _ (ops.LoadIndex (building.index first) (building.word second)) (ops.LoadPairExtended (building.pair first) (building.word second))
      (record { front = index_bytes (building.index first); code = omega arith; following = two_bytes (building.word second) (word_low second) })
      (record { front = extended_prefix; code = omega (arith, pair_low (building.pair first)); following = two_bytes (building.word second) (word_low second) }))
      (record { front = index_bytes (index_of_pair (building.pair first)); code = omega (arith, pair_low (building.pair first)); following = two_bytes (building.word second) (word_low second) }))

  store_pair_whole : IsWhole (building.store_pair first second)
  unfolding prefixes opcode_of operands
  store_pair_whole =
      either_whole _ (ops.StoreIndex (building.word first) (building.index second)) (ops.StorePairExtended (building.word first) (building.pair second))
      (record { front = index_bytes (building.index second); code = omega arith; following = two_bytes (building.word first) (word_low first) })
      (record { front = extended_prefix; code = omega (arith, pair_low (building.pair second)); following = two_bytes (building.word first) (word_low first) })

  load_whole : IsWhole (building.load first second)
  unfolding prefixes opcode_of operands
  load_whole =
      either_whole (building.names_pair first) _ _ load_pair_whole
      (either_whole (building.names_pair second) _ _ store_pair_whole
      (either_whole (building.names_special first) (ops.LoadToSpecial (special_of (building.word_in first))) _
      (record { front = extended_prefix; code = omega (arith, special_low (special_of (building.word_in first))); following = none_byte })
      (either_whole (building.names_special second) (ops.LoadFromSpecial (special_of (building.word_in second))) (ops.Load (building.place first) (building.place second))
      (record { front = extended_prefix; code = omega (arith, special_low (special_of (building.word_in second))); following = none_byte })
      (record {
        front = index_bytes _;
        code = load_low (building.place first) (building.place second);
        following = append_bytes (operand_bytes (building.place first)) (operand_bytes (building.place second)) (place_bytes (building.place first) first_place) (place_bytes (building.place second) second_place);
      }))))

  exchange_whole : IsWhole (building.exchange first second)
  unfolding prefixes opcode_of operands
  exchange_whole =
      either_whole (building.is_at_word first) (ops.ExchangeStack (building.index second)) _
      (record { front = index_bytes (building.index second); code = omega arith; following = none_byte })
      (either_whole _ ops.ExchangeAf ops.ExchangeDeHl (record { front = none_byte; code = omega arith; following = none_byte }) (record { front = none_byte; code = omega arith; following = none_byte }))

  arithmetic_whole : (task : Task80) (form : Form) → IsWhole (ops.Arithmetic task (building.place form))
  unfolding prefixes opcode_of operands
  arithmetic_whole task form = record {
    front = index_bytes _;
    code = computed_low (arithmetic_code task) (building.place form) (arithmetic_low task);
    following = place_bytes (building.place form) (form_place form);
  }

  step_whole : (task : Task80) (form : Form) → IsWhole (ops.Step task (building.place form))
  unfolding prefixes opcode_of operands
  step_whole task form = record {
    front = index_bytes _;
    code = omega (arith, step_low task, place_low (building.place form));
    following = place_bytes (building.place form) (form_place form);
  }

  change_whole : (task : Task80) (form : Form) → IsWhole (ops.Change task (building.place form))
  unfolding prefixes opcode_of operands
  change_whole task form = record {
    front = prefix_place (building.place form) (form_place form);
    code = omega (arith, change_low task, changed_low (displaced_code task) (building.place form) (displaced_low task));
    following = none_byte;
  }

  test_whole : (bit : Bit) (form : Form) → IsWhole (ops.TestBit bit (building.place form))
  unfolding prefixes opcode_of operands
  test_whole bit form = record {
    front = prefix_place (building.place form) (form_place form);
    code = omega (arith, bit_low bit, changed_low 6 (building.place form) (omega arith));
    following = none_byte;
  }

  jump_whole : IsWhole (building.jump first second)
  unfolding prefixes opcode_of operands
  jump_whole =
      either_whole (building.is_at_word first) (ops.JumpIndex (building.index first)) _
      (record { front = index_bytes (building.index first); code = omega arith; following = none_byte })
      (either_whole (building.is_nothing second) (ops.Jump (building.word first)) (ops.JumpIf (condition_of (building.word_in first)) (building.word second))
      (record { front = none_byte; code = omega arith; following = two_bytes (building.word first) (word_low first) })
      (record { front = none_byte; code = omega (arith, condition_low (condition_of (building.word_in first))); following = two_bytes (building.word second) (word_low second) }))

  relative_whole : (at : ℕ) → IsWhole (building.relative at first second)
  unfolding prefixes opcode_of operands
  relative_whole at =
      either_whole (building.is_nothing second) (ops.JumpRelative (distance at (building.number first))) (ops.JumpRelativeIf (condition_of (building.word_in first)) (distance at (building.number second)))
      (record { front = none_byte; code = omega arith; following = byte_alone (distance at (building.number first)) (distance_low at (building.number first)) })
      (record {
        front = none_byte;
        code = omega (arith, condition_low (condition_of (building.word_in first)));
        following = byte_alone (distance at (building.number second)) (distance_low at (building.number second));
      })

  call_whole : IsWhole (building.call first second)
  unfolding prefixes opcode_of operands
  call_whole =
      either_whole (building.is_nothing second) (ops.Call (building.word first)) (ops.CallIf (condition_of (building.word_in first)) (building.word second))
      (record { front = none_byte; code = omega arith; following = two_bytes (building.word first) (word_low first) })
      (record { front = none_byte; code = omega (arith, condition_low (condition_of (building.word_in first))); following = two_bytes (building.word second) (word_low second) })

  return_whole : IsWhole (building.return first)
  unfolding prefixes opcode_of operands
  return_whole =
      either_whole (building.is_nothing first) ops.Return (ops.ReturnIf (condition_of (building.word_in first)))
      (record { front = none_byte; code = omega arith; following = none_byte })
      (record { front = none_byte; code = omega (arith, condition_low (condition_of (building.word_in first))); following = none_byte })

  add_whole : IsWhole (building.add first second)
  unfolding prefixes opcode_of operands
  add_whole =
      either_whole (building.names_pair first) (ops.AddPair (building.index first) (building.pair second)) _
      (record { front = index_bytes (building.index first); code = omega (arith, pair_low (building.pair second)); following = none_byte })
      (arithmetic_whole tasks.Add second)

  add_with_carry_whole : IsWhole (building.add_with_carry first second)
  unfolding prefixes opcode_of operands
  add_with_carry_whole =
      either_whole (building.names_pair first) (ops.AddPairWithCarry (building.pair second)) _
      (record { front = extended_prefix; code = omega (arith, pair_low (building.pair second)); following = none_byte })
      (arithmetic_whole tasks.Adc second)

  subtract_with_carry_whole : IsWhole (building.subtract_with_carry first second)
  unfolding prefixes opcode_of operands
  subtract_with_carry_whole =
      either_whole (building.names_pair first) (ops.SubtractPairWithCarry (building.pair second)) _
      (record { front = extended_prefix; code = omega (arith, pair_low (building.pair second)); following = none_byte })
      (arithmetic_whole tasks.Sbc second)

  increment_whole : IsWhole (building.increment first)
  unfolding prefixes opcode_of operands
  increment_whole =
      either_whole (building.names_pair first) (ops.IncrementPair (building.pair first)) _
      (record { front = index_bytes (index_of_pair (building.pair first)); code = omega (arith, pair_low (building.pair first)); following = none_byte })
      (step_whole tasks.Inc first)

  decrement_whole : IsWhole (building.decrement first)
  unfolding prefixes opcode_of operands
  decrement_whole =
      either_whole (building.names_pair first) (ops.DecrementPair (building.pair first)) _
      (record { front = index_bytes (index_of_pair (building.pair first)); code = omega (arith, pair_low (building.pair first)); following = none_byte })
      (step_whole tasks.Dec first)

  input_whole : IsWhole (building.input first second)
  unfolding prefixes opcode_of operands
  input_whole =
      either_whole (building.is_at_number second) (ops.InputAtNumber (building.byte second)) (ops.Input (building.place first))
      (record { front = none_byte; code = omega arith; following = byte_alone (building.byte second) (byte_low second) })
      (record { front = extended_prefix; code = omega (arith, place_low (building.place first)); following = none_byte })

  output_whole : IsWhole (building.output first second)
  unfolding prefixes opcode_of operands
  output_whole =
      either_whole (building.is_at_number first) (ops.OutputAtNumber (building.byte first)) (ops.Output (building.place second))
      (record { front = none_byte; code = omega arith; following = byte_alone (building.byte first) (byte_low first) })
      (record { front = extended_prefix; code = omega (arith, place_low (building.place second)); following = none_byte })

  pair_whole : (form : Form) → IsWhole (ops.Push (building.pair form)) × IsWhole (ops.Pop (building.pair form))
  unfolding prefixes opcode_of operands
  pair_whole form = (
    record { front = index_bytes (index_of_pair (building.pair form)); code = omega (arith, pair_low (building.pair form)); following = none_byte },
    record { front = index_bytes (index_of_pair (building.pair form)); code = omega (arith, pair_low (building.pair form)); following = none_byte },
  )

  joined : (op : Op80) → IsWhole op → AreBytes (encoded op)
  unfolding encoded
  joined op whole = append_bytes (prefixes op) (opcode_of op ∷ operands op) whole.front (cons_byte (opcode_of op) (operands op) whole.code whole.following)

  rest_whole : (at : ℕ) → IsWhole (ops.DecrementAndJump (distance at (building.number first))) × IsWhole (ops.Restart (building.byte first))
      × IsWhole (ops.SetInterruptMode (mode_of (building.word_in first)))
  unfolding prefixes opcode_of operands
  rest_whole at = (
    record { front = none_byte; code = omega arith; following = byte_alone (distance at (building.number first)) (distance_low at (building.number first)) },
    record { front = none_byte; code = omega arith; following = none_byte },
    record { front = extended_prefix; code = interrupt_low (mode_of (building.word_in first)); following = none_byte },
  )

  alone : (op : Op80) → all_bytes (encoded op) ≡ true → AreBytes (encoded op)
  alone op h = all_are (encoded op) h

  nop_bytes : AreBytes (encoded ops.Nop)
  unfolding encoded prefixes opcode_of operands
  nop_bytes = alone ops.Nop refl

  -- so are those of all names of the table
  abbrev AreWhole : List Entry → ℕ → Type 0
  AreWhole [] at = Unit {0}
  AreWhole (entry ∷ more) at = AreBytes (encoded (built entry.mnemonic first second at)) × AreWhole more at

  table_whole : (at : ℕ) → AreWhole table at
  unfolding built encoded prefixes opcode_of operands
  table_whole at =
      joined _ add_with_carry_whole
      also joined _ add_whole
      also joined _ (arithmetic_whole tasks.And first)
      also joined _ (test_whole (bit_of (building.word_in first)) second)
      also joined _ call_whole
      also alone (ops.Accumulator tasks.Ccf) refl
      also joined _ (arithmetic_whole tasks.Cp first)
      also alone (ops.BlockCompare Decrement) refl
      also alone (ops.BlockCompare DecrementRepeat) refl
      also alone (ops.BlockCompare Increment) refl
      also alone (ops.BlockCompare IncrementRepeat) refl
      also alone (ops.Accumulator tasks.Cpl) refl
      also alone (ops.Accumulator tasks.Daa) refl
      also joined _ decrement_whole
      also alone ops.DisableInterrupts refl
      also joined _ (rest_whole at).0
      also alone ops.EnableInterrupts refl
      also joined _ exchange_whole
      also alone ops.ExchangeAll refl
      also alone ops.Halt refl
      also joined _ (rest_whole at).2
      also joined _ input_whole
      also joined _ increment_whole
      also alone (ops.BlockInput Decrement) refl
      also alone (ops.BlockInput DecrementRepeat) refl
      also alone (ops.BlockInput Increment) refl
      also alone (ops.BlockInput IncrementRepeat) refl
      also joined _ jump_whole
      also joined _ (relative_whole at)
      also joined _ load_whole
      also alone (ops.BlockLoad Decrement) refl
      also alone (ops.BlockLoad DecrementRepeat) refl
      also alone (ops.BlockLoad Increment) refl
      also alone (ops.BlockLoad IncrementRepeat) refl
      also alone ops.Negate refl
      also alone ops.Nop refl
      also joined _ (arithmetic_whole tasks.Or first)
      also alone (ops.BlockOutput DecrementRepeat) refl
      also alone (ops.BlockOutput IncrementRepeat) refl
      also joined _ output_whole
      also alone (ops.BlockOutput Decrement) refl
      also alone (ops.BlockOutput Increment) refl
      also joined _ (pair_whole first).1
      also joined _ (pair_whole first).0
      also joined _ (change_whole (tasks.Res (bit_of (building.word_in first))) second)
      also joined _ return_whole
      also alone ops.ReturnFromInterrupt refl
      also alone ops.ReturnFromNonMaskable refl
      also joined _ (change_whole tasks.Rl first)
      also alone (ops.Accumulator tasks.Rla) refl
      also joined _ (change_whole tasks.Rlc first)
      also alone (ops.Accumulator tasks.Rlca) refl
      also alone ops.RotateDigitsLeft refl
      also joined _ (change_whole tasks.Rr first)
      also alone (ops.Accumulator tasks.Rra) refl
      also joined _ (change_whole tasks.Rrc first)
      also alone (ops.Accumulator tasks.Rrca) refl
      also alone ops.RotateDigitsRight refl
      also joined _ (rest_whole at).1
      also joined _ subtract_with_carry_whole
      also alone (ops.Accumulator tasks.Scf) refl
      also joined _ (change_whole (tasks.Set (bit_of (building.word_in first))) second)
      also joined _ (change_whole tasks.Sla first)
      also joined _ (change_whole tasks.Sll first)
      also joined _ (change_whole tasks.Sra first)
      also joined _ (change_whole tasks.Srl first)
      also joined _ (arithmetic_whole tasks.Sub first)
      also joined _ (arithmetic_whole tasks.Xor first)
      also tt

  mnemonic_whole : (entries : List Entry) (text : List ℕ) (at : ℕ) → AreWhole entries at → AreBytes (encoded (built (mnemonic_in entries text) first second at))
  unfolding mnemonic_in built
  mnemonic_whole [] text at h = nop_bytes
  mnemonic_whole (entry ∷ more) text at h = by (bytes_eq entry.text text) (h.0) (mnemonic_whole more text at (h.1))
    where
      by : (b : Bool) → AreBytes (encoded (built entry.mnemonic first second at)) → AreBytes (encoded (built (mnemonic_in more text) first second at))
          → AreBytes (encoded (built (if b then entry.mnemonic else mnemonic_in more text) first second at))
      by true own rest = own
      by false own rest = rest

-- what is tried for tokens
pub tried_bytes : (line_tokens : List Token) (at : ℕ) → AreBytes (tried line_tokens at)
unfolding meant mnemonic_of
tried_bytes line_tokens at =
    let source = read_source line_tokens in
    mnemonic_whole source.first source.second table source.mnemonic at (table_whole source.first source.second at)
