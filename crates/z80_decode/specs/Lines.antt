-- The instructions of the Z80 by the page that their prefixes choose: the pattern of the opcode,
-- what it allows, the bytes of operands that follow it, and the operation.
-- Zilog UM0080, "Z80 Instruction Description", in the order of its groups; for the halves of IX and
-- IY, SLL, and DD CB and FD CB with a register's code, this project's profile.
use Rattle.std.specs.Prelude.{ℕ, Bool, not, List, [], ◌∷◌, ◌+◌, ◌*◌, ◌==◌, ◌&&◌, ◌||◌, filter, codes, bit_and}
use Rattle.md_word.specs.Patterns.{all, bits_of, mask_of}
use Rattle.md_word.specs.declared.task80.Task80.TheVariants as tasks
use Rattle.z80_decode.specs.declared.block.Block.TheVariants as blocks
use Rattle.z80_decode.specs.declared.condition.Condition.TheVariants.{NonZero, Zero, NonCarry, Carry}
use Rattle.z80_decode.specs.declared.decoded80.Decoded80.{Decoded80}
use Rattle.z80_decode.specs.declared.index.Index.{Index}
use Rattle.z80_decode.specs.declared.index.Index.TheVariants as indexes
use Rattle.z80_decode.specs.declared.interrupt_mode.InterruptMode.TheVariants.{Mode0, Mode1, Mode2}
use Rattle.z80_decode.specs.declared.op80.Op80.{Op80}
use Rattle.z80_decode.specs.declared.op80.Op80.TheVariants as ops
use Rattle.z80_decode.specs.declared.place8.Place8.{Place8}
use Rattle.z80_decode.specs.declared.place8.Place8.TheVariants as places
use Rattle.z80_decode.specs.declared.special.Special.TheVariants.{Interrupt, Refresh}
use Rattle.z80_decode.specs.Fields.{upper, lower, paired, word, memory_of, register_of, place_of, pair_of, stacked_of, condition_of, bit_of}

-- an opcode with its context: the register that HL is, and the two bytes of operands. The
-- first is the displacement where HL is an index register
pub record Code : Type 0 where
  pub index : Index
  pub opcode : ℕ
  pub first : ℕ
  pub second : ℕ

-- a line of the table: the bits that the mask selects are fixed, and the opcode is allowed
pub record TableLine : Type 0 where
  pub mask : ℕ
  pub bits : ℕ
  pub allowed : ℕ → Bool
  pub operands : ℕ
  pub op : Code → Op80

-- a line whose pattern is text, with so many bytes of operands
abbrev pub line : List ℕ → (ℕ → Bool) → ℕ → (Code → Op80) → TableLine
line pattern allowed operands op =
    record { mask = mask_of pattern 0; bits = bits_of pattern 0; allowed = allowed; operands = operands; op = op }

-- a register in bits 5 to 3, not (HL)
abbrev pub upper_register : ℕ → Bool
upper_register w = not (upper w == 6)

-- a register in bits 2 to 0, not (HL)
abbrev pub lower_register : ℕ → Bool
lower_register w = not (lower w == 6)

-- a register in bits 5 to 3, and one in bits 2 to 0
abbrev pub registers : ℕ → Bool
registers w = upper_register w && lower_register w

-- the code of H or L
abbrev pub half : ℕ → Bool
half code = code == 4 || code == 5

-- H or L in bits 5 to 3
abbrev pub upper_half : ℕ → Bool
upper_half w = half (upper w)

-- H or L in bits 2 to 0
abbrev pub lower_half : ℕ → Bool
lower_half w = half (lower w)

-- two registers, of which one or both are H or L
abbrev pub halves : ℕ → Bool
halves w = registers w && (upper_half w || lower_half w)

-- the place that bits 5 to 3 name
abbrev pub upper_place : Code → Place8
upper_place c = place_of c.index (upper c.opcode) c.first

-- the place that bits 2 to 0 name
abbrev pub lower_place : Code → Place8
lower_place c = place_of c.index (lower c.opcode) c.first

-- the register of bits 5 to 3 beside a place in memory: H and L stay themselves
abbrev pub upper_beside : Code → Place8
upper_beside c = place_of indexes.Hl (upper c.opcode) 0

-- the register of bits 2 to 0 beside a place in memory: H and L stay themselves
abbrev pub lower_beside : Code → Place8
lower_beside c = place_of indexes.Hl (lower c.opcode) 0

-- (HL), or the place at IX or IY, displaced by the first byte of operands
abbrev pub memory : Code → Place8
memory c = memory_of c.index c.first

-- the two bytes of operands as a word
abbrev pub number : Code → ℕ
number c = word c.first c.second

-- opcodes without a prefix
unfoldable pub plain_lines : List TableLine
plain_lines =
    line (codes "01 rrr sss") registers 0 (λ c. ops.Load (upper_place c) (lower_place c)) ∷
    line (codes "00 rrr 110") upper_register 1 (λ c. ops.Load (upper_place c) (places.Number c.first)) ∷
    line (codes "01 rrr 110") upper_register 0 (λ c. ops.Load (upper_beside c) (memory c)) ∷
    line (codes "01 110 rrr") lower_register 0 (λ c. ops.Load (memory c) (lower_beside c)) ∷
    line (codes "00 110 110") all 1 (λ c. ops.Load (memory c) (places.Number c.first)) ∷
    line (codes "00 001 010") all 0 (λ c. ops.Load places.A places.AtBc) ∷
    line (codes "00 011 010") all 0 (λ c. ops.Load places.A places.AtDe) ∷
    line (codes "00 111 010") all 2 (λ c. ops.Load places.A (places.At (number c))) ∷
    line (codes "00 000 010") all 0 (λ c. ops.Load places.AtBc places.A) ∷
    line (codes "00 010 010") all 0 (λ c. ops.Load places.AtDe places.A) ∷
    line (codes "00 110 010") all 2 (λ c. ops.Load (places.At (number c)) places.A) ∷
    line (codes "00 dd0 001") all 2 (λ c. ops.LoadPair (pair_of c.index (paired c.opcode)) (number c)) ∷
    line (codes "00 101 010") all 2 (λ c. ops.LoadIndex c.index (number c)) ∷
    line (codes "00 100 010") all 2 (λ c. ops.StoreIndex (number c) c.index) ∷
    line (codes "11 111 001") all 0 (λ c. ops.LoadStackPointer c.index) ∷
    line (codes "11 qq0 101") all 0 (λ c. ops.Push (stacked_of c.index (paired c.opcode))) ∷
    line (codes "11 qq0 001") all 0 (λ c. ops.Pop (stacked_of c.index (paired c.opcode))) ∷
    line (codes "11 101 011") all 0 (λ c. ops.ExchangeDeHl) ∷
    line (codes "00 001 000") all 0 (λ c. ops.ExchangeAf) ∷
    line (codes "11 011 001") all 0 (λ c. ops.ExchangeAll) ∷
    line (codes "11 100 011") all 0 (λ c. ops.ExchangeStack c.index) ∷
    line (codes "10 000 rrr") all 0 (λ c. ops.Arithmetic tasks.Add (lower_place c)) ∷
    line (codes "11 000 110") all 1 (λ c. ops.Arithmetic tasks.Add (places.Number c.first)) ∷
    line (codes "10 001 rrr") all 0 (λ c. ops.Arithmetic tasks.Adc (lower_place c)) ∷
    line (codes "11 001 110") all 1 (λ c. ops.Arithmetic tasks.Adc (places.Number c.first)) ∷
    line (codes "10 010 rrr") all 0 (λ c. ops.Arithmetic tasks.Sub (lower_place c)) ∷
    line (codes "11 010 110") all 1 (λ c. ops.Arithmetic tasks.Sub (places.Number c.first)) ∷
    line (codes "10 011 rrr") all 0 (λ c. ops.Arithmetic tasks.Sbc (lower_place c)) ∷
    line (codes "11 011 110") all 1 (λ c. ops.Arithmetic tasks.Sbc (places.Number c.first)) ∷
    line (codes "10 100 rrr") all 0 (λ c. ops.Arithmetic tasks.And (lower_place c)) ∷
    line (codes "11 100 110") all 1 (λ c. ops.Arithmetic tasks.And (places.Number c.first)) ∷
    line (codes "10 110 rrr") all 0 (λ c. ops.Arithmetic tasks.Or (lower_place c)) ∷
    line (codes "11 110 110") all 1 (λ c. ops.Arithmetic tasks.Or (places.Number c.first)) ∷
    line (codes "10 101 rrr") all 0 (λ c. ops.Arithmetic tasks.Xor (lower_place c)) ∷
    line (codes "11 101 110") all 1 (λ c. ops.Arithmetic tasks.Xor (places.Number c.first)) ∷
    line (codes "10 111 rrr") all 0 (λ c. ops.Arithmetic tasks.Cp (lower_place c)) ∷
    line (codes "11 111 110") all 1 (λ c. ops.Arithmetic tasks.Cp (places.Number c.first)) ∷
    line (codes "00 rrr 100") all 0 (λ c. ops.Step tasks.Inc (upper_place c)) ∷
    line (codes "00 rrr 101") all 0 (λ c. ops.Step tasks.Dec (upper_place c)) ∷
    line (codes "00 100 111") all 0 (λ c. ops.Accumulator tasks.Daa) ∷
    line (codes "00 101 111") all 0 (λ c. ops.Accumulator tasks.Cpl) ∷
    line (codes "00 111 111") all 0 (λ c. ops.Accumulator tasks.Ccf) ∷
    line (codes "00 110 111") all 0 (λ c. ops.Accumulator tasks.Scf) ∷
    line (codes "00 000 000") all 0 (λ c. ops.Nop) ∷
    line (codes "01 110 110") all 0 (λ c. ops.Halt) ∷
    line (codes "11 110 011") all 0 (λ c. ops.DisableInterrupts) ∷
    line (codes "11 111 011") all 0 (λ c. ops.EnableInterrupts) ∷
    line (codes "00 ss1 001") all 0 (λ c. ops.AddPair c.index (pair_of c.index (paired c.opcode))) ∷
    line (codes "00 ss0 011") all 0 (λ c. ops.IncrementPair (pair_of c.index (paired c.opcode))) ∷
    line (codes "00 ss1 011") all 0 (λ c. ops.DecrementPair (pair_of c.index (paired c.opcode))) ∷
    line (codes "00 000 111") all 0 (λ c. ops.Accumulator tasks.Rlca) ∷
    line (codes "00 010 111") all 0 (λ c. ops.Accumulator tasks.Rla) ∷
    line (codes "00 001 111") all 0 (λ c. ops.Accumulator tasks.Rrca) ∷
    line (codes "00 011 111") all 0 (λ c. ops.Accumulator tasks.Rra) ∷
    line (codes "11 000 011") all 2 (λ c. ops.Jump (number c)) ∷
    line (codes "11 ccc 010") all 2 (λ c. ops.JumpIf (condition_of (upper c.opcode)) (number c)) ∷
    line (codes "00 011 000") all 1 (λ c. ops.JumpRelative c.first) ∷
    line (codes "00 111 000") all 1 (λ c. ops.JumpRelativeIf Carry c.first) ∷
    line (codes "00 110 000") all 1 (λ c. ops.JumpRelativeIf NonCarry c.first) ∷
    line (codes "00 101 000") all 1 (λ c. ops.JumpRelativeIf Zero c.first) ∷
    line (codes "00 100 000") all 1 (λ c. ops.JumpRelativeIf NonZero c.first) ∷
    line (codes "11 101 001") all 0 (λ c. ops.JumpIndex c.index) ∷
    line (codes "00 010 000") all 1 (λ c. ops.DecrementAndJump c.first) ∷
    line (codes "11 001 101") all 2 (λ c. ops.Call (number c)) ∷
    line (codes "11 ccc 100") all 2 (λ c. ops.CallIf (condition_of (upper c.opcode)) (number c)) ∷
    line (codes "11 001 001") all 0 (λ c. ops.Return) ∷
    line (codes "11 ccc 000") all 0 (λ c. ops.ReturnIf (condition_of (upper c.opcode))) ∷
    line (codes "11 ttt 111") all 0 (λ c. ops.Restart (8 * upper c.opcode)) ∷
    line (codes "11 011 011") all 1 (λ c. ops.InputAtNumber c.first) ∷
    line (codes "11 010 011") all 1 (λ c. ops.OutputAtNumber c.first) ∷
    []

-- opcodes after DD and FD
unfoldable pub indexed_lines : List TableLine
indexed_lines =
    line (codes "01 rrr sss") halves 0 (λ c. ops.Load (upper_place c) (lower_place c)) ∷
    line (codes "00 rrr 110") upper_half 1 (λ c. ops.Load (upper_place c) (places.Number c.first)) ∷
    line (codes "01 rrr 110") upper_register 1 (λ c. ops.Load (upper_beside c) (memory c)) ∷
    line (codes "01 110 rrr") lower_register 1 (λ c. ops.Load (memory c) (lower_beside c)) ∷
    line (codes "00 110 110") all 2 (λ c. ops.Load (memory c) (places.Number c.second)) ∷
    line (codes "00 100 001") all 2 (λ c. ops.LoadPair (register_of c.index) (number c)) ∷
    line (codes "00 101 010") all 2 (λ c. ops.LoadIndex c.index (number c)) ∷
    line (codes "00 100 010") all 2 (λ c. ops.StoreIndex (number c) c.index) ∷
    line (codes "11 111 001") all 0 (λ c. ops.LoadStackPointer c.index) ∷
    line (codes "11 100 101") all 0 (λ c. ops.Push (register_of c.index)) ∷
    line (codes "11 100 001") all 0 (λ c. ops.Pop (register_of c.index)) ∷
    line (codes "11 100 011") all 0 (λ c. ops.ExchangeStack c.index) ∷
    line (codes "10 000 rrr") lower_half 0 (λ c. ops.Arithmetic tasks.Add (lower_place c)) ∷
    line (codes "10 000 110") all 1 (λ c. ops.Arithmetic tasks.Add (memory c)) ∷
    line (codes "10 001 rrr") lower_half 0 (λ c. ops.Arithmetic tasks.Adc (lower_place c)) ∷
    line (codes "10 001 110") all 1 (λ c. ops.Arithmetic tasks.Adc (memory c)) ∷
    line (codes "10 010 rrr") lower_half 0 (λ c. ops.Arithmetic tasks.Sub (lower_place c)) ∷
    line (codes "10 010 110") all 1 (λ c. ops.Arithmetic tasks.Sub (memory c)) ∷
    line (codes "10 011 rrr") lower_half 0 (λ c. ops.Arithmetic tasks.Sbc (lower_place c)) ∷
    line (codes "10 011 110") all 1 (λ c. ops.Arithmetic tasks.Sbc (memory c)) ∷
    line (codes "10 100 rrr") lower_half 0 (λ c. ops.Arithmetic tasks.And (lower_place c)) ∷
    line (codes "10 100 110") all 1 (λ c. ops.Arithmetic tasks.And (memory c)) ∷
    line (codes "10 110 rrr") lower_half 0 (λ c. ops.Arithmetic tasks.Or (lower_place c)) ∷
    line (codes "10 110 110") all 1 (λ c. ops.Arithmetic tasks.Or (memory c)) ∷
    line (codes "10 101 rrr") lower_half 0 (λ c. ops.Arithmetic tasks.Xor (lower_place c)) ∷
    line (codes "10 101 110") all 1 (λ c. ops.Arithmetic tasks.Xor (memory c)) ∷
    line (codes "10 111 rrr") lower_half 0 (λ c. ops.Arithmetic tasks.Cp (lower_place c)) ∷
    line (codes "10 111 110") all 1 (λ c. ops.Arithmetic tasks.Cp (memory c)) ∷
    line (codes "00 rrr 100") upper_half 0 (λ c. ops.Step tasks.Inc (upper_place c)) ∷
    line (codes "00 110 100") all 1 (λ c. ops.Step tasks.Inc (memory c)) ∷
    line (codes "00 rrr 101") upper_half 0 (λ c. ops.Step tasks.Dec (upper_place c)) ∷
    line (codes "00 110 101") all 1 (λ c. ops.Step tasks.Dec (memory c)) ∷
    line (codes "00 ss1 001") all 0 (λ c. ops.AddPair c.index (pair_of c.index (paired c.opcode))) ∷
    line (codes "00 100 011") all 0 (λ c. ops.IncrementPair (register_of c.index)) ∷
    line (codes "00 101 011") all 0 (λ c. ops.DecrementPair (register_of c.index)) ∷
    line (codes "11 101 001") all 0 (λ c. ops.JumpIndex c.index) ∷
    []

-- rotates, shifts, BIT, SET and RES, of a place that an opcode is on
abbrev pub changing : (Code → Place8) → List TableLine
changing place =
    line (codes "00 000 rrr") all 0 (λ c. ops.Change tasks.Rlc (place c)) ∷
    line (codes "00 010 rrr") all 0 (λ c. ops.Change tasks.Rl (place c)) ∷
    line (codes "00 001 rrr") all 0 (λ c. ops.Change tasks.Rrc (place c)) ∷
    line (codes "00 011 rrr") all 0 (λ c. ops.Change tasks.Rr (place c)) ∷
    line (codes "00 100 rrr") all 0 (λ c. ops.Change tasks.Sla (place c)) ∷
    line (codes "00 101 rrr") all 0 (λ c. ops.Change tasks.Sra (place c)) ∷
    line (codes "00 110 rrr") all 0 (λ c. ops.Change tasks.Sll (place c)) ∷
    line (codes "00 111 rrr") all 0 (λ c. ops.Change tasks.Srl (place c)) ∷
    line (codes "01 bbb rrr") all 0 (λ c. ops.TestBit (bit_of (upper c.opcode)) (place c)) ∷
    line (codes "11 bbb rrr") all 0 (λ c. ops.Change (tasks.Set (bit_of (upper c.opcode))) (place c)) ∷
    line (codes "10 bbb rrr") all 0 (λ c. ops.Change (tasks.Res (bit_of (upper c.opcode))) (place c)) ∷
    []

-- opcodes after CB
unfoldable pub bit_lines : List TableLine
bit_lines = changing lower_place

-- opcodes after DD CB and FD CB: all are on the displaced place
unfoldable pub indexed_bit_lines : List TableLine
indexed_bit_lines = changing memory

-- opcodes after ED
unfoldable pub extended_lines : List TableLine
extended_lines =
    line (codes "01 010 111") all 0 (λ c. ops.LoadFromSpecial Interrupt) ∷
    line (codes "01 011 111") all 0 (λ c. ops.LoadFromSpecial Refresh) ∷
    line (codes "01 000 111") all 0 (λ c. ops.LoadToSpecial Interrupt) ∷
    line (codes "01 001 111") all 0 (λ c. ops.LoadToSpecial Refresh) ∷
    line (codes "01 dd1 011") all 2 (λ c. ops.LoadPairExtended (pair_of c.index (paired c.opcode)) (number c)) ∷
    line (codes "01 dd0 011") all 2 (λ c. ops.StorePairExtended (number c) (pair_of c.index (paired c.opcode))) ∷
    line (codes "10 100 000") all 0 (λ c. ops.BlockLoad blocks.Increment) ∷
    line (codes "10 110 000") all 0 (λ c. ops.BlockLoad blocks.IncrementRepeat) ∷
    line (codes "10 101 000") all 0 (λ c. ops.BlockLoad blocks.Decrement) ∷
    line (codes "10 111 000") all 0 (λ c. ops.BlockLoad blocks.DecrementRepeat) ∷
    line (codes "10 100 001") all 0 (λ c. ops.BlockCompare blocks.Increment) ∷
    line (codes "10 110 001") all 0 (λ c. ops.BlockCompare blocks.IncrementRepeat) ∷
    line (codes "10 101 001") all 0 (λ c. ops.BlockCompare blocks.Decrement) ∷
    line (codes "10 111 001") all 0 (λ c. ops.BlockCompare blocks.DecrementRepeat) ∷
    line (codes "01 000 100") all 0 (λ c. ops.Negate) ∷
    line (codes "01 000 110") all 0 (λ c. ops.SetInterruptMode Mode0) ∷
    line (codes "01 010 110") all 0 (λ c. ops.SetInterruptMode Mode1) ∷
    line (codes "01 011 110") all 0 (λ c. ops.SetInterruptMode Mode2) ∷
    line (codes "01 ss1 010") all 0 (λ c. ops.AddPairWithCarry (pair_of c.index (paired c.opcode))) ∷
    line (codes "01 ss0 010") all 0 (λ c. ops.SubtractPairWithCarry (pair_of c.index (paired c.opcode))) ∷
    line (codes "01 101 111") all 0 (λ c. ops.RotateDigitsLeft) ∷
    line (codes "01 100 111") all 0 (λ c. ops.RotateDigitsRight) ∷
    line (codes "01 001 101") all 0 (λ c. ops.ReturnFromInterrupt) ∷
    line (codes "01 000 101") all 0 (λ c. ops.ReturnFromNonMaskable) ∷
    line (codes "01 rrr 000") upper_register 0 (λ c. ops.Input (upper_place c)) ∷
    line (codes "10 100 010") all 0 (λ c. ops.BlockInput blocks.Increment) ∷
    line (codes "10 110 010") all 0 (λ c. ops.BlockInput blocks.IncrementRepeat) ∷
    line (codes "10 101 010") all 0 (λ c. ops.BlockInput blocks.Decrement) ∷
    line (codes "10 111 010") all 0 (λ c. ops.BlockInput blocks.DecrementRepeat) ∷
    line (codes "01 rrr 001") upper_register 0 (λ c. ops.Output (upper_place c)) ∷
    line (codes "10 100 011") all 0 (λ c. ops.BlockOutput blocks.Increment) ∷
    line (codes "10 110 011") all 0 (λ c. ops.BlockOutput blocks.IncrementRepeat) ∷
    line (codes "10 101 011") all 0 (λ c. ops.BlockOutput blocks.Decrement) ∷
    line (codes "10 111 011") all 0 (λ c. ops.BlockOutput blocks.DecrementRepeat) ∷
    []

-- an opcode has the bits that a line fixes, and the line allows it
unfoldable pub matches : ℕ → TableLine → Bool
matches w l = bit_and w l.mask == l.bits && l.allowed w

-- all lines that an opcode matches
unfoldable pub matching : List TableLine → ℕ → List TableLine
matching lines w = filter (matches w) lines

-- the bytes of a prefix DD or FD
abbrev pub prefixes_of : Index → ℕ
prefixes_of indexes.Hl = 0
prefixes_of indexes.Ix = 1
prefixes_of indexes.Iy = 1

-- an instruction of one opcode, with so many bytes of operands
abbrev pub coded : Index → ℕ → Op80 → Decoded80
coded index operands op = record { op = op; length = prefixes_of index + 1 + operands }
