-- What an opcode decodes to by cases on its fields, as the code reads them. That it is what the
-- table says is proved, so nobody has to believe this file.
use Rattle.std.specs.Prelude.{ℕ, Bool, false, ◌*◌, ◌/◌, ◌%◌, ◌==◌, ◌&&◌, ◌||◌, not, nat_lt, if◌then◌else◌}
use Rattle.md_word.specs.declared.task80.Task80.{Task80}
use Rattle.md_word.specs.declared.task80.Task80.TheVariants as tasks
use Rattle.z80_decode.specs.declared.block.Block.{Block}
use Rattle.z80_decode.specs.declared.block.Block.TheVariants as blocks
use Rattle.z80_decode.specs.declared.decoded80.Decoded80.{Decoded80}
use Rattle.z80_decode.specs.declared.index.Index.{Index}
use Rattle.z80_decode.specs.declared.index.Index.TheVariants as indexes
use Rattle.z80_decode.specs.declared.interrupt_mode.InterruptMode.TheVariants.{Mode0, Mode1, Mode2}
use Rattle.z80_decode.specs.declared.op80.Op80.{Op80}
use Rattle.z80_decode.specs.declared.op80.Op80.TheVariants as ops
use Rattle.z80_decode.specs.declared.place8.Place8.{Place8}
use Rattle.z80_decode.specs.declared.place8.Place8.TheVariants as places
use Rattle.z80_decode.specs.declared.special.Special.TheVariants.{Interrupt, Refresh}
use Rattle.z80_decode.specs.Fields.{upper, lower, paired, word, memory_of, place_of, pair_of, stacked_of, condition_of, bit_of}
use Rattle.z80_decode.specs.Lines.{coded, prefixes_of}

-- an instruction without a prefix DD or FD
abbrev pub plain : ℕ → Op80 → Decoded80
plain operands op = coded indexes.Hl operands op

-- bit 3
abbrev pub odd : ℕ → Bool
odd w = w / 8 % 2 == 1

-- the bytes of displacement of the place with this code
abbrev pub displaced : Index → ℕ → ℕ
displaced index code = if code == 6 then prefixes_of index else 0

-- the operation on A that bits 5 to 3 name
unfoldable pub arithmetic : ℕ → Task80
arithmetic code =
    if code == 0 then tasks.Add else
    if code == 1 then tasks.Adc else
    if code == 2 then tasks.Sub else
    if code == 3 then tasks.Sbc else
    if code == 4 then tasks.And else
    if code == 5 then tasks.Xor else
    if code == 6 then tasks.Or else
    tasks.Cp

-- opcodes 00xxx111, by bits 5 to 3
unfoldable pub accumulator : ℕ → Task80
accumulator code =
    if code == 0 then tasks.Rlca else
    if code == 1 then tasks.Rrca else
    if code == 2 then tasks.Rla else
    if code == 3 then tasks.Rra else
    if code == 4 then tasks.Daa else
    if code == 5 then tasks.Cpl else
    if code == 6 then tasks.Scf else
    tasks.Ccf

-- opcodes 00xxxyyy after CB, by bits 5 to 3
unfoldable pub shift : ℕ → Task80
shift code =
    if code == 0 then tasks.Rlc else
    if code == 1 then tasks.Rrc else
    if code == 2 then tasks.Rl else
    if code == 3 then tasks.Rr else
    if code == 4 then tasks.Sla else
    if code == 5 then tasks.Sra else
    if code == 6 then tasks.Sll else
    tasks.Srl

-- how a block instruction steps and whether it repeats, by bits 4 and 3
unfoldable pub block_of : ℕ → Block
block_of code =
    if code == 0 then blocks.Increment else
    if code == 1 then blocks.Decrement else
    if code == 2 then blocks.IncrementRepeat else
    blocks.DecrementRepeat

-- opcodes 00xxx000: NOP, EX AF,AF', DJNZ and JR
unfoldable pub relative_jumps : ℕ → ℕ → Decoded80
relative_jumps w first =
    if upper w == 0 then plain 0 ops.Nop else
    if upper w == 1 then plain 0 ops.ExchangeAf else
    if upper w == 2 then plain 1 (ops.DecrementAndJump first) else
    if upper w == 3 then plain 1 (ops.JumpRelative first) else
    plain 1 (ops.JumpRelativeIf (condition_of (upper w % 4)) first)

-- opcodes 00xxx001: LD dd,nn and ADD HL,ss
unfoldable pub pair_loads : Index → ℕ → ℕ → ℕ → Decoded80
pair_loads index w first second =
    if odd w then coded index 0 (ops.AddPair index (pair_of index (paired w))) else
    coded index 2 (ops.LoadPair (pair_of index (paired w)) (word first second))

-- opcodes 00xxx010: LD between A or HL and memory
unfoldable pub memory_loads : Index → ℕ → ℕ → ℕ → Decoded80
memory_loads index w first second =
    if upper w == 0 then plain 0 (ops.Load places.AtBc places.A) else
    if upper w == 1 then plain 0 (ops.Load places.A places.AtBc) else
    if upper w == 2 then plain 0 (ops.Load places.AtDe places.A) else
    if upper w == 3 then plain 0 (ops.Load places.A places.AtDe) else
    if upper w == 4 then coded index 2 (ops.StoreIndex (word first second) index) else
    if upper w == 5 then coded index 2 (ops.LoadIndex index (word first second)) else
    if upper w == 6 then plain 2 (ops.Load (places.At (word first second)) places.A) else
    plain 2 (ops.Load places.A (places.At (word first second)))

-- opcodes 00xxx011: INC ss and DEC ss
unfoldable pub pair_steps : Index → ℕ → Decoded80
pair_steps index w =
    if odd w then coded index 0 (ops.DecrementPair (pair_of index (paired w))) else
    coded index 0 (ops.IncrementPair (pair_of index (paired w)))

-- opcodes 00xxx100 and 00xxx101: INC and DEC of the place in bits 5 to 3
unfoldable pub step : Task80 → Index → ℕ → ℕ → Decoded80
step task index w first = coded index (displaced index (upper w)) (ops.Step task (place_of index (upper w) first))

-- the number follows the displacement
abbrev pub number_to_memory : Index → ℕ → ℕ → Decoded80
number_to_memory indexes.Hl first second = coded indexes.Hl 1 (ops.Load places.AtHl (places.Number first))
number_to_memory index first second = coded index 2 (ops.Load (memory_of index first) (places.Number second))

-- opcodes 00xxx110: LD r,n
unfoldable pub number_loads : Index → ℕ → ℕ → ℕ → Decoded80
number_loads index w first second =
    if upper w == 6 then number_to_memory index first second else
    coded index 1 (ops.Load (place_of index (upper w) 0) (places.Number first))

-- opcodes 00h to 3Fh, by bits 2 to 0
unfoldable pub low_group : Index → ℕ → ℕ → ℕ → Decoded80
low_group index w first second =
    if lower w == 0 then relative_jumps w first else
    if lower w == 1 then pair_loads index w first second else
    if lower w == 2 then memory_loads index w first second else
    if lower w == 3 then pair_steps index w else
    if lower w == 4 then step tasks.Inc index w first else
    if lower w == 5 then step tasks.Dec index w first else
    if lower w == 6 then number_loads index w first second else
    plain 0 (ops.Accumulator (accumulator (upper w)))

-- opcodes 40h to 7Fh: LD r,r' and HALT
unfoldable pub loads : Index → ℕ → ℕ → Decoded80
loads index w first =
    if upper w == 6 && lower w == 6 then plain 0 ops.Halt else
    if upper w == 6 then coded index (prefixes_of index) (ops.Load (memory_of index first) (place_of indexes.Hl (lower w) 0)) else
    if lower w == 6 then coded index (prefixes_of index) (ops.Load (place_of indexes.Hl (upper w) 0) (memory_of index first)) else
    coded index 0 (ops.Load (place_of index (upper w) 0) (place_of index (lower w) 0))

-- opcodes 11xxx001: POP, RET, EXX, JP (HL) and LD SP,HL
unfoldable pub returns : Index → ℕ → Decoded80
returns index w =
    if not (odd w) then coded index 0 (ops.Pop (stacked_of index (paired w))) else
    if paired w == 0 then plain 0 ops.Return else
    if paired w == 1 then plain 0 ops.ExchangeAll else
    if paired w == 2 then coded index 0 (ops.JumpIndex index) else
    coded index 0 (ops.LoadStackPointer index)

-- opcodes 11xxx011: JP nn, the ports at a number, EX (SP),HL, EX DE,HL, DI and EI
unfoldable pub jumps : Index → ℕ → ℕ → ℕ → Decoded80
jumps index w first second =
    if upper w == 2 then plain 1 (ops.OutputAtNumber first) else
    if upper w == 3 then plain 1 (ops.InputAtNumber first) else
    if upper w == 4 then coded index 0 (ops.ExchangeStack index) else
    if upper w == 5 then plain 0 ops.ExchangeDeHl else
    if upper w == 6 then plain 0 ops.DisableInterrupts else
    if upper w == 7 then plain 0 ops.EnableInterrupts else
    plain 2 (ops.Jump (word first second))

-- opcodes 11xxx101: PUSH qq and CALL nn
unfoldable pub calls : Index → ℕ → ℕ → ℕ → Decoded80
calls index w first second =
    if odd w then plain 2 (ops.Call (word first second)) else
    coded index 0 (ops.Push (stacked_of index (paired w)))

-- opcodes C0h to FFh, by bits 2 to 0
unfoldable pub control : Index → ℕ → ℕ → ℕ → Decoded80
control index w first second =
    if lower w == 0 then plain 0 (ops.ReturnIf (condition_of (upper w))) else
    if lower w == 1 then returns index w else
    if lower w == 2 then plain 2 (ops.JumpIf (condition_of (upper w)) (word first second)) else
    if lower w == 3 then jumps index w first second else
    if lower w == 4 then plain 2 (ops.CallIf (condition_of (upper w)) (word first second)) else
    if lower w == 5 then calls index w first second else
    if lower w == 6 then plain 1 (ops.Arithmetic (arithmetic (upper w)) (places.Number first)) else
    plain 0 (ops.Restart (8 * upper w))

-- an opcode without CB or ED before it, by bits 7 and 6
unfoldable pub by_opcode : Index → ℕ → ℕ → ℕ → Decoded80
by_opcode index w first second =
    if w / 64 == 0 then low_group index w first second else
    if w / 64 == 1 then loads index w first else
    if w / 64 == 2 then coded index (displaced index (lower w)) (ops.Arithmetic (arithmetic (upper w)) (place_of index (lower w) first)) else
    control index w first second

-- opcodes 00h to 3Fh that DD and FD change
unfoldable pub low_names_hl : ℕ → Bool
low_names_hl w =
    if lower w == 1 then (odd w || upper w == 4) else
    if lower w == 2 || lower w == 3 then (upper w == 4 || upper w == 5) else
    if lower w == 4 || lower w == 5 || lower w == 6 then (upper w == 4 || upper w == 5 || upper w == 6) else
    false

-- H, L or (HL)
abbrev pub replaced : ℕ → Bool
replaced code = code == 4 || code == 5 || code == 6

-- opcodes that DD and FD change: those that name HL, H, L or (HL), but EX DE,HL
unfoldable pub names_hl : ℕ → Bool
names_hl w =
    if w / 64 == 0 then low_names_hl w else
    if w / 64 == 1 then (not (w == 0x76) && (replaced (upper w) || replaced (lower w))) else
    if w / 64 == 2 then replaced (lower w) else
    (w == 0xe1 || w == 0xe3 || w == 0xe5 || w == 0xe9 || w == 0xf9)

-- an operation on bits
unfoldable pub bits : ℕ → Place8 → Op80
bits w place =
    if w / 64 == 0 then ops.Change (shift (upper w)) place else
    if w / 64 == 1 then ops.TestBit (bit_of (upper w)) place else
    if w / 64 == 2 then ops.Change (tasks.Res (bit_of (upper w))) place else
    ops.Change (tasks.Set (bit_of (upper w))) place

-- an instruction of so many bytes, prefixes and operands among them
abbrev pub of_bytes : ℕ → Op80 → Decoded80
of_bytes count op = record { op = op; length = count }

-- after DD and FD: bits after CB, an opcode that names HL, or the prefix alone
unfoldable pub indexed : Index → ℕ → ℕ → ℕ → Decoded80
indexed index b1 b2 b3 =
    if b1 == 0xcb then of_bytes 4 (bits b3 (memory_of index b2)) else
    if names_hl b1 then by_opcode index b1 b2 b3 else
    of_bytes 1 (ops.LonePrefix index)

-- an opcode after ED that is no instruction
abbrev pub undefined : ℕ → Decoded80
undefined w = of_bytes 2 (ops.Undefined w)

-- opcodes 01xxx000 and 01xxx001 after ED: IN r,(C) and OUT (C),r
unfoldable pub ports : ℕ → Decoded80
ports w =
    if upper w == 6 then undefined w else
    if lower w == 0 then of_bytes 2 (ops.Input (place_of indexes.Hl (upper w) 0)) else
    of_bytes 2 (ops.Output (place_of indexes.Hl (upper w) 0))

-- opcodes 01xxx010 and 01xxx011 after ED: ADC and SBC of HL, and LD between a pair and memory
unfoldable pub pairs_extended : ℕ → ℕ → ℕ → Decoded80
pairs_extended w first second =
    if lower w == 2 && odd w then of_bytes 2 (ops.AddPairWithCarry (pair_of indexes.Hl (paired w))) else
    if lower w == 2 then of_bytes 2 (ops.SubtractPairWithCarry (pair_of indexes.Hl (paired w))) else
    if odd w then of_bytes 4 (ops.LoadPairExtended (pair_of indexes.Hl (paired w)) (word first second)) else
    of_bytes 4 (ops.StorePairExtended (word first second) (pair_of indexes.Hl (paired w)))

-- opcodes 01xxx100 to 01xxx110 after ED: NEG, RETN, RETI and IM, of which each has one
unfoldable pub modes : ℕ → Decoded80
modes w =
    if w == 0x44 then of_bytes 2 ops.Negate else
    if w == 0x45 then of_bytes 2 ops.ReturnFromNonMaskable else
    if w == 0x4d then of_bytes 2 ops.ReturnFromInterrupt else
    if w == 0x46 then of_bytes 2 (ops.SetInterruptMode Mode0) else
    if w == 0x56 then of_bytes 2 (ops.SetInterruptMode Mode1) else
    if w == 0x5e then of_bytes 2 (ops.SetInterruptMode Mode2) else
    undefined w

-- opcodes 01xxx111 after ED: LD of I and R, RRD and RLD
unfoldable pub specials : ℕ → Decoded80
specials w =
    if upper w == 0 then of_bytes 2 (ops.LoadToSpecial Interrupt) else
    if upper w == 1 then of_bytes 2 (ops.LoadToSpecial Refresh) else
    if upper w == 2 then of_bytes 2 (ops.LoadFromSpecial Interrupt) else
    if upper w == 3 then of_bytes 2 (ops.LoadFromSpecial Refresh) else
    if upper w == 4 then of_bytes 2 ops.RotateDigitsRight else
    if upper w == 5 then of_bytes 2 ops.RotateDigitsLeft else
    undefined w

-- opcodes 101xx0yy after ED, by bits 1 and 0
unfoldable pub block_op : ℕ → Block → Op80
block_op code steps =
    if code == 0 then ops.BlockLoad steps else
    if code == 1 then ops.BlockCompare steps else
    if code == 2 then ops.BlockInput steps else
    ops.BlockOutput steps

-- opcodes after ED
unfoldable pub extended : ℕ → ℕ → ℕ → Decoded80
extended w first second =
    if w / 64 == 1 then (
    if nat_lt (lower w) 2 then ports w else
    if nat_lt (lower w) 4 then pairs_extended w first second else
    if nat_lt (lower w) 7 then modes w else
    specials w
    ) else
    if w / 32 == 5 && nat_lt (lower w) 4 then of_bytes 2 (block_op (lower w) (block_of (w / 8 % 4))) else
    undefined w

-- what four bytes decode to: the operation, and how many of them it takes
unfoldable pub nested : ℕ → ℕ → ℕ → ℕ → Decoded80
nested b0 b1 b2 b3 =
    if b0 == 0xcb then of_bytes 2 (bits b1 (place_of indexes.Hl (lower b1) 0)) else
    if b0 == 0xdd then indexed indexes.Ix b1 b2 b3 else
    if b0 == 0xed then extended b1 b2 b3 else
    if b0 == 0xfd then indexed indexes.Iy b1 b2 b3 else
    by_opcode indexes.Hl b0 b1 b2
