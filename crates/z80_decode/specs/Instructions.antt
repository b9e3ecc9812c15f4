-- What bytes decode to: the prefixes choose the page of the table, and the opcode the line.
-- Zilog UM0080, "Z80 Instruction Description"; for opcodes that it leaves out, this project's
-- profile.
use Rattle.std.specs.Prelude.{◌≡◌, ℕ, ◌+◌, ◌==◌, ◌≤◌, List, [], ◌∷◌, length, slice_index, if◌then◌else◌}
use Rattle.z80_decode.specs.declared.decoded80.Decoded80.{Decoded80}
use Rattle.z80_decode.specs.declared.index.Index.{Index}
use Rattle.z80_decode.specs.declared.index.Index.TheVariants as indexes
use Rattle.z80_decode.specs.declared.op80.Op80.TheVariants as ops
use Rattle.z80_decode.specs.Lines.{Code, TableLine, matching, plain_lines, indexed_lines, bit_lines, indexed_bit_lines, extended_lines}

-- the pages of the table: without a prefix; after CB; after ED; after DD or FD; after those and CB
pub data Page : Type 0 where
  Plain : Page
  Bits : Page
  Extended : Page
  Indexed : Page
  IndexedBits : Page

-- the lines of a page
abbrev pub lines_of : Page → List TableLine
lines_of Plain = plain_lines
lines_of Bits = bit_lines
lines_of Extended = extended_lines
lines_of Indexed = indexed_lines
lines_of IndexedBits = indexed_bit_lines

-- where an instruction is looked up: the page, the opcode with its context, and how many
-- bytes are before its operands, or hold a displacement before its opcode
pub record OpcodeEntry : Type 0 where
  pub page : Page
  pub code : Code
  pub before : ℕ

-- of a page: the bytes before the operands, the register that HL is, the opcode, two bytes of
-- operands
abbrev pub entry : Page → ℕ → Index → ℕ → ℕ → ℕ → OpcodeEntry
entry page before index opcode first second =
    record { page = page; code = record { index = index; opcode = opcode; first = first; second = second }; before = before }

-- after DD or FD; after DD CB and FD CB the displacement is before the opcode
abbrev pub prefixed : Index → ℕ → ℕ → ℕ → OpcodeEntry
prefixed index b1 b2 b3 =
    if b1 == 0xcb then entry IndexedBits 4 index b3 b2 0 else
    entry Indexed 2 index b1 b2 b3

-- by the prefix that the first of four bytes is, if any
abbrev pub entry_of : ℕ → ℕ → ℕ → ℕ → OpcodeEntry
entry_of b0 b1 b2 b3 =
    if b0 == 0xcb then entry Bits 2 indexes.Hl b1 b2 b3 else
    if b0 == 0xdd then prefixed indexes.Ix b1 b2 b3 else
    if b0 == 0xed then entry Extended 2 indexes.Hl b1 b2 b3 else
    if b0 == 0xfd then prefixed indexes.Iy b1 b2 b3 else
    entry Plain 1 indexes.Hl b0 b1 b2

-- the lines that an entry matches
unfoldable pub rows_of : OpcodeEntry → List TableLine
rows_of e = matching (lines_of e.page) e.code.opcode

-- where an opcode matches no line: after DD and FD the prefix is alone, and after ED the opcode
-- is none
abbrev pub unmatched : Page → Code → Decoded80
unmatched Indexed code = record { op = ops.LonePrefix code.index; length = 1 }
unmatched _ code = record { op = ops.Undefined code.opcode; length = 2 }

-- what an entry decodes to that matches these lines: there is one or none
abbrev pub chosen : List TableLine → OpcodeEntry → Decoded80
chosen [] e = unmatched e.page e.code
chosen (line ∷ more) e = record { op = line.op e.code; length = e.before + line.operands }

-- the entry of four bytes
abbrev pub looked_up : List ℕ → OpcodeEntry
looked_up bytes = entry_of (slice_index bytes 0) (slice_index bytes 1) (slice_index bytes 2) (slice_index bytes 3)

-- what four bytes decode to: the operation, and how many of them it takes
unfoldable pub instruction_of : List ℕ → Decoded80
instruction_of bytes = chosen (rows_of (looked_up bytes)) (looked_up bytes)

-- how many lines an opcode of a page matches: one, or none after ED, DD and FD
abbrev pub HasRows : Page → ℕ → Type 0
HasRows Extended count = count ≤ 1
HasRows Indexed count = count ≤ 1
HasRows _ count = count ≡ 1

-- no four bytes match two lines
abbrev pub AtMostOneRow : List ℕ → Type 0
AtMostOneRow bytes = HasRows (looked_up bytes).page (length (rows_of (looked_up bytes)))
