-- The instruction that is made of what was read. What does not fit is cut off, and found out when the
-- instruction's text is compared with what was written.
use Rattle.std.specs.Prelude.{ℕ, ◌+◌, ◌-◌, ◌%◌, Bool, true, false, ◌&&◌, if◌then◌else◌, List, [], ◌∷◌, codes}
use Rattle.std.specs.Str.{bytes_eq}
use Rattle.md_word.specs.declared.task80.Task80.TheVariants as tasks
use Rattle.z80_decode.specs.declared.block.Block.TheVariants.{Increment, Decrement, IncrementRepeat, DecrementRepeat}
use Rattle.z80_decode.specs.declared.index.Index.{Index}
use Rattle.z80_decode.specs.declared.op80.Op80.{Op80}
use Rattle.z80_decode.specs.declared.op80.Op80.TheVariants as ops
use Rattle.z80_decode.specs.declared.pair.Pair.{Pair}
use Rattle.z80_decode.specs.declared.place8.Place8.{Place8}
use Rattle.z80_decode.specs.declared.place8.Place8.TheVariants as places
use Rattle.asm_z80.specs.Forms.{Form, Nothing, Worded, AtWord, Displaced, Bare, AtNumber}
use Rattle.asm_z80.specs.Reading.{Source}
use Rattle.asm_z80.specs.Words.{register8, at_pair, displaced, pair_of, is_pair, index_of, is_index, condition_of, bit_of, mode_of, special_of, is_special, is_af}
use Rattle.asm_z80.specs.declared.mnemonic.Mnemonic80.{Mnemonic80}
use Rattle.asm_z80.specs.declared.mnemonic.Mnemonic80.TheVariants as stems

-- the word of an operand
abbrev pub word_in : Form → List ℕ
word_in (Worded word) = word
word_in (AtWord word) = word
word_in _ = []

-- the number of an operand
abbrev pub number : Form → ℕ
number (Bare n) = n
number (AtNumber n) = n
number _ = 0

abbrev pub is_worded : Form → Bool
is_worded (Worded word) = true
is_worded _ = false

abbrev pub is_nothing : Form → Bool
is_nothing Nothing = true
is_nothing _ = false

abbrev pub is_at_number : Form → Bool
is_at_number (AtNumber n) = true
is_at_number _ = false

abbrev pub is_at_word : Form → Bool
is_at_word (AtWord word) = true
is_at_word _ = false

-- a pair that is no address
abbrev pub names_pair : Form → Bool
names_pair form = is_worded form && is_pair (word_in form)

abbrev pub names_special : Form → Bool
names_special form = is_worded form && is_special (word_in form)

-- an operand of 8 bits
abbrev pub place : Form → Place8
place (Worded word) = register8 word
place (AtWord word) = at_pair word
place (Displaced word n) = displaced word (n % 256)
place (Bare n) = places.Number (n % 256)
place (AtNumber n) = places.At (n % 65536)
place Nothing = places.A

abbrev pub pair : Form → Pair
pair form = pair_of (word_in form)

abbrev pub index : Form → Index
index form = index_of (word_in form)

abbrev pub byte : Form → ℕ
byte form = number form % 256

abbrev pub word : Form → ℕ
word form = number form % 65536

-- the distance of a relative jump of two bytes that is at an address
unfoldable pub distance : ℕ → ℕ → ℕ
distance at to = (to + 131070 - at) % 256

abbrev pub load_pair : Form → Form → Op80
load_pair first second =
    if names_pair second then ops.LoadStackPointer (index second) else
    (if is_at_number second then (if is_index (word_in first) then ops.LoadIndex (index first) (word second) else ops.LoadPairExtended (pair first) (word second)) else
    ops.LoadPair (pair first) (word second))

abbrev pub store_pair : Form → Form → Op80
store_pair first second =
    if is_index (word_in second) then ops.StoreIndex (word first) (index second) else ops.StorePairExtended (word first) (pair second)

abbrev pub load : Form → Form → Op80
load first second =
    if names_pair first then load_pair first second else
    (if names_pair second then store_pair first second else
    (if names_special first then ops.LoadToSpecial (special_of (word_in first)) else
    (if names_special second then ops.LoadFromSpecial (special_of (word_in second)) else
    ops.Load (place first) (place second))))

abbrev pub exchange : Form → Form → Op80
exchange first second =
    if is_at_word first then ops.ExchangeStack (index second) else
    (if is_af (word_in first) then ops.ExchangeAf else ops.ExchangeDeHl)

abbrev pub jump : Form → Form → Op80
jump first second =
    if is_at_word first then ops.JumpIndex (index first) else
    (if is_nothing second then ops.Jump (word first) else ops.JumpIf (condition_of (word_in first)) (word second))

abbrev pub relative : ℕ → Form → Form → Op80
relative at first second =
    if is_nothing second then ops.JumpRelative (distance at (number first)) else
    ops.JumpRelativeIf (condition_of (word_in first)) (distance at (number second))

abbrev pub call : Form → Form → Op80
call first second =
    if is_nothing second then ops.Call (word first) else ops.CallIf (condition_of (word_in first)) (word second)

abbrev pub return : Form → Op80
return first = if is_nothing first then ops.Return else ops.ReturnIf (condition_of (word_in first))

abbrev pub add : Form → Form → Op80
add first second = if names_pair first then ops.AddPair (index first) (pair second) else ops.Arithmetic tasks.Add (place second)

abbrev pub add_with_carry : Form → Form → Op80
add_with_carry first second = if names_pair first then ops.AddPairWithCarry (pair second) else ops.Arithmetic tasks.Adc (place second)

abbrev pub subtract_with_carry : Form → Form → Op80
subtract_with_carry first second =
    if names_pair first then ops.SubtractPairWithCarry (pair second) else ops.Arithmetic tasks.Sbc (place second)

abbrev pub increment : Form → Op80
increment first = if names_pair first then ops.IncrementPair (pair first) else ops.Step tasks.Inc (place first)

abbrev pub decrement : Form → Op80
decrement first = if names_pair first then ops.DecrementPair (pair first) else ops.Step tasks.Dec (place first)

abbrev pub input : Form → Form → Op80
input first second = if is_at_number second then ops.InputAtNumber (byte second) else ops.Input (place first)

abbrev pub output : Form → Form → Op80
output first second = if is_at_number first then ops.OutputAtNumber (byte first) else ops.Output (place second)

-- the instruction of a name and two operands, at an address
unfoldable pub built : Mnemonic80 → Form → Form → ℕ → Op80
built (stems.Alone op) first second at = op
built stems.Load first second at = load first second
built stems.Push first second at = ops.Push (pair first)
built stems.Pop first second at = ops.Pop (pair first)
built stems.Exchange first second at = exchange first second
built stems.Add first second at = add first second
built stems.AddWithCarry first second at = add_with_carry first second
built stems.SubtractWithCarry first second at = subtract_with_carry first second
built (stems.Arithmetic task) first second at = ops.Arithmetic task (place first)
built stems.Increment first second at = increment first
built stems.Decrement first second at = decrement first
built stems.SetInterruptMode first second at = ops.SetInterruptMode (mode_of (word_in first))
built (stems.Change task) first second at = ops.Change task (place first)
built stems.ResetBit first second at = ops.Change (tasks.Res (bit_of (word_in first))) (place second)
built stems.SetBit first second at = ops.Change (tasks.Set (bit_of (word_in first))) (place second)
built stems.TestBit first second at = ops.TestBit (bit_of (word_in first)) (place second)
built stems.Jump first second at = jump first second
built stems.JumpRelative first second at = relative at first second
built stems.DecrementAndJump first second at = ops.DecrementAndJump (distance at (number first))
built stems.Call first second at = call first second
built stems.Return first second at = return first
built stems.Restart first second at = ops.Restart (byte first)
built stems.Input first second at = input first second
built stems.Output first second at = output first second

-- an instruction's name, by its text
pub record Entry : Type 0 where
  pub text : List ℕ
  pub mnemonic : Mnemonic80

abbrev pub entry_for : List ℕ → Mnemonic80 → Entry
entry_for text mnemonic = record { text = text; mnemonic = mnemonic }

abbrev pub table : List Entry
table =
    entry_for (codes "adc") stems.AddWithCarry ∷
    entry_for (codes "add") stems.Add ∷
    entry_for (codes "and") (stems.Arithmetic tasks.And) ∷
    entry_for (codes "bit") stems.TestBit ∷
    entry_for (codes "call") stems.Call ∷
    entry_for (codes "ccf") (stems.Alone (ops.Accumulator tasks.Ccf)) ∷
    entry_for (codes "cp") (stems.Arithmetic tasks.Cp) ∷
    entry_for (codes "cpd") (stems.Alone (ops.BlockCompare Decrement)) ∷
    entry_for (codes "cpdr") (stems.Alone (ops.BlockCompare DecrementRepeat)) ∷
    entry_for (codes "cpi") (stems.Alone (ops.BlockCompare Increment)) ∷
    entry_for (codes "cpir") (stems.Alone (ops.BlockCompare IncrementRepeat)) ∷
    entry_for (codes "cpl") (stems.Alone (ops.Accumulator tasks.Cpl)) ∷
    entry_for (codes "daa") (stems.Alone (ops.Accumulator tasks.Daa)) ∷
    entry_for (codes "dec") stems.Decrement ∷
    entry_for (codes "di") (stems.Alone ops.DisableInterrupts) ∷
    entry_for (codes "djnz") stems.DecrementAndJump ∷
    entry_for (codes "ei") (stems.Alone ops.EnableInterrupts) ∷
    entry_for (codes "ex") stems.Exchange ∷
    entry_for (codes "exx") (stems.Alone ops.ExchangeAll) ∷
    entry_for (codes "halt") (stems.Alone ops.Halt) ∷
    entry_for (codes "im") stems.SetInterruptMode ∷
    entry_for (codes "in") stems.Input ∷
    entry_for (codes "inc") stems.Increment ∷
    entry_for (codes "ind") (stems.Alone (ops.BlockInput Decrement)) ∷
    entry_for (codes "indr") (stems.Alone (ops.BlockInput DecrementRepeat)) ∷
    entry_for (codes "ini") (stems.Alone (ops.BlockInput Increment)) ∷
    entry_for (codes "inir") (stems.Alone (ops.BlockInput IncrementRepeat)) ∷
    entry_for (codes "jp") stems.Jump ∷
    entry_for (codes "jr") stems.JumpRelative ∷
    entry_for (codes "ld") stems.Load ∷
    entry_for (codes "ldd") (stems.Alone (ops.BlockLoad Decrement)) ∷
    entry_for (codes "lddr") (stems.Alone (ops.BlockLoad DecrementRepeat)) ∷
    entry_for (codes "ldi") (stems.Alone (ops.BlockLoad Increment)) ∷
    entry_for (codes "ldir") (stems.Alone (ops.BlockLoad IncrementRepeat)) ∷
    entry_for (codes "neg") (stems.Alone ops.Negate) ∷
    entry_for (codes "nop") (stems.Alone ops.Nop) ∷
    entry_for (codes "or") (stems.Arithmetic tasks.Or) ∷
    entry_for (codes "otdr") (stems.Alone (ops.BlockOutput DecrementRepeat)) ∷
    entry_for (codes "otir") (stems.Alone (ops.BlockOutput IncrementRepeat)) ∷
    entry_for (codes "out") stems.Output ∷
    entry_for (codes "outd") (stems.Alone (ops.BlockOutput Decrement)) ∷
    entry_for (codes "outi") (stems.Alone (ops.BlockOutput Increment)) ∷
    entry_for (codes "pop") stems.Pop ∷
    entry_for (codes "push") stems.Push ∷
    entry_for (codes "res") stems.ResetBit ∷
    entry_for (codes "ret") stems.Return ∷
    entry_for (codes "reti") (stems.Alone ops.ReturnFromInterrupt) ∷
    entry_for (codes "retn") (stems.Alone ops.ReturnFromNonMaskable) ∷
    entry_for (codes "rl") (stems.Change tasks.Rl) ∷
    entry_for (codes "rla") (stems.Alone (ops.Accumulator tasks.Rla)) ∷
    entry_for (codes "rlc") (stems.Change tasks.Rlc) ∷
    entry_for (codes "rlca") (stems.Alone (ops.Accumulator tasks.Rlca)) ∷
    entry_for (codes "rld") (stems.Alone ops.RotateDigitsLeft) ∷
    entry_for (codes "rr") (stems.Change tasks.Rr) ∷
    entry_for (codes "rra") (stems.Alone (ops.Accumulator tasks.Rra)) ∷
    entry_for (codes "rrc") (stems.Change tasks.Rrc) ∷
    entry_for (codes "rrca") (stems.Alone (ops.Accumulator tasks.Rrca)) ∷
    entry_for (codes "rrd") (stems.Alone ops.RotateDigitsRight) ∷
    entry_for (codes "rst") stems.Restart ∷
    entry_for (codes "sbc") stems.SubtractWithCarry ∷
    entry_for (codes "scf") (stems.Alone (ops.Accumulator tasks.Scf)) ∷
    entry_for (codes "set") stems.SetBit ∷
    entry_for (codes "sla") (stems.Change tasks.Sla) ∷
    entry_for (codes "sll") (stems.Change tasks.Sll) ∷
    entry_for (codes "sra") (stems.Change tasks.Sra) ∷
    entry_for (codes "srl") (stems.Change tasks.Srl) ∷
    entry_for (codes "sub") (stems.Arithmetic tasks.Sub) ∷
    entry_for (codes "xor") (stems.Arithmetic tasks.Xor) ∷ []

-- what a text is entered as
unfoldable pub mnemonic_in : List Entry → List ℕ → Mnemonic80
mnemonic_in [] text = stems.Alone ops.Nop
mnemonic_in (e ∷ es) text = if bytes_eq e.text text then e.mnemonic else mnemonic_in es text

unfoldable pub mnemonic_of : List ℕ → Mnemonic80
mnemonic_of text = mnemonic_in table text

-- what an instruction that is written is taken for
unfoldable pub meant : Source → ℕ → Op80
meant s at = built (mnemonic_of s.mnemonic) s.first s.second at
