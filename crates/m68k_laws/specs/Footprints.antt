-- The footprint of each instruction: the accesses that it makes to memory beside its own words, in
-- their order, found from the instruction and the registers alone.
-- M68000 Programmer's Reference Manual, section 4; what is read before it is written, and TAS on memory:
-- this project's profile.
use Rattle.std.specs.Prelude.{ℕ, zero, suc, ◌≢◌, ◌+◌, ◌-◌, ◌*◌, ◌%◌, ◌^◌, ◌<◌, List, [], ◌++◌, if◌then◌else◌, count_ones}
use Rattle.md_word.specs.Fields.{address_of, is_supervisor}
use Rattle.md_word.specs.declared.mode.Mode.{Mode}
use Rattle.md_word.specs.declared.mode.Mode.TheVariants.{Address, Data, Displaced, Immediate, PostInc, PreDec}
use Rattle.md_word.specs.declared.regs.Regs.{Regs}
use Rattle.md_word.specs.declared.size.Size.{Size}
use Rattle.md_word.specs.declared.size.Size.TheVariants.{Byte, Word, Long}
use Rattle.md_word.specs.declared.task.Task.{Task}
use Rattle.md_word.specs.declared.task.Task.TheVariants.{Btst}
use Rattle.m68k_decode.specs.Fields.{words_of_mode, words_of_number}
use Rattle.m68k_decode.specs.declared.op.Op.{Op}
use Rattle.m68k_decode.specs.declared.op.Op.TheVariants as ops
use Rattle.m68k_ea.specs.Addresses.{effective_address}
use Rattle.m68k_ea.specs.Steps.{stepped}
use Rattle.m68k_access.specs.Operands.{bytes_of, stack_of}
use Rattle.m68k_laws.specs.Accesses.{Access, Kind, Read, Write, one}

-- the address so many bytes above another
abbrev pub above : ℕ → ℕ → ℕ
above address bytes = (address + bytes) % 2 ^ 32

-- the address so many bytes below another
abbrev pub below : ℕ → ℕ → ℕ
below address bytes = (address + 2 ^ 32 - bytes) % 2 ^ 32

-- one access to the operand that a mode names, whose extension words are at pc: registers and
-- numbers in the instruction are not in memory
abbrev pub operand : Kind → Size → Mode → ℕ → Regs → List Access
operand kind size (Data n) pc regs = []
operand kind size (Address n) pc regs = []
operand kind size (Immediate value) pc regs = []
operand kind size mode pc regs = one kind size (effective_address mode size regs pc)

-- an operand is read
abbrev pub reads : Size → Mode → ℕ → Regs → List Access
reads size mode pc regs = operand Read size mode pc regs

-- an operand is written
abbrev pub writes : Size → Mode → ℕ → Regs → List Access
writes size mode pc regs = operand Write size mode pc regs

-- an operand is read, and then written
abbrev pub changes : Size → Mode → ℕ → Regs → List Access
changes size mode pc regs = reads size mode pc regs ++ writes size mode pc regs

-- a bit in memory is one of a byte; BTST only reads it
abbrev pub bit : Task → Mode → ℕ → Regs → List Access
bit Btst mode pc regs = reads Byte mode pc regs
bit operation mode pc regs = changes Byte mode pc regs

-- a long is pushed
abbrev pub pushes : Regs → List Access
pushes regs = one Write Long (below (stack_of regs) 4)

-- a word is pulled, then a long
abbrev pub pulls : Regs → List Access
pulls regs = one Read Word (stack_of regs) ++ one Read Long (above (stack_of regs) 2)

-- what a user does not reach
abbrev pub as_supervisor : Regs → List Access → List Access
as_supervisor regs list = if is_supervisor regs then list else []

-- bytes at every other address
abbrev pub alternate : Kind → Size → ℕ → List Access
alternate kind Byte at = one kind Byte at
alternate kind Word at = one kind Byte at ++ one kind Byte (above at 2)
alternate kind Long at =
    one kind Byte at ++ one kind Byte (above at 2) ++ one kind Byte (above at 4) ++ one kind Byte (above at 6)

-- so many operands one after another, from an address on
abbrev pub ascending : ℕ → Kind → Size → ℕ → List Access
ascending zero kind size at = []
ascending (suc count) kind size at = one kind size at ++ ascending count kind size (above at (bytes_of size))

-- so many operands one below another, the first of them below an address
abbrev pub descending : ℕ → Kind → Size → ℕ → List Access
descending zero kind size at = []
descending (suc count) kind size at =
    one kind size (below at (bytes_of size)) ++ descending count kind size (below at (bytes_of size))

-- MOVEM to memory: −(An) goes down from An, every other mode up
abbrev pub stores : Size → ℕ → Mode → ℕ → Regs → List Access
stores size list (PreDec n) pc regs = descending (count_ones list) Write size (address_of regs n)
stores size list mode pc regs = ascending (count_ones list) Write size (effective_address mode size regs pc)

-- an instruction whose first word is at `start`. The extension words of its operand are after that
-- word and after a number, those of a second operand after those of the first; the second is found with
-- the register of the first moved by (An)+ or −(An)
abbrev pub footprint : Op → ℕ → Regs → List Access
footprint (ops.Immediate operation size number mode) start regs = changes size mode (above start (2 + 2 * words_of_number size)) regs
footprint (ops.CompareImmediate size number mode) start regs = reads size mode (above start (2 + 2 * words_of_number size)) regs
footprint (ops.BitByRegister operation n mode) start regs = bit operation mode (above start 2) regs
footprint (ops.BitByNumber operation number mode) start regs = bit operation mode (above start 4) regs
footprint (ops.MovepToRegister size x y by) start regs = alternate Read size (effective_address (Displaced y by) size regs (above start 2))
footprint (ops.MovepToMemory size x y by) start regs = alternate Write size (effective_address (Displaced y by) size regs (above start 2))
footprint (ops.Move size source target) start regs =
    reads size source (above start 2) regs ++ writes size target (above start (2 + 2 * words_of_mode size source)) (stepped source size regs)
footprint (ops.Movea size n mode) start regs = reads size mode (above start 2) regs
footprint (ops.Unary operation size mode) start regs = changes size mode (above start 2) regs
footprint (ops.MoveFromSr mode) start regs = changes Word mode (above start 2) regs
footprint (ops.MoveToCcr mode) start regs = reads Word mode (above start 2) regs
footprint (ops.MoveToSr mode) start regs = as_supervisor regs (reads Word mode (above start 2) regs)
footprint (ops.Nbcd mode) start regs = changes Byte mode (above start 2) regs
footprint (ops.Pea mode) start regs = pushes regs
footprint (ops.MovemToMemory size list mode) start regs = stores size list mode (above start 4) regs
footprint (ops.MovemToRegisters size list mode) start regs = ascending (count_ones list) Read size (effective_address mode size regs (above start 4))
footprint (ops.Tst size mode) start regs = reads size mode (above start 2) regs
footprint (ops.Tas mode) start regs = reads Byte mode (above start 2) regs
footprint (ops.Link n by) start regs = pushes regs
footprint (ops.Unlk n) start regs = one Read Long (address_of regs n)
footprint ops.Rte start regs = as_supervisor regs (pulls regs)
footprint ops.Rts start regs = one Read Long (stack_of regs)
footprint ops.Rtr start regs = pulls regs
footprint (ops.Jsr mode) start regs = pushes regs
footprint (ops.Chk n mode) start regs = reads Word mode (above start 2) regs
footprint (ops.Quick operation size number mode) start regs = changes size mode (above start 2) regs
footprint (ops.Scc condition mode) start regs = changes Byte mode (above start 2) regs
footprint (ops.Bsr displacement) start regs = pushes regs
footprint (ops.Divu n mode) start regs = reads Word mode (above start 2) regs
footprint (ops.Divs n mode) start regs = reads Word mode (above start 2) regs
footprint (ops.Decimal operation source target) start regs =
    reads Byte source (above start 2) regs ++ changes Byte target (above start 2) (stepped source Byte regs)
footprint (ops.Extended operation size source target) start regs =
    reads size source (above start 2) regs ++ changes size target (above start 2) (stepped source size regs)
footprint (ops.ToRegister operation size n mode) start regs = reads size mode (above start 2) regs
footprint (ops.ToMemory operation size n mode) start regs = changes size mode (above start 2) regs
footprint (ops.ToAddress operation size n mode) start regs = reads size mode (above start 2) regs
footprint (ops.Cmp size n mode) start regs = reads size mode (above start 2) regs
footprint (ops.Cmpa size n mode) start regs = reads size mode (above start 2) regs
footprint (ops.Eor size n mode) start regs = changes size mode (above start 2) regs
footprint (ops.Cmpm size x y) start regs =
    reads size (PostInc y) (above start 2) regs ++ reads size (PostInc x) (above start 2) (stepped (PostInc y) size regs)
footprint (ops.Mulu n mode) start regs = reads Word mode (above start 2) regs
footprint (ops.Muls n mode) start regs = reads Word mode (above start 2) regs
footprint (ops.ShiftMemory operation mode) start regs = changes Word mode (above start 2) regs
footprint _ start regs = []

-- MOVEM moves words or longs, and its list has 16 bits
abbrev pub MovesWords : Op → Type 0
MovesWords (ops.MovemToMemory size list mode) = (size ≢ Byte) × (list < 65536)
MovesWords (ops.MovemToRegisters size list mode) = (size ≢ Byte) × (list < 65536)
MovesWords op = Unit {0}
