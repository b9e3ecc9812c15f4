-- The texts of the debugger's replies. This project's profile.
use Rattle.std.specs.Prelude.{ℕ, zero, suc, ◌+◌, ◌%◌, ◌==◌, nat_lt, if◌then◌else◌, List, [], ◌++◌, codes, flat_map, decimal}
use Rattle.md_word.specs.declared.regs.Regs.{Regs}
use Rattle.md_word.specs.Fields.{register_of}
use Rattle.m68k_decode.specs.Instructions.{instruction_of}
use Rattle.m68k_decode.specs.declared.decoded.Decoded.{Decoded}
use Rattle.m68k_access.specs.Memory.{Memory, bus_address, byte_at, instruction_words}
use Rattle.md_disasm.specs.Digits.{marked_byte, marked_digit, marked_long, marked_word}
use Rattle.md_disasm.specs.Texts68.{text_of}

-- the cycle of the next event
abbrev pub cycle_reply : ℕ → List ℕ
cycle_reply cycle = codes "at " ++ decimal cycle ++ codes "\n"

-- a data or address register: its name and its eight digits, each after a space
unfoldable pub register_text : Regs → ℕ → List ℕ
register_text regs n =
    marked_digit (if nat_lt n 8 then codes " d" else codes " a") (n % 8) (codes " ") ++ marked_long [] (register_of regs n) []

-- the first n of d0 to d7 and a0 to a7, of which the last is the active stack pointer
unfoldable pub registers_text : Regs → ℕ → List ℕ
registers_text regs zero = []
registers_text regs (suc n) = registers_text regs n ++ register_text regs n

-- the program counter, the four digits of the status register, and the other registers
abbrev pub register_reply : Regs → List ℕ
register_reply regs =
    marked_long (codes "pc ") regs.pc (codes " ") ++ marked_word (codes "sr ") regs.sr [] ++ registers_text regs 16 ++ codes "\n"

-- what a 68000 with this cartridge and this work RAM sees without an access that it shares
abbrev pub memory_of : List ℕ → List ℕ → Memory
memory_of rom ram = record { rom = rom; ram = ram; answers = [] }

-- n bytes from an address on: two digits each, with a space before all but the first
unfoldable pub bytes_text : List ℕ → List ℕ → ℕ → ℕ → List ℕ
bytes_text rom ram at zero = []
bytes_text rom ram at (suc n) =
    bytes_text rom ram at n ++ marked_byte (if n == 0 then [] else codes " ") (byte_at rom ram (bus_address (at + n))) []

abbrev pub byte_reply : List ℕ → List ℕ → ℕ → ℕ → List ℕ
byte_reply rom ram at count = bytes_text rom ram at count ++ codes "\n"

-- the instruction at an address
abbrev pub instruction_at : List ℕ → List ℕ → ℕ → Decoded
instruction_at rom ram at = instruction_of (instruction_words at (memory_of rom ram))

-- an instruction after its address
abbrev pub instruction_line : Decoded → ℕ → List ℕ
instruction_line op at = marked_long [] at (codes " ") ++ text_of op at ++ codes "\n"

-- n instructions, each after the one before it; addresses are those of the bus
unfoldable pub instruction_reply : List ℕ → List ℕ → ℕ → ℕ → List ℕ
instruction_reply rom ram at zero = []
instruction_reply rom ram at (suc n) =
    let op = instruction_at rom ram at in instruction_line op at ++ instruction_reply rom ram (bus_address (at + op.length)) n

-- eight digits for each address, a line each
abbrev pub address_reply : List ℕ → List ℕ
address_reply addresses = flat_map (λ address. marked_long [] address (codes "\n")) addresses
