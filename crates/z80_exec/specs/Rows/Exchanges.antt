-- EX and EXX. Zilog UM0080, "Exchange, Block Transfer, Block Search Group".
use Rattle.z80_decode.specs.Fields.{word}
use Rattle.z80_decode.specs.declared.index.Index.{Index}
use Rattle.z80_exec.specs.declared.regs80.Regs80.{Regs80}
use Rattle.z80_exec.specs.Access.Actions.{Act, ◌>>=◌, give, read, write}
use Rattle.z80_exec.specs.Access.Memory.{next}
use Rattle.z80_exec.specs.Access.Outcomes.{Outcome, plain}
use Rattle.z80_exec.specs.Access.Parts.{high, low, pair_at, pair_of, with_pair}

-- EX DE,HL
unfoldable pub exchange_de_hl : Regs80 → Regs80
exchange_de_hl regs = record regs { de = regs.hl; hl = regs.de }

-- EX AF,AF'
unfoldable pub exchange_af : Regs80 → Regs80
exchange_af regs = record regs { af = regs.af2; af2 = regs.af }

-- EXX
unfoldable pub exchange_all : Regs80 → Regs80
exchange_all regs =
    record regs { bc = regs.bc2; de = regs.de2; hl = regs.hl2; bc2 = regs.bc; de2 = regs.de; hl2 = regs.hl }

-- EX (SP),HL: the register gets what was there; the high byte is written first
unfoldable pub exchange_stack : Index → Regs80 → Act Outcome
exchange_stack index regs = do
  low_byte ← read regs.sp
  high_byte ← read (next regs.sp)
  first ← write (next regs.sp) (high (pair_of (pair_at index) regs))
  second ← write regs.sp (low (pair_of (pair_at index) regs))
  give (plain (with_pair (pair_at index) (word low_byte high_byte) regs))
