-- Block transfers and searches. Zilog UM0080, "Exchange, Block Transfer, Block Search Group".
use Rattle.std.specs.Prelude.{ℕ, ◌+◌, ◌%◌, Bool, true, false, not, ◌==◌, ◌&&◌, if◌then◌else◌}
use Rattle.z80_alu.specs.Transfers.{block_compared, block_loaded}
use Rattle.z80_decode.specs.declared.block.Block.{Block}
use Rattle.z80_decode.specs.declared.block.Block.TheVariants.{Increment, Decrement, IncrementRepeat, DecrementRepeat}
use Rattle.z80_exec.specs.declared.regs80.Regs80.{Regs80}
use Rattle.z80_exec.specs.Access.Actions.{Act, ◌>>=◌, give, read, write}
use Rattle.z80_exec.specs.Access.Outcomes.{Outcome, plain, taken}
use Rattle.z80_exec.specs.Access.Parts.{a_of, down, f_of, up, with_low}

-- the next address, up or down
abbrev pub stepped : Block → ℕ → ℕ
stepped Increment at = up at
stepped Decrement at = down at
stepped IncrementRepeat at = up at
stepped DecrementRepeat at = down at

-- whether it is an instruction that continues until its end, as LDIR does
abbrev pub repeats : Block → Bool
repeats Increment = false
repeats Decrement = false
repeats IncrementRepeat = true
repeats DecrementRepeat = true

-- an instruction that continues is carried out again: its two bytes are the next
unfoldable pub going_on : Bool → Regs80 → Outcome
going_on again regs =
    if again then taken (record regs { pc = (regs.pc + 0xfffe) % 0x1_0000 }) else plain regs

-- the registers after one transfer
abbrev pub transferred : Block → Regs80 → Regs80
transferred block regs = record regs {
  hl = stepped block regs.hl;
  de = stepped block regs.de;
  bc = down regs.bc;
  af = with_low regs.af (block_loaded (down regs.bc) (f_of regs));
}

-- LDI, LDD, LDIR, LDDR: the last two go on while BC is not 0
unfoldable pub block_load : Block → Regs80 → Act Outcome
block_load block regs = do
  value ← read regs.hl
  written ← write regs.de value
  give (going_on (repeats block && not (down regs.bc == 0)) (transferred block regs))

-- the registers after one comparison with A
abbrev pub searched : Block → ℕ → Regs80 → Regs80
searched block value regs = record regs {
  hl = stepped block regs.hl;
  bc = down regs.bc;
  af = with_low regs.af (block_compared (a_of regs) value (down regs.bc) (f_of regs));
}

-- CPI, CPD, CPIR, CPDR: the last two go on while BC is not 0 and the byte is not A
unfoldable pub block_compare : Block → Regs80 → Act Outcome
block_compare block regs = do
  value ← read regs.hl
  give (going_on (repeats block && not (down regs.bc == 0) && not (a_of regs == value)) (searched block value regs))
