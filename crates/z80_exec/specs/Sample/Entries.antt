-- How an interrupt begins, and what a reset does to the registers.
-- Zilog UM0080, "Interrupt Response" and "Z80 CPU Pin Description"; the byte on the bus in modes 0
-- and 2 is FFh, which is RST 38h: this project's profile.
use Rattle.std.specs.Prelude.{ℕ, ◌+◌, ◌*◌, false}
use Rattle.z80_decode.specs.declared.interrupt_mode.InterruptMode.{InterruptMode}
use Rattle.z80_decode.specs.declared.interrupt_mode.InterruptMode.TheVariants.{Mode0, Mode1, Mode2}
use Rattle.z80_exec.specs.declared.regs80.Regs80.{Regs80}
use Rattle.z80_exec.specs.Access.Actions.{Act, ◌>>=◌, give, read_word}
use Rattle.z80_exec.specs.Access.Operands.{push}
use Rattle.z80_exec.specs.Rows.Control.{disabled}

-- where an interrupt continues, by its mode: in mode 2 the address is in a table in page I
unfoldable pub target_of : InterruptMode → ℕ → Act ℕ
target_of Mode0 page = give 0x38
target_of Mode1 page = give 0x38
target_of Mode2 page = read_word (page * 0x100 + 0xff)

-- the next instruction's address is pushed, and further interrupts are disabled
unfoldable pub enter : Regs80 → Act Regs80
enter regs = do
  after ← push regs.pc (disabled regs)
  target ← target_of regs.mode regs.i
  give (record after { pc = target })

-- the registers after a reset: PC, I, R, the interrupts' flags and mode are 0, and all others have
-- all bits set, which is this project's profile
abbrev pub after_reset : Regs80
after_reset = record {
  af = 0xffff;
  bc = 0xffff;
  de = 0xffff;
  hl = 0xffff;
  af2 = 0xffff;
  bc2 = 0xffff;
  de2 = 0xffff;
  hl2 = 0xffff;
  ix = 0xffff;
  iy = 0xffff;
  sp = 0xffff;
  pc = 0;
  i = 0;
  r = 0;
  iff1 = false;
  iff2 = false;
  mode = Mode0;
}
