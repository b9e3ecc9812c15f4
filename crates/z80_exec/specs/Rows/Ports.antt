-- IN and OUT: no port answers, so that IN gives FFh and OUT does nothing.
-- Zilog UM0080, "Input and Output Group"; the ports, this project's profile.
use Rattle.std.specs.Prelude.{ℕ, not, ◌==◌, ◌&&◌}
use Rattle.md_word.specs.declared.task80.Task80.TheVariants.{In}
use Rattle.z80_alu.specs.Tasks.{computed}
use Rattle.z80_alu.specs.Transfers.{block_passed}
use Rattle.z80_decode.specs.declared.block.Block.{Block}
use Rattle.z80_decode.specs.declared.place8.Place8.{Place8}
use Rattle.z80_exec.specs.declared.regs80.Regs80.{Regs80}
use Rattle.z80_exec.specs.Access.Actions.{Act, ◌>>=◌, give, read, write}
use Rattle.z80_exec.specs.Access.Operands.{put}
use Rattle.z80_exec.specs.Access.Outcomes.{Outcome, plain}
use Rattle.z80_exec.specs.Access.Parts.{a_of, byte_down, f_of, high, with_af, with_f, with_high, with_low}
use Rattle.z80_exec.specs.Rows.Blocks.{going_on, repeats, stepped}

-- what a port gives
abbrev pub port_byte : ℕ
port_byte = 0xff

-- IN A,(n), which sets no flags
unfoldable pub input_at_number : Regs80 → Regs80
input_at_number regs = with_af port_byte (f_of regs) regs

-- IN r,(C)
unfoldable pub input : Place8 → Regs80 → Act Outcome
input place regs = do
  let out = computed In (a_of regs) port_byte (f_of regs)
  after ← put place out.value regs
  give (plain (with_f out.f after))

-- the registers after one byte, with B lowered by 1
abbrev pub passed : Block → Regs80 → Regs80
passed block regs = record regs {
  hl = stepped block regs.hl;
  bc = with_high regs.bc (byte_down (high regs.bc));
  af = with_low regs.af (block_passed (byte_down (high regs.bc)) (f_of regs));
}

-- INI, IND, INIR, INDR: the last two go on while B is not 0
unfoldable pub block_input : Block → Regs80 → Act Outcome
block_input block regs = do
  written ← write regs.hl port_byte
  give (going_on (repeats block && not (byte_down (high regs.bc) == 0)) (passed block regs))

-- OUTI, OUTD, OTIR, OTDR: the last two go on while B is not 0
unfoldable pub block_output : Block → Regs80 → Act Outcome
block_output block regs = do
  value ← read regs.hl
  give (going_on (repeats block && not (byte_down (high regs.bc) == 0)) (passed block regs))
