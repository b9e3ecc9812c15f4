-- Operations on A alone, and the control of the processor.
-- Zilog UM0080, "General-Purpose Arithmetic and CPU Control Groups".
use Rattle.std.specs.Prelude.{true, false}
use Rattle.md_word.specs.declared.task80.Task80.{Task80}
use Rattle.z80_alu.specs.Tasks.{computed}
use Rattle.z80_decode.specs.declared.interrupt_mode.InterruptMode.{InterruptMode}
use Rattle.z80_exec.specs.declared.regs80.Regs80.{Regs80}
use Rattle.z80_exec.specs.Access.Parts.{a_of, f_of, with_af}

-- RLCA and its kin, DAA, CPL, NEG, SCF and CCF
unfoldable pub accumulator : Task80 → Regs80 → Regs80
accumulator task regs =
    let out = computed task (a_of regs) 0 (f_of regs) in
    with_af out.value out.f regs

-- DI
unfoldable pub disabled : Regs80 → Regs80
disabled regs = record regs { iff1 = false; iff2 = false }

-- EI
unfoldable pub enabled : Regs80 → Regs80
enabled regs = record regs { iff1 = true; iff2 = true }

-- IM
unfoldable pub with_mode : InterruptMode → Regs80 → Regs80
with_mode mode regs = record regs { mode = mode }
