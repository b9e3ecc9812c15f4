-- The shapes that most instructions have. M68000 Programmer's Reference Manual, section 4.
use Rattle.std.specs.Prelude.{ℕ, ◌+◌, ◌%◌, ◌^◌}
use Rattle.md_word.specs.Fields.{flags_of, register_of, with_flags}
use Rattle.md_word.specs.Width.{modulus_of}
use Rattle.md_word.specs.declared.mode.Mode.{Mode}
use Rattle.md_word.specs.declared.regs.Regs.{Regs}
use Rattle.md_word.specs.declared.size.Size.{Size}
use Rattle.md_word.specs.declared.task.Task.{Task}
use Rattle.m68k_alu.specs.Tasks.{computed}
use Rattle.m68k_ea.specs.Places.{place_of}
use Rattle.m68k_ea.specs.Steps.{stepped}
use Rattle.m68k_access.specs.Actions.{Act, ◌>>=◌, give}
use Rattle.m68k_access.specs.Operands.{fetch, load, put, with_part}
use Rattle.m68k_access.specs.Outcomes.{Outcome, plain}

-- the address so many bytes after the start of the instruction, where a mode's words may be
abbrev pub following : ℕ → ℕ → ℕ
following start bytes = (start + bytes) % 2 ^ 32

-- the instruction continues at another address
abbrev pub jump_to : ℕ → Regs → Outcome
jump_to target regs = plain (record regs { pc = target })

-- it ends in the exception of this vector number, which saves the next instruction's address
abbrev pub end_in : ℕ → Regs → Outcome
end_in vector regs = record (plain regs) { vector = vector }

-- it is not carried out: the exception saves its own address
abbrev pub refuse : ℕ → ℕ → Regs → Outcome
refuse vector start regs = end_in vector (record regs { pc = start })

-- an operand is read, and the flags are set
unfoldable pub test_operand : Task → Size → ℕ → Mode → ℕ → Regs → Act Outcome
test_operand task size number mode pc regs = do
  operand ← load mode size pc regs
  let out = computed task size number operand.value (flags_of regs)
  give (plain (with_flags operand.regs out.flags))

-- an operand is read, the operation done, and the result written where the operand was
unfoldable pub change_operand : Task → Size → ℕ → Mode → ℕ → Regs → Act Outcome
change_operand task size number mode pc regs = do
  let to = place_of mode size regs pc
  old ← fetch size to (stepped mode size regs)
  let out = computed task size number old (flags_of regs)
  after ← put size to out.value (stepped mode size regs)
  give (plain (with_flags after out.flags))

-- the operation is done on a register, and nothing read
unfoldable pub change_data : Task → Size → ℕ → ℕ → Regs → Outcome
change_data task size number n regs =
    let out = computed task size number (register_of regs n % modulus_of size) (flags_of regs) in
    plain (with_flags (with_part size n out.value regs) out.flags)

-- an operand is read, and the operation done with it on a register
unfoldable pub change_register : Task → Size → ℕ → Mode → ℕ → Regs → Act Outcome
change_register task size n mode pc regs = do
  operand ← load mode size pc regs
  let out = computed task size operand.value (register_of operand.regs n % modulus_of size) (flags_of regs)
  give (plain (with_flags (with_part size n out.value operand.regs) out.flags))
