-- What holds of each action and each condition, for any registers, memory and answers.
use Rattle.std.specs.Prelude.{ℕ, ◌≡◌, ◌+◌, ◌-◌, ◌-ℤ◌, ◌%◌, ◌≤◌, ◌==◌, nat_le, nat_lt, int_le, int_lt, Bool, true, false, not, List, Ok, Err}
use Rattle.md_word.specs.Answers as answers
use Rattle.md_word.specs.Answers.{Done}
use Rattle.md_word.specs.Width.{fits, half_of, modulus_of, signed_of}
use Rattle.md_word.specs.declared.flags.Flags.{Flags}
use Rattle.md_word.specs.declared.main_bus.Request68.{Request68}
use Rattle.md_word.specs.declared.mode.Mode.{Mode}
use Rattle.md_word.specs.declared.regs.Regs.{Regs}
use Rattle.md_word.specs.declared.size.Size.{Size}
use Rattle.md_word.specs.declared.task.Task.TheVariants as tasks
use Rattle.m68k_alu.specs.Tasks.{computed}
use Rattle.m68k_decode.specs.declared.condition.Condition.TheVariants as conditions
use Rattle.m68k_ea.specs.declared.places.Place.{Place}
use Rattle.m68k_access.specs.declared.stop.Stop.TheVariants.{Odd}
use Rattle.m68k_access.specs.Actions.{Act, asked, read, write}
use Rattle.m68k_access.specs.Conditions.{holds}
use Rattle.m68k_access.specs.Memory.{Memory}
use Rattle.m68k_access.specs.Operands.{fetch, load, pull, push, put, store}

-- what is private of a memory: the cartridge's image, and work RAM before the instruction
abbrev pub private_of : Memory → List ℕ × List ℕ
private_of memory = (memory.rom, memory.ram)

-- the answers of its shared accesses
abbrev pub answers_of : Memory → List ℕ
answers_of memory = memory.answers

-- two memories are the same to what takes so many answers: the first answers are the same
abbrev pub SameBelow : ℕ → Memory → Memory → Type 0
SameBelow count one other = answers.SameBelow private_of answers_of count one other

-- where it results in a value or in an address error, it results in the same with any answers in place
-- of those that it did not take; and it takes no answer back
pub record IgnoresLaterAnswers {A : Type 0} (act : Act A) : Type 0 where
  pub value : (one other : Memory) (before : Done) (x : A) (after : Done) → act one before ≡ Ok (x, after) → SameBelow after.used one other → act other before ≡ Ok (x, after)
  pub odd : (one other : Memory) (before : Done) (address : ℕ) (read : Bool) (used : ℕ) → act one before ≡ Err (Odd address read used) → SameBelow used one other → act other before ≡ Err (Odd address read used)
  pub taken : (memory : Memory) (before : Done) (x : A) (after : Done) → act memory before ≡ Ok (x, after) → before.used ≤ after.used
  pub taken_odd : (memory : Memory) (before : Done) (address : ℕ) (read : Bool) (used : ℕ) → act memory before ≡ Err (Odd address read used) → before.used ≤ used

-- the actions of which instructions are made
pub record ActionsIgnoreLaterAnswers : Type 0 where
  pub asked : (request : Request68) → IgnoresLaterAnswers (asked request)
  pub read : (size : Size) (address : ℕ) → IgnoresLaterAnswers (read size address)
  pub write : (size : Size) (address value : ℕ) → IgnoresLaterAnswers (write size address value)
  pub fetch : (size : Size) (place : Place) (regs : Regs) → IgnoresLaterAnswers (fetch size place regs)
  pub put : (size : Size) (place : Place) (value : ℕ) (regs : Regs) → IgnoresLaterAnswers (put size place value regs)
  pub load : (mode : Mode) (size : Size) (pc : ℕ) (regs : Regs) → IgnoresLaterAnswers (load mode size pc regs)
  pub store : (mode : Mode) (size : Size) (value pc : ℕ) (regs : Regs) → IgnoresLaterAnswers (store mode size value pc regs)
  pub push : (size : Size) (value : ℕ) (regs : Regs) → IgnoresLaterAnswers (push size value regs)
  pub pull : (size : Size) (regs : Regs) → IgnoresLaterAnswers (pull size regs)

-- the flags after CMP of a source and a target
abbrev pub flags_after : Size → ℕ → ℕ → Flags → Flags
flags_after size source target flags = (computed tasks.Cmp size source target flags).flags

-- After CMP each condition is a comparison of the target with the source: HI, LS, CC and CS of whole
-- numbers, GE, LT, GT and LE of numbers in two's complement. MI and PL give the sign of the difference
-- within the size, VS and VC whether the signed difference has a place in it.
pub record ConditionsCompare (size : Size) (source target : ℕ) (flags : Flags) : Type 0 where
  pub always : holds conditions.True (flags_after size source target flags) ≡ true
  pub never : holds conditions.False (flags_after size source target flags) ≡ false
  pub high : holds conditions.High (flags_after size source target flags) ≡ nat_lt source target
  pub low_or_same : holds conditions.LowOrSame (flags_after size source target flags) ≡ nat_le target source
  pub carry_clear : holds conditions.CarryClear (flags_after size source target flags) ≡ nat_le source target
  pub carry_set : holds conditions.CarrySet (flags_after size source target flags) ≡ nat_lt target source
  pub not_equal : holds conditions.NotEqual (flags_after size source target flags) ≡ not (target == source)
  pub equal : holds conditions.Equal (flags_after size source target flags) ≡ (target == source)
  pub overflow_clear : holds conditions.OverflowClear (flags_after size source target flags) ≡ not (not (fits size (signed_of size target -ℤ signed_of size source)))
  pub overflow_set : holds conditions.OverflowSet (flags_after size source target flags) ≡ not (fits size (signed_of size target -ℤ signed_of size source))
  pub plus : holds conditions.Plus (flags_after size source target flags) ≡ not (nat_le (half_of size) ((target + modulus_of size - source) % modulus_of size))
  pub minus : holds conditions.Minus (flags_after size source target flags) ≡ nat_le (half_of size) ((target + modulus_of size - source) % modulus_of size)
  pub greater_or_equal : holds conditions.GreaterOrEqual (flags_after size source target flags) ≡ int_le (signed_of size source) (signed_of size target)
  pub less : holds conditions.LessThan (flags_after size source target flags) ≡ int_lt (signed_of size target) (signed_of size source)
  pub greater : holds conditions.GreaterThan (flags_after size source target flags) ≡ int_lt (signed_of size source) (signed_of size target)
  pub less_or_equal : holds conditions.LessOrEqual (flags_after size source target flags) ≡ int_le (signed_of size target) (signed_of size source)
