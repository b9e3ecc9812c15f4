-- Instructions that make no shared access and end in no exception, or one write: what they result in depends on the
-- registers, the cartridge and work RAM alone.
-- M68000 User's Manual, section 8.
use Rattle.std.specs.Prelude.{◌≡◌, ℕ, Bool, true, false, List, Option, Some, None, Result, Ok, Err}
use Rattle.md_word.specs.Answers.{Done}
use Rattle.md_word.specs.declared.main_bus.Request68.{Request68}
use Rattle.md_word.specs.declared.regs.Regs.{Regs}
use Rattle.m68k_decode.specs.declared.op.Op.{Op}
use Rattle.m68k_time.specs.Clocks.{clocks_of}
use Rattle.m68k_access.specs.Actions.{Act}
use Rattle.m68k_access.specs.Memory.{Memory}
use Rattle.m68k_access.specs.Operands.{Operand}
use Rattle.m68k_access.specs.Outcomes.{Outcome, plain}
use Rattle.m68k_access.specs.declared.stop.Stop.{Stop}
use Rattle.m68k_access.specs.declared.stop.Stop.TheVariants.{Ask}
use Rattle.m68k_exec.specs.Sample.Prediction.{EndsPredicted, Predicts}
use Rattle.m68k_exec.specs.Sample.Samples.{Ended, finished, nothing}
use Rattle.m68k_exec.specs.declared.sample.step.Predicted.{Predicted}
use Rattle.m68k_exec.specs.declared.sample.step.PrivateStep.{PrivateStep}
use Rattle.m68k_exec.specs.declared.sample.step.PrivateStep.TheVariants as privates
use Rattle.m68k_exec.specs.declared.sample.step.Step.TheVariants as steps

-- in this memory an action gives this, and does nothing
abbrev pub Reads : {A : Type 0} → Act A → A → Memory → Type 0
Reads act value memory = act memory nothing ≡ Ok (value, nothing)

-- an operand that is found is what the action reads, which leaves these registers; else they stay
abbrev pub Finds : Option ℕ → Act Operand → Regs → Regs → Memory → Type 0
Finds (Some value) act old new memory = Reads act (record { value = value; regs = new }) memory
Finds None act old new memory = new ≡ old

-- what is put somewhere, with these registers and this done; else the registers stay
abbrev pub Puts : Bool → Act Regs → Regs → Regs → Memory → Done → Type 0
Puts true act old new memory done = act memory nothing ≡ Ok (new, done)
Puts false act old new memory done = new ≡ old

-- an instruction that was carried out, with nothing to report but its registers and this done; else the registers stay
abbrev pub Stores : Bool → Act Outcome → Regs → Regs → Memory → Done → Type 0
Stores true act old new memory done = act memory nothing ≡ Ok (plain new, done)
Stores false act old new memory done = new ≡ old

-- the same of an instruction that writes nothing
abbrev pub Changes : Bool → Act Outcome → Regs → Regs → Memory → Type 0
Changes carried act old new memory = Stores carried act old new memory nothing

-- a MOVE that was carried out, with this done, or that waits for its write, with what follows predicted; else nothing
-- is said of it
abbrev pub Moves : Option (Result (Unit {0}) Request68) → Predicted → Act Outcome → Regs → Memory → Done → Type 0
Moves (Some (Ok x)) predicted act new memory done = act memory nothing ≡ Ok (plain new, done)
Moves (Some (Err request)) predicted act new memory done =
    (act memory nothing ≡ Err (Ask request)) × Predicts {A = Unit {0}} (Err (Ask request)) predicted act memory nothing
Moves None predicted act new memory done = Unit {0}

-- the clocks of an instruction that was carried out
abbrev pub took : ℕ → Bool → Option ℕ
took clocks true = Some clocks
took clocks false = None

-- in this memory an instruction ends with these registers and with this done, in no exception and not stopped, and
-- takes these clocks
pub record IsPrivate (op : Op) (act : Act Outcome) (clocks : ℕ) (regs : Regs) (memory : Memory) (done : Done) : Type 0 where
  pub outcome : Outcome
  pub gives : act memory nothing ≡ Ok (outcome, done)
  pub leaves : outcome.regs ≡ regs
  pub vector : outcome.vector ≡ 0
  pub stopped : outcome.stopped ≡ false
  pub takes : clocks ≡ clocks_of op (finished op regs outcome done).spent

-- an instruction that was carried out, in these clocks; else the registers stay
abbrev pub CarriesOut : Option ℕ → Op → Act Outcome → Regs → Regs → Memory → Done → Type 0
CarriesOut (Some clocks) op act old new memory done = IsPrivate op act clocks new memory done
CarriesOut None op act old new memory done = new ≡ old

-- in this memory a sample ends with these registers and these bytes written, neither stopped nor halted, with no trace
-- pending, and takes these clocks
pub record EndsPrivately (sample : Memory → Result Ended Stop) (clocks : ℕ) (regs : Regs) (written : List (ℕ × ℕ)) (memory : Memory) : Type 0 where
  pub ended : Ended
  pub ends : sample memory ≡ Ok ended
  pub leaves : ended.regs ≡ regs
  pub writes : ended.writes ≡ written
  pub stopped : ended.stopped ≡ false
  pub halted : ended.halted ≡ false
  pub trace : ended.trace ≡ false
  pub takes : clocks ≡ clocks_of ended.op ended.spent

-- in this memory a sample waits for this access, and results in what is predicted
pub record WaitsPrivately (sample : Memory → Result Ended Stop) (request : Request68) (predicted : Predicted) (memory : Memory) : Type 0 where
  pub asks : sample memory ≡ Err (Ask request)
  pub ends : EndsPredicted (steps.Need request) predicted sample memory

-- a sample that ended, in these clocks, or that waits; else, and where it waits, the registers stay
abbrev pub RunsPrivately : Option PrivateStep → Predicted → (Memory → Result Ended Stop) → Regs → Regs → List (ℕ × ℕ) → Memory → Type 0
RunsPrivately (Some (privates.Done clocks)) predicted sample old new written memory = EndsPrivately sample clocks new written memory
RunsPrivately (Some (privates.Need request)) predicted sample old new written memory = WaitsPrivately sample request predicted memory × (new ≡ old)
RunsPrivately None predicted sample old new written memory = new ≡ old
