use Rattle.m68k_exec.proofs.Bounds.Steps.{step_names_instruction, step_spends_rightly, step_waits_below}
use Rattle.m68k_exec.proofs.sample.predict.Goals as goal

pub returns-clause-waits : goal.returns-clause-waits
returns-clause-waits c = step_waits_below c.run.new.step _ _ _ _ _ c.run.ensures.value

pub returns-clause-spent : goal.returns-clause-spent
returns-clause-spent c = step_spends_rightly c.run.new.step _ _ _ _ _ c.run.ensures.value

pub returns-clause-instruction : goal.returns-clause-instruction
returns-clause-instruction c = step_names_instruction c.run.new.step _ _ _ _ _ c.run.ensures.value c.run.ensures.instruction
