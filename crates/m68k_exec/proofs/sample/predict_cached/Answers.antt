use Rattle.m68k_exec.proofs.Bounds.Steps.{step_names_instruction, step_spends_rightly, step_waits_below}
use Rattle.m68k_exec.proofs.sample.predict_cached.Goals as goal

pub returns-clause-waits : goal.returns-clause-waits
returns-clause-waits c = step_waits_below c.run_cached.new.step _ _ _ _ _ c.run_cached.ensures.value

pub returns-clause-spent : goal.returns-clause-spent
returns-clause-spent c = step_spends_rightly c.run_cached.new.step _ _ _ _ _ c.run_cached.ensures.value

pub returns-clause-instruction : goal.returns-clause-instruction
returns-clause-instruction c = step_names_instruction c.run_cached.new.step _ _ _ _ _ c.run_cached.ensures.value c.run_cached.ensures.instruction
