use Rattle.run_command.proofs.laws.states_keep_laws.Goals as goal

pub returns : goal.returns
returns c = record {
  reach = c.runs_reach.ensures;
  ready = c.reached_may_be_kept.ensures;
  goes_on = c.settled_machines_go_on.ensures;
  one_run = c.one_run.ensures;
}
