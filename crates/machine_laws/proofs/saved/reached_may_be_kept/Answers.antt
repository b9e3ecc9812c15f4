use Rattle.machine_laws.proofs.saved.reached_may_be_kept.Goals as goal

pub returns : goal.returns
returns c = λ at m begun near reached. record {
  begun = begun;
  near = near;
  start = reached.start;
  main = reached.processors.main;
  sub = reached.processors.sub;
  one_cart = reached.processors.one_cart;
  one_owner = reached.processors.one_owner;
  shared = c.board_may_be_kept.ensures at m reached.video reached.lines reached.timers reached.writes;
  renderer_state = c.renderer_state_may_be_kept.ensures.ready at m reached.video reached.start.quiet;
  resets = reached.processors.resets;
  fm_writes = reached.writes.fm_early;
  psg_writes = reached.writes.psg_early;
}
