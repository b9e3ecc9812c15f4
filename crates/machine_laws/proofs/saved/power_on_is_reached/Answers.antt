use Rattle.machine_laws.proofs.saved.power_on_is_reached.Goals as goal

pub returns : goal.returns
returns c = λ recording pal buttons. record {
  start = c.power_on_is_start.ensures c.args.cart.now recording pal;
  parts = c.parts_start_valid.ensures recording pal;
  processors = c.processors_at_power_on.ensures recording pal 0;
  video = c.video_at_power_on.ensures c.args.cart.now recording pal 0;
  lines = c.lines_at_power_on.ensures c.args.cart.now recording pal 0 buttons;
  writes = c.power_on_has_writes.ensures c.args.cart.now recording pal 0;
  timers = c.power_on_has_timers.ensures c.args.cart.now recording pal 0;
}
