use Rattle.md_top.proofs.laws.program_laws.Goals as goal

pub returns : goal.returns
returns c = record {
  pads = c.pads_are_recorded.ensures;
  frames = c.frames_counted.ensures;
  levels = c.samples_counted.ensures.levels;
  debug = c.debug_laws.ensures;
  rollback = c.rollback_laws.ensures;
}
