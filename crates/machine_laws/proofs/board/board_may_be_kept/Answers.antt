use Rattle.machine_laws.proofs.board.board_may_be_kept.Goals as goal

pub returns : goal.returns
returns c = λ at m video lines timers writes. record {
  vdp = video.rules;
  timers = timers;
  fm = writes.fm;
  psg = writes.psg;
  resets = lines.resets;
  pads = lines.pads;
  falls1 = lines.falls1;
  falls2 = lines.falls2;
}
