use Rattle.m68k_exec.proofs.Bounds.KeepsSamples.{asks, status_kept}
use Rattle.m68k_exec.proofs.laws.samples_ask_rightly.Goals as goal

pub returns : goal.returns
returns c = record { status = status_kept; asks = asks }
