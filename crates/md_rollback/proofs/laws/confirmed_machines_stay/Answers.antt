use Rattle.std.proofs.Common.{subst, sym, List}
use Rattle.md_pads.specs.Recording.{Frame}
use Rattle.md_rollback.specs.Played.{IsMachineOf}
use Rattle.md_rollback.proofs.laws.confirmed_machines_stay.Goals as goal

pub returns : goal.returns
returns c = λ cart local remote more_local more_remote confirmed frames machine is within one two made.
    subst (λ (r : List Frame). IsMachineOf cart r frames machine) (sym (c.confirmed_frames_stay.ensures local remote more_local more_remote confirmed frames is within one two)) made
