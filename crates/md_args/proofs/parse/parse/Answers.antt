use Rattle.std.proofs.Common.{◌≡◌, [], ap, map, string_bytes, Some}
use Rattle.clap.specs.Faults.{fault_of}
use Rattle.clap.specs.Simple.{app_of}
use Rattle.clap.proofs.WalkLemmas.{both}
use Rattle.md_args.proofs.parse.parse.Goals as goal

pub returns-in-Ok : goal.returns-in-Ok
returns-in-Ok c simple =
    let fine : fault_of (app_of c.args.command) (map string_bytes c.args.words.now) ≡ [] = c.in-Ok.ensures.kinds simple in
    rw (fine) (ap Some (c.in-Ok.ensures.matches (both _ _ simple).0).0)
