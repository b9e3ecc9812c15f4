use Rattle.std.proofs.Common.{◌≡◌, length, rules, subst}
use Rattle.std.specs.Prelude.{All}
use Rattle.fm_chip.specs.Channels.{AreAtRest}
use Rattle.fm_chip.proofs.Idle.{sides-idle}
use Rattle.fm_chip.proofs.synth.FmSynth.rest.Goals.{then-k-eq0, else-k-eq0}
use Rattle.fm_chip.proofs.synth.FmSynth.rest.Goals as goal

pub rest_all-requires-clause-rest : goal.rest_all-requires-clause-rest
rest_all-requires-clause-rest c =
    let same : c.args.self.now.channels ≡ c.if-k-eq0.self-inside.channels = elim c.if-k-eq0.branch [
      | then-k-eq0 w ↦ search rules
      | else-k-eq0 w ↦ search rules
    ] in
    subst (All AreAtRest) same c.requires.channels

pub returns-clause-sides : goal.returns-clause-sides
returns-clause-sides c =
    let six : length c.args.self.now.channels ≡ 6 = search rules in
    sides-idle c.args.k c.args.self.now six c.requires
