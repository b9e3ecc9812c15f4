use Rattle.std.proofs.Common.{◌≡◌, ◌∙◌, pos, to_z, of_z, w32, arith}
use Rattle.std.proofs.lemmas.Int.{ints}
use Rattle.fm_voice.specs.Channel.{last_at}
use Rattle.fm_chip.proofs.Idle.{rest-after, rests-on}
use Rattle.fm_chip.proofs.channels.Channel.rest.Goals as goal

pub returns-clause-after : goal.returns-clause-after
returns-clause-after c =
    let newer = c.requires.channel.last 1 (pos 0) (let pair = c.requires.channel.pair in omega (arith, pair)) in
    let n : to_z w32 (of_z w32 (last_at c.args.self.now.last 1)) ≡ last_at c.args.self.now.last 1 = omega (arith, ints, newer.0, newer.1) in
    λ registers m number e. c.advance.ensures.value ∙ rest-after registers m number c.args.self.now c.args.steps.now _ c.requires.rest n e

pub returns-clause-rest : goal.returns-clause-rest
returns-clause-rest c = rw c.advance.ensures.value (rests-on c.args.self.now c.args.steps.now _ c.requires.rest)
