use Rattle.std.proofs.Common.{◌≡◌, pos, refl, to_z, of_z, w32, arith}
use Rattle.std.proofs.lemmas.Int.{ints}
use Rattle.fm_voice.specs.Channel.{last_at}
use Rattle.fm_chip.proofs.Quiet.{quiet-heard, quiet-sounded}
use Rattle.fm_chip.proofs.channels.Channel.sound.Goals as goal

pub returns-then-is_silent-clause-value : goal.returns-then-is_silent-clause-value
returns-then-is_silent-clause-value c =
    quiet-heard c.args.registers.now c.args.t c.args.number c.args.self.now (c.if-is_silent.ensures {u = tt} refl)

pub returns-then-is_silent-clause-after : goal.returns-then-is_silent-clause-after
returns-then-is_silent-clause-after c =
    let newer = c.requires.channel.last 1 (pos 0) (let pair = c.requires.channel.pair in omega (arith, pair)) in
    let n : to_z w32 (of_z w32 (last_at c.args.self.now.last 1)) ≡ last_at c.args.self.now.last 1 = omega (arith, ints, newer.0, newer.1) in
    quiet-sounded c.args.registers.now c.args.t c.args.number c.args.self.now _ (c.if-is_silent.ensures {u = tt} refl) n
