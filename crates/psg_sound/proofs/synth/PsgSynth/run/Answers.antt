use Rattle.std.proofs.Common.{◌≡◌, ◌∙◌, sym, ◌+◌, ◌-◌, ◌*◌, arith}
use Rattle.md_word.specs.Clock.{psg_tick}
use Rattle.psg_sound.specs.Batches.{AreDueFrom}
use Rattle.psg_sound.proofs.Ticks.{ticks-alone}
use Rattle.psg_sound.proofs.synth.PsgSynth.run.Goals as goal

pub returns-else-is_due : goal.returns-else-is_due
returns-else-is_due c =
    let count : psg_tick * c.args.to ≡ psg_tick * (c.args.from + (c.args.to - c.args.from)) = omega (arith, c.requires.forward) in
    let none = c.is_due.ensures c.if-is_due.false in
    let later : AreDueFrom (psg_tick * (c.args.from + (c.args.to - c.args.from))) c.args.writes.now = λ s at h. none s at (omega (arith, h, count)) in
    (λ i. record { chip = c.pass.ensures i; rest = c.args.writes.now })
    ∙ sym (ticks-alone c.args.from (c.args.to - c.args.from) c.args.self.now c.args.writes.now later)
