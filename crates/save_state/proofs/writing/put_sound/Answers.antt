use Rattle.std.proofs.Common.{◌≡◌, ◌++◌, ℕ, List, ap, ◌∙◌}
use Rattle.std.specs.Int.{w64, to_be_bytes}
use Rattle.fm_chip.specs.Synth as fm_synths
use Rattle.fm_chip.specs.SynthSpelling as fm
use Rattle.psg_sound.specs.Synth as psg_synths
use Rattle.psg_sound.specs.SynthSpelling as psg
use Rattle.md_chips.specs.Console.{Console}
use Rattle.md_chips.specs.Starts as starts
use Rattle.save_state.specs.Layout.{fm_port_there, lines_there, part_of, psg_port_there}
use Rattle.save_state.proofs.WriteLaws.{seven}
use Rattle.save_state.proofs.writing.put_sound.Goals as goal

pub returns-clause-bytes : goal.returns-clause-bytes
returns-clause-bytes c =
    let m : Console = c.args.machine.now.console in
    let rest : List ℕ = c.args.following.now in
    let next : List ℕ = to_be_bytes w64 (starts.first_batch c.args.machine.now.at) in
    let batch : c.to_be_bytes-batch.result ≡ next = c.to_be_bytes-batch.ensures ∙ ap (to_be_bytes w64) (c.first_batch.ensures ∙ ap starts.first_batch c.at-at.ensures) in
    seven c.args.into.now.items (part_of fm_port_there rest) next (fm.synth_bytes m.fm) next (part_of psg_port_there rest) (psg.synth_bytes m.psg) (part_of lines_there rest)
    c.put_part.new.into.items c.put_bytes.new.into.items c.spell.new.into.items c.put_bytes-2.new.into.items c.put_part-2.new.into.items c.spell-2.new.into.items c.put_part-3.new.into.items
    c.put_part.ensures.bytes
    (c.put_bytes.ensures.bytes ∙ ap (λ (x : List ℕ). c.put_part.new.into.items ++ x) batch)
    (c.spell.ensures.bytes ∙ ap (λ (x : fm_synths.Synth). c.put_bytes.new.into.items ++ fm.synth_bytes x) c.fm.ensures)
    (c.put_bytes-2.ensures.bytes ∙ ap (λ (x : List ℕ). c.spell.new.into.items ++ x) batch)
    c.put_part-2.ensures.bytes
    (c.spell-2.ensures.bytes ∙ ap (λ (x : psg_synths.Synth). c.put_part-2.new.into.items ++ psg.synth_bytes x) c.psg.ensures)
    c.put_part-3.ensures.bytes
