use Rattle.std.proofs.Common.{ap, ◌∙◌, ◌++◌, lit<}
use Rattle.md_chips.specs.Drained.{levels_of, sides_of}
use Rattle.md_chips.specs.Machines.{MachineValue}
use Rattle.md_machine.specs.Outputs.{mixed_bytes, sound_bytes}
use Rattle.md_chips.proofs.Held.{read-chip}
use Rattle.md_machine.proofs.machine.Machine.drain_pairs.Goals as goal

pub returns-clause-bytes : goal.returns-clause-bytes
unfolding sound_bytes
returns-clause-bytes c =
    let v = c.core.result.now in
    let levels = c.levels_in.ensures
    ∙ ap levels_of (read-chip v c.chips-chips.result.now 4 c.index-chips-4.result c.core.ensures.core c.chips-chips.ensures.value (lit< tt) c.index-chips-4.is)
    ∙ ap (λ (v : MachineValue). v.media.levels) c.core.ensures.value in
    let sides = c.sides_in.ensures
    ∙ ap sides_of (read-chip v c.chips-chips.result.now 3 c.index-chips-3.result c.core.ensures.core c.chips-chips.ensures.value (lit< tt) c.index-chips-3.is)
    ∙ ap (λ (v : MachineValue). v.media.sides) c.core.ensures.value in
    c.put_pairs.ensures.bytes
    ∙ ap (λ l. c.args.into.now.items ++ mixed_bytes l c.sides_in.result.now) levels
    ∙ ap (λ l. c.args.into.now.items ++ mixed_bytes c.args.self.now.media.levels l) sides
