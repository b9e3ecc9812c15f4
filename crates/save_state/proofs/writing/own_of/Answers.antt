use Rattle.std.proofs.Common.{Bool, [], if◌then◌else◌, drop, sym, ap, ◌∙◌}
use Rattle.std.proofs.lemmas.List.{take_rest}
use Rattle.save_state.proofs.writing.own_of.Goals as goal
use Rattle.z80_chip.specs.Spelling.{ram_offset}

pub returns-else-has : goal.returns-else-has
returns-else-has c = take_rest c.args.sub.now ram_offset ∙ ap (λ (b : Bool). if b then [] else drop ram_offset c.args.sub.now) (sym c.if-has.false)
