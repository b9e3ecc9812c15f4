use Rattle.std.proofs.Common.{ℕ, List, ap, subst, ◌∙◌}
use Rattle.md_fields.specs.Places.{IsBytes}
use Rattle.m68k_chip.specs.Validity.{Chip68Value}
use Rattle.machine_laws.proofs.ProcessorMoves.{saved_has}
use Rattle.machine_laws.proofs.processors.processors_of_states.Goals as goal

pub returns : goal.returns
returns c = λ cart at kept held one other main sub owner resets.
    saved_has cart at kept held c.args.machine.now.console c.valid_machine.ensures
    (subst (λ (l : List ℕ). IsBytes l) (c.ram.ensures ∙ ap (λ (v : Chip68Value). v.state.ram) c.main_chip.ensures) c.known_bytes.ensures)
    one other main sub owner resets
