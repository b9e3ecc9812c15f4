use Rattle.std.proofs.Common.{ℕ, List, subst, ◌∙◌}
use Rattle.md_fields.specs.Places.{IsBytes}
use Rattle.m68k_chip.specs.Validity.{Chip68Value, IsChip68}
use Rattle.z80_chip.specs.Validity.{Chip80Value, IsChip80}
use Rattle.bus_shared.specs.Board.{Board, IsBoard}
use Rattle.machine_laws.proofs.processors.valid_machine.Goals as goal

pub returns : goal.returns
returns c = record {
  main = subst (λ (v : Chip68Value). IsChip68 v) c.main_chip.ensures c.next.ensures.valid;
  sub = subst (λ (v : Chip80Value). IsChip80 v) c.sub_chip.ensures c.next-2.ensures.valid;
  shared = subst (λ (b : Board). IsBoard b) c.shared.ensures c.known.ensures;
  cart = subst (λ (l : List ℕ). IsBytes l) (c.bytes.ensures.value ∙ c.cart.ensures) c.known_bytes.ensures;
}
