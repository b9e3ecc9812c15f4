use Rattle.std.proofs.Common.{ℕ, [], subst, sym, Option, Some}
use Rattle.chip_core.specs.Cores.{CoreValue}
use Rattle.bus_shared.specs.Board.{Board}
use Rattle.md_chips.specs.Machines.{IsMachine}
use Rattle.md_chips.specs.declared.chips.Chip.{Chip}
use Rattle.md_machine.specs.declared.machine.Machine.TheInside.{Inside}
use Rattle.md_machine.proofs.machine.Machine.clear_journal.Goals.{in-Some, in_default}
use Rattle.md_machine.proofs.machine.Machine.clear_journal.Goals as goal

-- the journal has no part in what holds of a machine
cleared : (at : ℕ) (core : CoreValue Chip Board) → IsMachine at (Some core) → IsMachine at (Some (record core { journal = [] }))
cleared at core is = record {
  has_core = is.has_core;
  valid = record { shape = is.valid.shape; shared = is.valid.shared; chip = is.valid.chip };
  region = is.region;
  room = is.room;
  quiet = is.quiet;
}

pub invariant_of-self : goal.invariant_of-self
invariant_of-self c =
    elim c.match-self.branch [
      | in-Some w ↦
          (let before : IsMachine c.self.inside.at (Some w.in-Some.core) = subst (λ (o : Option (CoreValue Chip Board)). IsMachine c.self.inside.at o) w.in-Some.is c.self.invariant in
          let after : IsMachine c.self.inside.at (Some w.clear_journal.new.self) =
          subst (λ (core : CoreValue Chip Board). IsMachine c.self.inside.at (Some core)) (sym w.clear_journal.ensures) (cleared c.self.inside.at w.in-Some.core before) in
          subst (λ (i : Inside). IsMachine i.at i.core) (sym w.self-inside-is) after)
      | in_default w ↦ subst (λ (i : Inside). IsMachine i.at i.core) (sym w.self-inside-is) c.self.invariant
    ]
