use Rattle.std.proofs.Common.{ap, ◌∙◌, arith, refl, slice_set, subst, sym, vec_capacity}
use Rattle.std.specs.Fn.{FnOnceReturnsAtMut}
use Rattle.std.proofs.lemmas.List.{get_or_read}
use Rattle.chip_core.specs.Cores.{CoreValue, IsStandIn, chip_in}
use Rattle.chip_core.proofs.Lists.{core_value}
use Rattle.chip_core.proofs.Parts.{stood-in}
use Rattle.chip_core.proofs.scheduler.Core.change.Given.{Over}
use Rattle.chip_core.proofs.scheduler.Core.change.Goals as goal

-- the fields as they were
abbrev before : (g : Over) → goal.After-self-1 g → CoreValue g.row.C-Chip.Denot g.row.C-Shared.Denot
before g c = core_value g.C.ChipSet.rules c.self.inside.shared c.self.inside.chips.items c.self.inside.bounds.items c.self.inside.journal.items (vec_capacity c.self.inside.journal)

gave : (g : Over) (c : goal.After-self-1 g) → FnOnceReturnsAtMut g.F.FnOnce c.args.change (chip_in g.C.ChipSet.rules c.args.self.now.chips c.args.number) tt c.change.new.arg2
gave g c = record {
  shown = _;
  shows = get_or_read c.self.inside.chips.items c.args.number c.index_mut.result.now (omega (arith, c.requires.number, c.self.invariant.shape.chip_count)) c.index_mut.ensures.value g.C.ChipSet.rules.blank
      ∙ ap (λ (v : CoreValue g.row.C-Chip.Denot g.row.C-Shared.Denot). chip_in g.C.ChipSet.rules v.chips c.args.number) c.self.view_is;
  left = _;
  met = c.change.ensures;
  leaves = refl;
}

pub invariant_of-self : goal.invariant_of-self
invariant_of-self g c =
    stood-in g.C.ChipSet.rules g.C.ChipSet.chip_ok g.C.ChipSet.shared_ok (before g c) c.self.invariant c.args.number c.requires.number c.change.new.arg2
    (subst (λ (v : CoreValue g.row.C-Chip.Denot g.row.C-Shared.Denot). IsStandIn g.C.ChipSet.rules g.C.ChipSet.chip_ok (chip_in g.C.ChipSet.rules v.chips c.args.number) c.change.new.arg2)
    (sym c.self.view_is) (c.requires.kept c.change.new.arg2 (gave g c)))

pub returns : goal.returns
returns g c =
    (c.change.new.arg2, gave g c, ap (λ (v : CoreValue g.row.C-Chip.Denot g.row.C-Shared.Denot). record v { chips = slice_set v.chips c.args.number c.change.new.arg2 }) c.self.view_is)
