use Rattle.std.proofs.Common.{◌∙◌, sym}
use Rattle.md_chips.proofs.Advances.{performed-cycle, performed-fits, performed-kind, performed-line, performed-reported, performed-view}
use Rattle.md_chips.proofs.set.MdChipsChipSet.advance.Goals as goal

pub advance-requires-clause-fits : goal.advance-requires-clause-fits
advance-requires-clause-fits c = performed-fits c.requires.before c.requires.shared c.requires.due.shared c.in-Main.main (sym c.in-Main.is ∙ c.requires.is)

pub advance-requires-in-Sub-clause-access : goal.advance-requires-in-Sub-clause-access
advance-requires-in-Sub-clause-access c = performed-kind c.requires.before c.requires.shared c.in-Sub.sub (sym c.in-Sub.is ∙ c.requires.is) c.requires.due.kind

pub advance-requires-in-Sub-clause-cycle : goal.advance-requires-in-Sub-clause-cycle
advance-requires-in-Sub-clause-cycle c = performed-cycle c.requires.before c.requires.shared c.in-Sub.sub (sym c.in-Sub.is ∙ c.requires.is) c.requires.due.cycle

pub advance-requires-in-Sub-clause-fits : goal.advance-requires-in-Sub-clause-fits
advance-requires-in-Sub-clause-fits c =
    performed-reported c.requires.before c.requires.shared c.requires.due.chip c.requires.due.shared c.in-Sub.sub (sym c.in-Sub.is ∙ c.requires.is)

pub advance-requires-in-Renderer-clause-view : goal.advance-requires-in-Renderer-clause-view
advance-requires-in-Renderer-clause-view c = performed-view c.requires.before c.requires.shared c.in-Renderer.renderer (sym c.in-Renderer.is ∙ c.requires.is)

pub advance-requires-in-Renderer-clause-cycle : goal.advance-requires-in-Renderer-clause-cycle
advance-requires-in-Renderer-clause-cycle c = performed-line c.requires.before c.requires.shared c.in-Renderer.renderer (sym c.in-Renderer.is ∙ c.requires.is) c.requires.due.cycle
