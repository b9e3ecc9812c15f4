use Rattle.std.proofs.Common.{sym, ◌∙◌}
use Rattle.md_outer.proofs.HeldFiles.{over-append, held-left, on_true, on_false}
use Rattle.md_outer.specs.Begun.{begun_names}
use Rattle.md_outer.proofs.begun.Begun.append.Goals as goal

pub returns-clause-added : goal.returns-clause-added
returns-clause-added c =
    let begun = c.args.self.now in
    on_true c.append.result
    (λ added name back at. over-append (begun_names begun) begun.buffers.items c.args.number c.index_mut.result.now c.append.new.self name c.args.piece.now back begun.names.apart (sym begun.buffers.ok.0 ∙ begun.numbered) at c.index_mut.ensures.value added)
    c.append.ensures.added

pub returns-clause-left : goal.returns-clause-left
returns-clause-left c =
    let begun = c.args.self.now in
    on_false c.append.result
    (λ left. held-left (begun_names begun) begun.buffers.items c.args.number c.index_mut.result.now c.append.new.self c.index_mut.ensures.value left)
    c.append.ensures.left
