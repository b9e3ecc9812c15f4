use Rattle.std.proofs.Common.{[], IsOk, arith, ap, sym, ◌∙◌}
use Rattle.md_outer.proofs.HeldFiles.{held-add, over-with_file}
use Rattle.md_outer.specs.Begun.{begun_names, files_of}
use Rattle.md_outer.specs.Numbers.{over}
use Rattle.md_outer.proofs.begun.Begun.add.Goals as goal

pub returns-clause-files : goal.returns-clause-files
returns-clause-files c = λ back.
    let begun = c.args.self.now in
    let pushed : IsOk c.push.result = c.push.ensures.succeeds (omega (arith, begun.taken, begun.few, begun.numbered, c.requires.few)) in
    rw (c.in_ok-number.ensures.added, rw pushed at c.push.ensures.items)
    (ap (λ files. over files back) (held-add (begun_names begun) begun.buffers.items c.in_ok-buffer.buffer c.args.name.now [] c.requires.new (sym begun.buffers.ok.0 ∙ begun.numbered) c.in_ok-buffer.ensures.empty)
    ∙ over-with_file (files_of begun) back c.args.name.now [])
