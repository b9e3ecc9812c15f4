use Rattle.std.proofs.Common.{refl, sym, inl, inr, ap, ◌∙◌, arith}
use Rattle.md_outer.proofs.HeldFiles.{held-some, left-part}
use Rattle.md_outer.specs.Begun.{begun_names, files_of}
use Rattle.md_outer.specs.Listed.{listed_files}
use Rattle.md_outer.specs.Numbers.{over}
use Rattle.md_outer.proofs.mem_depot.MemDepotDepot.append.Goals as goal

pub returns-then-next_fails-clause-part : goal.returns-then-next_fails-clause-part
returns-then-next_fails-clause-part c = λ name at.
    let begun = c.args.self.now.begun in
    left-part (files_of begun) (listed_files c.args.self.now.given.items) _ name c.args.piece.now
    (held-some (begun_names begun) begun.buffers.items c.args.file name begun.names.apart (sym begun.buffers.ok.0 ∙ begun.numbered) at) refl

pub returns-then-not-append-clause-part : goal.returns-then-not-append-clause-part
returns-then-not-append-clause-part c = λ name at.
    let begun = c.args.self.now.begun in
    left-part (files_of begun) (listed_files c.args.self.now.given.items) _ name c.args.piece.now
    (held-some (begun_names begun) begun.buffers.items c.args.file name begun.names.apart (sym begun.buffers.ok.0 ∙ begun.numbered) at)
    (ap (λ files. over files (listed_files c.args.self.now.given.items)) c.if-not-append.ensures.left)

pub returns-clause-appended : goal.returns-clause-appended
returns-clause-appended c = λ name at. c.if-not-append.ensures.added name (listed_files c.args.self.now.given.items) at

pub returns-then-not-append-clause-fails : goal.returns-then-not-append-clause-fails
returns-then-not-append-clause-fails c = λ name at.
    ((λ failed. inr (c.if-not-append.ensures.too_long name (listed_files c.args.self.now.given.items) at)), (λ cause. refl))

pub returns-clause-fails : goal.returns-clause-fails
returns-clause-fails c = λ name at.
    let fits = c.if-not-append.ensures.fits name (listed_files c.args.self.now.given.items) at in
    ((λ failed. inl (cc)), (λ cause. elim cause [ inl bad ↦ c.if-next_fails.ensures.fails.1 bad | inr more ↦ absurd (omega (arith, fits, more)) ]))
