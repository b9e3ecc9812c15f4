use Rattle.std.proofs.Common.{◌≡◌, ◌∙◌, subst, ℕ, List}
use Rattle.md_args.specs.Shown.{shown_assembling}
use Rattle.md_asm.specs.Assembly.{Done, assembly}
use Rattle.md_asm.specs.Seen.{image_seen, lines_seen}
use Rattle.md_asm.specs.declared.placed.Placed.{Placed}
use Rattle.asm_laws.specs.Lines.{SaysLines}
use Rattle.asm_laws.specs.Fitting.{FitsLines}
use Rattle.file_commands.proofs.Files.{found_in, leaves, left_by}
use Rattle.file_commands.proofs.assembling.assemble_file.Goals as goal

pub returns-in-Ok-list_of-clause-files : goal.returns-in-Ok-list_of-clause-files
returns-in-Ok-list_of-clause-files g c = λ t.
    leaves (shown_assembling c.args.words.now) (g.D.Depot.state c.args.depot.now).files (g.D.Depot.state c.fetch.new.self).files
    (g.D.Depot.state c.write_both.new.depot).files (g.D.Depot.state c.fetch.new.self) (g.D.Depot.state c.write_both.new.depot)
    (image_seen c.in-Ok-assemble.assembled) c.as_bytes.result.now (lines_seen c.in-Ok-assemble.assembled) c.write_both.result
    (subst (λ (image : List ℕ). (bytes : List ℕ) (placed : List Placed) → assembly bytes ≡ Done image placed → SaysLines bytes image placed) c.image-image.ensures c.image_says_its_lines.ensures)
    (subst (λ (image : List ℕ). (bytes : List ℕ) (placed : List Placed) → assembly bytes ≡ Done image placed → FitsLines bytes) c.image-image.ensures c.numbers_are_in_range.ensures)
    c.instructions_are_kept.ensures (c.in-Ok.ensures.files t)
    (found_in (g.D.Depot.state c.args.depot.now).files (shown_assembling c.args.words.now) c.in-Ok.source.items c.as_slice.result.now (image_seen c.in-Ok-assemble.assembled) (lines_seen c.in-Ok-assemble.assembled)
    (c.in-Ok.ensures.bytes t) c.in-Ok.ensures.within c.as_slice.ensures.value c.in-Ok-assemble.ensures.done)
    (c.as_bytes.ensures.value ∙ c.in-Ok-list_of.ensures ∙ left_by c.image-image.result.now c.lines.result.now c.image-image.ensures c.lines.ensures)
    (rw c.image-image.ensures at c.write_both.ensures.cause) (rw c.image-image.ensures at (c.write_both.ensures.files t))
