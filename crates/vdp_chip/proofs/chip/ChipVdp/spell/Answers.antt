use Rattle.std.proofs.Common.{◌++◌, List, ℕ, false, true, ap, ◌∙◌, arith}
use Rattle.md_fields.specs.Fields.{spelling, sizes}
use Rattle.md_fields.proofs.Standing.{long_as_sized}
use Rattle.vdp_chip.specs.Saved.{RendererStateNumbers, renderer_state_fields, is_picture}
use Rattle.vdp_chip.proofs.SavedLaws.{bytes_by, size_by, spelled_back}
use Rattle.vdp_chip.proofs.chip.ChipVdp.spell.Goals as goal

pub put-requires : goal.put-requires
put-requires c = omega (arith, long_as_sized _ c.fields.ensures.sizes ∙ ap sizes c.fields.ensures.fields ∙ size_by c.args.at true c.saved.result, c.requires)

pub returns-clause-bytes : goal.returns-clause-bytes
returns-clause-bytes c = c.put.ensures.bytes ∙ ap (λ (l : List ℕ). c.args.into.now.items ++ l) (ap spelling c.fields.ensures.fields ∙ bytes_by c.args.at 0 true (is_picture 0 false c.saved.result.picture) c.saved.result ∙ ap (λ (n : RendererStateNumbers). spelling (renderer_state_fields 0 false n)) c.saved.ensures)

pub returns-clause-length : goal.returns-clause-length
returns-clause-length c = omega (arith, c.put.ensures.length, long_as_sized _ c.fields.ensures.sizes ∙ ap sizes c.fields.ensures.fields ∙ size_by c.args.at true c.saved.result)

pub returns-clause-kept : goal.returns-clause-kept
returns-clause-kept c = λ is. spelled_back c.args.at c.args.self.now c.known.ensures.renderer_state c.known.ensures.next is
