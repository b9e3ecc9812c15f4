use Rattle.std.proofs.Common.{◌++◌, List, ℕ, false, ap, ◌∙◌, arith}
use Rattle.md_fields.specs.Fields.{spelling, sizes}
use Rattle.md_fields.proofs.Standing.{long_as_sized}
use Rattle.vdp_ports.specs.Numbers.{VdpNumbers}
use Rattle.vdp_ports.specs.Saved.{vdp_fields}
use Rattle.vdp_ports.proofs.SavedLaws.{fields_size, same_bytes}
use Rattle.vdp_ports.proofs.RuleLaws.{spelled_back}
use Rattle.vdp_ports.proofs.state.VdpState.spell.Goals as goal

pub put-requires : goal.put-requires
put-requires c = omega (arith, long_as_sized _ c.fields.ensures.sizes ∙ ap sizes c.fields.ensures.fields ∙ fields_size c.args.at c.self.inside.pal c.of.result, c.requires)

pub returns-clause-bytes : goal.returns-clause-bytes
returns-clause-bytes c = c.put.ensures.bytes ∙ ap (λ (l : List ℕ). c.args.into.now.items ++ l) (ap spelling c.fields.ensures.fields ∙ same_bytes c.args.at 0 c.self.inside.pal false c.of.result ∙ ap (λ (n : VdpNumbers). spelling (vdp_fields 0 false n)) c.of.ensures)

pub returns-clause-length : goal.returns-clause-length
returns-clause-length c = omega (arith, c.put.ensures.length, long_as_sized _ c.fields.ensures.sizes ∙ ap sizes c.fields.ensures.fields ∙ fields_size c.args.at c.self.inside.pal c.of.result)

pub returns-clause-kept : goal.returns-clause-kept
returns-clause-kept c = λ is. spelled_back c.args.at c.args.self.now c.known.ensures is
