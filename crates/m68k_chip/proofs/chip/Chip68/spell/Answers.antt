use Rattle.std.proofs.Common.{◌++◌, List, ℕ, true, ap, ◌∙◌, arith}
use Rattle.md_fields.specs.Fields.{spelling, sizes}
use Rattle.md_fields.proofs.Standing.{long_as_sized}
use Rattle.m68k_chip.specs.Numbers.{Numbers68, numbers_of}
use Rattle.m68k_chip.specs.Saved.{fields_by}
use Rattle.m68k_chip.specs.Validity.{Chip68Value}
use Rattle.m68k_chip.specs.Spelling.{chip_bytes}
use Rattle.m68k_chip.specs.States.{state_of}
use Rattle.m68k_chip.proofs.SpellingLaws.{fields_size, same_bytes}
use Rattle.m68k_chip.proofs.chip.Chip68.spell.Goals as goal

pub put-requires : goal.put-requires
put-requires c = omega (arith, long_as_sized _ c.fields.ensures.sizes ∙ ap sizes c.fields.ensures.fields ∙ fields_size c.args.at true c.of.result, c.requires)

pub returns-clause-bytes : goal.returns-clause-bytes
returns-clause-bytes c =
    c.put.ensures.bytes
    ∙ ap (λ (l : List ℕ). c.args.into.now.items ++ l) (
    ap spelling c.fields.ensures.fields ∙ same_bytes c.args.at 0 true true c.of.result
    ∙ ap (λ (n : Numbers68). spelling (fields_by 0 true n)) (c.of.ensures ∙ ap (λ (r : List ℕ). numbers_of (state_of c.self.inside.sequencer r)) c.deref.ensures)
    ∙ ap (λ (v : Chip68Value). chip_bytes v.state) c.self.view_is)

pub returns-clause-kept : goal.returns-clause-kept
returns-clause-kept c = c.is_read_again.ensures c.args.at

pub returns-clause-length : goal.returns-clause-length
returns-clause-length c = omega (arith, c.put.ensures.length, long_as_sized _ c.fields.ensures.sizes ∙ ap sizes c.fields.ensures.fields ∙ fields_size c.args.at true c.of.result)
