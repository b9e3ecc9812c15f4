use Rattle.std.proofs.Common.{◌≡◌, ◌∙◌, ℕ, Option}
use Rattle.md_fields.specs.Fields.{or_else}
use Rattle.fm_chip.proofs.SynthBytes.{invalid_is}
use Rattle.fm_chip.proofs.saved_synth.SavedSynth.invalid.Goals as goal

both : {r a b x y : Option ℕ} → r ≡ or_else a b → a ≡ x → b ≡ y → r ≡ or_else x y
both e p q = e ∙ (λ i. or_else (p i) (q i))

pub returns : goal.returns
returns c =
    both c.first_of.ensures c.head_invalid.ensures
    (both c.first_of-from1.ensures c.invalid_at-6.ensures
    (both c.first_of-from2.ensures c.invalid_at-5.ensures
    (both c.first_of-from3.ensures c.invalid_at-4.ensures
    (both c.first_of-from4.ensures c.invalid_at-3.ensures
    (both c.first_of-from5.ensures c.invalid_at-2.ensures
    (both c.first_of-from6.ensures c.invalid_at.ensures c.last_invalid.ensures))))))
    ∙ invalid_is c.args.self.now
