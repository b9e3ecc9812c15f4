use Rattle.std.proofs.Common.{◌≡◌, ◌∙◌, ◌++◌, ℕ, List, ap, sym, append_assoc}
use Rattle.md_fields.specs.Fields.{Field, spelling}
use Rattle.md_fields.proofs.Tables.{spelling_append}
use Rattle.fm_chip.specs.SynthSpelling.{fields1, fields2, fields3, fields4, fields5, fields6, four_fields, head_fields, last_fields, synth_fields}
use Rattle.fm_chip.proofs.saved_synth.SavedSynth.put.Goals as goal

-- what is after a part is after what was before it
grow : (old new : List ℕ) (part rest : List Field) → new ≡ old ++ spelling part → new ++ spelling rest ≡ old ++ spelling (part ++ rest)
grow old new part rest e =
    ap (λ (l : List ℕ). l ++ spelling rest) e ∙ append_assoc old (spelling part) (spelling rest) ∙ ap (λ (l : List ℕ). old ++ l) (sym (spelling_append part rest))

pub returns-clause-bytes : goal.returns-clause-bytes
unfolding synth_fields
returns-clause-bytes c =
    let s = c.args.self.now in
    c.put_last.ensures.bytes
    ∙ grow _ _ (four_fields s.four6) (last_fields s) c.put-6.ensures.bytes
    ∙ grow _ _ (four_fields s.four5) (fields6 s) c.put-5.ensures.bytes
    ∙ grow _ _ (four_fields s.four4) (fields5 s) c.put-4.ensures.bytes
    ∙ grow _ _ (four_fields s.four3) (fields4 s) c.put-3.ensures.bytes
    ∙ grow _ _ (four_fields s.four2) (fields3 s) c.put-2.ensures.bytes
    ∙ grow _ _ (four_fields s.four1) (fields2 s) c.put.ensures.bytes
    ∙ grow _ _ (head_fields s) (fields1 s) c.put_head.ensures.bytes
