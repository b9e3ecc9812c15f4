use Rattle.std.proofs.Common.{◌≡◌, ◌∙◌, ℕ, List, ap, sym, subst, inl, true}
use Rattle.std.specs.Arc.{arc_value}
use Rattle.save_state.specs.Faults.{HasForm}
use Rattle.save_state.specs.OldPads.{HasPads}
use Rattle.save_state.specs.Layout.{digest_part, part_of}
use Rattle.save_state.specs.Refusals.{FieldFailsBack}
use Rattle.save_state.specs.States.{IsNewest}
use Rattle.save_state.specs.Versions.{IsInvalidAt, migrated}
use Rattle.save_state.proofs.VersionLaws.{form_of, form_invalid, only_of, same_digest, state_own, unversioned, invalid_of}
use Rattle.save_state.proofs.reading.read_with.Goals as goal

pub returns-in-Err-clause-only : goal.returns-in-Err-clause-only
returns-in-Err-clause-only c = λ start s pads n. absurd (unversioned s.version c.args.bytes.now c.in-Err.place c.in-Err.ensures.none s.has)

pub returns-in-Err-clause-form : goal.returns-in-Err-clause-form
returns-in-Err-clause-form c = λ place e.
    let same : c.in-Err.place ≡ place = cc in
    subst (IsInvalidAt (arc_value c.args.cart) c.args.bytes.now) same (inl c.in-Err.ensures.none)

pub returns-then-not-is_same-clause-only : goal.returns-then-not-is_same-clause-only
returns-then-not-is_same-clause-only c = λ start s pads n.
    let yes : c.is_same.result ≡ true = c.is_same.ensures.1 (c.digest_at-kept.ensures ∙ state_own (arc_value c.args.cart) c.args.bytes.now start s ∙ sym c.requires) in
    let no = c.if-not-is_same.true in
    absurd cc

pub read_newest-requires-clause-form : goal.read_newest-requires-clause-form
read_newest-requires-clause-form c =
    subst HasForm (sym (c.newest_of.ensures ∙ c.in-Ok-migrated.ensures)) (form_of c.in-Ok.version c.args.bytes.now c.in-Ok.ensures.version)

pub read_newest-requires-clause-own : goal.read_newest-requires-clause-own
read_newest-requires-clause-own c =
    ap (part_of digest_part) (c.newest_of.ensures ∙ c.in-Ok-migrated.ensures) ∙ same_digest c.in-Ok.version c.args.bytes.now c.in-Ok.ensures.version
    ∙ sym c.digest_at-kept.ensures ∙ c.is_same.ensures.0 c.if-not-is_same.false ∙ c.requires

pub returns-in-Ok-migrated-clause-only : goal.returns-in-Ok-migrated-clause-only
returns-in-Ok-migrated-clause-only c = λ start s pads n.
    let cart = arc_value c.args.cart in
    let same : c.newest_of.result.now ≡ migrated c.in-Ok.version c.args.bytes.now = c.newest_of.ensures ∙ c.in-Ok-migrated.ensures in
    let newest = only_of c.in-Ok.version cart c.args.bytes.now start c.in-Ok.ensures.version s in
    c.read_newest.ensures.only start
    (subst (HasPads c.in-Ok.version) (sym same) newest.0) (subst (λ (l : List ℕ). IsNewest cart l start) (sym same) newest.1) pads n

pub returns-in-Ok-migrated-clause-form : goal.returns-in-Ok-migrated-clause-form
returns-in-Ok-migrated-clause-form c = λ place e.
    let cart = arc_value c.args.cart in
    let same : c.newest_of.result.now ≡ migrated c.in-Ok.version c.args.bytes.now = c.newest_of.ensures ∙ c.in-Ok-migrated.ensures in
    form_invalid c.in-Ok.version cart c.args.bytes.now place c.in-Ok.ensures.version
    (subst (λ (l : List ℕ). FieldFailsBack c.in-Ok.version cart l place) same (c.read_newest.ensures.form place e))

pub returns-in-Ok-migrated-clause-invalid : goal.returns-in-Ok-migrated-clause-invalid
returns-in-Ok-migrated-clause-invalid c = λ place w n.
    let cart = arc_value c.args.cart in
    let same : c.newest_of.result.now ≡ migrated c.in-Ok.version c.args.bytes.now = c.newest_of.ensures ∙ c.in-Ok-migrated.ensures in
    c.read_newest.ensures.invalid place
    (subst (λ (l : List ℕ). FieldFailsBack c.in-Ok.version cart l place) (sym same) (invalid_of c.in-Ok.version cart c.args.bytes.now place c.in-Ok.ensures.version w)) n
