use Rattle.std.proofs.Common.{ℕ, ltb, inl, inr, sym, ap, ◌∙◌, arith}
use Rattle.std.proofs.lemmas.Bool.{both_ways, eq-eqb, le-ltb, lt-ltb, ne_eqb}
use Rattle.md_fields.specs.Fields.{sizes, first_invalid}
use Rattle.z80_chip.specs.Saved.{number_fields}
use Rattle.z80_chip.proofs.SpellingLaws.{breaks_bank, breaks_number, has_store, number_size, right_numbers, stands_by}
use Rattle.z80_chip.proofs.spelling.checked.Goals as goal
use Rattle.z80_parcel.specs.Parcels.{banks}
use Rattle.z80_chip.proofs.spelling.checked.Goals.{else-bytes-ne-RAM_OFFSET-via-then-bytes-ne-RAM_OFFSET+else-bytes-ne-FULL_SIZE, else-bytes-ne-RAM_OFFSET-via-else-bytes-ne-RAM_OFFSET, else-has-via-then-has+else-u16_at-ge-BANKS, else-has-via-else-has}

pub first_invalid-requires : goal.first_invalid-requires
first_invalid-requires c = omega (arith, ap sizes c.fields.ensures.fields ∙ number_size c.args.at _ c.read-saved.result)

pub returns-in-Some-clause-refused : goal.returns-in-Some-clause-refused
returns-in-Some-clause-refused c = λ cart.
    breaks_number cart c.args.at c.args.bytes.now c.read-saved.result c.in-Some.place (λ i. omega (arith, c.type_inv.bytes i))
    (stands_by c.args.at c.args.bytes.now c.read-saved.result (elim c.else-bytes-ne-RAM_OFFSET.branch [
      | else-bytes-ne-RAM_OFFSET-via-then-bytes-ne-RAM_OFFSET+else-bytes-ne-FULL_SIZE w ↦ inr (w.if-bytes-ne-FULL_SIZE.false)
      | else-bytes-ne-RAM_OFFSET-via-else-bytes-ne-RAM_OFFSET w ↦ inl (w.if-bytes-ne-RAM_OFFSET.false)
    ]) c.read-saved.ensures)
    (ap (λ has. first_invalid 0 (number_fields c.args.at has c.read-saved.result)) (sym (has_store c.args.bytes.now)) ∙ ap (first_invalid 0) (sym c.fields.ensures.fields) ∙ sym c.first_invalid.ensures ∙ c.in-Some.is)

pub returns-then-u16_at-ge-BANKS-clause-refused : goal.returns-then-u16_at-ge-BANKS-clause-refused
returns-then-u16_at-ge-BANKS-clause-refused c = λ cart.
    breaks_bank cart c.args.at c.args.bytes.now c.read-saved.result (λ i. omega (arith, c.type_inv.bytes i))
    (stands_by c.args.at c.args.bytes.now c.read-saved.result (elim c.else-bytes-ne-RAM_OFFSET.branch [
      | else-bytes-ne-RAM_OFFSET-via-then-bytes-ne-RAM_OFFSET+else-bytes-ne-FULL_SIZE w ↦ inr (w.if-bytes-ne-FULL_SIZE.false)
      | else-bytes-ne-RAM_OFFSET-via-else-bytes-ne-RAM_OFFSET w ↦ inl (w.if-bytes-ne-RAM_OFFSET.false)
    ]) c.read-saved.ensures)
    (ap (λ has. first_invalid 0 (number_fields c.args.at has c.read-saved.result)) (sym (has_store c.args.bytes.now)) ∙ ap (first_invalid 0) (sym c.fields.ensures.fields) ∙ sym c.first_invalid.ensures ∙ c.in_default.is)
    (ne_eqb _ _ c.if-has.true)
    (ap (λ (n : ℕ). ltb n banks) (sym c.u16_at.ensures) ∙ le-ltb c.u16_at.result banks c.if-u16_at-ge-BANKS.true)

pub returns-clause-found : goal.returns-clause-found
returns-clause-found c = record {
  sized = (elim c.else-bytes-ne-RAM_OFFSET.branch [
    | else-bytes-ne-RAM_OFFSET-via-then-bytes-ne-RAM_OFFSET+else-bytes-ne-FULL_SIZE w ↦ inr (w.if-bytes-ne-FULL_SIZE.false)
    | else-bytes-ne-RAM_OFFSET-via-else-bytes-ne-RAM_OFFSET w ↦ inl (w.if-bytes-ne-RAM_OFFSET.false)
  ]);
  stands = stands_by c.args.at c.args.bytes.now c.read-saved.result (elim c.else-bytes-ne-RAM_OFFSET.branch [
    | else-bytes-ne-RAM_OFFSET-via-then-bytes-ne-RAM_OFFSET+else-bytes-ne-FULL_SIZE w ↦ inr (w.if-bytes-ne-FULL_SIZE.false)
    | else-bytes-ne-RAM_OFFSET-via-else-bytes-ne-RAM_OFFSET w ↦ inl (w.if-bytes-ne-RAM_OFFSET.false)
  ]) c.read-saved.ensures;
  right = right_numbers c.args.at c.args.bytes.now c.read-saved.result
      (ap (λ has. first_invalid 0 (number_fields c.args.at has c.read-saved.result)) (sym (has_store c.args.bytes.now)) ∙ ap (first_invalid 0) (sym c.fields.ensures.fields) ∙ sym c.first_invalid.ensures ∙ c.in_default.is)
      (elim c.else-has.branch [
        | else-has-via-then-has+else-u16_at-ge-BANKS w ↦ (λ long. ap (λ (n : ℕ). ltb n banks) (sym w.u16_at.ensures) ∙ lt-ltb w.u16_at.result banks (omega (arith, w.if-u16_at-ge-BANKS.false)))
        | else-has-via-else-has w ↦ (λ long. absurd (both_ways _ long (eq-eqb _ _ w.if-has.false)))
      ]);
}
