use Rattle.std.proofs.Common.{◌≡◌, ◌∙◌, ℕ, Bool, List, ap, sym, subst, arith}
use Rattle.md_fields.specs.Fields.{first_invalid, sizes}
use Rattle.fm_port.specs.PortSpelling.{SpellsPort, are_writes, port_with, writes_from}
use Rattle.fm_port.specs.declared.write.FmWrite.{FmWrite}
use Rattle.fm_port.proofs.PortBytes.{breaks_number, breaks_writes, count_in, entries_in, number_size, port_read}
use Rattle.fm_port.proofs.spelling.parts_of.Goals as goal

pub first_invalid-requires : goal.first_invalid-requires
first_invalid-requires c = omega (arith, ap sizes c.fields.ensures.fields ∙ number_size c.args.at c.read-numbers.result)

pub returns-in-Some-clause-refused : goal.returns-in-Some-clause-refused
returns-in-Some-clause-refused c =
    breaks_number c.args.at c.args.bytes.now c.read-numbers.result c.in-Some.place (λ i. omega (arith, c.type_inv.bytes i)) c.if-bytes-ne-PORT_SIZE.false c.read-numbers.ensures
    (ap (first_invalid 0) (sym c.fields.ensures.fields) ∙ sym c.first_invalid.ensures ∙ c.in-Some.is)

-- the rule of the writes by the count that was read
reported_by : (at count there : ℕ) (entries : List ℕ) (reported : Bool) → count ≡ there → reported ≡ are_writes at count entries → are_writes at there entries ≡ reported
reported_by at count there entries reported same e = sym (e ∙ ap (λ (n : ℕ). are_writes at n entries) same)

pub returns-clause-found : goal.returns-clause-found
returns-clause-found c =
    let same : c.from-count.result ≡ count_in c.args.bytes.now = c.from-count.ensures ∙ c.u16_at.ensures in
    subst (λ (ws : List FmWrite). SpellsPort c.args.at c.args.bytes.now (port_with c.read-numbers.result ws))
    (sym (c.read_writes.ensures ∙ ap (λ (n : ℕ). writes_from n (entries_in c.args.bytes.now)) same))
    (port_read c.args.at c.args.bytes.now c.read-numbers.result (λ i. omega (arith, c.type_inv.bytes i)) c.if-bytes-ne-PORT_SIZE.false c.read-numbers.ensures
    (ap (first_invalid 0) (sym c.fields.ensures.fields) ∙ sym c.first_invalid.ensures ∙ c.in_default.is)
    (reported_by c.args.at c.from-count.result _ (entries_in c.args.bytes.now) _ same c.are_saved.ensures ∙ c.if-not-are_saved.false))

pub returns-then-not-are_saved-clause-refused : goal.returns-then-not-are_saved-clause-refused
returns-then-not-are_saved-clause-refused c =
    let same : c.from-count.result ≡ count_in c.args.bytes.now = c.from-count.ensures ∙ c.u16_at.ensures in
    breaks_writes c.args.at c.args.bytes.now c.read-numbers.result (λ i. omega (arith, c.type_inv.bytes i)) c.if-bytes-ne-PORT_SIZE.false c.read-numbers.ensures
    (ap (first_invalid 0) (sym c.fields.ensures.fields) ∙ sym c.first_invalid.ensures ∙ c.in_default.is)
    (reported_by c.args.at c.from-count.result _ (entries_in c.args.bytes.now) _ same c.are_saved.ensures ∙ c.if-not-are_saved.true)
