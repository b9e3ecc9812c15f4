use Rattle.std.proofs.Common.{◌≡◌, ◌∙◌, ℕ, ap, sym, subst, arith}
use Rattle.psg_sound.specs.PortSpelling.{SpellsPort, writes_at}
use Rattle.psg_sound.proofs.PortBytes.{breaks_port, map_same, port_read, read_port, rule_there}
use Rattle.psg_sound.proofs.spelling.port_of.Goals as goal

pub returns-then-not-are_saved-clause-refused : goal.returns-then-not-are_saved-clause-refused
returns-then-not-are_saved-clause-refused c =
    breaks_port c.args.at c.args.bytes.now (λ i. omega (arith, c.type_inv.bytes i)) c.if-bytes-ne-PORT_SIZE.false
    (rule_there c.args.at c.from-count.result (read_port c.args.bytes.now) _ (c.from-count.ensures ∙ c.u16_at.ensures) c.are_saved.ensures ∙ c.if-not-are_saved.true)

pub returns-clause-found : goal.returns-clause-found
returns-clause-found c =
    let same : c.from-count.result ≡ (read_port c.args.bytes.now).count = c.from-count.ensures ∙ c.u16_at.ensures in
    subst (SpellsPort c.args.at c.args.bytes.now)
    (sym (c.read_writes.ensures ∙ map_same _ ∙ ap (λ (n : ℕ). writes_at n (read_port c.args.bytes.now).entries) same))
    (port_read c.args.at c.args.bytes.now (λ i. omega (arith, c.type_inv.bytes i)) c.if-bytes-ne-PORT_SIZE.false
    (rule_there c.args.at c.from-count.result (read_port c.args.bytes.now) _ same c.are_saved.ensures ∙ c.if-not-are_saved.false))
