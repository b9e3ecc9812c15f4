use Rattle.std.proofs.Common.{◌≡◌, ◌∙◌, List, map, subst, sym, true, ap}
use Rattle.sound_writes.specs.Entries.{AreFit}
use Rattle.fm_port.specs.Port.{Port}
use Rattle.fm_port.specs.Timed.{AreTimed}
use Rattle.fm_port.specs.PortSpelling.{SpellsPort, are_right, port_bytes, saved_write_of, settled_port, write_fields}
use Rattle.fm_port.specs.declared.timers.Timers.{Timers}
use Rattle.fm_port.specs.declared.write.FmWrite.{FmWrite}
use Rattle.fm_port.proofs.PortBytes.{port_kept, port_within}
use Rattle.fm_port.proofs.port.FmPort.is_read_again.Goals as goal

pub returns : goal.returns
returns c = λ timed right.
    let ws : List FmWrite = c.self.inside.writes.items in
    let p : Port = record { first = c.self.inside.first; second = c.self.inside.second; timers = c.settle.new.self; writes = ws } in
    let settled : p ≡ settled_port c.args.at c.args.self.now =
    ap (λ (t : Timers). record { first = c.self.inside.first; second = c.self.inside.second; timers = t; writes = ws }) c.settle.ensures.value
    ∙ ap (settled_port c.args.at) c.self.view_is in
    let known = c.known_numbers.ensures in
    let within = port_within c.args.at p c.numbers_of-numbers.result (c.numbers_of-numbers.ensures ws) known.first known.second known.high_a known.low_a known.number_b known.control known.next_a known.next_b in
    let fit : AreFit write_fields (map saved_write_of ws) = subst (λ (l : List FmWrite). AreFit write_fields (map saved_write_of l)) c.as_slice.ensures.value c.known_writes.ensures in
    subst (λ (q : Port). SpellsPort c.args.at (port_bytes q) q) settled
    (port_kept c.args.at p c.self.invariant.most within fit
    (c.settle.ensures.timed (subst (λ (q : Port). AreTimed c.args.at q.timers) (sym c.self.view_is) timed))
    (subst (λ (q : Port). are_right c.args.at (map saved_write_of q.writes) ≡ true) (sym settled) right))
