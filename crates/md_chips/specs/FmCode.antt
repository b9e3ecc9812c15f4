-- The FM chip and its port as lists of numbers, and back.
use Rattle.std.specs.Prelude.{◌≡◌, ℕ, zero, suc, ◌≤◌, Bool, true, false, refl}
use Rattle.std.proofs.Common.{arith, lit≤}
use Rattle.std.proofs.Math.Bridge.{le_prop}
use Rattle.md_word.specs.Coding.{Way, number, flag, integer, both, many, by_way}
use Rattle.md_word.specs.declared.key.Key.{Key}
use Rattle.chip_core.specs.Codes.{key_way}
use Rattle.fm_port.specs.Port.{Port}
use Rattle.fm_chip.specs.Synth.{Synth}
use Rattle.fm_chip.specs.SynthSpelling.{state_again, state_number, state_of}
use Rattle.fm_chip.specs.declared.channels.Channel.{Channel}
use Rattle.fm_chip.specs.declared.lfo.Lfo.{Lfo}
use Rattle.fm_chip.specs.declared.operator.Operator.{Operator}
use Rattle.fm_port.specs.declared.timer.Timer.{Timer}
use Rattle.fm_port.specs.declared.timers.Timers.{Timers}
use Rattle.fm_port.specs.declared.write.FmWrite.{FmWrite}
use Rattle.md_chips.specs.Parts.{FmValue}

-- the way of an operator
abbrev pub operator_way : Way Operator
operator_way =
    by_way (both (both number number) (both number flag)) (λ o. ((o.phase, o.v), (state_number o.state, o.on)))
    (λ p. record { phase = p.0.0; v = p.0.1; state = state_of p.1.0; on = p.1.1 })
    (λ o i. record { phase = o.phase; v = o.v; state = state_again o.state i; on = o.on })

-- the way of a channel
abbrev pub channel_way : Way Channel
channel_way =
    by_way (both (both operator_way operator_way) (both (both operator_way operator_way) (many integer)))
    (λ c. ((c.one, c.two), ((c.three, c.four), c.last)))
    (λ p. record { one = p.0.0; two = p.0.1; three = p.1.0.0; four = p.1.0.1; last = p.1.1 }) (λ c. refl)

-- the way of the low frequency oscillator
abbrev pub lfo_way : Way Lfo
lfo_way = by_way (both number number) (λ l. (l.t, l.count)) (λ p. record { t = p.0; count = p.1 }) (λ l. refl)

-- the way of the synthesis
abbrev pub fm_synth_way : Way Synth
fm_synth_way =
    by_way (both (both (many number) (many number)) (both lfo_way (both number (many channel_way))))
    (λ s. ((s.registers, s.latches), (s.lfo, (s.counter, s.channels))))
    (λ p. record { registers = p.0.0; latches = p.0.1; lfo = p.1.0; counter = p.1.1.0; channels = p.1.1.1 }) (λ s. refl)

-- the port of a write by two flags: 0, 1, or 2, which is a reset
abbrev pub port_flags : ℕ → Bool × Bool
port_flags zero = (false, false)
port_flags (suc zero) = (true, false)
port_flags (suc (suc n)) = (true, true)

-- a write by the two flags of its port
abbrev pub write_by : Bool → Bool → Key → ℕ → ℕ → FmWrite
write_by false second key register value = record { key = key; port = 0; register = register; value = value; port_in_range = lit≤ tt }
write_by true false key register value = record { key = key; port = 1; register = register; value = value; port_in_range = lit≤ tt }
write_by true true key register value = record { key = key; port = 2; register = register; value = value; port_in_range = lit≤ tt }

-- the two flags give the port
pub write_at : (port : ℕ) (within : port ≤ 2) (key : Key) (register value : ℕ)
    → write_by (port_flags port).0 (port_flags port).1 key register value
    ≡ record { key = key; port = port; register = register; value = value; port_in_range = within }
write_at zero within key register value = λ i. record { key = key; port = 0; register = register; value = value; port_in_range = le_prop (lit≤ tt) within i }
write_at (suc zero) within key register value = λ i. record { key = key; port = 1; register = register; value = value; port_in_range = le_prop (lit≤ tt) within i }
write_at (suc (suc zero)) within key register value = λ i. record { key = key; port = 2; register = register; value = value; port_in_range = le_prop (lit≤ tt) within i }
write_at (suc (suc (suc n))) within key register value = absurd (omega (arith, within))

-- the way of a write to the FM chip
abbrev pub fm_write_way : Way FmWrite
fm_write_way =
    by_way (both (both flag flag) (both key_way (both number number)))
    (λ w. (port_flags w.port, (w.key, (w.register, w.value))))
    (λ p. write_by p.0.0 p.0.1 p.1.0 p.1.1.0 p.1.1.1) (λ w. write_at w.port w.port_in_range w.key w.register w.value)

-- the way of a timer
abbrev pub timer_way : Way Timer
timer_way = by_way (both flag (both number flag)) (λ t. (t.run, (t.next, t.flag))) (λ p. record { run = p.0; next = p.1.0; flag = p.1.1 }) (λ t. refl)

-- the way of both timers, with their registers
abbrev pub timers_way : Way Timers
timers_way =
    by_way (both (both number number) (both (both number number) (both timer_way timer_way)))
    (λ t. ((t.high_a, t.low_a), ((t.number_b, t.control), (t.a, t.b))))
    (λ p. record { high_a = p.0.0; low_a = p.0.1; number_b = p.1.0.0; control = p.1.0.1; a = p.1.1.0; b = p.1.1.1 }) (λ t. refl)

-- the way of the port
abbrev pub port_way : Way Port
port_way =
    by_way (both (both number number) (both timers_way (many fm_write_way)))
    (λ p. ((p.first, p.second), (p.timers, p.writes)))
    (λ q. record { first = q.0.0; second = q.0.1; timers = q.1.0; writes = q.1.1 }) (λ p. refl)

-- the way of the FM synthesis as a chip
abbrev pub fm_way : Way FmValue
fm_way =
    by_way (both (both fm_synth_way number) (both (many fm_write_way) (many (both integer integer))))
    (λ c. ((c.synth, c.cycle), (c.taken, c.samples)))
    (λ p. record { synth = p.0.0; cycle = p.0.1; taken = p.1.0; samples = p.1.1 }) (λ c. refl)
