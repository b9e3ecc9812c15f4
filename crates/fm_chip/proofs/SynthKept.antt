-- The bytes that keep a synthesis are read again.
use Rattle.std.proofs.Common.{◌≡◌, ℕ, ◌-◌, ◌<◌, ◌≤◌, ◌^◌, true, false, List, [], ◌++◌, length, ℤ, pos, negsuc, refl, arith}
use Rattle.std.specs.Prelude.{All, nat_le, nat_lt, slice_index_or}
use Rattle.std.proofs.lemmas.Int.{ints}
use Rattle.std.proofs.lemmas.Bool.{le-leb, lt-ltb, le-ltb, and_from}
use Rattle.std.proofs.lemmas.List.Elements.{All-get_or}
use Rattle.fm_voice.specs.declared.envelope.state.EnvelopeState.{EnvelopeState}
use Rattle.fm_voice.specs.declared.envelope.state.EnvelopeState.TheVariants.{Attack, Decay, Sustain, Release}
use Rattle.md_fields.specs.Fields.{AllHold, AreWithin, Field}
use Rattle.md_fields.proofs.Items.{none_invalid}
use Rattle.md_fields.proofs.Flags.{flag_byte, flag_small}
use Rattle.fm_voice.specs.Channel.{IsLevel}
use Rattle.fm_chip.specs.Channels.{IsChannel, blank, channel_at}
use Rattle.fm_chip.specs.Operators.{IsOperator}
use Rattle.fm_chip.specs.Synth.{IsSynth, Synth}
use Rattle.fm_chip.specs.SynthSpelling.{SpellsSynth, fields1, fields2, fields3, fields4, fields5, fields6, four_fields, head_fields, is_output, last_before, last_fields, operator_before, saved_four_of, saved_last_of, saved_operator_of, saved_synth_of, state_number, synth_bytes, synth_fields, word_of}
use Rattle.fm_chip.specs.declared.channels.Channel.{Channel}
use Rattle.fm_chip.specs.declared.operator.Operator.{Operator}

-- the rules of fields hold, and their values fit their bytes
abbrev AreReady : List Field → Type 0
AreReady fields = AllHold fields × AreWithin fields

-- a state has a number up to 3
state_few : (state : EnvelopeState) → state_number state ≤ 3
state_few Attack = omega arith
state_few Decay = omega arith
state_few Sustain = omega arith
state_few Release = omega arith

operator_ready : (o : Operator) (rest : List Field) → IsOperator o → AreReady rest → AreReady (operator_before (saved_operator_of o) rest)
unfolding AllHold AreWithin
operator_ready o rest ok ready = (
  (lt-ltb o.phase 0x10_0000 ok.phase, (le-leb o.v 1023 ok.v, (le-leb (state_number o.state) 3 (state_few o.state), (flag_small o.on, ready.0)))),
  (omega (arith, ok.phase), (omega (arith, ok.v), (omega (arith, state_few o.state), (flag_byte o.on, ready.1)))),
)

channel_ready : (ch : Channel) (rest : List Field) → IsChannel ch → AreReady rest → AreReady (four_fields (saved_four_of ch) ++ rest)
channel_ready ch rest ok ready =
    let r3 = operator_before (saved_operator_of ch.four) rest in
    let r2 = operator_before (saved_operator_of ch.three) r3 in
    let r1 = operator_before (saved_operator_of ch.two) r2 in
    operator_ready ch.one r1 ok.one
    (operator_ready ch.two r2 ok.two
    (operator_ready ch.three r3 ok.three
    (operator_ready ch.four rest ok.four ready)))

-- ---- the last outputs

output_small : (z : ℤ) → IsLevel z → word_of z < 2 ^ 16
output_small (pos n) h = omega (arith, ints, h.1)
output_small (negsuc n) h = omega (arith, ints, h.0)

output_holds : (z : ℤ) → IsLevel z → is_output (word_of z) ≡ true
output_holds (pos n) h = let low : nat_lt n 0x2000 ≡ true = lt-ltb n 0x2000 (omega (arith, ints, h.1)) in rw low refl
output_holds (negsuc n) h =
    let few : n ≤ 8191 = omega (arith, ints, h.0) in
    let high : nat_lt (0xffff - n) 0x2000 ≡ false = le-ltb (0xffff - n) 0x2000 (omega (arith, few)) in
    let above : nat_le 0xe000 (0xffff - n) ≡ true = le-leb 0xe000 (0xffff - n) (omega (arith, few)) in
    rw high above

last_ready : (last : List ℤ) (rest : List Field) → All IsLevel last → length last ≡ 2 → AreReady rest → AreReady (last_before (saved_last_of last) rest)
unfolding AllHold AreWithin
last_ready last rest levels two ready =
    let older : IsLevel (slice_index_or last 0 (pos 0)) = All-get_or IsLevel last 0 (pos 0) (omega (arith, two)) levels in
    let newer : IsLevel (slice_index_or last 1 (pos 0)) = All-get_or IsLevel last 1 (pos 0) (omega (arith, two)) levels in (
      (and_from _ _ (output_holds _ older) (output_holds _ newer), (refl, ready.0)),
      (output_small _ older, (output_small _ newer, ready.1)),
    )

-- ---- the chip

channel_ok : (s : Synth) (c : ℕ) → IsSynth s → c < 6 → IsChannel (channel_at s.channels c)
channel_ok s c ok below = All-get_or IsChannel s.channels c blank (omega (arith, below, ok.six)) ok.channels

none_ready : AreReady []
unfolding AllHold AreWithin
none_ready = (tt, tt)

lasts_ready : (s : Synth) → IsSynth s → AreReady (last_fields (saved_synth_of s))
lasts_ready s ok =
    let saved = saved_synth_of s in
    let c0 = channel_ok s 0 ok (omega arith) in
    let c1 = channel_ok s 1 ok (omega arith) in
    let c2 = channel_ok s 2 ok (omega arith) in
    let c3 = channel_ok s 3 ok (omega arith) in
    let c4 = channel_ok s 4 ok (omega arith) in
    let c5 = channel_ok s 5 ok (omega arith) in
    let r5 = last_before saved.last6 [] in
    let r4 = last_before saved.last5 r5 in
    let r3 = last_before saved.last4 r4 in
    let r2 = last_before saved.last3 r3 in
    let r1 = last_before saved.last2 r2 in
    last_ready _ r1 c0.last c0.pair
    (last_ready _ r2 c1.last c1.pair
    (last_ready _ r3 c2.last c2.pair
    (last_ready _ r4 c3.last c3.pair
    (last_ready _ r5 c4.last c4.pair
    (last_ready _ [] c5.last c5.pair none_ready)))))

channels_ready : (s : Synth) → IsSynth s → AreReady (fields1 (saved_synth_of s))
channels_ready s ok =
    let saved = saved_synth_of s in
    channel_ready _ (fields2 saved) (channel_ok s 0 ok (omega arith))
    (channel_ready _ (fields3 saved) (channel_ok s 1 ok (omega arith))
    (channel_ready _ (fields4 saved) (channel_ok s 2 ok (omega arith))
    (channel_ready _ (fields5 saved) (channel_ok s 3 ok (omega arith))
    (channel_ready _ (fields6 saved) (channel_ok s 4 ok (omega arith))
    (channel_ready _ (last_fields saved) (channel_ok s 5 ok (omega arith)) (lasts_ready s ok))))))

head_ready : (s : Synth) (rest : List Field) → IsSynth s → AreReady rest → AreReady (head_fields (saved_synth_of s) ++ rest)
unfolding AllHold AreWithin
head_ready s rest ok ready = (
  (refl, (refl, (lt-ltb s.lfo.t 128 ok.t, (lt-ltb s.lfo.count 108 ok.count, (lt-ltb s.counter 4096 ok.counter, ready.0))))),
  (ok.registers, (ok.latches, (omega (arith, ok.t), (omega (arith, ok.count), (omega (arith, ok.counter), ready.1))))),
)

synth_ready : (s : Synth) → IsSynth s → AreReady (synth_fields (saved_synth_of s))
unfolding synth_fields
synth_ready s ok = head_ready s (fields1 (saved_synth_of s)) ok (channels_ready s ok)

pub synth_spelled : (s : Synth) → IsSynth s → SpellsSynth (synth_bytes s) s
synth_spelled s ok = record {
  keeps = record { within = (synth_ready s ok).1; all = refl };
  right = none_invalid 0 (synth_fields (saved_synth_of s)) (synth_ready s ok).0;
  synth = ok;
}
