-- Laws of the bytes that keep the synthesis.
use Rattle.std.proofs.Common.{◌≡◌, ℕ, zero, suc, ◌+◌, ◌-◌, ◌^◌, ◌<◌, ◌≤◌, Bool, true, false, cond, List, [], ◌∷◌, ◌++◌, length, Option, Some, ℤ, pos, negsuc, refl, sym, ap, subst, ◌∙◌, arith}
use Rattle.std.specs.Prelude.{All, ◌&&◌, nat_lt, option_map}
use Rattle.std.proofs.lemmas.Int.{ints}
use Rattle.std.proofs.lemmas.Bool.{and_parts, le-ltb, leb-true, lt-ltb, ltb-true}
use Rattle.std.proofs.lemmas.List.Elements.{All-cons, All-get_or, All-nil}
use Rattle.md_fields.specs.Fields.{AllHold, Field, first_invalid, holds_of, or_else, size_of, sizes}
use Rattle.md_fields.specs.Items.{IsRight, Keeps}
use Rattle.md_fields.specs.Places.{IsBytes, Stand}
use Rattle.md_fields.proofs.Flags.{flag_again, flag_back}
use Rattle.md_fields.proofs.Items.{kept, rules_hold}
use Rattle.md_fields.proofs.Tables.{first_append, holds_both}
use Rattle.md_fields.proofs.Values.{Table, Value, fit_at, holds_at, list_in, number_in, read_back, rule_at, stand_by, values_at}
use Rattle.fm_voice.specs.Channel.{IsLevel}
use Rattle.fm_chip.specs.Channels.{IsChannel, channel_at}
use Rattle.fm_chip.specs.Operators.{IsOperator}
use Rattle.fm_chip.specs.Synth.{IsSynth, Synth}
use Rattle.fm_chip.specs.SynthSpelling.{SpellsSynth, channel_from, fields1, fields2, fields3, fields4, fields5, fields6, four_fields, head_fields, is_output, last_fields, last_from, operator_from, output_of, saved_four_of, saved_last_of, saved_synth_of, state_again, state_number, state_of, synth_at, synth_fields, synth_from, synth_size, word_of}
use Rattle.fm_chip.specs.declared.channels.Channel.{Channel}
use Rattle.fm_chip.specs.declared.saved_operator.SavedFour.{SavedFour}
use Rattle.fm_chip.specs.declared.saved_operator.SavedOperator.{SavedOperator}
use Rattle.fm_chip.specs.declared.saved_synth.SavedLast.{SavedLast}
use Rattle.fm_chip.specs.declared.saved_synth.SavedSynth.{SavedSynth}

-- ---- the table

-- the numbers of an operator, of a channel's four, and of its last outputs in the values from a number on
abbrev operator_in : List Value → ℕ → SavedOperator
operator_in values i = record { phase = number_in values i; v = number_in values (i + 1); state = number_in values (i + 2); on = number_in values (i + 3) }

abbrev four_in : List Value → ℕ → SavedFour
four_in values i = record { one = operator_in values i; two = operator_in values (i + 4); three = operator_in values (i + 8); four = operator_in values (i + 12) }

abbrev last_in : List Value → ℕ → SavedLast
last_in values i = record { older = number_in values i; newer = number_in values (i + 1) }

-- the fields, and the numbers of their values
pub table : Table synth_size synth_fields
unfolding sizes synth_fields values_at
table = record {
  back = λ values. record {
    registers = list_in values 0;
    latches = list_in values 1;
    t = number_in values 2;
    count = number_in values 3;
    counter = number_in values 4;
    four1 = four_in values 5;
    four2 = four_in values 21;
    four3 = four_in values 37;
    four4 = four_in values 53;
    four5 = four_in values 69;
    four6 = four_in values 85;
    last1 = last_in values 101;
    last2 = last_in values 103;
    last3 = last_in values 105;
    last4 = last_in values 107;
    last5 = last_in values 109;
    last6 = last_in values 111;
  };
  again = λ s. refl;
  alike = λ s t bytes. refl;
  sized = λ s. refl;
}

-- what is in the bytes has the values that they give
pub synth_stands : (bytes : List ℕ) → length bytes ≡ synth_size → Stand 0 (synth_fields (synth_at bytes)) bytes
unfolding synth_fields values_at
synth_stands bytes long = stand_by 0 (synth_fields (synth_at bytes)) bytes (omega (arith, long, table.sized (synth_at bytes))) refl

-- ---- what the rules say

record Four (s : SavedFour) : Type 0 where
  one : IsOperator (operator_from s.one)
  two : IsOperator (operator_from s.two)
  three : IsOperator (operator_from s.three)
  four : IsOperator (operator_from s.four)
  state1 : s.one.state ≤ 3
  state2 : s.two.state ≤ 3
  state3 : s.three.state ≤ 3
  state4 : s.four.state ≤ 3
  on1 : s.one.on ≤ 1
  on2 : s.two.on ≤ 1
  on3 : s.three.on ≤ 1
  on4 : s.four.on ≤ 1

four_rules : (s : SavedFour) → AllHold (four_fields s) → Four s
four_rules s h =
    let rule = holds_at (four_fields s) h in
    record {
      one = record { phase = ltb-true s.one.phase 0x10_0000 (rule 0); v = leb-true s.one.v 1023 (rule 1) };
      two = record { phase = ltb-true s.two.phase 0x10_0000 (rule 4); v = leb-true s.two.v 1023 (rule 5) };
      three = record { phase = ltb-true s.three.phase 0x10_0000 (rule 8); v = leb-true s.three.v 1023 (rule 9) };
      four = record { phase = ltb-true s.four.phase 0x10_0000 (rule 12); v = leb-true s.four.v 1023 (rule 13) };
      state1 = leb-true s.one.state 3 (rule 2);
      state2 = leb-true s.two.state 3 (rule 6);
      state3 = leb-true s.three.state 3 (rule 10);
      state4 = leb-true s.four.state 3 (rule 14);
      on1 = leb-true s.one.on 1 (rule 3);
      on2 = leb-true s.two.on 1 (rule 7);
      on3 = leb-true s.three.on 1 (rule 11);
      on4 = leb-true s.four.on 1 (rule 15);
    }

-- a word of an output gives it, and the other way round
output_by : (low : Bool) (n : ℕ) → n < 2 ^ 16 → nat_lt n 0x8000 ≡ low → word_of (cond low (pos n) (negsuc (0xffff - n))) ≡ n
output_by true n fits e = refl
output_by false n fits e = omega (arith, fits)

output_again : (n : ℕ) → n < 2 ^ 16 → word_of (output_of n) ≡ n
output_again n fits = output_by (nat_lt n 0x8000) n fits refl

level_again : (z : ℤ) → IsLevel z → output_of (word_of z) ≡ z
level_again (pos n) h = let low : nat_lt n 0x8000 ≡ true = lt-ltb n 0x8000 (omega (arith, ints, h.1)) in rw low refl
level_again (negsuc n) h =
    let few : n ≤ 8191 = omega (arith, ints, h.0) in
    let high : nat_lt (0xffff - n) 0x8000 ≡ false = le-ltb (0xffff - n) 0x8000 (omega (arith, few)) in
    rw high (ap negsuc (omega (arith, few)))

level_within : (n : ℕ) → n < 2 ^ 16 → is_output n ≡ true → IsLevel (output_of n)
level_within n fits e = grind (arith, ints, fits, e)

-- ---- the first rule that fails, part by part

pub four_size : (s : SavedFour) → sizes (four_fields s) ≡ 32
unfolding sizes
four_size s = refl

pub head_size : (s : SavedSynth) → sizes (head_fields s) ≡ 525
unfolding sizes
head_size s = refl

pub last_size : (s : SavedSynth) → sizes (last_fields s) ≡ 24
unfolding sizes
last_size s = refl

four_first : (place next : ℕ) (s : SavedFour) (rest : List Field) → place + 32 ≡ next → or_else (first_invalid place (four_fields s)) (first_invalid next rest) ≡ first_invalid place (four_fields s ++ rest)
four_first place next s rest e =
    let same : next ≡ place + sizes (four_fields s) = omega (arith, e, four_size s) in
    ap (λ (n : ℕ). or_else (first_invalid place (four_fields s)) (first_invalid n rest)) same ∙ sym (first_append place (four_fields s) rest)

head_first : (s : SavedSynth) (rest : List Field) → or_else (first_invalid 0 (head_fields s)) (first_invalid 525 rest) ≡ first_invalid 0 (head_fields s ++ rest)
head_first s rest =
    let same : 525 ≡ 0 + sizes (head_fields s) = omega (arith, head_size s) in
    ap (λ (n : ℕ). or_else (first_invalid 0 (head_fields s)) (first_invalid n rest)) same ∙ sym (first_append 0 (head_fields s) rest)

pub invalid_is : (s : SavedSynth) → or_else (first_invalid 0 (head_fields s)) (or_else (first_invalid 525 (four_fields s.four1)) (or_else (first_invalid 557 (four_fields s.four2))
    (or_else (first_invalid 589 (four_fields s.four3)) (or_else (first_invalid 621 (four_fields s.four4)) (or_else (first_invalid 653 (four_fields s.four5))
    (or_else (first_invalid 685 (four_fields s.four6)) (first_invalid 717 (last_fields s)))))))) ≡ first_invalid 0 (synth_fields s)
unfolding synth_fields
invalid_is s =
    let w6 = four_first 685 717 s.four6 (last_fields s) refl in
    let w5 = ap (or_else (first_invalid 653 (four_fields s.four5))) w6 ∙ four_first 653 685 s.four5 (fields6 s) refl in
    let w4 = ap (or_else (first_invalid 621 (four_fields s.four4))) w5 ∙ four_first 621 653 s.four4 (fields5 s) refl in
    let w3 = ap (or_else (first_invalid 589 (four_fields s.four3))) w4 ∙ four_first 589 621 s.four3 (fields4 s) refl in
    let w2 = ap (or_else (first_invalid 557 (four_fields s.four2))) w3 ∙ four_first 557 589 s.four2 (fields3 s) refl in
    let w1 = ap (or_else (first_invalid 525 (four_fields s.four1))) w2 ∙ four_first 525 557 s.four1 (fields2 s) refl in
    ap (or_else (first_invalid 0 (head_fields s))) w1 ∙ head_first s (fields1 s)

shift_by : (holds : Bool) (a b : ℕ) (one two : Option ℕ) → one ≡ option_map (λ q. a + q) two → cond holds one (Some (a + b)) ≡ option_map (λ q. a + q) (cond holds two (Some b))
shift_by true a b one two e = e
shift_by false a b one two e = refl

pub shifted : (a b : ℕ) (fs : List Field) → first_invalid (a + b) fs ≡ option_map (λ q. a + q) (first_invalid b fs)
unfolding first_invalid
shifted a b [] = refl
shifted a b (f ∷ fs) =
    shift_by (holds_of f) a b (first_invalid (a + b + size_of f) fs) (first_invalid (b + size_of f) fs)
    (ap (λ (p : ℕ). first_invalid p fs) (omega arith) ∙ shifted a (b + size_of f) fs)

-- ---- from the numbers to the chip and back

state_back : (n : ℕ) → n ≤ 3 → state_number (state_of n) ≡ n
state_back zero few = refl
state_back (suc zero) few = refl
state_back (suc (suc zero)) few = refl
state_back (suc (suc (suc zero))) few = refl
state_back (suc (suc (suc (suc n)))) few = absurd (omega (arith, few))

four_back : (s : SavedFour) (l : SavedLast) → Four s → saved_four_of (channel_from s l) ≡ s
four_back s l f = λ i. record {
  one = record { phase = s.one.phase; v = s.one.v; state = state_back s.one.state f.state1 i; on = flag_back s.one.on f.on1 i };
  two = record { phase = s.two.phase; v = s.two.v; state = state_back s.two.state f.state2 i; on = flag_back s.two.on f.on2 i };
  three = record { phase = s.three.phase; v = s.three.v; state = state_back s.three.state f.state3 i; on = flag_back s.three.on f.on3 i };
  four = record { phase = s.four.phase; v = s.four.v; state = state_back s.four.state f.state4 i; on = flag_back s.four.on f.on4 i };
}

record Last (s : SavedLast) : Type 0 where
  older : s.older < 2 ^ 16
  newer : s.newer < 2 ^ 16
  outputs : (is_output s.older && is_output s.newer) ≡ true

last_back : (s : SavedLast) → Last s → saved_last_of (last_from s) ≡ s
last_back s l = λ i. record { older = output_again s.older l.older i; newer = output_again s.newer l.newer i }

channel_sound : (s : SavedFour) (l : SavedLast) → Four s → Last l → IsChannel (channel_from s l)
channel_sound s l f g =
    let p = and_parts _ _ g.outputs in
    record {
      one = f.one;
      two = f.two;
      three = f.three;
      four = f.four;
      last = All-cons IsLevel (output_of l.older) (output_of l.newer ∷ []) (level_within l.older g.older p.0) (All-cons IsLevel (output_of l.newer) [] (level_within l.newer g.newer p.1) (All-nil IsLevel));
      pair = refl;
    }

-- what the rules say, where the numbers fit their bytes
record Rules (s : SavedSynth) : Type 0 where
  registers : length s.registers ≡ 512
  latches : length s.latches ≡ 9
  t : s.t < 128
  count : s.count < 108
  counter : s.counter < 4096
  four1 : Four s.four1
  four2 : Four s.four2
  four3 : Four s.four3
  four4 : Four s.four4
  four5 : Four s.four5
  four6 : Four s.four6
  last1 : Last s.last1
  last2 : Last s.last2
  last3 : Last s.last3
  last4 : Last s.last4
  last5 : Last s.last5
  last6 : Last s.last6

rules_of : (bytes : List ℕ) (s : SavedSynth) → Keeps synth_fields bytes s → IsRight synth_fields s → Rules s
unfolding synth_fields
rules_of bytes s keeps right =
    let rule = rule_at 0 (synth_fields s) right in
    let fit = fit_at (synth_fields s) keeps.within in
    let h = holds_both (head_fields s) (fields1 s) (rules_hold 0 (synth_fields s) right) in
    let h1 = holds_both (four_fields s.four1) (fields2 s) h.1 in
    let h2 = holds_both (four_fields s.four2) (fields3 s) h1.1 in
    let h3 = holds_both (four_fields s.four3) (fields4 s) h2.1 in
    let h4 = holds_both (four_fields s.four4) (fields5 s) h3.1 in
    let h5 = holds_both (four_fields s.four5) (fields6 s) h4.1 in
    let h6 = holds_both (four_fields s.four6) (last_fields s) h5.1 in
    record {
      registers = fit 0;
      latches = fit 1;
      t = ltb-true s.t 128 (rule 2);
      count = ltb-true s.count 108 (rule 3);
      counter = ltb-true s.counter 4096 (rule 4);
      four1 = four_rules s.four1 h1.0;
      four2 = four_rules s.four2 h2.0;
      four3 = four_rules s.four3 h3.0;
      four4 = four_rules s.four4 h4.0;
      four5 = four_rules s.four5 h5.0;
      four6 = four_rules s.four6 h6.0;
      last1 = record { older = fit 101; newer = fit 102; outputs = rule 101 };
      last2 = record { older = fit 103; newer = fit 104; outputs = rule 103 };
      last3 = record { older = fit 105; newer = fit 106; outputs = rule 105 };
      last4 = record { older = fit 107; newer = fit 108; outputs = rule 107 };
      last5 = record { older = fit 109; newer = fit 110; outputs = rule 109 };
      last6 = record { older = fit 111; newer = fit 112; outputs = rule 111 };
    }

-- the numbers that are right are those of their chip
synth_back : (s : SavedSynth) → Rules s → saved_synth_of (synth_from s) ≡ s
synth_back s r = λ i. record s {
  four1 = four_back s.four1 s.last1 r.four1 i;
  four2 = four_back s.four2 s.last2 r.four2 i;
  four3 = four_back s.four3 s.last3 r.four3 i;
  four4 = four_back s.four4 s.last4 r.four4 i;
  four5 = four_back s.four5 s.last5 r.four5 i;
  four6 = four_back s.four6 s.last6 r.four6 i;
  last1 = last_back s.last1 r.last1 i;
  last2 = last_back s.last2 r.last2 i;
  last3 = last_back s.last3 r.last3 i;
  last4 = last_back s.last4 r.last4 i;
  last5 = last_back s.last5 r.last5 i;
  last6 = last_back s.last6 r.last6 i;
}

-- what is read is sound
pub synth_sound : (bytes : List ℕ) (s : SavedSynth) → Keeps synth_fields bytes s → IsRight synth_fields s → IsSynth (synth_from s)
synth_sound bytes s keeps right =
    let r = rules_of bytes s keeps right in
    let c1 = channel_from s.four1 s.last1 in
    let c2 = channel_from s.four2 s.last2 in
    let c3 = channel_from s.four3 s.last3 in
    let c4 = channel_from s.four4 s.last4 in
    let c5 = channel_from s.four5 s.last5 in
    let c6 = channel_from s.four6 s.last6 in
    let a6 = All-cons IsChannel c6 [] (channel_sound s.four6 s.last6 r.four6 r.last6) (All-nil IsChannel) in
    let a5 = All-cons IsChannel c5 (c6 ∷ []) (channel_sound s.four5 s.last5 r.four5 r.last5) a6 in
    let a4 = All-cons IsChannel c4 (c5 ∷ c6 ∷ []) (channel_sound s.four4 s.last4 r.four4 r.last4) a5 in
    let a3 = All-cons IsChannel c3 (c4 ∷ c5 ∷ c6 ∷ []) (channel_sound s.four3 s.last3 r.four3 r.last3) a4 in
    let a2 = All-cons IsChannel c2 (c3 ∷ c4 ∷ c5 ∷ c6 ∷ []) (channel_sound s.four2 s.last2 r.four2 r.last2) a3 in
    record {
      registers = r.registers;
      latches = r.latches;
      t = r.t;
      count = r.count;
      counter = r.counter;
      channels = All-cons IsChannel c1 (c2 ∷ c3 ∷ c4 ∷ c5 ∷ c6 ∷ []) (channel_sound s.four1 s.last1 r.four1 r.last1) a2;
      six = refl;
    }

-- what is read is spelled so
pub synth_read : (bytes : List ℕ) (s : SavedSynth) → Keeps synth_fields bytes s → IsRight synth_fields s → SpellsSynth bytes (synth_from s)
synth_read bytes s keeps right =
    let both = read_back table saved_synth_of synth_from bytes s (synth_back s (rules_of bytes s keeps right)) keeps right in
    record { keeps = both.0; right = both.1; synth = synth_sound bytes s keeps right }

last_again : (l : List ℤ) → length l ≡ 2 → All IsLevel l → last_from (saved_last_of l) ≡ l
last_again [] two h = absurd (omega (arith, two))
last_again (x ∷ []) two h = absurd (omega (arith, two))
last_again (x ∷ y ∷ []) two h =
    let first = All-get_or IsLevel (x ∷ y ∷ []) 0 (pos 0) (omega arith) h in
    let second = All-get_or IsLevel (x ∷ y ∷ []) 1 (pos 0) (omega arith) h in
    λ i. level_again x first i ∷ level_again y second i ∷ []
last_again (x ∷ y ∷ z ∷ l) two h = absurd (omega (arith, two))

channel_again : (ch : Channel) → IsChannel ch → channel_from (saved_four_of ch) (saved_last_of ch.last) ≡ ch
channel_again ch h = λ i. record {
  one = record { phase = ch.one.phase; v = ch.one.v; state = state_again ch.one.state i; on = flag_again ch.one.on i };
  two = record { phase = ch.two.phase; v = ch.two.v; state = state_again ch.two.state i; on = flag_again ch.two.on i };
  three = record { phase = ch.three.phase; v = ch.three.v; state = state_again ch.three.state i; on = flag_again ch.three.on i };
  four = record { phase = ch.four.phase; v = ch.four.v; state = state_again ch.four.state i; on = flag_again ch.four.on i };
  last = last_again ch.last h.pair h.last i;
}

abbrev six : List Channel → List Channel
six cs =
    channel_from (saved_four_of (channel_at cs 0)) (saved_last_of (channel_at cs 0).last)
    ∷ channel_from (saved_four_of (channel_at cs 1)) (saved_last_of (channel_at cs 1).last)
    ∷ channel_from (saved_four_of (channel_at cs 2)) (saved_last_of (channel_at cs 2).last)
    ∷ channel_from (saved_four_of (channel_at cs 3)) (saved_last_of (channel_at cs 3).last)
    ∷ channel_from (saved_four_of (channel_at cs 4)) (saved_last_of (channel_at cs 4).last)
    ∷ channel_from (saved_four_of (channel_at cs 5)) (saved_last_of (channel_at cs 5).last)
    ∷ []

channels_again : (cs : List Channel) → length cs ≡ 6 → All IsChannel cs → six cs ≡ cs
channels_again [] n h = absurd (omega (arith, n))
channels_again (a ∷ []) n h = absurd (omega (arith, n))
channels_again (a ∷ b ∷ []) n h = absurd (omega (arith, n))
channels_again (a ∷ b ∷ c ∷ []) n h = absurd (omega (arith, n))
channels_again (a ∷ b ∷ c ∷ d ∷ []) n h = absurd (omega (arith, n))
channels_again (a ∷ b ∷ c ∷ d ∷ e ∷ []) n h = absurd (omega (arith, n))
channels_again (a ∷ b ∷ c ∷ d ∷ e ∷ f ∷ []) n h =
    let cs : List Channel = a ∷ b ∷ c ∷ d ∷ e ∷ f ∷ [] in
    let ha = All-get_or IsChannel cs 0 a (omega arith) h in
    let hb = All-get_or IsChannel cs 1 a (omega arith) h in
    let hc = All-get_or IsChannel cs 2 a (omega arith) h in
    let hd = All-get_or IsChannel cs 3 a (omega arith) h in
    let he = All-get_or IsChannel cs 4 a (omega arith) h in
    let hf = All-get_or IsChannel cs 5 a (omega arith) h in
    λ i. channel_again a ha i ∷ channel_again b hb i ∷ channel_again c hc i ∷ channel_again d hd i ∷ channel_again e he i ∷ channel_again f hf i ∷ []
channels_again (a ∷ b ∷ c ∷ d ∷ e ∷ f ∷ g ∷ rest) n h = absurd (omega (arith, n))

-- a chip is that of its numbers
pub synth_again : (s : Synth) → IsSynth s → synth_from (saved_synth_of s) ≡ s
synth_again s h = λ i. record s { channels = channels_again s.channels h.six h.channels i }

-- what is read is in the bytes
pub keeps_synth : (bytes : List ℕ) (s : SavedSynth) → IsBytes bytes → length bytes ≡ synth_size → s ≡ synth_at bytes → Keeps synth_fields bytes s
keeps_synth bytes s fits long e = kept synth_fields bytes s fits (subst (λ (t : SavedSynth). Stand 0 (synth_fields t) bytes) (sym e) (synth_stands bytes long))
