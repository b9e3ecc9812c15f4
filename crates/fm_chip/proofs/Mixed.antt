-- The channels on their way through a sample.
use Rattle.std.proofs.Common.{◌≡◌, ◌≢◌, ◌∙◌, ap, refl, ℕ, ◌+◌, ◌*◌, ◌<◌, ◌≤◌, ℤ, pos, ◌+ℤ◌, List, length, slice_set, length-set, get_or-set_other, get_or-set_same, below_more, add-one, arith}
use Rattle.std.specs.Prelude.{All}
use Rattle.std.proofs.lemmas.List.FromFn.{fill_by_all}
use Rattle.fm_chip.specs.declared.channels.Channel.{Channel}
use Rattle.fm_chip.specs.declared.channels.Moment.{Moment}
use Rattle.fm_chip.specs.Channels.{IsChannel, blank, channel_at, channel_after, channel_value}
use Rattle.fm_chip.specs.Synth.{left_below, right_below, left_of, right_of, channels_after}
use Rattle.fm_voice.specs.Channel.{IsWithin, IsLevel}
use Rattle.std.proofs.lemmas.Int.{ints}

pub record Mixing (registers : List ℕ) (m : Moment) (old : List Channel) (c : ℕ) (now : List Channel) (l r : ℤ) : Type 0 where
  pub six : length now ≡ 6
  pub done : (j : ℕ) → j < c → channel_at now j ≡ channel_after registers m j (channel_at old j)
  pub rest : (j : ℕ) → c ≤ j → channel_at now j ≡ channel_at old j
  pub fine : All IsChannel now
  pub left : l ≡ left_below registers m old c
  pub right : r ≡ right_below registers m old c
  pub left_most : IsWithin (8192 * c) l
  pub right_most : IsWithin (8192 * c) r

pub done_more : (registers : List ℕ) (m : Moment) (old now : List Channel) (c : ℕ) (v : Channel) → c < length now
    → ((j : ℕ) → j < c → channel_at now j ≡ channel_after registers m j (channel_at old j))
    → v ≡ channel_after registers m c (channel_at old c)
    → (j : ℕ) → j < c + 1 → channel_at (slice_set now c v) j ≡ channel_after registers m j (channel_at old j)
done_more registers m old now c v within before here =
    below_more _ _ (λ j h. let ne : j ≢ c = omega arith in rw get_or-set_other (before j h)) (rw get_or-set_same here)

pub rest_more : (old now : List Channel) (c : ℕ) (v : Channel) → ((j : ℕ) → c ≤ j → channel_at now j ≡ channel_at old j)
    → (j : ℕ) → c + 1 ≤ j → channel_at (slice_set now c v) j ≡ channel_at old j
rest_more old now c v before j h = (let ne : j ≢ c = omega (arith, h) in rw get_or-set_other (before j (omega (arith, h))))

pub left_more : (registers : List ℕ) (m : Moment) (old : List Channel) (c : ℕ) (sum part value : ℤ)
    → sum ≡ left_below registers m old c → part ≡ left_of registers c value → value ≡ channel_value registers m c (channel_at old c)
    → sum +ℤ part ≡ left_below registers m old (c + 1)
unfolding left_below
left_more registers m old c sum part value p q r =
    rw add-one (λ i. p i +ℤ (q ∙ ap (left_of registers c) r) i)

pub right_more : (registers : List ℕ) (m : Moment) (old : List Channel) (c : ℕ) (sum part value : ℤ)
    → sum ≡ right_below registers m old c → part ≡ right_of registers c value → value ≡ channel_value registers m c (channel_at old c)
    → sum +ℤ part ≡ right_below registers m old (c + 1)
unfolding right_below
right_more registers m old c sum part value p q r =
    rw add-one (λ i. p i +ℤ (q ∙ ap (right_of registers c) r) i)

pub all_done : (registers : List ℕ) (m : Moment) (old now : List Channel) → length now ≡ 6
    → ((j : ℕ) → j < 6 → channel_at now j ≡ channel_after registers m j (channel_at old j)) → now ≡ channels_after registers m old
unfolding channels_after
all_done registers m old now six done =
    fill_by_all (λ c. channel_after registers m c (channel_at old c)) now 6 blank six done

pub mixing_first : (registers : List ℕ) (m : Moment) (old : List Channel) → All IsChannel old → length old ≡ 6 → Mixing registers m old 0 old (pos 0) (pos 0)
unfolding left_below right_below
mixing_first registers m old fine six = record {
  six = six;
  done = λ j h. absurd (omega (arith, h));
  rest = λ j h. refl;
  fine = fine;
  left = refl;
  right = refl;
  left_most = (omega (arith, ints), omega (arith, ints));
  right_most = (omega (arith, ints), omega (arith, ints));
}

pub mixing_more : (registers : List ℕ) (m : Moment) (old : List Channel) (c : ℕ) (now new : List Channel) (l r value a b l2 r2 : ℤ)
    → Mixing registers m old c now l r → c < 6
    → new ≡ slice_set now c (channel_after registers m c (channel_at now c)) → All IsChannel new
    → value ≡ channel_value registers m c (channel_at now c)
    → a ≡ left_of registers c value → b ≡ right_of registers c value → IsLevel a → IsLevel b
    → l2 ≡ l +ℤ a → r2 ≡ r +ℤ b
    → Mixing registers m old (c + 1) new l2 r2
mixing_more registers m old c now new l r value a b l2 r2 h within e fine v p q pl ql sl sr =
    let here : channel_at now c ≡ channel_at old c = h.rest c (omega arith) in
    let heard : value ≡ channel_value registers m c (channel_at old c) = v ∙ ap (channel_value registers m c) here in
    let is : new ≡ slice_set now c (channel_after registers m c (channel_at old c)) = e ∙ ap (λ x. slice_set now c (channel_after registers m c x)) here in
    record {
      six = ap length e ∙ length-set now c _ ∙ h.six;
      done = rw is (done_more registers m old now c _ (omega (arith, h.six)) h.done refl);
      rest = rw is (rest_more old now c _ h.rest);
      fine = fine;
      left = sl ∙ left_more registers m old c l a value h.left p heard;
      right = sr ∙ right_more registers m old c r b value h.right q heard;
      left_most = (omega (arith, ints, h.left_most.0, pl.0, sl), omega (arith, ints, h.left_most.1, pl.1, sl));
      right_most = (omega (arith, ints, h.right_most.0, ql.0, sr), omega (arith, ints, h.right_most.1, ql.1, sr));
    }
