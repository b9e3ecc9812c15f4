-- How many samples and entries a run makes.
use Rattle.std.proofs.Common.{◌≡◌, ◌⊎◌, inl, inr, ℕ, zero, suc, ◌+◌, ◌-◌, ◌*◌, ◌<◌, ◌≤◌, cond, Bool, true, false, List, [], ◌∷◌, length, length-append, refl, ap, ◌∙◌, subst, arith, lit<, ◌++◌}
use Rattle.std.specs.Prelude.{ℤ}
use Rattle.md_word.specs.Clock as clock
use Rattle.md_word.specs.declared.event.Entry.{Entry}
use Rattle.m68k_chip.specs.Events.{request_of}
use Rattle.m68k_chip.specs.States.{next_of}
use Rattle.z80_chip.specs.States.{next_of as sub_next_of}
use Rattle.bus_shared.specs.Accesses.{main_reported}
use Rattle.md_chips.specs.Console.{AllBelow, Console, IsQuiet, IsRunTo, fm_moved, rendered, journal, key_in, line_moved, main_moved, moved, sub_accessed, sub_moved, mover, psg_moved, ran, media_after, reported}
use Rattle.md_chips.specs.Media.{Media, joined, no_media}
use Rattle.md_chips.specs.Movers.{mover-lt}
use Rattle.md_chips.specs.Starts.{IsStart, Start, batches_below, first_batch}
use Rattle.md_chips.proofs.Moves.{five-each}
use Rattle.md_chips.proofs.Samples.{levels-long, sides-long}

-- a sound chip's samples among those of both, the cycle of its next batch, and what a move does to them
data Batch {A : Type 0} (of : Media → List A) (next : Console → ℕ) (z : Console) (i : ℕ) : Type 0 where
  made : (key_in z i).cycle ≡ next z → next (moved z i) ≡ next z + clock.batch → length (of (rendered z i)) ≡ 16 → Batch of next z i
  none : next (moved z i) ≡ next z → of (rendered z i) ≡ [] → Batch of next z i

record Beat (A : Type 0) : Type 0 where
  of : Media → List A
  nothing : of no_media ≡ []
  more : (first second : Media) → of (joined first second) ≡ of first ++ of second
  next : Console → ℕ
  first : (start : Start) → IsStart start → next start.console ≡ first_batch start.at
  batch : (z : Console) (i : ℕ) → i < 5 → Batch of next z i
  late : (z : Console) (end : ℕ) → IsQuiet end z → end ≤ next z

fm-leaves : (b : Bool) (x y : Console) (c : ℕ) → x.fm_cycle ≡ c → y.fm_cycle ≡ c → (cond b x y).fm_cycle ≡ c
fm-leaves true x y c first second = first
fm-leaves false x y c first second = second

main-leaves : (b : Bool) (x y : Console) (c : ℕ) → x.psg_cycle ≡ c → y.psg_cycle ≡ c → (cond b x y).psg_cycle ≡ c
main-leaves true x y c first second = first
main-leaves false x y c first second = second

fm-batch : (z : Console) (i : ℕ) → i < 5 → Batch (λ s. s.sides) (λ m. m.fm_cycle) z i
unfolding key_in moved rendered main_moved sub_moved line_moved fm_moved psg_moved
fm-batch z =
    five-each (λ i. Batch (λ s. s.sides) (λ m. m.fm_cycle) z i)
    (none (fm-leaves (next_of z.main).sample _ _ z.fm_cycle refl refl) refl)
    (none (fm-leaves (sub_next_of z.sub.state).sample _ _ z.fm_cycle refl refl) refl)
    (none refl refl) (made refl refl (sides-long z 3 (lit< tt))) (none refl refl)

psg-batch : (z : Console) (i : ℕ) → i < 5 → Batch (λ s. s.levels) (λ m. m.psg_cycle) z i
unfolding key_in moved rendered main_moved sub_moved line_moved fm_moved psg_moved
psg-batch z =
    five-each (λ i. Batch (λ s. s.levels) (λ m. m.psg_cycle) z i)
    (none (main-leaves (next_of z.main).sample _ _ z.psg_cycle refl refl) refl)
    (none (main-leaves (sub_next_of z.sub.state).sample _ _ z.psg_cycle refl refl) refl)
    (none refl refl) (none refl refl) (made refl refl (levels-long z 4 (lit< tt)))

fm-late : (z : Console) (end : ℕ) → IsQuiet end z → end ≤ z.fm_cycle
unfolding key_in
fm-late z end quiet = quiet 3 (lit< tt)

psg-late : (z : Console) (end : ℕ) → IsQuiet end z → end ≤ z.psg_cycle
unfolding key_in
psg-late z end quiet = quiet 4 (lit< tt)

fm_beat : Beat (ℤ × ℤ)
fm_beat = record {
  of = λ s. s.sides;
  nothing = refl;
  more = λ first second. refl;
  next = λ m. m.fm_cycle;
  first = λ start is. is.fm;
  batch = fm-batch;
  late = fm-late;
}

psg_beat : Beat ℤ
psg_beat = record {
  of = λ s. s.levels;
  nothing = refl;
  more = λ first second. refl;
  next = λ m. m.psg_cycle;
  first = λ start is. is.psg;
  batch = psg-batch;
  late = psg-late;
}

-- the batches of the first n moves from a start
record Batches {A : Type 0} (p : Beat A) (start : Start) (end n : ℕ) : Type 0 where
  batches : ℕ
  next : p.next (ran start.console n) ≡ clock.batch * (batches_below start.at + batches + 1)
  count : length (p.of (media_after start.console n)) ≡ 16 * batches
  last : (batches ≡ 0) ⊎ (clock.batch * (batches_below start.at + batches) < end)

-- the samples of one move more
longer : {A : Type 0} (p : Beat A) (first second : Media) → length (p.of (joined first second)) ≡ length (p.of first) + length (p.of second)
longer p first second = ap length (p.more first second) ∙ length-append (p.of first) (p.of second)

batch-more : {A : Type 0} (p : Beat A) (start : Start) (end n : ℕ) → Batches p start end n
    → (key_in (ran start.console n) (mover (ran start.console n))).cycle < end
    → Batch p.of p.next (ran start.console n) (mover (ran start.console n)) → Batches p start end (suc n)
unfolding ran media_after
batch-more p start end n before below (made at next sixteen) = record {
  batches = before.batches + 1;
  next = omega (arith, next, before.next);
  count = omega (arith, longer p (media_after start.console n) (rendered (ran start.console n) (mover (ran start.console n))), before.count, sixteen);
  last = inr (omega (arith, at, before.next, below));
}
batch-more p start end n before below (none next silent) = record {
  batches = before.batches;
  next = next ∙ before.next;
  count =
      longer p (media_after start.console n) (rendered (ran start.console n) (mover (ran start.console n)))
      ∙ ap (λ l. length (p.of (media_after start.console n)) + length l) silent ∙ omega (arith, before.count);
  last = before.last;
}

batches-to : {A : Type 0} (p : Beat A) (start : Start) (end n : ℕ) → IsStart start → AllBelow start.console end n → Batches p start end n
unfolding ran media_after
batches-to p start end zero is below = record {
  batches = 0;
  next = p.first start is ∙ omega arith;
  count = ap length p.nothing;
  last = inl refl;
}
batches-to p start end (suc n) is below =
    batch-more p start end n (batches-to p start end n is (λ k earlier. below k (omega arith))) (below n (omega arith))
    (p.batch (ran start.console n) (mover (ran start.console n)) (mover-lt (ran start.console n)))

-- so many batches are those between the start and the end
all_made : (before end batches : ℕ) → end ≤ clock.batch * (before + batches + 1) → (batches ≡ 0) ⊎ (clock.batch * (before + batches) < end)
    → batches ≡ batches_below end - before
all_made before end batches late (inl nothing) = omega (arith, late, nothing)
all_made before end batches late (inr last) = omega (arith, late, last)

counted : {A : Type 0} (p : Beat A) (start : Start) (z : Console) (end : ℕ) (entries : List Entry) (sound : Media) → IsStart start
    → IsRunTo start.console end z entries sound → length (p.of sound) ≡ 16 * (batches_below end - batches_below start.at)
counted p start z end entries sound is run =
    let made : Batches p start end run.moves = batches-to p start end run.moves is run.below in
    let at : p.next z ≡ clock.batch * (batches_below start.at + made.batches + 1) = ap p.next run.console ∙ made.next in
    let late : end ≤ clock.batch * (batches_below start.at + made.batches + 1) = subst (λ (n : ℕ). end ≤ n) at (p.late z end run.quiet) in
    ap (λ (s : Media). length (p.of s)) run.rendered_to ∙ made.count
    ∙ ap (λ k. 16 * k) (all_made (batches_below start.at) end made.batches late made.last)

-- the next batch after a run is the first from its end on
next_first : (at end batches : ℕ) → at ≤ end → end ≤ clock.batch * (batches_below at + batches + 1)
    → (batches ≡ 0) ⊎ (clock.batch * (batches_below at + batches) < end) → clock.batch * (batches_below at + batches + 1) ≡ first_batch end
next_first at end batches later late (inl nothing) = omega (arith, later, late, nothing)
next_first at end batches later late (inr last) = omega (arith, later, late, last)

goes_on : {A : Type 0} (p : Beat A) (start : Start) (z : Console) (end : ℕ) (entries : List Entry) (sound : Media) → IsStart start → start.at ≤ end
    → IsRunTo start.console end z entries sound → p.next z ≡ first_batch end
goes_on p start z end entries sound is later run =
    let made : Batches p start end run.moves = batches-to p start end run.moves is run.below in
    let at : p.next z ≡ clock.batch * (batches_below start.at + made.batches + 1) = ap p.next run.console ∙ made.next in
    let late : end ≤ clock.batch * (batches_below start.at + made.batches + 1) = subst (λ (n : ℕ). end ≤ n) at (p.late z end run.quiet) in
    at ∙ next_first start.at end made.batches later late made.last

pub sides-counted : (start : Start) (z : Console) (end : ℕ) (entries : List Entry) (sound : Media) → IsStart start
    → IsRunTo start.console end z entries sound → length sound.sides ≡ 16 * (batches_below end - batches_below start.at)
unfolding fm_beat
sides-counted = counted fm_beat

pub levels-counted : (start : Start) (z : Console) (end : ℕ) (entries : List Entry) (sound : Media) → IsStart start
    → IsRunTo start.console end z entries sound → length sound.levels ≡ 16 * (batches_below end - batches_below start.at)
unfolding psg_beat
levels-counted = counted psg_beat

pub fm-goes-on : (start : Start) (z : Console) (end : ℕ) (entries : List Entry) (sound : Media) → IsStart start → start.at ≤ end
    → IsRunTo start.console end z entries sound → z.fm_cycle ≡ first_batch end
unfolding fm_beat
fm-goes-on = goes_on fm_beat

pub psg-goes-on : (start : Start) (z : Console) (end : ℕ) (entries : List Entry) (sound : Media) → IsStart start → start.at ≤ end
    → IsRunTo start.console end z entries sound → z.psg_cycle ≡ first_batch end
unfolding psg_beat
psg-goes-on = goes_on psg_beat

-- a move gives one entry at most
reported-by : (b : Bool) (e : Entry) → length (cond b [] (e ∷ [])) ≤ 1
reported-by true e = omega arith
reported-by false e = omega arith

reported-few : (z : Console) (i : ℕ) → i < 5 → length (reported z i) ≤ 1
unfolding reported
reported-few z = five-each (λ i. length (reported z i) ≤ 1)
    (reported-by (next_of z.main).sample (main_reported z.shared (next_of z.main).key (request_of z.cart z.main))) (reported-by (sub_next_of z.sub.state).sample (sub_accessed z).entry) (omega arith) (omega arith) (omega arith)

pub journal-few : (m : Console) (n : ℕ) → length (journal m n) ≤ n
unfolding journal
journal-few m zero = omega arith
journal-few m (suc n) =
    omega (arith, length-append (journal m n) (reported (ran m n) (mover (ran m n))), journal-few m n, reported-few (ran m n) (mover (ran m n)) (mover-lt (ran m n)))
