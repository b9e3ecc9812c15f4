-- What a sound chip makes during a run from power-on is what the writes of its journal make of it.
use Rattle.std.proofs.Common.{◌≡◌, ℕ, zero, suc, ◌+◌, ◌*◌, ◌<◌, ◌≤◌, ◌==◌, ◌&&◌, inl, inr, cond, Bool, true, false, not, List, [], ◌∷◌, ◌++◌, map, refl, sym, ap, ◌∙◌, subst, arith, append_assoc}
use Rattle.std.specs.Prelude.{All, ◌||◌, nat_lt}
use Rattle.std.specs.List.{range_with_len}
use Rattle.std.proofs.lemmas.Bool.{and_parts, lt-ltb, le-ltb, cases_lt}
use Rattle.std.proofs.lemmas.List.{append-nil}
use Rattle.std.proofs.lemmas.List.Elements.{All-head, All-tail, All-weaker}
use Rattle.std.proofs.lemmas.List.Sums.{AllPass-from_list_all}
use Rattle.md_word.specs.Clock as clock
use Rattle.md_word.specs.declared.event.Entry.{Entry}
use Rattle.md_word.specs.declared.key.Key.{Key}
use Rattle.sound_writes.specs.Held.{left_from, taken_below}
use Rattle.sound_writes.specs.Keys.{are_spaced, is_following}
use Rattle.sound_writes.specs.Order.{IsInOrder}
use Rattle.sound_writes.proofs.Orders.{IsInOrder-append, IsInOrder-high, IsInOrder-low, IsInOrder-taken_below}
use Rattle.md_chips.specs.Console as consoles
use Rattle.md_chips.specs.Console.{Console, first_of, moved, rendered}
use Rattle.md_chips.specs.Media.{Media, joined, no_media}
use Rattle.journal_sound.specs.Heard.{after, at_power_on, heard_of, reported}
use Rattle.journal_sound.specs.declared.hearing.Hearing.{Hearing}
use Rattle.journal_sound.specs.declared.sound_access.SoundAccess.{SoundAccess}
use Rattle.machine_laws.proofs.Effects.{hearing}
use Rattle.machine_laws.proofs.Held.{AreHeld, IsHeldKey, all-unmap}
use Rattle.machine_laws.proofs.Ports.{PortHolds, PortOf, next_batch}

-- ---- entries one after another

unfoldable pub hears : Hearing → List Entry → Hearing
hears h [] = h
hears h (e ∷ es) = hears (after e h) es

pub hears-append : (h : Hearing) (xs ys : List Entry) → hears h (xs ++ ys) ≡ hears (hears h xs) ys
unfolding hears
hears-append h [] ys = refl
hears-append h (x ∷ xs) ys = hears-append (after x h) xs ys

pub heard-append : {A : Type 0} (of : Key → SoundAccess → Hearing → List A) (h : Hearing) (xs ys : List Entry)
    → heard_of of h (xs ++ ys) ≡ heard_of of h xs ++ heard_of of (hears h xs) ys
unfolding hears heard_of
heard-append of h [] ys = refl
heard-append of h (x ∷ xs) ys =
    ap (λ l. of x.key (reported h x) h ++ l) (heard-append of (after x h) xs ys)
    ∙ sym (append_assoc (of x.key (reported h x) h) (heard_of of (after x h) xs) (heard_of of (hears (after x h) xs) ys))

-- ---- numbers one after another

map_from : {Y : Type 0} (f g : ℕ → Y) (a n : ℕ) → ((k : ℕ) → a ≤ k → k < a + n → f k ≡ g k) → map f (range_with_len a n) ≡ map g (range_with_len a n)
map_from f g a zero same = refl
map_from {Y = Y} f g a (suc n) same =
    let here : f a ≡ g a = same a (omega arith) (omega arith) in
    let rest : map f (range_with_len (a + 1) n) ≡ map g (range_with_len (a + 1) n) = map_from f g (a + 1) n (λ k low high. same k (omega (arith, low)) (omega (arith, high))) in
    λ i. here i ∷ rest i

range_over : (a n m : ℕ) → range_with_len a (n + m) ≡ range_with_len a n ++ range_with_len (a + n) m
range_over a zero m = let e : a ≡ a + zero = omega arith in let z : zero + m ≡ m = omega arith in λ i. range_with_len (e i) (z i)
range_over a (suc n) m =
    let e : suc n + m ≡ suc (n + m) = omega arith in
    let s : (a + 1) + n ≡ a + suc n = omega arith in
    ap (range_with_len a) e ∙ ap (λ l. a ∷ l) (range_over (a + 1) n m ∙ ap (λ k. range_with_len (a + 1) n ++ range_with_len k m) s)

map_shift : {Y : Type 0} (f : ℕ → Y) (c a n : ℕ) → map (λ k. f (c + k)) (range_with_len a n) ≡ map f (range_with_len (c + a) n)
map_shift f c a zero = refl
map_shift f c a (suc n) = let e : c + (a + 1) ≡ (c + a) + 1 = omega arith in ap (λ l. f (c + a) ∷ l) (map_shift f c (a + 1) n ∙ ap (λ k. map f (range_with_len k n)) e)

map_over : {Y : Type 0} (f : ℕ → Y) (xs ys : List ℕ) → map f (xs ++ ys) ≡ map f xs ++ map f ys
map_over f [] ys = refl
map_over f (x ∷ xs) ys = ap (λ l. f x ∷ l) (map_over f xs ys)

-- those up to a number, and those after it
pub map_both : {Y : Type 0} (f g : ℕ → Y) (n m : ℕ) → ((k : ℕ) → k < n → f k ≡ g k) → map f (range_with_len 0 n) ++ map (λ k. g (n + k)) (range_with_len 0 m) ≡ map g (range_with_len 0 (n + m))
map_both f g n m same =
    let zero_is : n + 0 ≡ 0 + n = omega arith in
    let front : map f (range_with_len 0 n) ≡ map g (range_with_len 0 n) = map_from f g 0 n (λ k low high. same k (omega (arith, high))) in
    let back : map (λ k. g (n + k)) (range_with_len 0 m) ≡ map g (range_with_len (0 + n) m) = map_shift g n 0 m ∙ ap (λ k. map g (range_with_len k m)) zero_is in
    (λ i. front i ++ back i) ∙ sym (map_over g (range_with_len 0 n) (range_with_len (0 + n) m)) ∙ ap (map g) (sym (range_over 0 n m))

-- ---- writes that are held, in the order of their stamps

record IsBetween (low high : ℕ) (k : Key) : Type 0 where
  from : low ≤ k.cycle
  below : k.cycle < high

later_by : (c d : ℕ) (lower same : Bool) → ((nat_lt c d || (c == d && lower)) && same) ≡ true → c ≤ d
later_by c d true true is = grind (arith, is)
later_by c d false true is = grind (arith, is)
later_by c d true false is = grind (arith, is)
later_by c d false false is = grind (arith, is)

later_than : (k l : Key) → is_following k l ≡ true → k.cycle ≤ l.cycle
later_than k l is = later_by k.cycle l.cycle (nat_lt k.chip l.chip) _ is

in-order : {A : Type 0} (key : A → Key) (ws : List A) (low high : ℕ) → All (λ w. IsBetween low high (key w)) ws → are_spaced (map key ws) ≡ true → IsInOrder (λ w. (key w).cycle) low high ws
in-order key [] low high all spaced = tt
in-order key (w ∷ ws) low high all spaced =
    let here = All-head (λ v. IsBetween low high (key v)) w ws all in
    let rest = All-tail (λ v. IsBetween low high (key v)) w ws all in
    let following : All (λ v. is_following (key w) (key v) ≡ true) ws = all-unmap (λ k. is_following (key w) k ≡ true) key ws (AllPass-from_list_all (is_following (key w)) (map key ws) (and_parts _ _ spaced).0) in
    (here.from, here.below, in-order key ws (key w).cycle high (λ k d lt. record { from = later_than (key w) _ (following k d lt); below = (rest k d lt).below }) (and_parts _ _ spaced).1)

pub held-in-order : {A : Type 0} (key : A → Key) (from end main sub : ℕ) (ws : List A) → AreHeld key from end main sub ws → IsInOrder (λ w. (key w).cycle) from end ws
held-in-order key from end main sub ws held =
    in-order key ws from end (All-weaker (λ w. IsHeldKey from end main sub (key w)) (λ w. IsBetween from end (key w)) (λ w is. record { from = is.low; below = is.high }) ws held.each) held.spaced

-- what is taken and what is left are all
all-left : {A : Type 0} (stamp : A → ℕ) (cycle low high : ℕ) (ws : List A) → IsInOrder stamp low high ws → cycle ≤ low → left_from stamp cycle ws ≡ ws
all-left stamp cycle low high [] o le = refl
all-left stamp cycle low high (w ∷ ws) o le =
    let no : nat_lt (stamp w) cycle ≡ false = le-ltb (stamp w) cycle (omega (arith, le, o.0)) in
    ap (λ b. cond (not b) (w ∷ left_from stamp cycle ws) (left_from stamp cycle ws)) no ∙ ap (λ l. w ∷ l) (all-left stamp cycle (stamp w) high ws o.2 (omega (arith, le, o.0)))

none-taken : {A : Type 0} (stamp : A → ℕ) (cycle low high : ℕ) (ws : List A) → IsInOrder stamp low high ws → cycle ≤ low → taken_below stamp cycle ws ≡ []
none-taken stamp cycle low high [] o le = refl
none-taken stamp cycle low high (w ∷ ws) o le =
    let no : nat_lt (stamp w) cycle ≡ false = le-ltb (stamp w) cycle (omega (arith, le, o.0)) in
    ap (λ b. cond b (w ∷ taken_below stamp cycle ws) (taken_below stamp cycle ws)) no ∙ none-taken stamp cycle (stamp w) high ws o.2 (omega (arith, le, o.0))

pub taken-and-left : {A : Type 0} (stamp : A → ℕ) (cycle low high : ℕ) (ws : List A) → IsInOrder stamp low high ws → taken_below stamp cycle ws ++ left_from stamp cycle ws ≡ ws
taken-and-left stamp cycle low high [] o = refl
taken-and-left {A = A} stamp cycle low high (w ∷ ws) o = elim (cases_lt (stamp w) cycle) [
  | inl h ↦ (let yes : nat_lt (stamp w) cycle ≡ true = lt-ltb (stamp w) cycle h in
      ap (λ (b : Bool). cond b (w ∷ taken_below stamp cycle ws) (taken_below stamp cycle ws) ++ cond (not b) (w ∷ left_from stamp cycle ws) (left_from stamp cycle ws)) yes
      ∙ ap (λ (l : List A). w ∷ l) (taken-and-left stamp cycle (stamp w) high ws o.2))
  | inr h ↦ (let whole : left_from stamp cycle (w ∷ ws) ≡ w ∷ ws = all-left stamp cycle (stamp w) high (w ∷ ws) (omega arith, o.1, o.2) h in
      let none : taken_below stamp cycle (w ∷ ws) ≡ [] = none-taken stamp cycle (stamp w) high (w ∷ ws) (omega arith, o.1, o.2) h in
      λ i. none i ++ whole i)
]

-- ---- a sound chip

-- the FM chip or the PSG: its port, its synthesis, what it makes, and both over a history of writes
pub record SoundOf (A S Y : Type 0) : Type 0 where
  pub port : PortOf A
  pub chip : Console → S
  pub made : Media → List Y
  pub before : List A → ℕ → S
  pub at : List A → ℕ → Y
  pub nothing : made no_media ≡ []
  pub more : (x y : Media) → made (joined x y) ≡ made x ++ made y
  pub earlier : (low high k : ℕ) (history ws : List A) → IsInOrder (λ w. (port.key w).cycle) low high ws → clock.fm_sample * k ≤ low → at (history ++ ws) k ≡ at history k

-- what a move does to it: an access reports something to it, or it makes a batch
pub record Batch {A S Y : Type 0} (s : SoundOf A S Y) (z : Console) (i first : ℕ) (taken : List A) (history : List A) : Type 0 where
  pub made : s.made (rendered z i) ≡ map (λ k. s.at (history ++ taken) (first + k)) (range_with_len 0 16)
  pub chip : s.chip (moved z i) ≡ s.before (history ++ taken) (first + 16)

pub data SoundMove {A S Y : Type 0} (s : SoundOf A S Y) (z : Console) (i : ℕ) : Type 0 where
  reports : hearing (moved z i).shared ≡ hears (hearing z.shared) (consoles.reported z i)
      → s.port.held (moved z i).shared ≡ s.port.held z.shared ++ heard_of s.port.of (hearing z.shared) (consoles.reported z i)
      → next_batch s.port.fm (moved z i) ≡ next_batch s.port.fm z → s.chip (moved z i) ≡ s.chip z → s.made (rendered z i) ≡ [] → SoundMove s z i
  makes : hearing (moved z i).shared ≡ hears (hearing z.shared) (consoles.reported z i)
      → heard_of s.port.of (hearing z.shared) (consoles.reported z i) ≡ []
      → s.port.held (moved z i).shared ≡ left_from (λ w. (s.port.key w).cycle) (next_batch s.port.fm z) (s.port.held z.shared)
      → next_batch s.port.fm (moved z i) ≡ next_batch s.port.fm z + clock.batch
      → ((history : List A) → let first = first_of (next_batch s.port.fm z) in let taken = taken_below (λ w. (s.port.key w).cycle) (next_batch s.port.fm z) (s.port.held z.shared) in
      IsInOrder (λ w. (s.port.key w).cycle) 0 (clock.fm_sample * first) history → IsInOrder (λ w. (s.port.key w).cycle) (clock.fm_sample * first) (clock.fm_sample * (first + 16)) taken
      → s.chip z ≡ s.before history first → Batch s z i first taken history)
      → SoundMove s z i

-- what is known of it after some moves from power-on
pub record Known {A S Y : Type 0} (s : SoundOf A S Y) (z : Console) (entries : List Entry) (output : Media) : Type 0 where
  pub batches : ℕ
  pub done : List A
  pub hearing_is : hearing z.shared ≡ hears at_power_on entries
  pub all : heard_of s.port.of at_power_on entries ≡ done ++ s.port.held z.shared
  pub next : next_batch s.port.fm z ≡ clock.batch * batches + clock.batch
  pub past : IsInOrder (λ w. (s.port.key w).cycle) 0 (clock.batch * batches) done
  pub chip : s.chip z ≡ s.before done (16 * batches)
  pub made : s.made output ≡ map (s.at done) (range_with_len 0 (16 * batches))

module _ {A S Y : Type 0} (s : SoundOf A S Y) where
  known-reported : (z w : Console) (es reported : List Entry) (output made : Media) (known : Known s z es output)
      → hearing w.shared ≡ hears (hearing z.shared) reported → s.port.held w.shared ≡ s.port.held z.shared ++ heard_of s.port.of (hearing z.shared) reported
      → next_batch s.port.fm w ≡ next_batch s.port.fm z → s.chip w ≡ s.chip z → s.made made ≡ [] → Known s w (es ++ reported) (joined output made)
  known-reported z w es reported output made known hears_is held next chip silent = record {
    batches = known.batches;
    done = known.done;
    hearing_is = hears_is ∙ ap (λ (h : Hearing). hears h reported) known.hearing_is ∙ sym (hears-append at_power_on es reported);
    all =
        heard-append s.port.of at_power_on es reported
        ∙ ap (λ (h : Hearing). heard_of s.port.of at_power_on es ++ heard_of s.port.of h reported) (sym known.hearing_is)
        ∙ ap (λ (l : List A). l ++ heard_of s.port.of (hearing z.shared) reported) known.all
        ∙ append_assoc known.done (s.port.held z.shared) (heard_of s.port.of (hearing z.shared) reported)
        ∙ ap (λ (l : List A). known.done ++ l) (sym held);
    next = next ∙ known.next;
    past = known.past;
    chip = chip ∙ known.chip;
    made = s.more output made ∙ ap (λ (l : List Y). s.made output ++ l) silent ∙ append-nil (s.made output) ∙ known.made;
  }

  pub known-made : (end : ℕ) (z : Console) (i : ℕ) (es : List Entry) (output : Media) (known : Known s z es output) (holds : PortHolds s.port end z)
      → SoundMove s z i → Known s (moved z i) (es ++ consoles.reported z i) (joined output (rendered z i))
  known-made end z i es output known holds (reports hears_is held next chip silent) = known-reported z (moved z i) es (consoles.reported z i) output (rendered z i) known hears_is held next chip silent
  known-made end z i es output known holds (makes hears_is none left next renders) =
      let stamp : A → ℕ = λ w. (s.port.key w).cycle in
      let cycle : ℕ = next_batch s.port.fm z in
      let held : List A = s.port.held z.shared in
      let taken : List A = taken_below stamp cycle held in
      let first : ℕ = first_of cycle in
      let first_is : first ≡ 16 * known.batches = omega (arith, known.next) in
      let low_is : holds.from ≡ clock.batch * known.batches = omega (arith, holds.next, known.next) in
      let order : IsInOrder stamp (clock.batch * known.batches) end held =
      subst (λ (n : ℕ). IsInOrder stamp n end held) low_is (held-in-order s.port.key holds.from end z.main.next z.sub.state.next held holds.held) in
      let span : IsInOrder stamp (clock.fm_sample * first) (clock.fm_sample * (first + 16)) taken =
      IsInOrder-low stamp (clock.fm_sample * first) (clock.batch * known.batches) (clock.fm_sample * (first + 16)) taken (omega (arith, first_is))
      (IsInOrder-high stamp (clock.batch * known.batches) cycle (clock.fm_sample * (first + 16)) taken (omega (arith, first_is, known.next)) (IsInOrder-taken_below stamp cycle (clock.batch * known.batches) end held order)) in
      let past : IsInOrder stamp 0 (clock.fm_sample * first) known.done = IsInOrder-high stamp 0 (clock.batch * known.batches) (clock.fm_sample * first) known.done (omega (arith, first_is)) known.past in
      let batch : Batch s z i first taken known.done = renders known.done past span (known.chip ∙ ap (s.before known.done) (sym first_is)) in
      let whole : taken ++ left_from stamp cycle held ≡ held = taken-and-left stamp cycle (clock.batch * known.batches) end held order in
      record {
        batches = known.batches + 1;
        done = known.done ++ taken;
        hearing_is = hears_is ∙ ap (λ (h : Hearing). hears h (consoles.reported z i)) known.hearing_is ∙ sym (hears-append at_power_on es (consoles.reported z i));
        all =
            heard-append s.port.of at_power_on es (consoles.reported z i)
            ∙ ap (λ (h : Hearing). heard_of s.port.of at_power_on es ++ heard_of s.port.of h (consoles.reported z i)) (sym known.hearing_is)
            ∙ ap (λ (l : List A). heard_of s.port.of at_power_on es ++ l) none
            ∙ append-nil (heard_of s.port.of at_power_on es)
            ∙ known.all
            ∙ ap (λ (l : List A). known.done ++ l) (sym whole)
            ∙ sym (append_assoc known.done taken (left_from stamp cycle held))
            ∙ ap (λ (l : List A). (known.done ++ taken) ++ l) (sym left);
        next = next ∙ omega (arith, known.next);
        past =
            IsInOrder-high stamp 0 (clock.fm_sample * (first + 16)) (clock.batch * (known.batches + 1)) (known.done ++ taken) (omega (arith, first_is))
            (IsInOrder-append stamp (clock.fm_sample * first) (clock.fm_sample * (first + 16)) 0 known.done taken (omega arith) (omega arith) past span);
        chip = batch.chip ∙ ap (s.before (known.done ++ taken)) (omega (arith, first_is));
        made =
            s.more output (rendered z i)
            ∙ (λ j. known.made j ++ batch.made j)
            ∙ ap (λ (n : ℕ). map (s.at known.done) (range_with_len 0 (16 * known.batches)) ++ map (λ k. s.at (known.done ++ taken) (n + k)) (range_with_len 0 16)) first_is
            ∙ map_both (s.at known.done) (s.at (known.done ++ taken)) (16 * known.batches) 16
            (λ k below. sym (s.earlier (clock.fm_sample * first) (clock.fm_sample * (first + 16)) k known.done taken span (omega (arith, below, first_is))))
            ∙ ap (λ (n : ℕ). map (s.at (known.done ++ taken)) (range_with_len 0 n)) (omega arith);
      }

  -- where no later batch is below a cycle
  pub known-levels : (end : ℕ) (z : Console) (es : List Entry) (output : Media) (batches : ℕ) (known : Known s z es output) → PortHolds s.port end z → known.batches ≡ batches
      → (s.made output ≡ map (s.at (heard_of s.port.of at_power_on es)) (range_with_len 0 (16 * batches)))
  known-levels end z es output batches known holds is =
      let stamp : A → ℕ = λ w. (s.port.key w).cycle in
      let held : List A = s.port.held z.shared in
      let low_is : holds.from ≡ clock.batch * known.batches = omega (arith, holds.next, known.next) in
      let order : IsInOrder stamp (clock.batch * known.batches) end held =
      subst (λ (n : ℕ). IsInOrder stamp n end held) low_is (held-in-order s.port.key holds.from end z.main.next z.sub.state.next held holds.held) in
      known.made
      ∙ map_from (s.at known.done) (s.at (known.done ++ held)) 0 (16 * known.batches) (λ k low high. sym (s.earlier (clock.batch * known.batches) end k known.done held order (omega (arith, high))))
      ∙ ap (λ (l : List A). map (s.at l) (range_with_len 0 (16 * known.batches))) (sym known.all)
      ∙ ap (λ (n : ℕ). map (s.at (heard_of s.port.of at_power_on es)) (range_with_len 0 (16 * n))) is

  pub known-order : (end : ℕ) (z : Console) (es : List Entry) (output : Media) (known : Known s z es output) → PortHolds s.port end z → clock.batch * known.batches ≤ end
      → IsInOrder (λ w. (s.port.key w).cycle) 0 end (heard_of s.port.of at_power_on es)
  known-order end z es output known holds le =
      let stamp : A → ℕ = λ w. (s.port.key w).cycle in
      let held : List A = s.port.held z.shared in
      let low_is : holds.from ≡ clock.batch * known.batches = omega (arith, holds.next, known.next) in
      let order : IsInOrder stamp (clock.batch * known.batches) end held =
      subst (λ (n : ℕ). IsInOrder stamp n end held) low_is (held-in-order s.port.key holds.from end z.main.next z.sub.state.next held holds.held) in
      subst (IsInOrder stamp 0 end) (sym known.all) (IsInOrder-append stamp (clock.batch * known.batches) end 0 known.done held (omega arith) le known.past order)
