-- A chip that makes several events while the others make none.
use Rattle.std.proofs.Common.{◌≡◌, ℕ, zero, suc, ◌+◌, ◌-◌, ◌<◌, ◌≤◌, inl, inr, true, false, true≢false, cond, List, [], ◌∷◌, ◌++◌, Option, None, refl, ap, ap₂, sym, subst, ◌∙◌, arith}
use Rattle.std.proofs.lemmas.Bool.{cases_lt}
use Rattle.std.proofs.lemmas.Bool.Decides.{nat_tests}
use Rattle.md_word.specs.declared.main_bus.Answer68.{Answer68}
use Rattle.md_word.specs.declared.main_bus.Request68.{Request68}
use Rattle.md_word.specs.declared.event.Entry.{Entry}
use Rattle.md_word.specs.declared.key.Key.{Key}
use Rattle.md_word.specs.Clock.{cycle_limit}
use Rattle.md_word.specs.Keys.{key_lt}
use Rattle.chip_core.specs.Chips.{LeavesPins, Rules}
use Rattle.chip_core.specs.Staying.{LeavesAll, Staying, StaysTo, Wakes, past_own_access, past_sample, stayed}
use Rattle.chip_core.proofs.Staying.{first-leaves}
use Rattle.m68k_chip.specs.Events as events68
use Rattle.m68k_chip.specs.Events.{SampledOn, answered, request_of}
use Rattle.m68k_chip.specs.States.{State68, next_of}
use Rattle.m68k_chip.specs.Validity.{Chip68Value}
use Rattle.bus_shared.specs.Accesses.{main_answer, main_board, main_pins, main_reported}
use Rattle.bus_shared.specs.Board.{Board, IsBoard}
use Rattle.md_chips.specs.Parts.{MainValue}
use Rattle.md_chips.specs.Rules.{IsChip, five}
use Rattle.md_chips.specs.declared.chips.Chip.{Chip}
use Rattle.md_chips.specs.declared.chips.Chip.TheVariants.{Main}
use Rattle.md_chips.proofs.Ahead.{main-samples-before, main_in_state}

module _ {Chip Shared Pins : Type 0} (rules : Rules Chip Shared Pins) where
  -- after m more than n events
  stayed-on : (m n i : ℕ) (a : Staying Chip Shared) → stayed rules (m + n) i a ≡ stayed rules m i (stayed rules n i a)
  unfolding stayed
  stayed-on zero n i a = ap (λ k. stayed rules k i a) (let e : 0 + n ≡ n = omega arith in e)
  stayed-on (suc m) n i a =
      ap (λ k. stayed rules k i a) (let e : suc m + n ≡ suc (m + n) = omega arith in e)
      ∙ ap (λ (b : Staying Chip Shared). cond (rules.next b.chip).sample (past_sample rules i b) (past_own_access rules b)) (stayed-on m n i a)

  -- what holds before each of the first n events, and before each of m more
  all-joined : (P : Staying Chip Shared → Type 0) (n m i : ℕ) (a b : Staying Chip Shared) → b ≡ stayed rules n i a → ((k : ℕ) → k < n → P (stayed rules k i a)) → ((k : ℕ) → k < m → P (stayed rules k i b))
      → (k : ℕ) → k < n + m → P (stayed rules k i a)
  all-joined P n m i a b is first later k most = elim (cases_lt k n) [
    | inl low ↦ first k low
    | inr late ↦
        subst (λ j. P (stayed rules j i a)) (let there : (k - n) + n ≡ k = omega (arith, late) in there)
        (subst P (sym (stayed-on (k - n) n i a)) (subst (λ s. P (stayed rules (k - n) i s)) is (later (k - n) (omega (arith, late, most)))))
  ]

  -- none or more events, each before a key
  pub record GoesTo (n i : ℕ) (end : Key) (before after : Staying Chip Shared) : Type 0 where
    pub each : (k : ℕ) → k < n → key_lt (rules.next (stayed rules k i before).chip).key end ≡ true
    pub is : after ≡ stayed rules n i before

  pub join-goes : (n m i : ℕ) (end : Key) (a b c : Staying Chip Shared) → GoesTo n i end a b → GoesTo m i end b c → GoesTo (n + m) i end a c
  join-goes n m i end a b c first later = record {
    each = all-joined (λ s. key_lt (rules.next s.chip).key end ≡ true) n m i a b first.is first.each later.each;
    is = later.is ∙ ap (stayed rules m i) first.is ∙ sym (stayed-on m n i a) ∙ ap (λ k. stayed rules k i a) (let e : m + n ≡ n + m = omega arith in e);
  }

  -- the access that is due
  pub one-goes : (i : ℕ) (end : Key) (a : Staying Chip Shared) → (rules.next a.chip).sample ≡ false → key_lt (rules.next a.chip).key end ≡ true → GoesTo 1 i end a (past_own_access rules a)
  unfolding stayed
  one-goes i end a kind low = record {
    each = λ k most. subst (λ j. key_lt (rules.next (stayed rules j i a).chip).key end ≡ true) (let e : 0 ≡ k = omega (arith, most) in e) low;
    is = rw kind refl;
  }

  -- no event
  pub goes-none : (i : ℕ) (end : Key) (a b : Staying Chip Shared) → b ≡ a → GoesTo 0 i end a b
  unfolding stayed
  goes-none i end a b is = record { each = λ k most. absurd (omega (arith, most)); is = is }

  pub goes-stays : (n i : ℕ) (end : Key) (a b : Staying Chip Shared) → 1 ≤ n → GoesTo n i end a b → StaysTo rules n i end a b
  goes-stays n i end a b some goes = record { some = some; each = goes.each; is = goes.is }

  module _ (chip_ok : Chip → Type 0) (shared_ok : Shared → Type 0) where
    pub join-leaves : (n m i j : ℕ) (end : Key) (a b : Staying Chip Shared) → b ≡ stayed rules n i a → LeavesAll rules chip_ok shared_ok n i j a → LeavesAll rules chip_ok shared_ok m i j b → LeavesAll rules chip_ok shared_ok (n + m) i j a
    join-leaves n m i j end a b is first later = all-joined (λ s. (rules.next s.chip).sample ≡ false → LeavesPins rules chip_ok shared_ok (rules.perform s.chip s.shared).entry j) n m i a b is first later

    pub join-wakes : (n m i j : ℕ) (end key : Key) (a b : Staying Chip Shared) → b ≡ stayed rules n i a → 1 ≤ m → LeavesAll rules chip_ok shared_ok n i j a → Wakes rules chip_ok shared_ok m i j b key → Wakes rules chip_ok shared_ok (n + m) i j a key
    join-wakes n m i j end key a b is some leaves wakes = record {
      before = subst (λ k. LeavesAll rules chip_ok shared_ok k i j a) (let e : n + (m - 1) ≡ n + m - 1 = omega (arith, some) in e) (join-leaves n (m - 1) i j end a b is leaves wakes.before);
      last = wakes.last
          ∙ ap (λ (s : Staying Chip Shared). (rules.next (stayed rules (m - 1) i s).chip).key) is
          ∙ ap (λ (s : Staying Chip Shared). (rules.next s.chip).key) (sym (stayed-on (m - 1) n i a))
          ∙ ap (λ k. (rules.next (stayed rules k i a).chip).key) (let e : m - 1 + n ≡ n + m - 1 = omega (arith, some) in e);
    }

-- ---- the 68000

abbrev pub main_at : MainValue → Board → List Entry → Staying Chip Board
main_at c board journal = record { chip = Main c; shared = board; journal = journal }

main-sampled : (m : ℕ) (c : MainValue) (board : Board) (journal : List Entry) → ((k : ℕ) → k < m → (next_of (events68.begun_after k c.chip.cart c.chip.state (main_pins board).level)).sample ≡ true)
    → stayed five m 0 (main_at c board journal) ≡ main_at (main_in_state c (events68.begun_after m c.chip.cart c.chip.state (main_pins board).level)) board journal
unfolding stayed events68.begun_after
main-sampled zero c board journal samples = refl
main-sampled (suc m) c board journal samples =
    ap (λ (s : Staying Chip Board). cond (five.next s.chip).sample (past_sample five 0 s) (past_own_access five s)) (main-sampled m c board journal (λ k most. samples k (omega arith)))
    ∙ rw (samples m (omega arith)) refl

-- an access of the 68000 is due before a key, and the journal has a place for it
pub record IsDueAt (end : Key) (c : MainValue) (entries room : ℕ) : Type 0 where
  pub kind : (next_of c.chip.state).sample ≡ false
  pub below : key_lt (next_of c.chip.state).key end ≡ true
  pub cycle : c.chip.state.next < cycle_limit
  pub place : entries < room

-- samples of its pins as they are
pub main-goes : (m : ℕ) (end : Key) (c d : MainValue) (board : Board) (journal : List Entry) (level : ℕ) → level ≡ (main_pins board).level → SampledOn m end.cycle c.chip.cart level c.chip.state d.chip.state → d.chip.cart ≡ c.chip.cart → d.answer ≡ c.answer
    → GoesTo five m 0 end (main_at c board journal) (main_at d board journal)
main-goes m end c d board journal level pins sampled cart answer =
    let went = subst (λ l. SampledOn m end.cycle c.chip.cart l c.chip.state d.chip.state) pins sampled in
    record {
      each = λ k most.
          subst (λ (s : Staying Chip Board). key_lt (five.next s.chip).key end ≡ true) (sym (main-sampled k c board journal (λ n low. went.sample n (omega (arith, low, most)))))
          (main-samples-before end c (events68.begun_after k c.chip.cart c.chip.state (main_pins board).level) (went.sample k most) (went.below k most)).1;
      is = ap₂ (λ (image : List ℕ) (reported : Option Answer68). main_at (record { chip = record { cart = image; state = d.chip.state }; answer = reported }) board journal) cart answer
          ∙ ap (λ (state : State68). main_at (main_in_state c state) board journal) went.is
          ∙ sym (main-sampled m c board journal went.sample);
    }

pub main-samples-leave : (m j : ℕ) (end : Key) (c d : MainValue) (board : Board) (journal : List Entry) (level : ℕ) → level ≡ (main_pins board).level → SampledOn m end.cycle c.chip.cart level c.chip.state d.chip.state → LeavesAll five IsChip IsBoard m 0 j (main_at c board journal)
main-samples-leave m j end c d board journal level pins sampled k most kind =
    let went = subst (λ l. SampledOn m end.cycle c.chip.cart l c.chip.state d.chip.state) pins sampled in
    let at = main-sampled k c board journal (λ n low. went.sample n (omega (arith, low, most))) in
    absurd (true≢false (sym (went.sample k most) ∙ sym (ap (λ (s : Staying Chip Board). (five.next s.chip).sample) at) ∙ kind))

-- one access
pub main-accessed : (c : MainValue) (chip : Chip68Value) (b board : Board) (before journal : List Entry) (key : Key) (request : Request68) (answer : Answer68) (entry : Entry) → key ≡ (next_of c.chip.state).key → request ≡ request_of c.chip.cart c.chip.state
    → answer ≡ main_answer b key request → entry ≡ main_reported b key request → board ≡ main_board b key request → chip ≡ record c.chip { state = answered c.chip.cart c.chip.state answer } → journal ≡ before ++ entry ∷ []
    → main_at (record { chip = chip; answer = None }) board journal ≡ past_own_access five (main_at c b before)
main-accessed c chip b board before journal key request answer entry k r a e bo ch jo = rw (ch, jo, bo, e, a, r, k) refl

pub main-key-below : (state : State68) (end : Key) → state.next < end.cycle → key_lt (next_of state).key end ≡ true
unfolding next_of
main-key-below state end low = grind (arith, nat_tests)

-- one access and the samples after it
pub main-stays : (m : ℕ) (end : Key) (c d e : MainValue) (b board : Board) (before journal : List Entry) (level : ℕ) → (next_of c.chip.state).sample ≡ false → key_lt (next_of c.chip.state).key end ≡ true → main_at d board journal ≡ past_own_access five (main_at c b before)
    → level ≡ (main_pins board).level → SampledOn m end.cycle d.chip.cart level d.chip.state e.chip.state → e.chip.cart ≡ d.chip.cart → e.answer ≡ d.answer → GoesTo five (1 + m) 0 end (main_at c b before) (main_at e board journal)
main-stays m end c d e b board before journal level kind low is pins sampled cart answer =
    (join-goes five 1 m 0 end (main_at c b before) (main_at d board journal) (main_at e board journal)
    (subst (λ (s : Staying Chip Board). GoesTo five 1 0 end (main_at c b before) s) (sym is) (one-goes five 0 end (main_at c b before) kind low))
    (main-goes m end d e board journal level pins sampled cart answer))

pub main-leaves : (m j : ℕ) (end : Key) (c d e : MainValue) (b board : Board) (before journal : List Entry) (level : ℕ) (entry : Entry) → (next_of c.chip.state).sample ≡ false → key_lt (next_of c.chip.state).key end ≡ true → main_at d board journal ≡ past_own_access five (main_at c b before)
    → level ≡ (main_pins board).level → SampledOn m end.cycle d.chip.cart level d.chip.state e.chip.state → entry ≡ main_reported b (next_of c.chip.state).key (request_of c.chip.cart c.chip.state) → LeavesPins five IsChip IsBoard entry j
    → LeavesAll five IsChip IsBoard (1 + m) 0 j (main_at c b before)
main-leaves m j end c d e b board before journal level entry kind low is pins sampled reported leaves =
    join-leaves five IsChip IsBoard 1 m 0 j end (main_at c b before) (main_at d board journal)
    (is ∙ (one-goes five 0 end (main_at c b before) kind low).is)
    (first-leaves five IsChip IsBoard 0 j (Main c) b before entry reported leaves)
    (main-samples-leave m j end d e board journal level pins sampled)

pub main-number : (c : MainValue) → (five.next (Main c)).key.chip ≡ 0
unfolding next_of
main-number c = refl
