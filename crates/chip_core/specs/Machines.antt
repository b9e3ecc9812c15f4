-- The machine that always moves the chip of least key.
use Rattle.std.specs.Prelude.{◌≡◌, ℕ, zero, suc, ◌+◌, ◌<◌, ◌≤◌, cond, ◌==◌, List, [], ◌∷◌, ◌++◌, filter}
use Rattle.md_word.specs.declared.event.Entry.{Entry}
use Rattle.md_word.specs.declared.key.Key.{Key}
use Rattle.md_word.specs.Keys.{key_lt}
use Rattle.std.specs.Prelude.{Bool}
use Rattle.chip_core.specs.Chips.{Accessed, Rules}

-- the shared state, and each chip by its number
pub record Machine (Chip Shared : Type 0) : Type 0 where
  pub shared : Shared
  pub chip : ℕ → Chip

-- one place of a function is replaced
unfoldable pub put : {X : Type 0} → (ℕ → X) → ℕ → X → ℕ → X
put f i x k = cond (k == i) x (f k)

-- the number below n whose key is least
unfoldable pub least_below : (ℕ → Key) → ℕ → ℕ
least_below key zero = 0
least_below key (suc n) = cond (key_lt (key n) (key (least_below key n))) n (least_below key n)

-- the entries of one chip
abbrev pub of_chip : ℕ → List Entry → List Entry
of_chip i entries = filter (λ (e : Entry). e.key.chip == i) entries

module _ {Chip Shared Pins : Type 0} (rules : Rules Chip Shared Pins) where
  -- the key of chip i's next event
  abbrev pub key_of : Machine Chip Shared → ℕ → Key
  key_of m i = (rules.next (m.chip i)).key

  -- whether chip i's next event is a sample
  abbrev pub is_sample : Machine Chip Shared → ℕ → Bool
  is_sample m i = (rules.next (m.chip i)).sample

  -- what the locked part of chip i's access leaves
  abbrev pub accessed : Machine Chip Shared → ℕ → Accessed Chip Shared
  accessed m i = rules.perform (m.chip i) m.shared

  -- the machine after the event of chip i, and after the private work up to its next event
  unfoldable pub move : Machine Chip Shared → ℕ → Machine Chip Shared
  move m i =
      cond (is_sample m i)
      (record { shared = m.shared; chip = put m.chip i (rules.sample (m.chip i) (rules.pins m.shared i)) })
      (record { shared = (accessed m i).shared; chip = put m.chip i (rules.advance (accessed m i).chip) })

  -- an access gives an entry
  unfoldable pub entries : Machine Chip Shared → ℕ → List Entry
  entries m i = cond (is_sample m i) [] ((accessed m i).entry ∷ [])

  -- the chip of least key
  unfoldable pub mover : Machine Chip Shared → ℕ
  mover m = least_below (key_of m) rules.count

  -- n moves on, where the chip of least key makes each
  unfoldable pub run : Machine Chip Shared → ℕ → Machine Chip Shared
  run m zero = m
  run m (suc n) = move (run m n) (mover (run m n))

  -- the entries of the accesses among the first n moves, in their order
  unfoldable pub journal : Machine Chip Shared → ℕ → List Entry
  journal m zero = []
  journal m (suc n) = journal m n ++ entries (run m n) (mover (run m n))

  -- how many of the first n moves chip i made
  unfoldable pub made : Machine Chip Shared → ℕ → ℕ → ℕ
  made m i zero = 0
  made m i (suc n) = made m i n + cond (mover (run m n) == i) 1 0

  -- the key of the move that follows the first n
  abbrev pub move_key : Machine Chip Shared → ℕ → Key
  move_key m n = key_of (run m n) (mover (run m n))

  -- the first n moves are at cycles below t
  pub record AllBelow (m : Machine Chip Shared) (t n : ℕ) : Type 0 where
    pub each : (k : ℕ) → k < n → (move_key m k).cycle < t

  -- some chip's next event is at a cycle below t
  abbrev pub IsShort : Machine Chip Shared → ℕ → Type 0
  IsShort m t = (i : ℕ) × (i < rules.count) × ((key_of m i).cycle < t)

  -- no chip's does
  abbrev pub IsQuiet : Machine Chip Shared → ℕ → Type 0
  IsQuiet m t = (i : ℕ) → i < rules.count → t ≤ (key_of m i).cycle

  -- after all events below t, and no other: the machine and the journal
  pub record IsRunTo (m : Machine Chip Shared) (t : ℕ) (after : Machine Chip Shared) (entered : List Entry) : Type 0 where
    pub moves : ℕ
    pub below : AllBelow m t moves
    pub quiet : IsQuiet after t
    pub shared : after.shared ≡ (run m moves).shared
    pub chips : (i : ℕ) → i < rules.count → after.chip i ≡ (run m moves).chip i
    pub journal : entered ≡ journal m moves

  -- the same shared state, and the same chips of the count
  pub record AreSame (m w : Machine Chip Shared) : Type 0 where
    pub shared : m.shared ≡ w.shared
    pub chip : (i : ℕ) → i < rules.count → m.chip i ≡ w.chip i

  -- chip i is this one once it has made n moves of its own, all below t
  pub record OnPath (m : Machine Chip Shared) (t i n : ℕ) (chip : Chip) : Type 0 where
    pub moves : ℕ
    pub below : AllBelow m t moves
    pub made : made m i moves ≡ n
    pub is : chip ≡ (run m moves).chip i

  -- each chip has its number, and chips and shared state are ones that the laws speak of
  pub record IsValid (chip_ok : Chip → Type 0) (shared_ok : Shared → Type 0) (m : Machine Chip Shared) : Type 0 where
    pub shared : shared_ok m.shared
    pub chip : (i : ℕ) → i < rules.count → chip_ok (m.chip i)
    pub number : (i : ℕ) → i < rules.count → (key_of m i).chip ≡ i
