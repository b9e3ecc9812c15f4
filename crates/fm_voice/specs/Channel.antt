-- A channel: four operators, of which some modulate others.
-- Yamaha, YM2608 Application Manual, algorithms and self-feedback.
use Rattle.std.specs.Prelude.{ℕ, ◌-◌, ◌^◌, ◌==◌, ℤ, pos, negsuc, ◌+ℤ◌, ◌≤ℤ◌, neg_ℤ, Bool, false, ◌&&◌, ◌||◌, if◌then◌else◌, List, [], ◌∷◌, slice_index, slice_index_or}
use Rattle.std.specs.Int.{int_div_euclid, int_max, int_min}
use Rattle.fm_voice.specs.Wave.{output}

-- an arrow: the first operator modulates the second
pub record Arrow : Type 0 where
  pub source : ℕ
  pub target : ℕ

-- an arrow from its source to its target
infixl 60 ◌⇒◌
abbrev pub ◌⇒◌ : ℕ → ℕ → Arrow
source ⇒ target = record { source = source; target = target }

-- the arrows of the eight algorithms
abbrev pub arrow_table : List (List Arrow)
arrow_table =
    ((1 ⇒ 2) ∷ (2 ⇒ 3) ∷ (3 ⇒ 4) ∷ []) ∷
    ((1 ⇒ 3) ∷ (2 ⇒ 3) ∷ (3 ⇒ 4) ∷ []) ∷
    ((2 ⇒ 3) ∷ (1 ⇒ 4) ∷ (3 ⇒ 4) ∷ []) ∷
    ((1 ⇒ 2) ∷ (2 ⇒ 4) ∷ (3 ⇒ 4) ∷ []) ∷
    ((1 ⇒ 2) ∷ (3 ⇒ 4) ∷ []) ∷
    ((1 ⇒ 2) ∷ (1 ⇒ 3) ∷ (1 ⇒ 4) ∷ []) ∷
    ((1 ⇒ 2) ∷ []) ∷
    [] ∷ []

-- the arrows of an algorithm
abbrev pub arrows : ℕ → List Arrow
arrows algorithm = slice_index_or arrow_table algorithm []

-- the operators that are heard
abbrev pub carrier_table : List (List ℕ)
carrier_table =
    (4 ∷ []) ∷
    (4 ∷ []) ∷
    (4 ∷ []) ∷
    (4 ∷ []) ∷
    (2 ∷ 4 ∷ []) ∷
    (2 ∷ 3 ∷ 4 ∷ []) ∷
    (2 ∷ 3 ∷ 4 ∷ []) ∷
    (1 ∷ 2 ∷ 3 ∷ 4 ∷ []) ∷ []

-- the heard operators of an algorithm
abbrev pub carriers : ℕ → List ℕ
carriers algorithm = slice_index_or carrier_table algorithm []

-- whether an arrow is in a list
abbrev pub has_arrow : List Arrow → ℕ → ℕ → Bool
has_arrow [] source target = false
has_arrow (a ∷ rest) source target = ((a.source == source) && (a.target == target)) || has_arrow rest source target

-- whether an operator is in a list
abbrev pub has : List ℕ → ℕ → Bool
has [] n = false
has (x ∷ rest) n = (x == n) || has rest n

-- what an operator sends on: its output, or nothing
abbrev pub sent : Bool → ℤ → ℤ
sent goes z = if goes then z else pos 0

-- the sum of the outputs that modulate operator 2
unfoldable pub into_two : ℕ → ℤ → ℤ
into_two algorithm one = sent (has_arrow (arrows algorithm) 1 2) one

-- the sum of the outputs that modulate operator 3
unfoldable pub into_three : ℕ → ℤ → ℤ → ℤ
into_three algorithm one two =
    sent (has_arrow (arrows algorithm) 1 3) one +ℤ sent (has_arrow (arrows algorithm) 2 3) two

-- the sum of the outputs that modulate operator 4
unfoldable pub into_four : ℕ → ℤ → ℤ → ℤ → ℤ
into_four algorithm one two three =
    (sent (has_arrow (arrows algorithm) 1 4) one +ℤ sent (has_arrow (arrows algorithm) 2 4) two)
    +ℤ sent (has_arrow (arrows algorithm) 3 4) three

-- the sum of what is heard
unfoldable pub carried : ℕ → ℤ → ℤ → ℤ → ℤ → ℤ
carried algorithm one two three four =
    ((sent (has (carriers algorithm) 1) one +ℤ sent (has (carriers algorithm) 2) two)
    +ℤ sent (has (carriers algorithm) 3) three) +ℤ sent (has (carriers algorithm) 4) four

-- the nearest level
unfoldable pub clamped : ℤ → ℤ
clamped z = int_max (negsuc 8191) (int_min z (pos 8191))

-- half, rounded down
unfoldable pub half : ℤ → ℤ
half z = int_div_euclid z (pos 2)

-- an operator that the half of a sum modulates
unfoldable pub modulated : ℕ → ℤ → ℕ → ℤ
modulated phase sum attenuation = output phase (half sum) attenuation

-- operator 1 is modulated by its own last two outputs
unfoldable pub fed_back : ℕ → ℤ → ℤ
fed_back feedback sum = if feedback == 0 then pos 0 else int_div_euclid sum (pos (2 ^ (10 - feedback)))

-- a channel as it sounds
pub record Voice : Type 0 where
  pub algorithm : ℕ
  pub feedback : ℕ
  pub phases : List ℕ
  pub attenuations : List ℕ
  -- the last two outputs of operator 1, the older one first
  pub last : List ℤ

-- one of the last two outputs
abbrev pub last_at : List ℤ → ℕ → ℤ
last_at last n = slice_index_or last n (pos 0)

-- the output of operator 1
unfoldable pub one : Voice → ℤ
one v = output (slice_index v.phases 0) (fed_back v.feedback (last_at v.last 0 +ℤ last_at v.last 1)) (slice_index v.attenuations 0)

-- the output of operator 2
unfoldable pub two : Voice → ℤ
two v = modulated (slice_index v.phases 1) (into_two v.algorithm (one v)) (slice_index v.attenuations 1)

-- the output of operator 3
unfoldable pub three : Voice → ℤ
three v = modulated (slice_index v.phases 2) (into_three v.algorithm (one v) (two v)) (slice_index v.attenuations 2)

-- the output of operator 4
unfoldable pub four : Voice → ℤ
four v = modulated (slice_index v.phases 3) (into_four v.algorithm (one v) (two v) (three v)) (slice_index v.attenuations 3)

-- what is heard of a channel
unfoldable pub heard : Voice → ℤ
heard v = clamped (carried v.algorithm (one v) (two v) (three v) (four v))

-- the last two outputs of operator 1 after the sample
unfoldable pub last_after : Voice → List ℤ
last_after v = last_at v.last 1 ∷ one v ∷ []

-- from a bound below 0 to the same above
abbrev pub IsWithin : ℕ → ℤ → Type 0
IsWithin bound z = (neg_ℤ (pos bound) ≤ℤ z) × (z ≤ℤ pos bound)

-- the outputs of an operator: −8,191 to 8,191
abbrev pub IsOutput : ℤ → Type 0
IsOutput z = IsWithin 8191 z

-- the levels of a channel: −8,192 to 8,191
abbrev pub IsLevel : ℤ → Type 0
IsLevel z = (negsuc 8191 ≤ℤ z) × (z ≤ℤ pos 8191)

-- a channel by its parts
abbrev pub channel_voice : ℕ → ℕ → List ℕ → List ℕ → List ℤ → Voice
channel_voice algorithm feedback phases attenuations last = record {
  algorithm = algorithm;
  feedback = feedback;
  phases = phases;
  attenuations = attenuations;
  last = last;
}
