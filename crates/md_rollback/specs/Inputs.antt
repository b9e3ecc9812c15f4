-- What two players pressed, as far as it was given, and what is expected of them. This project's profile.
use Rattle.std.specs.Prelude.{◌≡◌, ℕ, zero, suc, ◌<◌, ◌≤◌, ◌^◌, List, length, map, replicate, Option, Some, None, IsSome, slice_get, slice_index_or, unwrap_or}
use Rattle.std.specs.List.{range_with_len}
use Rattle.md_pads.specs.Recording.{Frame}

-- the frames that a session has at most: ten minutes
abbrev pub most_frames : ℕ
most_frames = 36000

-- a player's words, frame by frame, where they were given
abbrev pub Words : Type 0
Words = List (Option ℕ)

-- the words of a player who gave none
unfoldable pub no_words : Words
no_words = replicate most_frames None

-- the words of both players in a frame of a list: none is pressed past its end
abbrev pub frame_at : List Frame → ℕ → Frame
frame_at frames f = unwrap_or (slice_get frames f) (0, 0)

-- the word that was given for a frame
abbrev pub given : Words → ℕ → Option ℕ
given words f = slice_index_or words f None

-- the word of the latest frame below n that was given, 0 where none was
abbrev pub latest : Words → ℕ → ℕ
latest words zero = 0
latest words (suc n) = unwrap_or (given words n) (latest words n)

-- the word that is expected in a frame: its own where it was given, or the one that was given last before it,
-- or 0
abbrev pub expected : Words → ℕ → ℕ
expected words f = unwrap_or (given words f) (latest words f)

-- the words that are expected of both players in a frame
abbrev pub expected_frame : Words → Words → ℕ → Frame
expected_frame local remote f = (expected local f, expected remote f)

-- the recording that is expected of n frames
unfoldable pub expected_frames : Words → Words → ℕ → List Frame
expected_frames local remote n = map (expected_frame local remote) (range_with_len 0 n)

-- both words of a frame were given
abbrev pub AreGiven : Words → Words → ℕ → Type 0
AreGiven local remote f = IsSome (given local f) × IsSome (given remote f)

-- the greatest number of frames of which all words were given
pub record IsConfirmed (local remote : Words) (n : ℕ) : Type 0 where
  pub below : (f : ℕ) → f < n → AreGiven local remote f
  pub greatest : AreGiven local remote n → ⊥

-- a player's words have the eight buttons alone
abbrev pub AreButtons : Words → Type 0
AreButtons words = (f word : ℕ) → given words f ≡ Some word → word < 2 ^ 8

-- both players' words, and how many frames are confirmed
pub record InputsValue : Type 0 where
  pub local : Words
  pub remote : Words
  pub confirmed : ℕ

-- what holds of them
pub record AreInputs (inputs : InputsValue) : Type 0 where
  pub local_frames : length inputs.local ≡ most_frames
  pub remote_frames : length inputs.remote ≡ most_frames
  pub local_buttons : AreButtons inputs.local
  pub remote_buttons : AreButtons inputs.remote
  pub confirmed_is : IsConfirmed inputs.local inputs.remote inputs.confirmed

-- words of which some more are given
abbrev pub IsMore : Words → Words → Type 0
IsMore words more = (f word : ℕ) → given words f ≡ Some word → given more f ≡ Some word

-- the word that is expected in a frame, from what was given
pub data IsExpected (words : Words) (f : ℕ) : ℕ → Type 0 where
  observable : (word : ℕ) → given words f ≡ Some word → IsExpected words f word
  held : (word earlier : ℕ) → earlier < f → given words earlier ≡ Some word
      → ((g : ℕ) → earlier < g → g ≤ f → given words g ≡ None) → IsExpected words f word
  none : ((g : ℕ) → g ≤ f → given words g ≡ None) → IsExpected words f 0

-- a frame whose words were given before it was played
pub record IsFixed (local remote : Words) (played : List Frame) (f : ℕ) : Type 0 where
  pub first : ℕ
  pub second : ℕ
  pub local_is : given local f ≡ Some first
  pub remote_is : given remote f ≡ Some second
  pub played_is : frame_at played f ≡ (first, second)
