-- What a recording of two pads is, and the bytes that spell it. This project's profile.
use Rattle.std.specs.Prelude.{◌≡◌, ℕ, ◌+◌, ◌*◌, ◌==◌, ◌<◌, ◌≤◌, ◌^◌, Bool, false, if◌then◌else◌, List, [], ◌++◌, length, take, All, codes, slice_get, unwrap_or}
use Rattle.std.specs.List.{flat_map}
use Rattle.std.specs.Int.{w16, w32, to_be_bytes}
use Rattle.md_word.specs.Coding.{flag_number}
use Rattle.md_pads.specs.declared.version.Version.{Version}
use Rattle.md_pads.specs.declared.version.Version.TheVariants.{First, Second}

-- the words of the two pads in one frame, pad 1's first
abbrev pub Frame : Type 0
Frame = ℕ × ℕ

-- a recording: the version of its file, and its frames
pub record Recorded : Type 0 where
  pub version : Version
  pub frames : List Frame

-- the recording of no frames
abbrev pub no_frames : Recorded
no_frames = record { version = First; frames = [] }

-- the recording of two pads with three buttons of these frames
abbrev pub recording_of : List Frame → Recorded
recording_of frames = record { version = First; frames = frames }

-- whether a pad, 1 or 2, has six buttons
abbrev pub six : Version → ℕ → Bool
six First pad = false
six (Second pad1 pad2) pad = if pad == 1 then pad1 else (if pad == 2 then pad2 else false)

-- one more than the greatest word of a pad with six buttons, or with three
abbrev pub words : Bool → ℕ
words six = if six then 2 ^ 12 else 2 ^ 8

-- each word has buttons of its pad alone
abbrev pub HasButtons : Version → Frame → Type 0
HasButtons version frame = (frame.0 < words (six version 1)) × (frame.1 < words (six version 2))

-- both words have buttons alone: bits 15 to 12 are 0
abbrev pub IsFrame : Frame → Type 0
IsFrame frame = (frame.0 < 2 ^ 12) × (frame.1 < 2 ^ 12)

-- the frames that a recording may have
pub record IsRecording (recorded : Recorded) : Type 0 where
  pub few : length recorded.frames ≤ 1048576
  pub words : All (HasButtons recorded.version) recorded.frames

-- a frame as two words, high byte first
abbrev pub frame_bytes : Frame → List ℕ
frame_bytes frame = to_be_bytes w16 frame.0 ++ to_be_bytes w16 frame.1

-- what a recording's bytes begin with: the magic of its version and, in the second, a word of flags, of
-- which bit 0 is that of pad 1 and bit 1 that of pad 2
abbrev pub lead : Version → List ℕ
lead First = codes "MDREC001"
lead (Second pad1 pad2) = codes "MDREC002" ++ to_be_bytes w16 (flag_number pad1 + 2 * flag_number pad2)

-- the one spelling of a recording: its lead, the count of its frames, and each frame
unfoldable pub spelling : Recorded → List ℕ
spelling recorded = lead recorded.version ++ to_be_bytes w32 (length recorded.frames) ++ flat_map frame_bytes recorded.frames

-- the bytes spell the recording
pub record Spells (bytes : List ℕ) (recorded : Recorded) : Type 0 where
  pub recording : IsRecording recorded
  pub all : bytes ≡ spelling recorded

-- the bytes spell some recording
abbrev pub IsSpelled : List ℕ → Type 0
IsSpelled bytes = (recorded : Recorded) × Spells bytes recorded

-- some recording begins with these bytes
abbrev pub BeginsRecording : List ℕ → Type 0
BeginsRecording bytes = (recorded : Recorded) × (rest : List ℕ) × Spells (bytes ++ rest) recorded

-- the length of the longest prefix of the bytes that some recording begins with
pub record IsLongestPrefix (bytes : List ℕ) (place : ℕ) : Type 0 where
  pub within : place ≤ length bytes
  pub begins : BeginsRecording (take place bytes)
  pub longest : (n : ℕ) → n ≤ length bytes → BeginsRecording (take n bytes) → n ≤ place

-- the bytes spell no recording, and are invalid from this offset on
pub record InvalidAt (bytes : List ℕ) (place : ℕ) : Type 0 where
  pub none : ¬ IsSpelled bytes
  pub longest : IsLongestPrefix bytes place

-- the words of a frame: none is pressed past the end
abbrev pub pads_of : Recorded → ℕ → Frame
pads_of recorded frame = unwrap_or (slice_get recorded.frames frame) (0, 0)
