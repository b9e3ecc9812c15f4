-- Frames and their bytes.
use Rattle.std.proofs.Common.{◌≡◌, ℕ, zero, suc, ◌+◌, ◌*◌, ◌/◌, ◌%◌, ◌<◌, ◌^◌, Bool, true, false, List, [], ◌∷◌, ◌++◌, length, get_or, All, refl, sym, ap, subst, arith}
use Rattle.std.specs.List.{flat_map, AllByRecursion}
use Rattle.std.specs.Int.{w16, from_be_bytes}
use Rattle.std.proofs.lemmas.List.Elements.{All-from_recursion, recursion_from_All}
use Rattle.std.proofs.lemmas.Nat.{be_bytes_2, from_be_bytes-to_be_bytes_2}
use Rattle.md_pads.specs.Recording.{Frame, HasButtons, IsFrame, IsRecording, Recorded, frame_bytes, six, words}
use Rattle.md_pads.specs.Reading.{frames_in}
use Rattle.md_pads.specs.declared.version.Version.{Version}

-- four bytes a frame
pub length-frames : (frames : List Frame) → length (flat_map frame_bytes frames) ≡ 4 * length frames
length-frames [] = refl
length-frames (frame ∷ frames) = let rest = length-frames frames in omega arith

-- a word of a pad has 12 bits
pub words-few : (six : Bool) (word : ℕ) → word < words six → word < 2 ^ 12
words-few true word small = small
words-few false word small = omega arith

pub frame-words : (version : Version) (frame : Frame) → HasButtons version frame → IsFrame frame
frame-words version frame small = (words-few (six version 1) frame.0 small.0, words-few (six version 2) frame.1 small.1)

frames-words : (version : Version) (frames : List Frame) → AllByRecursion (HasButtons version) frames → AllByRecursion IsFrame frames
frames-words version [] small = tt
frames-words version (frame ∷ frames) small = (frame-words version frame small.0, frames-words version frames small.1)

-- the frames of a recording have words of 12 bits
pub frames_are : (recorded : Recorded) → IsRecording recorded → All IsFrame recorded.frames
frames_are recorded recording =
    All-from_recursion IsFrame recorded.frames (frames-words recorded.version recorded.frames (recursion_from_All (HasButtons recorded.version) recorded.frames recording.words))

-- the upper byte of a word keeps its bound
upper-word : (six : Bool) (word : ℕ) → word < words six → 256 * (word / 256 % 256) < words six
upper-word true word small = omega arith
upper-word false word small = omega arith

-- some word is there of either kind of pad
pub words-some : (six : Bool) → 0 < words six
words-some true = omega arith
words-some false = omega arith

four-more : (k : ℕ) → 4 * suc k ≡ suc (suc (suc (suc (4 * k))))
four-more k = omega arith

four-more-2 : (k : ℕ) → 4 * suc k + 2 ≡ suc (suc (suc (suc (4 * k + 2))))
four-more-2 k = omega arith

-- so in the bytes of frames, of pad 1 and of pad 2
pub upper-first : (version : Version) (frames : List Frame) (k : ℕ) → AllByRecursion (HasButtons version) frames → 256 * get_or (flat_map frame_bytes frames) (4 * k) 0 < words (six version 1)
upper-first version [] k small = words-some (six version 1)
upper-first version (frame ∷ frames) zero small = upper-word (six version 1) frame.0 small.0.0
upper-first version (frame ∷ frames) (suc k) small =
    subst (λ (n : ℕ). 256 * get_or (flat_map frame_bytes (frame ∷ frames)) n 0 < words (six version 1)) (sym (four-more k)) (upper-first version frames k small.1)

pub upper-second : (version : Version) (frames : List Frame) (k : ℕ) → AllByRecursion (HasButtons version) frames → 256 * get_or (flat_map frame_bytes frames) (4 * k + 2) 0 < words (six version 2)
upper-second version [] k small = words-some (six version 2)
upper-second version (frame ∷ frames) zero small = upper-word (six version 2) frame.1 small.0.1
upper-second version (frame ∷ frames) (suc k) small =
    subst (λ (n : ℕ). 256 * get_or (flat_map frame_bytes (frame ∷ frames)) n 0 < words (six version 2)) (sym (four-more-2 k)) (upper-second version frames k small.1)

-- frames that were spelled are found in their bytes
pub frames_in-spelled : (frames : List Frame) → AllByRecursion IsFrame frames → frames_in (flat_map frame_bytes frames) ≡ frames
unfolding frames_in
frames_in-spelled [] small = refl
frames_in-spelled (frame ∷ frames) small =
    let first = from_be_bytes-to_be_bytes_2 frame.0 (let few = small.0.0 in omega arith) in
    let second = from_be_bytes-to_be_bytes_2 frame.1 (let few = small.0.1 in omega arith) in
    let others = frames_in-spelled frames small.1 in
    λ i. (first i, second i) ∷ others i

two_bytes : (a b : ℕ) → a < 256 → b < 256 → (i : ℕ) → get_or (a ∷ b ∷ []) i 0 < 256
two_bytes a b first second zero = first
two_bytes a b first second (suc zero) = second
two_bytes a b first second (suc (suc i)) = omega arith

-- a word by its upper byte
word-small : (six : Bool) (a b : ℕ) → 256 * a < words six → b < 256 → from_be_bytes w16 (a ∷ b ∷ []) < words six
word-small true a b upper lower = omega arith
word-small false a b upper lower = omega arith

-- the bytes of so many frames
pub record AreFrames (version : Version) (bytes : List ℕ) (count : ℕ) : Type 0 where
  pub all : flat_map frame_bytes (frames_in bytes) ≡ bytes
  pub number : length (frames_in bytes) ≡ count
  pub small : AllByRecursion (HasButtons version) (frames_in bytes)

pub frames_there : (version : Version) (count : ℕ) (bytes : List ℕ) → length bytes ≡ 4 * count → ((i : ℕ) → get_or bytes i 0 < 256)
    → ((k : ℕ) → 256 * get_or bytes (4 * k) 0 < words (six version 1)) → ((k : ℕ) → 256 * get_or bytes (4 * k + 2) 0 < words (six version 2)) → AreFrames version bytes count
unfolding frames_in
frames_there version zero [] len small upper1 upper2 = record { all = refl; number = refl; small = tt }
frames_there version zero (a ∷ bytes) len small upper1 upper2 = absurd (omega arith)
frames_there version (suc count) [] len small upper1 upper2 = absurd (omega arith)
frames_there version (suc count) (a ∷ []) len small upper1 upper2 = absurd (omega arith)
frames_there version (suc count) (a ∷ b ∷ []) len small upper1 upper2 = absurd (omega arith)
frames_there version (suc count) (a ∷ b ∷ c ∷ []) len small upper1 upper2 = absurd (omega arith)
frames_there version (suc count) (a ∷ b ∷ c ∷ d ∷ rest) len small upper1 upper2 =
    let others = frames_there version count rest (omega arith) (λ i. small (suc (suc (suc (suc i)))))
    (λ k. subst (λ (n : ℕ). 256 * get_or (a ∷ b ∷ c ∷ d ∷ rest) n 0 < words (six version 1)) (four-more k) (upper1 (suc k)))
    (λ k. subst (λ (n : ℕ). 256 * get_or (a ∷ b ∷ c ∷ d ∷ rest) n 0 < words (six version 2)) (four-more-2 k) (upper2 (suc k))) in
    let first = be_bytes_2 (a ∷ b ∷ []) (from_be_bytes w16 (a ∷ b ∷ [])) refl (two_bytes a b (small 0) (small 1)) refl in
    let second = be_bytes_2 (c ∷ d ∷ []) (from_be_bytes w16 (c ∷ d ∷ [])) refl (two_bytes c d (small 2) (small 3)) refl in
    record {
      all = λ i. (first i ++ second i) ++ others.all i;
      number = ap suc others.number;
      small = ((word-small (six version 1) a b (upper1 0) (small 1), word-small (six version 2) c d (upper2 0) (small 3)), others.small);
    }
