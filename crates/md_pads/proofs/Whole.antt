-- Which bytes spell a recording, and which one.
use Rattle.std.proofs.Common.{◌≡◌, ℕ, ◌+◌, ◌*◌, ◌<◌, ◌≤◌, List, length, get_or, drop, sym, ap, subst, ◌∙◌, ◌++◌, arith}
use Rattle.std.specs.List.{flat_map}
use Rattle.std.specs.Int.{w32, to_be_bytes}
use Rattle.std.proofs.Math.Seq.{drop-append-add}
use Rattle.std.proofs.lemmas.List.{take_all}
use Rattle.md_pads.specs.Recording.{Frame, Recorded, frame_bytes, lead, spelling, Spells, IsLongestPrefix}
use Rattle.md_pads.specs.Reading.{BeginsIn, IsLongestIn, IsSpelledIn, whole_len, least_count, frames_in}
use Rattle.md_pads.specs.declared.version.Version.{Version}
use Rattle.md_pads.proofs.Frames.{frames_are, frames_in-spelled}
use Rattle.md_pads.proofs.Opening.{of, opening, start, whole, length-spelling, count-spelling, mark-spelling, apart}
use Rattle.md_pads.proofs.Steps.{AreBytes}
use Rattle.md_pads.proofs.Versions.{lead-few, lead-long, one_version}
use Rattle.std.proofs.lemmas.List.Elements.{recursion_from_All}

body-spelling : (version : Version) (frames : List Frame) → drop (start version + 4) (spelling (of version frames)) ≡ flat_map frame_bytes frames
body-spelling version frames =
    ap (drop (start version + 4)) (apart version frames)
    ∙ drop-append-add (lead version) (to_be_bytes w32 (length frames) ++ flat_map frame_bytes frames) 4

-- the frames that bytes spell are found in them
pub frames_in-is : (version : Version) (bytes : List ℕ) (frames : List Frame) → Spells bytes (of version frames) → frames ≡ frames_in (drop (start version + 4) bytes)
frames_in-is version bytes frames spelled =
    let small = recursion_from_All _ frames (frames_are (of version frames) spelled.recording) in
    sym (ap (λ (xs : List ℕ). frames_in (drop (start version + 4) xs)) spelled.all ∙ ap frames_in (body-spelling version frames) ∙ frames_in-spelled frames small)

pub spelled_in : (version : Version) (bytes : List ℕ) → IsSpelledIn version bytes → Spells bytes (of version (frames_in (drop (start version + 4) bytes)))
spelled_in version bytes (frames, spelled) = subst (λ (fs : List Frame). Spells bytes (of version fs)) (frames_in-is version bytes frames spelled) spelled

-- what was read from the bytes after the header is what they spell
pub read_spelled : (version : Version) (bytes body : List ℕ) (frames : List Frame) → IsSpelledIn version bytes → body ≡ drop (start version + 4) bytes → frames ≡ frames_in body → Spells bytes (of version frames)
read_spelled version bytes body frames spelled following read =
    subst (λ (fs : List Frame). Spells bytes (of version fs)) (ap frames_in (sym following) ∙ sym read) (spelled_in version bytes spelled)

begins-with : (version : Version) (bytes : List ℕ) (frames : List Frame) → Spells bytes (of version frames) → (i : ℕ) → i < start version → get_or bytes i 0 ≡ get_or (lead version) i 0
begins-with version bytes frames spelled i lt = ap (λ (xs : List ℕ). get_or xs i 0) spelled.all ∙ mark-spelling version frames i lt

-- no bytes spell two recordings
pub one_recording : (bytes : List ℕ) (a b : Recorded) → Spells bytes a → Spells bytes b → a ≡ b
one_recording bytes a b first second =
    let few-a = lead-few a.version in
    let few-b = lead-few b.version in
    let at-a = begins-with a.version bytes a.frames first in
    let at-b = begins-with b.version bytes b.frames second in
    let same : a.version ≡ b.version = one_version a.version b.version
    (sym (at-a 7 (omega arith)) ∙ at-b 7 (omega arith))
    (λ long-a long-b. sym (at-a 9 (lead-long a.version long-a)) ∙ at-b 9 (lead-long b.version long-b)) in
    let frames : a.frames ≡ b.frames =
    frames_in-is a.version bytes a.frames first ∙ ap (λ (v : Version). frames_in (drop (start v + 4) bytes)) same ∙ sym (frames_in-is b.version bytes b.frames second) in
    λ i. record { version = same i; frames = frames i }

pub spelled_len : (version : Version) (bytes : List ℕ) → IsSpelledIn version bytes → (length bytes ≡ whole_len (start version) bytes) × (start version + 4 ≤ length bytes)
spelled_len version bytes (frames, spelled) =
    let len : length bytes ≡ start version + 4 + 4 * length frames = ap length spelled.all ∙ length-spelling version frames in
    let count : least_count (start version) bytes ≡ length frames = ap (least_count (start version)) spelled.all ∙ count-spelling version frames spelled.recording.few in
    (omega arith, omega arith)

pub whole_spelled : (version : Version) (bytes : List ℕ) (place : ℕ) → AreBytes bytes → IsLongestIn version bytes place → place ≡ length bytes → place ≡ whole_len (start version) bytes → IsSpelledIn version bytes
whole_spelled version bytes place small prefix all len =
    let begun : BeginsIn version bytes = subst (BeginsIn version) (take_all place bytes (omega arith)) prefix.begins in
    (frames_in (drop (start version + 4) bytes), whole version bytes (λ i far. small i) (opening version bytes begun) (omega arith))

-- bytes have one longest prefix
pub same_place : (bytes : List ℕ) (a b : ℕ) → IsLongestPrefix bytes a → IsLongestPrefix bytes b → a ≡ b
same_place bytes a b first second =
    let under = second.longest a first.within first.begins in
    let over = first.longest b second.within second.begins in
    omega arith
