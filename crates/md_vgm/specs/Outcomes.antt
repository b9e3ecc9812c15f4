-- What a journal is made into and a VGM file is played as, or why it is refused.
use Rattle.std.specs.Prelude.{◌≡◌, ℕ, ◌<◌, ◌⊎◌, Bool, List, length, None, Some}
use Rattle.md_vgm.specs.Course.{Reaches, Ends, Refused, fm_before, head_fault, psg_before, stamp, verdict_of}
use Rattle.md_vgm.specs.File.{file_of}
use Rattle.md_vgm.specs.Journal.{entries, right_bytes}
use Rattle.md_vgm.specs.Playing.{sound_file}
use Rattle.md_vgm.specs.declared.fault.VgmFault.{VgmFault}
use Rattle.md_vgm.specs.declared.fault.VgmFault.TheVariants.{Form}

-- the bytes that are made, or why none are
pub data Outcome : Type 0 where
  Made : List ℕ → Outcome
  Failed : VgmFault → Outcome

-- of a journal that is right entries alone the file is made; any other is refused where the first entry is wrong
-- or cut short
abbrev pub IsMade : Bool → List ℕ → Outcome → Type 0
IsMade pal journal (Made file) = (right_bytes journal ≡ length journal) × (file ≡ file_of pal (entries journal))
IsMade pal journal (Failed fault) = (right_bytes journal < length journal) × (fault ≡ Form (right_bytes journal))

-- a file whose header is right and whose commands continue up to the end has the sound of the writes before it; any
-- other is refused for the first field of its header that is invalid, or else for its first command that is refused
abbrev pub IsPlayed : Bool → List ℕ → Outcome → Type 0
IsPlayed pal file (Made sound) =
    (head_fault file ≡ None) × ((n : ℕ) × Reaches pal file n × (verdict_of pal file n ≡ Ends)
    × (sound ≡ sound_file pal (psg_before pal file n) (fm_before pal file n) (stamp pal file n)))
IsPlayed pal file (Failed fault) =
    ((place : ℕ) × (head_fault file ≡ Some place) × (fault ≡ Form place))
    ⊎ ((head_fault file ≡ None) × ((n : ℕ) × Reaches pal file n × (verdict_of pal file n ≡ Refused fault)))
