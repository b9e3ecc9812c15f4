-- The refusal of a state of a version, from that of a field of the form that is written.
use Rattle.std.specs.Prelude.{◌≡◌, ℕ, List}
use Rattle.md_word.specs.declared.unspell.Unspell.{Unspell}
use Rattle.md_word.specs.declared.unspell.Unspell.TheVariants as fields
use Rattle.sha2.specs.Sha256.{sha256}
use Rattle.save_state.specs.Layout.{digest_part, part_of}
use Rattle.save_state.specs.OldPads.{IsFirstFault}
use Rattle.save_state.specs.Versions.{place_back}
use Rattle.save_state.specs.declared.fault.StateFault.{StateFault}
use Rattle.save_state.specs.declared.fault.StateFault.TheVariants.{Form, NoMemory}
use Rattle.save_state.specs.declared.version.Version.{Version}

-- a rule that fails is one of the state's form, at the offset of the version's bytes
abbrev pub refusal_of : Version → Unspell → StateFault
refusal_of version (fields.Rule place) = Form (place_back version place)
refusal_of version fields.NoMemory = NoMemory

-- bytes of the form that is written, and of this cartridge, are refused at a field of which this is the
-- offset in the bytes of the version
pub record FieldFailsBack (version : Version) (cart newest : List ℕ) (place : ℕ) : Type 0 where
  pub field : ℕ
  pub own : part_of digest_part newest ≡ sha256 cart
  pub first : IsFirstFault version cart newest field
  pub place_is : place ≡ place_back version field
