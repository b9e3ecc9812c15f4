-- What bytes are read as, from what their parts are.
use Rattle.std.proofs.Common.{◌≡◌, ◌≢◌, ℕ, List, [], refl, sym, ap, subst, ◌∙◌, arith, Result, Ok, Err}
use Rattle.sha2.proofs.Facts256.{length-sha256}
use Rattle.sha2.specs.Sha256.{sha256}
use Rattle.md_fields.specs.Places.{IsBytes}
use Rattle.md_pads.specs.Recording.{Recorded}
use Rattle.md_word.specs.declared.unspell.Unspell.{Unspell}
use Rattle.md_word.specs.declared.unspell.Unspell.TheVariants as fields
use Rattle.md_chips.specs.Machines.{MachineValue}
use Rattle.md_chips.specs.Media.{no_media}
use Rattle.md_chips.specs.Starts.{Start, IsStart}
use Rattle.save_state.specs.declared.fault.StateFault.{StateFault}
use Rattle.save_state.specs.declared.fault.StateFault.TheVariants.{Form, OtherCart, NoMemory}
use Rattle.save_state.specs.Faults.{HasForm}
use Rattle.save_state.specs.OldPads.{FailsUnder, HasPads, IsMachineUnder}
use Rattle.save_state.specs.Joining.{IsLeast, Reads}
use Rattle.save_state.specs.Layout.{part_of, digest_part}
use Rattle.save_state.specs.Refusals.{FieldFailsBack, refusal_of}
use Rattle.save_state.specs.States.{IsNewest}
use Rattle.save_state.specs.Versions.{place_back}
use Rattle.save_state.specs.declared.version.Version.{Version}
use Rattle.md_fields.proofs.Refusals.{failed}
use Rattle.save_state.proofs.Joins.{fine}
use Rattle.save_state.proofs.KeptLaws.{state_there}
use Rattle.save_state.proofs.MachineLaws.{start_there}
use Rattle.save_state.proofs.Standing.{AreParts}
use Rattle.save_state.proofs.WholeLaws.{state_parts, machine_there}

abbrev pub bad : StateFault → Result MachineValue StateFault
bad fault = Err fault

abbrev pub good : MachineValue → Result MachineValue StateFault
good m = Ok m

-- the machine of a start, with nothing that waits to be drained
abbrev pub from_start : Start → MachineValue
from_start start = record { at = start.at; console = start.console; entries = []; media = no_media }

-- a state of this cartridge has its parts
pub parts_of_state : (cart bytes : List ℕ) (start : Start) → IsNewest cart bytes start → AreParts (sha256 cart) start.at start.console bytes
parts_of_state cart bytes start s =
    subst (λ (l : List ℕ). AreParts (sha256 l) start.at start.console bytes) s.saved.image (state_parts cart bytes start (length-sha256 start.console.cart) s)

-- ---- the fields

fault_form : (v : Version) (fault : Unspell) (place : ℕ) → refusal_of v fault ≡ Form place → (field : ℕ) × (fault ≡ fields.Rule field) × (place ≡ place_back v field)
fault_form v (fields.Rule p) place e = (let same : place_back v p ≡ place = cc in (p, refl, sym same))
fault_form v fields.NoMemory place e = absurd cc

no_other : (v : Version) (fault : Unspell) (k g : List ℕ) → refusal_of v fault ≡ OtherCart k g → ⊥
no_other v (fields.Rule p) k g e = absurd cc
no_other v fields.NoMemory k g e = absurd cc

memory_only : (v : Version) (fault : Unspell) → bad (refusal_of v fault) ≢ bad NoMemory → fault ≢ fields.NoMemory
memory_only v fault n e = n (ap (λ (f : Unspell). bad (refusal_of v f)) e)

pub fields_form : (v : Version) (cart : List ℕ) (recording : Recorded) (bytes : List ℕ) (fault : Unspell) (answer : StateFault) (place : ℕ) → part_of digest_part bytes ≡ sha256 cart → answer ≡ refusal_of v fault → Reads {T = MachineValue} (IsMachineUnder v cart recording bytes) (FailsUnder v cart bytes) (failed fault) → bad answer ≡ bad (Form place) → FieldFailsBack v cart bytes place
fields_form v cart recording bytes fault answer place d a r e =
    let f : answer ≡ Form place = cc in
    let found = fault_form v fault place (sym a ∙ f) in
    record {
      field = found.0;
      own = d;
      first = r.least found.0 (ap (λ (x : Unspell). failed {T = MachineValue} x) found.1);
      place_is = found.2;
    }

one_least : (Fails : ℕ → Type 0) (p q : ℕ) → IsLeast Fails p → IsLeast Fails q → p ≡ q
one_least Fails p q a b = omega (arith, a.least q b.fails, b.least p a.fails)

refused_as : (v : Version) (cart : List ℕ) (recording : Recorded) (bytes : List ℕ) (fault : Unspell) (field : ℕ) → Reads {T = MachineValue} (IsMachineUnder v cart recording bytes) (FailsUnder v cart bytes) (failed fault) → fault ≢ fields.NoMemory → IsLeast (FailsUnder v cart bytes) field → refusal_of v fault ≡ Form (place_back v field)
refused_as v cart recording bytes (fields.Rule p) field r n first = ap (λ (k : ℕ). Form (place_back v k)) (one_least (FailsUnder v cart bytes) p field (r.least p refl) first)
refused_as v cart recording bytes fields.NoMemory field r n first = absurd (n refl)

pub fields_invalid : (v : Version) (cart : List ℕ) (recording : Recorded) (bytes : List ℕ) (fault : Unspell) (answer : StateFault) (place : ℕ) → answer ≡ refusal_of v fault → Reads {T = MachineValue} (IsMachineUnder v cart recording bytes) (FailsUnder v cart bytes) (failed fault) → FieldFailsBack v cart bytes place → bad answer ≢ bad NoMemory → bad answer ≡ bad (Form place)
fields_invalid v cart recording bytes fault answer place a r w n =
    ap bad (a ∙ refused_as v cart recording bytes fault w.field r (memory_only v fault (λ e. n (ap bad a ∙ e))) w.first ∙ ap Form (sym w.place_is))

pub fields_other : (v : Version) (fault : Unspell) (answer : StateFault) (k g : List ℕ) → answer ≡ refusal_of v fault → bad answer ≡ bad (OtherCart k g) → ⊥
fields_other v fault answer k g a e =
    let f : answer ≡ OtherCart k g = cc in
    no_other v fault k g (sym a ∙ f)

pub fields_only : (v : Version) (cart : List ℕ) (recording : Recorded) (bytes : List ℕ) (fault : Unspell) (answer : StateFault) (start : Start) → answer ≡ refusal_of v fault → Reads {T = MachineValue} (IsMachineUnder v cart recording bytes) (FailsUnder v cart bytes) (failed fault) → HasPads v bytes → IsNewest cart bytes start → start.console.shared.recording ≡ recording → bad answer ≢ bad NoMemory → bad answer ≡ good (from_start start)
fields_only v cart recording bytes fault answer start a r old s pads n =
    let parts = parts_of_state cart bytes start s in
    let not_memory : fault ≢ fields.NoMemory = memory_only v fault (λ e. n (ap bad a ∙ e)) in
    let ok : failed {T = MachineValue} fault ≡ fine {T = MachineValue} (from_start start) = r.only (from_start start) ((machine_there cart (sha256 cart) bytes recording start s.saved parts pads, old.0), old.1) (λ e. (let f : fault ≡ fields.NoMemory = cc in not_memory f)) in
    absurd cc

pub read_only : (v : Version) (cart : List ℕ) (recording : Recorded) (bytes : List ℕ) (m : MachineValue) (start : Start) → Reads {T = MachineValue} (IsMachineUnder v cart recording bytes) (FailsUnder v cart bytes) (fine m) → HasPads v bytes → IsNewest cart bytes start → start.console.shared.recording ≡ recording → good m ≡ good (from_start start)
read_only v cart recording bytes m start r old s pads =
    let parts = parts_of_state cart bytes start s in
    let ok : fine {T = MachineValue} m ≡ fine {T = MachineValue} (from_start start) = r.only (from_start start) ((machine_there cart (sha256 cart) bytes recording start s.saved parts pads, old.0), old.1) (λ e. cc) in
    let same : m ≡ from_start start = cc in
    ap good same

pub read_invalid : (v : Version) (cart : List ℕ) (recording : Recorded) (bytes : List ℕ) (m : MachineValue) (place : ℕ) → Reads {T = MachineValue} (IsMachineUnder v cart recording bytes) (FailsUnder v cart bytes) (fine m) → FieldFailsBack v cart bytes place → ⊥
read_invalid v cart recording bytes m place r w = r.none w.field w.first.fails

pub read_found : (v : Version) (cart : List ℕ) (recording : Recorded) (bytes : List ℕ) (m : MachineValue) → IsBytes bytes → HasForm bytes → part_of digest_part bytes ≡ sha256 cart → Reads {T = MachineValue} (IsMachineUnder v cart recording bytes) (FailsUnder v cart bytes) (fine m) → IsNewest cart bytes (record { at = m.at; console = m.console }) × (m.console.shared.recording ≡ recording)
read_found v cart recording bytes m fits form d r = (state_there cart recording bytes m fits form d r.found.0.0, r.found.0.0.shared.pads)

pub read_pads : (v : Version) (cart : List ℕ) (recording : Recorded) (bytes : List ℕ) (m : MachineValue) → Reads {T = MachineValue} (IsMachineUnder v cart recording bytes) (FailsUnder v cart bytes) (fine m) → HasPads v bytes
read_pads v cart recording bytes m r = (r.found.0.1, r.found.1)

pub read_start : (v : Version) (cart : List ℕ) (recording : Recorded) (bytes : List ℕ) (m : MachineValue) → Reads {T = MachineValue} (IsMachineUnder v cart recording bytes) (FailsUnder v cart bytes) (fine m) → IsStart (record { at = m.at; console = m.console })
read_start v cart recording bytes m r = start_there cart recording bytes m r.found.0.0
