-- Images that are saved states.
use Rattle.std.proofs.Common.{◌≡◌, ◌≢◌, ◌∙◌, refl, sym, ap, ap₂, subst, false, ℕ, List, [], length, Option, Some, None, Result, Ok, Err, inl, inr, arith}
use Rattle.std.specs.Prelude.{IfOk, IfSome}
use Rattle.std.proofs.lemmas.Option.{same_Some}
use Rattle.md_pads.specs.Recording.{Recorded}
use Rattle.z80_chip.specs.States as states80
use Rattle.md_chips.specs.Console.{Console, power_on}
use Rattle.md_chips.specs.Machines.{MachineValue}
use Rattle.md_chips.specs.Media.{no_media}
use Rattle.md_chips.specs.Owners.{HasOneOwner}
use Rattle.md_chips.specs.Starts.{Start}
use Rattle.state_laws.specs.declared.fault.ReplayFault.{ReplayFault}
use Rattle.state_laws.specs.declared.fault.ReplayFault.TheVariants.{NoMemory}
use Rattle.machine_laws.specs.Recorded.{with_recording}
use Rattle.save_state.specs.declared.fault.StateFault.{StateFault}
use Rattle.save_state.specs.declared.fault.StateFault.TheVariants as faults
use Rattle.save_state.specs.declared.version.Version.{Version}
use Rattle.save_state.specs.declared.version.Version.TheVariants.{First, Second, Third}
use Rattle.save_state.specs.Layout.{state_size}
use Rattle.save_state.specs.Ready.{IsReady}
use Rattle.save_state.specs.States.{IsNewest, IsSaved, kept_bytes, settled_console, state_bytes}
use Rattle.save_state.specs.Versions.{IsState, migrated, size_of}
use Rattle.save_state.proofs.PowerOn.{first_is_none, first_settled}
use Rattle.save_state.proofs.ReadLaws.{parts_of_state}
use Rattle.save_state.proofs.VersionLaws.{newest_state}
use Rattle.state_laws.specs.Kept.{IsFirst, IsKept, MayBeKept}

-- ---- images with another recording

-- a saved machine with another recording
pub saved-with : (cart : List ℕ) (at : ℕ) (m : Console) (recording : Recorded) → IsSaved cart (record { at = at; console = m }) → IsSaved cart (record { at = at; console = with_recording recording m })
saved-with cart at m recording is = record {
  begun = is.begun;
  near = is.near;
  image = is.image;
  sub_image = is.sub_image;
  one_owner = is.one_owner;
  holder = is.holder;
  main = is.main;
  sub = is.sub;
  shared = record { all = is.shared.all; store = is.shared.store; vdp = is.shared.vdp; fm = is.shared.fm; psg = is.shared.psg; lines = is.shared.lines; right = is.shared.right };
  renderer_state = is.renderer_state;
  fm_cycle = is.fm_cycle;
  psg_cycle = is.psg_cycle;
  fm = is.fm;
  psg = is.psg;
  resets = is.resets;
  fm_writes = is.fm_writes;
  psg_writes = is.psg_writes;
}

-- a state of a machine with another recording
pub state-with : (cart : List ℕ) (at : ℕ) (m : Console) (recording : Recorded) (bytes : List ℕ) → IsSaved cart (record { at = at; console = m }) → bytes ≡ kept_bytes at m
    → IsNewest cart bytes (record { at = at; console = with_recording recording m })
state-with cart at m recording bytes is all = record { saved = saved-with cart at m recording is; all = all }

-- what is long enough is of the form that is written
by-version : (v : Version) (cart bytes : List ℕ) (start : Start) → length bytes ≡ size_of v → length bytes ≡ state_size → IsNewest cart (migrated v bytes) start → IsNewest cart bytes start
unfolding migrated
by-version First cart bytes start long size newest = absurd (omega (arith, long, size))
by-version Second cart bytes start long size newest = absurd (omega (arith, long, size))
by-version Third cart bytes start long size newest = newest

pub newest-by-size : (cart bytes : List ℕ) (start : Start) → IsState cart bytes start → length bytes ≡ state_size → IsNewest cart bytes start
newest-by-size cart bytes start is size = by-version is.version cart bytes start is.has.long size is.newest

pub newest-long : (cart bytes : List ℕ) (start : Start) → IsNewest cart bytes start → length bytes ≡ state_size
newest-long cart bytes start newest = (parts_of_state cart bytes start newest).long

-- the image of a machine that may be kept is of one that images keep
pub image-own : (cart : List ℕ) (at : ℕ) (m : Console) → m.cart ≡ cart → MayBeKept cart at m
    → (HasOneOwner m → length (state_bytes at m) ≡ state_size)
    → (IsReady at m → IsState m.cart (state_bytes at m) (record { at = at; console = settled_console at m }))
    → IsKept cart at (settled_console at m)
image-own cart at m same (inl first) long kept =
    inl (first.0, (first.1.0, ap₂ settled_console first.0 first.1.1 ∙ first_settled cart first.1.0 false))
image-own cart at m same (inr ready) long kept =
    inr (subst (λ (c : List ℕ). IsSaved c (record { at = at; console = settled_console at m })) same
    (newest-by-size m.cart (state_bytes at m) (record { at = at; console = settled_console at m }) (kept ready) (long ready.one_owner)).saved)

first-owner : (cart : List ℕ) (recording : Recorded) → HasOneOwner (power_on cart recording false)
unfolding states80.power_on
first-owner cart recording = refl

-- so it has its size
pub image-sized : (cart : List ℕ) (at : ℕ) (m : Console) → MayBeKept cart at m → HasOneOwner m
image-sized cart at m (inl first) = subst HasOneOwner (sym first.1.1) (first-owner cart first.1.0)
image-sized cart at m (inr ready) = ready.one_owner

-- ---- an image that is read

-- the image of power-on is no state
no-first : (cart bytes : List ℕ) (start : Start) → IsState cart bytes start → (at : ℕ) (m : Console) → IsFirst cart at m → bytes ≡ kept_bytes at m → ⊥
no-first cart bytes start is at m first all =
    let image : bytes ≡ state_bytes 0 (power_on cart first.1.0 false) =
    all ∙ ap₂ kept_bytes first.0 first.1.1 ∙ sym (ap (kept_bytes 0) (first_settled cart first.1.0 false)) in
    first_is_none cart first.1.0 false start (subst (λ (l : List ℕ). IsState cart l start) image is)

-- the machine of an image, with a recording
abbrev pub read-with : Recorded → ℕ → Console → MachineValue
read-with recording at m = record { at = at; console = with_recording recording m; entries = []; media = no_media }

-- that of power-on
pub only-first : (cart : List ℕ) (recording : Recorded) (bytes : List ℕ) (r : Result MachineValue ReplayFault)
    → (bytes ≡ kept_bytes 0 (power_on cart recording false) → r ≢ Err NoMemory → r ≡ Ok (read-with recording 0 (power_on cart recording false)))
    → (at : ℕ) (m : Console) → IsFirst cart at m → bytes ≡ kept_bytes at m → r ≢ Err NoMemory → r ≡ Ok (read-with recording at m)
only-first cart recording bytes r only at m first all memory =
    only (all ∙ ap₂ kept_bytes first.0 first.1.1) memory
    ∙ ap₂ (λ (n : ℕ) (x : Console). Ok (read-with recording n x)) (sym first.0) (sym first.1.1)

-- where bytes are no state, they are at most that of power-on
pub only-refused : (cart : List ℕ) (recording : Recorded) (bytes : List ℕ) (r : Result MachineValue ReplayFault)
    → ((start : Start) → IsState cart bytes start → start.console.shared.recording ≡ recording → ⊥)
    → (bytes ≡ kept_bytes 0 (power_on cart recording false) → r ≢ Err NoMemory → r ≡ Ok (read-with recording 0 (power_on cart recording false)))
    → (at : ℕ) (m : Console) → IsKept cart at m → bytes ≡ kept_bytes at m → r ≢ Err NoMemory → r ≡ Ok (read-with recording at m)
only-refused cart recording bytes r state only at m (inl first) all memory = only-first cart recording bytes r only at m first all memory
only-refused cart recording bytes r state only at m (inr saved) all memory =
    absurd (state (record { at = at; console = with_recording recording m }) (newest_state cart bytes _ (state-with cart at m recording bytes saved all)) refl)

-- where they are read as a state, they are not that of power-on
pub only-read : (cart : List ℕ) (recording : Recorded) (bytes : List ℕ) (machine : MachineValue)
    → IsState cart bytes (record { at = machine.at; console = machine.console })
    → ((start : Start) → IsState cart bytes start → start.console.shared.recording ≡ recording → machine ≡ record { at = start.at; console = start.console; entries = []; media = no_media })
    → (at : ℕ) (m : Console) → IsKept cart at m → bytes ≡ kept_bytes at m → machine ≡ read-with recording at m
only-read cart recording bytes machine is state at m (inl first) all = absurd (no-first cart bytes _ is at m first all)
only-read cart recording bytes machine is state at m (inr saved) all =
    state (record { at = at; console = with_recording recording m }) (newest_state cart bytes _ (state-with cart at m recording bytes saved all)) refl

-- what images keep has their size
pub only-long : (cart : List ℕ) (bytes : List ℕ) (start : Start) → IsState cart bytes start → (at : ℕ) (m : Console) → IsKept cart at m → bytes ≡ kept_bytes at m → length bytes ≡ state_size
only-long cart bytes start is at m (inl first) all = absurd (no-first cart bytes start is at m first all)
only-long cart bytes start is at m (inr saved) all = newest-long cart bytes (record { at = at; console = m }) (record { saved = saved; all = all })

-- ---- what is read of bytes as a saved state

-- what a reader says of a cartridge and a recording
abbrev pub OnlyState : List ℕ → Recorded → List ℕ → Result MachineValue StateFault → Type 0
OnlyState cart recording bytes r =
    (start : Start) → IsState cart bytes start → start.console.shared.recording ≡ recording → r ≢ Err faults.NoMemory
    → r ≡ Ok (record { at = start.at; console = start.console; entries = []; media = no_media })

same-machine : (m w : MachineValue) → ◌≡◌ {A = Result MachineValue StateFault} (Ok m) (Ok w) → m ≡ w
same-machine m w same = cc

no-memory : (m : MachineValue) → ◌≡◌ {A = Result MachineValue StateFault} (Ok m) (Err faults.NoMemory) → ⊥
no-memory m same = cc

refused-read : (fault : StateFault) (m : MachineValue) → ◌≡◌ {A = Result MachineValue StateFault} (Err fault) (Ok m) → ⊥
refused-read fault m same = cc

-- the same of others' copies of both
pub state-of : (cart own : List ℕ) (recording again : Recorded) (bytes : List ℕ) (m : MachineValue) → own ≡ cart → again ≡ recording → OnlyState own again bytes (Ok m)
    → (start : Start) → IsState cart bytes start → start.console.shared.recording ≡ recording → m ≡ record { at = start.at; console = start.console; entries = []; media = no_media }
state-of cart own recording again bytes m one two only start is pads =
    same-machine m _ (only start (subst (λ (k : List ℕ). IsState k bytes start) (sym one) is) (pads ∙ sym two) (no-memory m))

pub state-refused : (cart own : List ℕ) (recording again : Recorded) (bytes : List ℕ) (fault : StateFault) → own ≡ cart → again ≡ recording
    → (◌≡◌ {A = Result MachineValue StateFault} (Err fault) (Err faults.NoMemory) → ⊥) → OnlyState own again bytes (Err fault)
    → (start : Start) → IsState cart bytes start → start.console.shared.recording ≡ recording → ⊥
state-refused cart own recording again bytes fault one two other only start is pads =
    refused-read fault _ (only start (subst (λ (k : List ℕ). IsState k bytes start) (sym one) is) (pads ∙ sym two) other)

-- what bytes are read as, if they are a state
abbrev pub OnlyRead : List ℕ → Recorded → List ℕ → Option MachineValue → Type 0
OnlyRead cart recording bytes read =
    (start : Start) → IsState cart bytes start → start.console.shared.recording ≡ recording
    → read ≡ Some (record { at = start.at; console = start.console; entries = []; media = no_media })

-- what holds of what is read
pub read-some : (P : MachineValue → Type 0) (read : Option MachineValue) (m : MachineValue) → read ≡ Some m → IfSome read P → P m
read-some P read m is holds = subst (λ (r : Option MachineValue). IfSome r P) is holds

pub some-read : (cart : List ℕ) (recording : Recorded) (bytes : List ℕ) (read : Option MachineValue) (m : MachineValue) → read ≡ Some m → OnlyRead cart recording bytes read
    → (start : Start) → IsState cart bytes start → start.console.shared.recording ≡ recording → m ≡ record { at = start.at; console = start.console; entries = []; media = no_media }
some-read cart recording bytes read m some only start is pads = same_Some _ _ (sym some ∙ only start is pads)

pub none-read : (cart : List ℕ) (recording : Recorded) (bytes : List ℕ) (read : Option MachineValue) → read ≡ None → OnlyRead cart recording bytes read
    → (start : Start) → IsState cart bytes start → start.console.shared.recording ≡ recording → ⊥
none-read cart recording bytes read none only start is pads = absurd (let same = sym none ∙ only start is pads in cc)

-- the image of power-on
pub first-image : (cart : List ℕ) (recording : Recorded) (m : MachineValue) (image : List ℕ) → m ≡ record { at = 0; console = power_on cart recording false; entries = []; media = no_media }
    → image ≡ state_bytes m.at m.console → image ≡ kept_bytes 0 (power_on cart recording false)
first-image cart recording m image is all =
    all ∙ ap (λ (x : MachineValue). state_bytes x.at x.console) is ∙ ap (kept_bytes 0) (first_settled cart recording false)

-- what is read as the image of power-on
pub found-first : (cart : List ℕ) (recording : Recorded) (bytes : List ℕ) (r : Result MachineValue ReplayFault)
    → IfOk r (λ m. (m ≡ record { at = 0; console = power_on cart recording false; entries = []; media = no_media }) × (bytes ≡ kept_bytes 0 (power_on cart recording false)))
    → IfOk r (λ m. IsKept cart m.at m.console × (bytes ≡ kept_bytes m.at m.console) × (m.console.shared.recording ≡ recording) × (m.entries ≡ []) × (m.media ≡ no_media))
found-first cart recording bytes (Ok m) found = (
  inl (ap (λ (x : MachineValue). x.at) found.0, (recording, ap (λ (x : MachineValue). x.console) found.0)),
  found.1 ∙ sym (ap (λ (x : MachineValue). kept_bytes x.at x.console) found.0),
  ap (λ (x : MachineValue). x.console.shared.recording) found.0,
  ap (λ (x : MachineValue). x.entries) found.0,
  ap (λ (x : MachineValue). x.media) found.0,
)
found-first cart recording bytes (Err e) found = tt
