-- What reading the bytes of a recording results in.
use Rattle.std.proofs.Common.{◌≡◌, ℕ, ◌≤◌, List, length, Option, Some, Result, Ok, Err, refl, sym, subst, ◌↔◌}
use Rattle.std.specs.Prelude.{IfOk, IsErrOf, IsSomeAnd}
use Rattle.md_outer.specs.Outside.{DepotState}
use Rattle.md_pads.specs.Recording.{InvalidAt, IsSpelled, Recorded, Spells}
use Rattle.md_pads.specs.declared.fault.RecFault.{RecFault}
use Rattle.md_pads.specs.declared.fault.RecFault.TheVariants.{Form}
use Rattle.md_pads.specs.declared.fault.RecFault.TheVariants as fault
use Rattle.md_top.specs.Inputs.{IsVerdict, Spelled, RecordingCause, Verdict, Unspelled, recording_limit}
use Rattle.md_top.specs.declared.command_outcome.CommandOutcome.TheVariants.{RecordingInvalid}

-- there is a verdict on all bytes
pub verdict_of : (bytes : List ℕ) (read : Result Recorded RecFault) → IfOk read (λ recording. Spells bytes recording)
    → ((place : ℕ) → IsErrOf read (Form place) ↔ InvalidAt bytes place) → (IsErrOf read fault.NoMemory → IsSpelled bytes) → (verdict : Verdict) × IsVerdict bytes verdict
verdict_of bytes (Ok recording) found form memory = (Spelled recording, found)
verdict_of bytes (Err (Form place)) found form memory = (Unspelled place, (form place).0 refl)
verdict_of bytes (Err fault.NoMemory) found form memory = (Spelled (memory refl).0, (memory refl).1)

-- the bytes are those of a file
pub held : (P : List ℕ → Type 0) (file : Option (List ℕ)) (bytes : List ℕ) → file ≡ Some bytes → P bytes → IsSomeAnd file P
held P file bytes is p = subst (λ (found : Option (List ℕ)). IsSomeAnd found P) (sym is) p

-- where they go wrong, and the depot tells them, the recording has its cause
pub invalid_cause : (observable : Type 0) (name : List ℕ) (old new : DepotState) (bytes : List ℕ) (place : ℕ) → (observable → old.files name ≡ Some bytes)
    → length bytes ≤ recording_limit → InvalidAt bytes place → RecordingCause observable (Some name) old new (RecordingInvalid place)
invalid_cause observable name old new bytes place is within invalid =
    λ t. held (λ found. (length found ≤ recording_limit) × InvalidAt found place) (old.files name) bytes (is t) (within, invalid)
