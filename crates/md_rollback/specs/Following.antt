-- Where a session is once the lines of a script were obeyed. This project's profile.
use Rattle.std.specs.Prelude.{◌≡◌, ℕ, List, Option, Some, None}
use Rattle.md_rollback.specs.Inputs.{IsConfirmed}
use Rattle.md_rollback.specs.Played.{IsMachineOf}
use Rattle.md_rollback.specs.Sessions.{SessionValue}
use Rattle.md_rollback.specs.declared.fault.AdvanceFault.{AdvanceFault}
use Rattle.md_rollback.specs.declared.fault.AdvanceFault.TheVariants as advances
use Rattle.md_rollback.specs.Scripts.{Script}
use Rattle.md_rollback.specs.declared.line_fault.LineFault.{LineFault}
use Rattle.md_rollback.specs.declared.line_fault.LineFault.TheVariants as faults

-- the fault of a session that does not continue, if memory did not run out
abbrev pub fault_at : AdvanceFault → Option LineFault
fault_at (advances.Waiting confirmed frames) = Some faults.Waiting
fault_at advances.Ended = Some faults.Ended
fault_at advances.NoMemory = None

-- a session agrees with the lines so far: its machine is that of as many frames, with the words that it was
-- made with
pub record Follows (cart : List ℕ) (session : SessionValue) (script : Script) : Type 0 where
  pub local_is : session.local ≡ script.local
  pub remote_is : session.remote ≡ script.remote
  pub frames_are : session.frames ≡ script.frames
  pub confirmed_is : IsConfirmed script.local script.remote session.confirmed
  pub cart_is : session.machine.console.cart ≡ cart
  pub machine_is : IsMachineOf cart script.played script.frames session.machine
