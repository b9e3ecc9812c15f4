-- What holds of the debugger's scripts and kept states.
use Rattle.std.specs.Prelude.{◌≡◌, ◌≢◌, ℕ, ◌≤◌, List}
use Rattle.md_word.specs.Clock as clock
use Rattle.md_word.specs.declared.event.Entry.{Entry}
use Rattle.md_chips.specs.Console.{Console, IsRunTo}
use Rattle.md_chips.specs.Machines.{MachineValue}
use Rattle.md_chips.specs.Media.{Media}
use Rattle.machine_laws.specs.Settling.{GoesOn}
use Rattle.md_debug.specs.declared.fault.DebugFault.{DebugFault}
use Rattle.debug_text.specs.declared.outcome.ScriptOutcome.{ScriptOutcome}
use Rattle.debug_text.specs.declared.outcome.ScriptOutcome.TheVariants.{OutOfMemory}
use Rattle.state_laws.specs.Images.{HasImage, ImagesValue, settled_of}
use Rattle.md_debug.specs.Opened.{PlaysScript}

pub record DebugLaws : Type 0 where
  -- a script has one outcome alone, where memory suffices
  pub one : (cart script first second : List ℕ) (script_outcome other : ScriptOutcome DebugFault) → PlaysScript cart script first script_outcome → PlaysScript cart script second other
      → script_outcome ≢ OutOfMemory → other ≢ OutOfMemory → (first ≡ second) × (script_outcome ≡ other)
  -- a machine continues from its kept state as it would have continued
  pub kept : (images : ImagesValue) (m : MachineValue) (z : Console) (end : ℕ) (entries : List Entry) (output : Media) → HasImage images m → m.at ≤ end → end ≤ clock.cycle_limit
      → IsRunTo m.console end z entries output → GoesOn end (settled_of images m).console z entries output
