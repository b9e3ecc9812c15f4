-- What saving a state after a run needs.
use Rattle.std.specs.Prelude.{◌≡◌, Option, Some, None}
use Rattle.md_args.specs.Words.{Run}
use Rattle.run_command.specs.declared.state_buffers.StateBuffers.{StateBuffers}

-- there is memory for the state of a run, if it is to be saved
abbrev pub CanSave : Run → Option StateBuffers → Type 0
CanSave run None = run.save ≡ None
CanSave run (Some buffers) = Unit {0}
