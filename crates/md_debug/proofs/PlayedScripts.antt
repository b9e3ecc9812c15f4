-- A script has one outcome alone, where memory suffices.
use Rattle.std.proofs.Common.{◌≡◌, ◌≢◌, List, ℕ, ap}
use Rattle.text_lines.specs.Lines.{lines_of}
use Rattle.md_debug.specs.declared.fault.DebugFault.{DebugFault}
use Rattle.debug_text.specs.declared.outcome.ScriptOutcome.{ScriptOutcome}
use Rattle.debug_text.specs.declared.outcome.ScriptOutcome.TheVariants.{OutOfMemory}
use Rattle.md_debug.specs.Opened.{PlaysScript, images_with, opened}
use Rattle.md_debug.proofs.Outcomes.{one_outcome}
use Rattle.md_chips.specs.Starts.{Start}
use Rattle.state_laws.specs.Images.{Keeps, drained, image_of, size_of}
use Rattle.state_laws.proofs.Machines.{keep_one}

pub one_script : (cart script first second : List ℕ) (script_outcome other : ScriptOutcome DebugFault) → PlaysScript cart script first script_outcome → PlaysScript cart script second other
    → script_outcome ≢ OutOfMemory → other ≢ OutOfMemory → (first ≡ second) × (script_outcome ≡ other)
one_script cart script first second script_outcome other one two =
    one_outcome size_of image_of Keeps (λ images m w same. ap (λ (s : Start). image_of images (drained s.at s.console)) same) keep_one
    (lines_of script) (opened (images_with cart)) one.after two.after first second script_outcome other one.plays two.plays
