-- Why the run of a demonstration cartridge ends.
use Rattle.std.specs.Prelude.{◌≡◌, ◌<◌}
use Rattle.md_args.specs.Words.{Demo}
use Rattle.md_word.specs.Clock.{last_cycle}
use Rattle.run_command.specs.Demos.{IsSummary, demo_start}
use Rattle.run_command.specs.Limits.{IsEnd}
use Rattle.md_top.specs.declared.command_outcome.CommandOutcome.{CommandOutcome}
use Rattle.md_top.specs.declared.command_outcome.CommandOutcome.TheVariants.{Behind, DemoDone, Memory, TooFar}

-- why the run of a demonstration cartridge ends
abbrev pub DemoEnds : Demo → CommandOutcome → Type 0
DemoEnds demo Memory = Unit {0}
DemoEnds demo TooFar = last_cycle < demo.cycles
DemoEnds demo (Behind from) = (demo.cycles ≡ 0) × (from ≡ 0)
DemoEnds demo (DemoDone summary) = IsEnd demo.cycles × IsSummary (demo_start demo) demo.cycles summary
DemoEnds demo command_outcome = ⊥
