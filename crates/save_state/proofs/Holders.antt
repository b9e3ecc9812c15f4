-- The holder of the Z80's RAM is that of its stage.
use Rattle.std.proofs.Common.{◌≡◌, Bool, true, false, not, is_some, cond, refl, sym, ◌∙◌}
use Rattle.std.proofs.lemmas.Bool.{true≢false}
use Rattle.z80_chip.specs.Rules.{FitsHolder}
use Rattle.z80_chip.specs.Saved.{stage_number}
use Rattle.z80_chip.specs.States.{State80}
use Rattle.z80_chip.specs.declared.stage.Stage.{Stage}
use Rattle.z80_chip.specs.declared.stage.Stage.TheVariants.{Sample, Access, Yield, Take}
use Rattle.md_chips.specs.Console.{Console}
use Rattle.md_chips.specs.Owners.{HasOneOwner}
use Rattle.save_state.specs.States.{holder_of, is_holder}

holder_by : (stage : Stage) (state : State80) (bus : Bool) → is_some state.store ≡ not bus → FitsHolder stage state → is_holder (cond bus 1 0) (stage_number stage) ≡ true
holder_by Sample state true one holds = refl
holder_by Sample state false one holds = refl
holder_by Access state true one holds = absurd (true≢false (sym holds ∙ one))
holder_by Access state false one holds = refl
holder_by Yield state true one holds = absurd (true≢false (sym holds ∙ one))
holder_by Yield state false one holds = refl
holder_by Take state true one holds = refl
holder_by Take state false one holds = absurd (true≢false (sym one ∙ holds))

-- where it has one owner, and the Z80 has it as its stage wants
pub holder_right : (m : Console) → HasOneOwner m → FitsHolder m.sub.state.stage m.sub.state → is_holder (holder_of m) (stage_number m.sub.state.stage) ≡ true
holder_right m one holds = holder_by m.sub.state.stage m.sub.state (is_some m.shared.store) one holds
