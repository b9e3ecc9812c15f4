use Rattle.std.proofs.Common.{ℕ, Bool, inl, inr, List, sym, subst}
use Rattle.fm_port.specs.PortSpelling as fm_port
use Rattle.psg_sound.specs.PortSpelling as psg_port
use Rattle.md_pads.specs.Recording.{Recorded}
use Rattle.md_chips.specs.Console.{power_on}
use Rattle.md_chips.specs.Starts.{IsStart, Start}
use Rattle.save_state.specs.Versions.{IsState}
use Rattle.machine_laws.specs.Writes.{HasWrites, IsBeginning}
use Rattle.machine_laws.proofs.writes.no_write_is_lost.Goals as goal

-- a start whose ports hold writes as a saved state's do
abbrev Holds : Start → Type 0
Holds start = IsStart start × HasWrites start.at start.console

begins-so : (cart bytes : List ℕ) (start : Start) → ((recording : Recorded) (pal : Bool) → Holds (record { at = 0; console = power_on cart recording pal }))
    → (IsState cart bytes start → HasWrites start.at start.console) → IsBeginning cart bytes start → Holds start
begins-so cart bytes start first kept (inl (recording, pal, is)) = subst Holds (sym is) (first recording pal)
begins-so cart bytes start first kept (inr (state, is)) = (is, kept state)

pub returns : goal.returns
returns c = λ cart bytes end n begins later small below.
    let m = c.args.machine.now in
    let start : Start = record { at = m.at; console = m.console } in
    let first : (recording : Recorded) (pal : Bool) → Holds (record { at = 0; console = power_on cart recording pal }) =
    λ recording pal. (c.power_on_is_start.ensures cart recording pal, c.power_on_has_writes.ensures cart recording pal 0) in
    let kept : IsState cart bytes start → HasWrites m.at m.console =
    λ state. let s = state.newest.saved in
    c.writes_of_states.ensures m.at (fm_port.port_bytes m.console.shared.fm) (psg_port.port_bytes m.console.shared.psg) m.console s.shared.fm s.shared.psg s.fm_writes s.psg_writes in
    let held = begins-so cart bytes start first kept begins in
    c.writes_have_room.ensures start end n small c.parts_are_valid.ensures held.0 held.1 later below
