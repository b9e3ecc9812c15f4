use Rattle.std.proofs.Common.{◌≡◌, [], Ok, ap, inr}
use Rattle.std.specs.Arc.{arc_value}
use Rattle.md_chips.specs.Machines.{MachineValue}
use Rattle.md_chips.specs.Media.{no_media}
use Rattle.save_state.specs.Versions.{IsState}
use Rattle.state_laws.proofs.StateLaws.{found-first, newest-by-size, none-read, only-long, only-read, only-refused, read-some, some-read}
use Rattle.state_laws.proofs.state_replays.StateReplaysReplays.machine.Goals as goal

pub returns-then-bytes-eq-LENGTH-clause-found : goal.returns-then-bytes-eq-LENGTH-clause-found
returns-then-bytes-eq-LENGTH-clause-found c =
    let m = c.in-Some.machine in
    let bytes = c.args.bytes.now in
    let is = read-some (λ (x : MachineValue). IsState c.args.self.now bytes (record { at = x.at; console = x.console }) × (x.console.shared.recording ≡ arc_value c.args.recording)) c.in_ok-read.read m c.in-Some.is c.in_ok-read.ensures.found in
    let empty = read-some (λ (x : MachineValue). (x.entries ≡ []) × (x.media ≡ no_media)) c.in_ok-read.read m c.in-Some.is c.in_ok-read.ensures.empty in
    let newest = newest-by-size c.args.self.now bytes (record { at = m.at; console = m.console }) is.0 c.if-bytes-eq-LENGTH.true in
    (inr newest.saved, newest.all, is.1, empty.0, empty.1)

pub returns-then-bytes-eq-LENGTH-clause-only : goal.returns-then-bytes-eq-LENGTH-clause-only
returns-then-bytes-eq-LENGTH-clause-only c = λ at m own all memory.
    let bytes = c.args.bytes.now in
    let is = read-some (λ (x : MachineValue). IsState c.args.self.now bytes (record { at = x.at; console = x.console }) × (x.console.shared.recording ≡ arc_value c.args.recording)) c.in_ok-read.read c.in-Some.machine c.in-Some.is c.in_ok-read.ensures.found in
    ap Ok (only-read c.args.self.now (arc_value c.args.recording) bytes c.in-Some.machine is.0
    (some-read c.args.self.now (arc_value c.args.recording) bytes c.in_ok-read.read c.in-Some.machine c.in-Some.is c.in_ok-read.ensures.only) at m own all)

pub returns-in-Some-clause-only : goal.returns-in-Some-clause-only
returns-in-Some-clause-only c = λ at m own all memory.
    let found = c.in-Some.machine in
    let bytes = c.args.bytes.now in
    let is = read-some (λ (x : MachineValue). IsState c.args.self.now bytes (record { at = x.at; console = x.console }) × (x.console.shared.recording ≡ arc_value c.args.recording)) c.in_ok-read.read found c.in-Some.is c.in_ok-read.ensures.found in
    absurd (c.if-bytes-eq-LENGTH.false (only-long c.args.self.now bytes (record { at = found.at; console = found.console }) is.0 at m own all))

pub returns-clause-only : goal.returns-clause-only
returns-clause-only c =
    only-refused c.args.self.now (arc_value c.args.recording) c.args.bytes.now c.first.result
    (none-read c.args.self.now (arc_value c.args.recording) c.args.bytes.now c.in_ok-read.read c.in-None.is c.in_ok-read.ensures.only)
    c.first.ensures.only

pub returns-clause-found : goal.returns-clause-found
returns-clause-found c = found-first c.args.self.now (arc_value c.args.recording) c.args.bytes.now c.first.result c.first.ensures.found
