use Rattle.std.proofs.Common.{◌≡◌, List, [], ℕ, Ok, true, ap, sym, subst, ◌∙◌}
use Rattle.std.specs.Arc.{arc_value}
use Rattle.std.specs.Prelude.{All}
use Rattle.md_pads.specs.Recording.{IsFrame, Recorded}
use Rattle.md_chips.specs.Machines.{MachineValue}
use Rattle.md_chips.specs.Media.{no_media}
use Rattle.md_chips.specs.Starts.{IsStart}
use Rattle.save_state.specs.Versions.{IsState}
use Rattle.state_laws.specs.Images.{ImagesValue, first, first_of, image_of, start_of}
use Rattle.state_laws.proofs.StateLaws.{none-read, read-some, some-read}
use Rattle.state_laws.proofs.Machines.{none_read, only_first, only_read, state_has}
use Rattle.state_laws.proofs.state_images.StateImagesImagesMachine.machine.Goals as goal

pub returns-then-is_same-clause-found : goal.returns-then-is_same-clause-found
returns-then-is_same-clause-found c =
    first
    (sym (c.is_same.ensures.0 c.if-is_same.true) ∙ c.as_slice.ensures.value ∙ c.self.invariant.first_is ∙ ap (λ (x : ImagesValue). image_of x (first_of x)) c.self.view_is)
    c.in_ok-first_machine.ensures.machine

pub returns-then-is_same-clause-only : goal.returns-then-is_same-clause-only
returns-then-is_same-clause-only c = λ m keeps memory.
    let all : c.args.bytes.now ≡ image_of c.args.self.now (first_of c.args.self.now) =
    sym (c.is_same.ensures.0 c.if-is_same.true) ∙ c.as_slice.ensures.value ∙ c.self.invariant.first_is ∙ ap (λ (x : ImagesValue). image_of x (first_of x)) c.self.view_is in
    ap Ok (c.in_ok-first_machine.ensures.machine ∙ sym (only_first c.args.self.now c.args.bytes.now m all keeps))

pub returns-in-Some-clause-own : goal.returns-in-Some-clause-own
returns-in-Some-clause-own c =
    let images : ImagesValue = c.args.self.now in
    let machine : MachineValue = c.in-Some.machine in
    let found = read-some (λ (x : MachineValue). IsState c.self.inside.replays c.args.bytes.now (start_of x) × (x.console.shared.recording ≡ arc_value c.self.inside.recording)) c.in_ok-read.read machine c.in-Some.is c.in_ok-read.ensures.found in
    let empty = read-some (λ (x : MachineValue). (x.entries ≡ []) × (x.media ≡ no_media)) c.in_ok-read.read machine c.in-Some.is c.in_ok-read.ensures.empty in
    let begun = read-some (λ (x : MachineValue). IsStart (start_of x)) c.in_ok-read.read machine c.in-Some.is c.in_ok-read.ensures.start in
    let cart : c.self.inside.replays ≡ images.cart = ap (λ (x : ImagesValue). x.cart) c.self.view_is in
    let recording : machine.console.shared.recording ≡ images.recording = found.1 ∙ ap (λ (x : ImagesValue). x.recording) c.self.view_is in
    let saved : IsState images.cart c.args.bytes.now (start_of machine) = subst (λ (l : List ℕ). IsState l c.args.bytes.now (start_of machine)) cart found.0 in
    let buttons : All IsFrame machine.console.shared.recording.frames =
    subst (λ (l : Recorded). All IsFrame l.frames) (sym found.1) c.self.invariant.buttons in
    state_has images c.args.bytes.now machine saved recording
    (c.states_are_reached.ensures images.cart c.args.bytes.now saved begun buttons) empty.0 empty.1

pub returns-in-Some-clause-only : goal.returns-in-Some-clause-only
returns-in-Some-clause-only c = λ m keeps memory.
    let images : ImagesValue = c.args.self.now in
    let cart : c.self.inside.replays ≡ images.cart = ap (λ (x : ImagesValue). x.cart) c.self.view_is in
    let recording = ap (λ (x : ImagesValue). x.recording) c.self.view_is in
    ap Ok (only_read images c.args.bytes.now c.in-Some.machine m
    (λ start saved pads.
    some-read c.self.inside.replays (arc_value c.self.inside.recording) c.args.bytes.now c.in_ok-read.read c.in-Some.machine c.in-Some.is c.in_ok-read.ensures.only start
    (subst (λ (l : List ℕ). IsState l c.args.bytes.now start) (sym cart) saved) (pads ∙ sym recording))
    (λ all.
    let yes : c.is_same.result ≡ true =
    c.is_same.ensures.1 (c.as_slice.ensures.value ∙ c.self.invariant.first_is ∙ ap (λ (x : ImagesValue). image_of x (first_of x)) c.self.view_is ∙ sym all) in
    let no = c.if-is_same.false in
    cc)
    keeps)

pub returns-in-None-clause-only : goal.returns-in-None-clause-only
returns-in-None-clause-only c = λ m keeps memory.
    let images : ImagesValue = c.args.self.now in
    let cart : c.self.inside.replays ≡ images.cart = ap (λ (x : ImagesValue). x.cart) c.self.view_is in
    let recording = ap (λ (x : ImagesValue). x.recording) c.self.view_is in
    absurd (none_read images c.args.bytes.now m
    (λ start saved pads.
    none-read c.self.inside.replays (arc_value c.self.inside.recording) c.args.bytes.now c.in_ok-read.read c.in-None.is c.in_ok-read.ensures.only start
    (subst (λ (l : List ℕ). IsState l c.args.bytes.now start) (sym cart) saved) (pads ∙ sym recording))
    (λ all.
    let yes : c.is_same.result ≡ true =
    c.is_same.ensures.1 (c.as_slice.ensures.value ∙ c.self.invariant.first_is ∙ ap (λ (x : ImagesValue). image_of x (first_of x)) c.self.view_is ∙ sym all) in
    let no = c.if-is_same.false in
    cc)
    keeps)
