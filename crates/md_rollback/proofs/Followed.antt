-- A session that follows a script, once a line more was obeyed.
use Rattle.std.proofs.Common.{◌≡◌, ◌≢◌, ◌∙◌, refl, sym, ap, subst, ℕ, ◌+◌, ◌<◌, ◌≤◌, ◌^◌, inl, inr, set, List, Option, Some, None, Result, Ok, Err, arith}
use Rattle.std.specs.Prelude.{◌↔◌, IfErr, OnOk}
use Rattle.std.proofs.lemmas.Bool.{cases_lt}
use Rattle.md_pads.specs.Recording.{Frame}
use Rattle.md_chips.specs.Machines.{MachineValue}
use Rattle.md_rollback.specs.Inputs.{IsConfirmed, Words, expected_frames, given, most_frames}
use Rattle.md_rollback.specs.declared.fault.AdvanceFault.{AdvanceFault}
use Rattle.md_rollback.specs.declared.fault.AdvanceFault.TheVariants as advances
use Rattle.md_rollback.specs.Lines.{line_of}
use Rattle.md_rollback.specs.declared.line.Line.TheVariants.{Advance}
use Rattle.md_rollback.specs.Played.{IsMachineOf}
use Rattle.md_rollback.specs.Sessions.{SessionValue}
use Rattle.md_rollback.specs.Following.{Follows, fault_at}
use Rattle.md_rollback.specs.declared.input_fault.InputFault.{InputFault}
use Rattle.md_rollback.specs.declared.input_fault.InputFault.TheVariants as inputs
use Rattle.md_rollback.specs.declared.line.Player.{Player}
use Rattle.md_rollback.specs.Scripts.{IsFault, IsRefusedInput, Script, advanced, words_of}

-- player 1's buttons were given
pub local-followed : (cart : List ℕ) (old new : SessionValue) (script : Script) (frame buttons : ℕ) → Follows cart old script
    → new ≡ record old { local = set old.local frame (Some buttons); confirmed = new.confirmed } → IsConfirmed new.local new.remote new.confirmed
    → Follows cart new (record script { local = set script.local frame (Some buttons) })
local-followed cart old new script frame buttons follows is confirmed =
    let local : new.local ≡ set script.local frame (Some buttons) = ap (λ (s : SessionValue). s.local) is ∙ ap (λ (w : Words). set w frame (Some buttons)) follows.local_is in
    let remote : new.remote ≡ script.remote = ap (λ (s : SessionValue). s.remote) is ∙ follows.remote_is in
    let machine : new.machine ≡ old.machine = ap (λ (s : SessionValue). s.machine) is in
    record {
      local_is = local;
      remote_is = remote;
      frames_are = ap (λ (s : SessionValue). s.frames) is ∙ follows.frames_are;
      confirmed_is = subst (λ (w : Words). IsConfirmed w script.remote new.confirmed) local (subst (λ (w : Words). IsConfirmed new.local w new.confirmed) remote confirmed);
      cart_is = ap (λ (m : MachineValue). m.console.cart) machine ∙ follows.cart_is;
      machine_is = subst (IsMachineOf cart script.played script.frames) (sym machine) follows.machine_is;
    }

-- player 2's
pub remote-followed : (cart : List ℕ) (old new : SessionValue) (script : Script) (frame buttons : ℕ) → Follows cart old script
    → new ≡ record old { remote = set old.remote frame (Some buttons); confirmed = new.confirmed } → IsConfirmed new.local new.remote new.confirmed
    → Follows cart new (record script { remote = set script.remote frame (Some buttons) })
remote-followed cart old new script frame buttons follows is confirmed =
    let local : new.local ≡ script.local = ap (λ (s : SessionValue). s.local) is ∙ follows.local_is in
    let remote : new.remote ≡ set script.remote frame (Some buttons) = ap (λ (s : SessionValue). s.remote) is ∙ ap (λ (w : Words). set w frame (Some buttons)) follows.remote_is in
    let machine : new.machine ≡ old.machine = ap (λ (s : SessionValue). s.machine) is in
    record {
      local_is = local;
      remote_is = remote;
      frames_are = ap (λ (s : SessionValue). s.frames) is ∙ follows.frames_are;
      confirmed_is = subst (λ (w : Words). IsConfirmed script.local w new.confirmed) remote (subst (λ (w : Words). IsConfirmed w new.remote new.confirmed) local confirmed);
      cart_is = ap (λ (m : MachineValue). m.console.cart) machine ∙ follows.cart_is;
      machine_is = subst (IsMachineOf cart script.played script.frames) (sym machine) follows.machine_is;
    }

-- a frame was made
pub frame-followed : (cart : List ℕ) (old new : SessionValue) (script : Script) → Follows cart old script
    → new ≡ record old { frames = new.frames; machine = new.machine } → new.frames ≡ old.frames + 1 → new.machine.console.cart ≡ old.machine.console.cart
    → IsMachineOf new.machine.console.cart (expected_frames old.local old.remote new.frames) new.frames new.machine → Follows cart new (advanced script)
frame-followed cart old new script follows is more same made =
    let count : new.frames ≡ script.frames + 1 = more ∙ ap (λ (n : ℕ). n + 1) follows.frames_are in
    let owner : new.machine.console.cart ≡ cart = same ∙ follows.cart_is in
    let expected : expected_frames old.local old.remote new.frames ≡ expected_frames script.local script.remote (script.frames + 1) =
    λ i. expected_frames (follows.local_is i) (follows.remote_is i) (count i) in
    record {
      local_is = ap (λ (s : SessionValue). s.local) is ∙ follows.local_is;
      remote_is = ap (λ (s : SessionValue). s.remote) is ∙ follows.remote_is;
      frames_are = count;
      confirmed_is = subst (IsConfirmed script.local script.remote) (sym (ap (λ (s : SessionValue). s.confirmed) is)) follows.confirmed_is;
      cart_is = owner;
      machine_is = subst (λ (n : ℕ). IsMachineOf cart (expected_frames script.local script.remote (script.frames + 1)) n new.machine) count
          (subst (λ (r : List Frame). IsMachineOf cart r new.frames new.machine) expected
          (subst (λ (k : List ℕ). IsMachineOf k (expected_frames old.local old.remote new.frames) new.frames new.machine) owner made));
    }

-- ---- what is not refused

pub no-fault : {E : Type 0} (e : E) → ◌≡◌ {A = Result (Unit {0}) E} (Ok tt) (Err e) → ⊥
no-fault e same = cc

none-given : (o : Option ℕ) → ((kept : ℕ) → o ≡ Some kept → ⊥) → o ≡ None
none-given None free = refl
none-given (Some kept) free = absurd (free kept refl)

abbrev pub Refused : InputFault → InputFault → Type 0
Refused fault other = ◌≡◌ {A = Result (Unit {0}) InputFault} (Err fault) (Err other)

-- why a session refuses buttons
pub refused-input : (player : Player) (words : Words) (script : Script) (frame buttons : ℕ) (fault : InputFault) → words ≡ words_of player script
    → ((last : ℕ) → Refused fault (inputs.Far last) ↔ ((most_frames ≤ frame) × (last ≡ 35999)))
    → ((kept : ℕ) → Refused fault (inputs.Given kept) ↔ (given words frame ≡ Some kept))
    → (Refused fault inputs.Buttons ↔ ((frame < most_frames) × (given words frame ≡ None) × (2 ^ 8 ≤ buttons)))
    → IsRefusedInput script player frame buttons fault
refused-input player words script frame buttons (inputs.Far last) same far free plain = ((far last).0 refl).0
refused-input player words script frame buttons (inputs.Given kept) same far free plain = ap (λ (w : Words). given w frame) (sym same) ∙ (free kept).0 refl
refused-input player words script frame buttons inputs.Buttons same far free plain =
    let bad = plain.0 refl in (bad.0, ap (λ (w : Words). given w frame) (sym same) ∙ bad.1, bad.2)

abbrev pub Stopped : AdvanceFault → AdvanceFault → Type 0
Stopped fault other = ◌≡◌ {A = Result (Unit {0}) AdvanceFault} (Err fault) (Err other)

-- why a session does not continue
pub refused-advance : (cart : List ℕ) (s : SessionValue) (script : Script) (line : List ℕ) (fault : AdvanceFault) → Follows cart s script → line_of line ≡ Some Advance
    → ((confirmed frames : ℕ) → Stopped fault (advances.Waiting confirmed frames)
    ↔ ((s.frames ≢ most_frames) × (s.confirmed + s.window ≤ s.frames) × (confirmed ≡ s.confirmed) × (frames ≡ s.frames)))
    → (Stopped fault advances.Ended ↔ (s.frames ≡ most_frames)) → IsFault s.window script line (fault_at fault)
refused-advance cart s script line (advances.Waiting confirmed frames) follows is waiting ended =
    let bad = (waiting confirmed frames).0 refl in (
      s.confirmed,
      is,
      λ all. bad.0 (follows.frames_are ∙ all),
      follows.confirmed_is,
      subst (λ (n : ℕ). s.confirmed + s.window ≤ n) follows.frames_are bad.1,
    )
refused-advance cart s script line advances.Ended follows is waiting ended = (is, sym follows.frames_are ∙ ended.0 refl)
refused-advance cart s script line advances.NoMemory follows is waiting ended = tt

-- ---- answers

pub ok-map : {X E : Type 0} (r : Result X E) (P Q : Type 0) → (P → Q) → OnOk r P → OnOk r Q
ok-map (Ok x) P Q more holds = more holds
ok-map (Err e) P Q more holds = tt

pub err-map : {X E : Type 0} (r : Result X E) (P Q : E → Type 0) → ((e : E) → P e → Q e) → IfErr r P → IfErr r Q
err-map (Ok x) P Q more holds = tt
err-map (Err e) P Q more holds = more e holds

-- buttons that are taken are in a frame of the session of which none were given, and are buttons alone
pub taken-input : (words : Words) (frame buttons : ℕ) → (most_frames ≤ frame → ⊥) → ((kept : ℕ) → given words frame ≡ Some kept → ⊥)
    → ((frame < most_frames) × (given words frame ≡ None) × (2 ^ 8 ≤ buttons) → ⊥) → (frame < most_frames) × (given words frame ≡ None) × (buttons < 2 ^ 8)
taken-input words frame buttons near free plain =
    let within : frame < most_frames = elim (cases_lt frame most_frames) [ inl less ↦ less | inr late ↦ absurd (near late) ] in
    let none : given words frame ≡ None = none-given (given words frame) free in
    let small : buttons < 2 ^ 8 = elim (cases_lt buttons (2 ^ 8)) [ inl less ↦ less | inr many ↦ absurd (plain (within, none, many)) ] in (within, none, small)

-- a session that continues has a frame left, within its window
pub goes-on : (frames confirmed window : ℕ) → frames ≤ most_frames → (frames ≡ most_frames → ⊥) → ((frames ≢ most_frames) × (confirmed + window ≤ frames) → ⊥)
    → (frames < most_frames) × (frames < confirmed + window)
goes-on frames confirmed window few more order =
    let within : frames < most_frames = elim (cases_lt frames most_frames) [ inl less ↦ less | inr late ↦ absurd (more (omega (arith, few, late))) ] in
    let near : frames < confirmed + window = elim (cases_lt frames (confirmed + window)) [ inl less ↦ less | inr late ↦ absurd (order (more, late)) ] in (within, near)
