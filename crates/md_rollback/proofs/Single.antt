-- A script has one outcome alone, where memory suffices.
use Rattle.std.proofs.Common.{◌≡◌, ◌≢◌, ◌∙◌, refl, sym, ap, ap₂, subst, false, ℕ, ◌*◌, ◌<◌, ◌≤◌, List, length, Option, Some, None, arith}
use Rattle.std.proofs.lemmas.List.{get_or_past, length-set}
use Rattle.sha2.specs.Sha256.{sha256}
use Rattle.md_word.specs.Clock.{frame}
use Rattle.md_word.specs.declared.event.Entry.{Entry}
use Rattle.md_pads.specs.Recording.{recording_of}
use Rattle.md_chips.specs.Console.{Console, IsRunTo, power_on}
use Rattle.md_chips.specs.Media.{Media}
use Rattle.save_state.specs.States.{state_bytes}
use Rattle.text_lines.specs.Lines.{lines_of}
use Rattle.debug_text.proofs.Scripts.{alike_after, one_refused}
use Rattle.md_rollback.specs.Inputs.{IsConfirmed, given, most_frames}
use Rattle.md_rollback.proofs.Expected.{no-words-known}
use Rattle.md_rollback.specs.declared.line.Line.{Line}
use Rattle.md_rollback.specs.declared.line.Line.TheVariants.{Advance, Press}
use Rattle.md_rollback.specs.declared.line.Player.{Player}
use Rattle.md_rollback.specs.declared.line.Player.TheVariants.{Local, Remote}
use Rattle.md_rollback.specs.Scripts.{IsRefused, Obeys, ObeysLine, RefusesFor, Script, begun, words_of}
use Rattle.md_rollback.specs.declared.line_fault.LineFault.{LineFault}
use Rattle.md_rollback.specs.declared.line_fault.LineFault.TheVariants as faults
use Rattle.md_rollback.specs.Rolls.{CompletesWith, IsDigestOf}
use Rattle.md_rollback.specs.declared.rolled.Completion.{Completion}
use Rattle.md_rollback.specs.declared.rolled.Completion.TheVariants.{Done, NoMemory, Refused}
use Rattle.md_rollback.specs.declared.rolled.Rolled.{Rolled}
use Rattle.md_rollback.proofs.Outcomes.{done_or_refused, never, one_after, one_confirmed}

-- there is a place for each player's word of each frame
record HasPlaces (script : Script) : Type 0 where
  local : length script.local ≡ most_frames
  remote : length script.remote ≡ most_frames

first-places : HasPlaces begun
first-places = record { local = no-words-known.local_frames; remote = no-words-known.remote_frames }

obeyed-places : (window : ℕ) (old new : Script) (asked : Line) → HasPlaces old → Obeys window old asked new → HasPlaces new
obeyed-places window old new (Press Local f buttons) places obeys =
    subst HasPlaces (sym obeys.3) (record { local = length-set old.local f (Some buttons) ∙ places.local; remote = places.remote })
obeyed-places window old new (Press Remote f buttons) places obeys =
    subst HasPlaces (sym obeys.3) (record { local = places.local; remote = length-set old.remote f (Some buttons) ∙ places.remote })
obeyed-places window old new Advance places obeys = subst HasPlaces (sym obeys.4) (record { local = places.local; remote = places.remote })

places-of : (player : Player) (script : Script) → HasPlaces script → length (words_of player script) ≡ most_frames
places-of Local script places = places.local
places-of Remote script places = places.remote

-- ---- a line is refused for one fault

none_and_some : (line : Line) → ◌≡◌ {A = Option Line} None (Some line) → ⊥
none_and_some line same = cc

press_or_advance : (player : Player) (f buttons : ℕ) → ◌≡◌ {A = Option Line} (Some (Press player f buttons)) (Some Advance) → ⊥
press_or_advance player f buttons same = cc

same_frame : (player player2 : Player) (f f2 buttons buttons2 : ℕ) → ◌≡◌ {A = Option Line} (Some (Press player f buttons)) (Some (Press player2 f2 buttons2)) → f ≡ f2
same_frame player player2 f f2 buttons buttons2 same = cc

none_or_word : (word : ℕ) → ◌≡◌ {A = Option ℕ} None (Some word) → ⊥
none_or_word word same = cc

far_or_given : (script : Script) (player : Player) (f kept : ℕ) → HasPlaces script → given (words_of player script) f ≡ Some kept → most_frames ≤ f → ⊥
far_or_given script player f kept places was far =
    none_or_word kept (sym (get_or_past (words_of player script) f None (omega (arith, places-of player script places, far))) ∙ was)

far_or_within : (f f2 : ℕ) → f ≡ f2 → most_frames ≤ f → f2 < most_frames → ⊥
far_or_within f f2 same far within = omega (arith, same, far, within)

given_or_free : (script : Script) (player player2 : Player) (f f2 buttons buttons2 kept : ℕ)
    → ◌≡◌ {A = Option Line} (Some (Press player f buttons)) (Some (Press player2 f2 buttons2))
    → given (words_of player script) f ≡ Some kept → given (words_of player2 script) f2 ≡ None → ⊥
given_or_free script player player2 f f2 buttons buttons2 kept same was free = cc

one_fault : (window : ℕ) (script : Script) (line : List ℕ) (fault other : LineFault) → HasPlaces script
    → IsRefused window script line fault → IsRefused window script line other → fault ≡ other
one_fault window script line faults.Unread faults.Unread places first second = refl
one_fault window script line faults.Unread faults.Far places none (player2, f2, buttons2, observable2, far2) = absurd (none_and_some _ (sym none ∙ observable2))
one_fault window script line faults.Unread faults.Given places none (player2, f2, buttons2, kept2, observable2, was2) = absurd (none_and_some _ (sym none ∙ observable2))
one_fault window script line faults.Unread faults.Buttons places none (player2, f2, buttons2, observable2, within2, free2, big2) = absurd (none_and_some _ (sym none ∙ observable2))
one_fault window script line faults.Unread faults.Waiting places none (confirmed2, observable2, more2, known2, late2) = absurd (none_and_some _ (sym none ∙ observable2))
one_fault window script line faults.Unread faults.Ended places none (observable2, last2) = absurd (none_and_some _ (sym none ∙ observable2))
one_fault window script line faults.Far faults.Unread places (player, f, buttons, observable, far) none2 = absurd (none_and_some _ (sym none2 ∙ observable))
one_fault window script line faults.Far faults.Far places first second = refl
one_fault window script line faults.Far faults.Given places (player, f, buttons, observable, far) (player2, f2, buttons2, kept2, observable2, was2) = absurd (far_or_given script player2 f2 kept2 places was2 (subst (λ (f : ℕ). most_frames ≤ f) (same_frame _ _ _ _ _ _ (sym observable ∙ observable2)) far))
one_fault window script line faults.Far faults.Buttons places (player, f, buttons, observable, far) (player2, f2, buttons2, observable2, within2, free2, big2) = absurd (far_or_within f f2 (same_frame _ _ _ _ _ _ (sym observable ∙ observable2)) far within2)
one_fault window script line faults.Far faults.Waiting places (player, f, buttons, observable, far) (confirmed2, observable2, more2, known2, late2) = absurd (press_or_advance _ _ _ (sym observable ∙ observable2))
one_fault window script line faults.Far faults.Ended places (player, f, buttons, observable, far) (observable2, last2) = absurd (press_or_advance _ _ _ (sym observable ∙ observable2))
one_fault window script line faults.Given faults.Unread places (player, f, buttons, kept, observable, was) none2 = absurd (none_and_some _ (sym none2 ∙ observable))
one_fault window script line faults.Given faults.Far places (player, f, buttons, kept, observable, was) (player2, f2, buttons2, observable2, far2) = absurd (far_or_given script player f kept places was (subst (λ (f : ℕ). most_frames ≤ f) (same_frame _ _ _ _ _ _ (sym observable2 ∙ observable)) far2))
one_fault window script line faults.Given faults.Given places first second = refl
one_fault window script line faults.Given faults.Buttons places (player, f, buttons, kept, observable, was) (player2, f2, buttons2, observable2, within2, free2, big2) = absurd (given_or_free script _ _ _ _ _ _ kept (sym observable ∙ observable2) was free2)
one_fault window script line faults.Given faults.Waiting places (player, f, buttons, kept, observable, was) (confirmed2, observable2, more2, known2, late2) = absurd (press_or_advance _ _ _ (sym observable ∙ observable2))
one_fault window script line faults.Given faults.Ended places (player, f, buttons, kept, observable, was) (observable2, last2) = absurd (press_or_advance _ _ _ (sym observable ∙ observable2))
one_fault window script line faults.Buttons faults.Unread places (player, f, buttons, observable, within, free, big) none2 = absurd (none_and_some _ (sym none2 ∙ observable))
one_fault window script line faults.Buttons faults.Far places (player, f, buttons, observable, within, free, big) (player2, f2, buttons2, observable2, far2) = absurd (far_or_within f2 f (same_frame _ _ _ _ _ _ (sym observable2 ∙ observable)) far2 within)
one_fault window script line faults.Buttons faults.Given places (player, f, buttons, observable, within, free, big) (player2, f2, buttons2, kept2, observable2, was2) = absurd (given_or_free script _ _ _ _ _ _ kept2 (sym observable2 ∙ observable) was2 free)
one_fault window script line faults.Buttons faults.Buttons places first second = refl
one_fault window script line faults.Buttons faults.Waiting places (player, f, buttons, observable, within, free, big) (confirmed2, observable2, more2, known2, late2) = absurd (press_or_advance _ _ _ (sym observable ∙ observable2))
one_fault window script line faults.Buttons faults.Ended places (player, f, buttons, observable, within, free, big) (observable2, last2) = absurd (press_or_advance _ _ _ (sym observable ∙ observable2))
one_fault window script line faults.Waiting faults.Unread places (confirmed, observable, more, known, late) none2 = absurd (none_and_some _ (sym none2 ∙ observable))
one_fault window script line faults.Waiting faults.Far places (confirmed, observable, more, known, late) (player2, f2, buttons2, observable2, far2) = absurd (press_or_advance _ _ _ (sym observable2 ∙ observable))
one_fault window script line faults.Waiting faults.Given places (confirmed, observable, more, known, late) (player2, f2, buttons2, kept2, observable2, was2) = absurd (press_or_advance _ _ _ (sym observable2 ∙ observable))
one_fault window script line faults.Waiting faults.Buttons places (confirmed, observable, more, known, late) (player2, f2, buttons2, observable2, within2, free2, big2) = absurd (press_or_advance _ _ _ (sym observable2 ∙ observable))
one_fault window script line faults.Waiting faults.Waiting places first second = refl
one_fault window script line faults.Waiting faults.Ended places (confirmed, observable, more, known, late) (observable2, last2) = absurd (more last2)
one_fault window script line faults.Ended faults.Unread places (observable, last) none2 = absurd (none_and_some _ (sym none2 ∙ observable))
one_fault window script line faults.Ended faults.Far places (observable, last) (player2, f2, buttons2, observable2, far2) = absurd (press_or_advance _ _ _ (sym observable2 ∙ observable))
one_fault window script line faults.Ended faults.Given places (observable, last) (player2, f2, buttons2, kept2, observable2, was2) = absurd (press_or_advance _ _ _ (sym observable2 ∙ observable))
one_fault window script line faults.Ended faults.Buttons places (observable, last) (player2, f2, buttons2, observable2, within2, free2, big2) = absurd (press_or_advance _ _ _ (sym observable2 ∙ observable))
one_fault window script line faults.Ended faults.Waiting places (observable, last) (confirmed2, observable2, more2, known2, late2) = absurd (more2 last)
one_fault window script line faults.Ended faults.Ended places first second = refl

-- ---- scripts that are one, and have their places

record AreOne (a b : Script) : Type 0 where
  places : HasPlaces a
  same : a ≡ b

first-one : AreOne begun begun
first-one = record { places = first-places; same = refl }

turned : (a b : Script) → AreOne a b → AreOne b a
turned a b one = record { places = subst HasPlaces one.same one.places; same = sym one.same }

follows : (window : ℕ) (line : List ℕ) (a b x y : Script) → AreOne a b → ObeysLine window line a x → ObeysLine window line b y → AreOne x y
follows window line a b x y one first second = record {
  places = obeyed-places window a x first.0 one.places first.2;
  same = one_after window line a b x y one.same first second;
}

never_one : (window : ℕ) (line : List ℕ) (a b x : Script) (fault : LineFault) → AreOne a b → ObeysLine window line a x → RefusesFor window fault b line → ⊥
never_one window line a b x fault one = never window line a b x fault one.same

same_fault : (window : ℕ) (line : List ℕ) (a b : Script) (fault other : LineFault) → AreOne a b → RefusesFor window fault a line → RefusesFor window other b line → fault ≡ other
same_fault window line a b fault other one first second =
    one_fault window a line fault other one.places first (subst (λ (s : Script). IsRefused window s line other) (sym one.same) second)

-- ---- one digest

-- a run has one last machine
abbrev pub RunsAreOne : Type 0
RunsAreOne = (m w z : Console) (end : ℕ) (first second : List Entry) (output other : Media)
    → IsRunTo m end w first output → IsRunTo m end z second other → (w ≡ z) × (first ≡ second) × (output ≡ other)

one_digest : (cart : List ℕ) (script : Script) (first second : List ℕ) → RunsAreOne → IsDigestOf cart script first → IsDigestOf cart script second → first ≡ second
one_digest cart script first second runs one two =
    let same = runs (power_on cart (recording_of script.played) false) one.last two.last (frame * script.frames) one.entries two.entries one.output two.output one.run two.run in
    one.digest_is ∙ ap (λ (m : Console). sha256 (state_bytes (frame * script.frames) m)) same.0 ∙ sym two.digest_is

one_done : (cart : List ℕ) (window : ℕ) (text : List ℕ) (first second : Rolled) → RunsAreOne → CompletesWith cart window text (Done first) → CompletesWith cart window text (Done second) → first ≡ second
one_done cart window text first second runs (script, all, frames, confirmed, digest) (script2, all2, frames2, confirmed2, digest2) =
    let same : script2 ≡ script = (alike_after (ObeysLine window) (RefusesFor window) AreOne (follows window) (never_one window) (lines_of text) begun begun script2 script first-one all2 all).same in
    let made : first.frames ≡ second.frames = frames ∙ ap (λ (s : Script). s.frames) (sym same) ∙ sym frames2 in
    let known : first.confirmed ≡ second.confirmed =
    one_confirmed script.local script.remote first.confirmed second.confirmed confirmed (subst (λ (s : Script). IsConfirmed s.local s.remote second.confirmed) same confirmed2) in
    let observable : first.digest ≡ second.digest = one_digest cart script first.digest second.digest runs digest (subst (λ (s : Script). IsDigestOf cart s second.digest) same digest2) in
    λ i. record { frames = made i; confirmed = known i; digest = observable i }

pub one_outcome : RunsAreOne → (cart : List ℕ) (window : ℕ) (text : List ℕ) (first second : Completion) → CompletesWith cart window text first → CompletesWith cart window text second
    → first ≢ NoMemory → second ≢ NoMemory → first ≡ second
one_outcome runs cart window text (Done first) (Done second) one two there there2 = ap Done (one_done cart window text first second runs one two)
one_outcome runs cart window text (Done first) (Refused line fault) one two there there2 = absurd (done_or_refused cart window text first line fault one two)
one_outcome runs cart window text (Refused line fault) (Done second) one two there there2 = absurd (done_or_refused cart window text second line fault two one)
one_outcome runs cart window text (Refused line fault) (Refused line2 fault2) one two there there2 =
    let same = one_refused (ObeysLine window) (RefusesFor window) AreOne (follows window) (never_one window) turned (same_fault window)
    (lines_of text) begun begun one.0 two.0 line line2 fault fault2 first-one one.1 two.1 in
    ap₂ Refused same.1.0 same.1.1
one_outcome runs cart window text NoMemory second one two there there2 = absurd (there refl)
one_outcome runs cart window text first NoMemory one two there there2 = absurd (there2 refl)
