-- Lines that are refused, and replies that are written.
use Rattle.std.proofs.Common.{◌≡◌, ◌≢◌, ◌↔◌, ℕ, ◌+◌, ◌<◌, Bool, true, false, if◌then◌else◌, List, [], ◌∷◌, ◌++◌, length, Result, Ok, Err, refl, sym, ap, subst, ◌∙◌, append_assoc, append-nil, arith}
use Rattle.std.specs.Prelude.{IfErr}
use Rattle.std.specs.List.{list_all}
use Rattle.std.specs.Str.{IsUtf8}
use Rattle.std.proofs.lemmas.Str.{IsUtf8-from_ascii}
use Rattle.text_lines.proofs.Ascii.{ascii_of}
use Rattle.md_outer.specs.Outside.{IsPrefix, PutsText, SinkState}
use Rattle.debug_text.specs.Commands.{following, command_of, is_seven_bit, read_by, word_in, word_of}
use Rattle.debug_text.specs.declared.command.Command.TheVariants.{Back}
use Rattle.debug_text.specs.declared.command.Misread.TheVariants as misread
use Rattle.md_chips.specs.Machines.{MachineValue}
use Rattle.md_debug.specs.Sessions.{SessionValue, oldest_of}
use Rattle.md_debug.specs.declared.fault.DebugFault.{DebugFault}
use Rattle.md_debug.specs.declared.fault.DebugFault.TheVariants.{BadNumber, NoMemory, NotKept, UnknownWord}
use Rattle.debug_text.specs.Scripts.{ObeysFirst}
use Rattle.md_debug.specs.Scripts.{FailsWithin, IsRefused, ObeysLine, Plays, PutsWhole, replied}
use Rattle.debug_text.specs.declared.outcome.ScriptOutcome.{ScriptOutcome}
use Rattle.debug_text.specs.declared.outcome.ScriptOutcome.TheVariants.{OutOfMemory, Refused}

-- why a session refuses a line
pub refused_by : {X Images : Type 0} (session : SessionValue Images) (line : List ℕ) (r : Result X DebugFault) (fault : DebugFault) → r ≡ Err fault
    → ((r ≡ Err UnknownWord) ↔ (command_of line ≡ Err misread.UnknownWord)) → ((r ≡ Err BadNumber) ↔ (command_of line ≡ Err misread.BadNumber))
    → ((oldest : ℕ) → (r ≡ Err (NotKept oldest)) ↔ ((n : ℕ) × ((command_of line ≡ Ok (Back n)) × ((length session.states < n) × (oldest ≡ oldest_of session)))))
    → fault ≢ NoMemory → IsRefused session line fault
refused_by session line r UnknownWord is unknown number not_kept other = unknown.0 is
refused_by session line r BadNumber is unknown number not_kept other = number.0 is
refused_by session line r (NotKept oldest) is unknown number not_kept other = (not_kept oldest).0 is
refused_by session line r NoMemory is unknown number not_kept other = absurd (other refl)

pub refused_for : {X Images : Type 0} (session : SessionValue Images) (text line : List ℕ) (r : Result X DebugFault) → text ≡ line
    → ((r ≡ Err UnknownWord) ↔ (command_of text ≡ Err misread.UnknownWord)) → ((r ≡ Err BadNumber) ↔ (command_of text ≡ Err misread.BadNumber))
    → ((oldest : ℕ) → (r ≡ Err (NotKept oldest)) ↔ ((n : ℕ) × ((command_of text ≡ Ok (Back n)) × ((length session.states < n) × (oldest ≡ oldest_of session)))))
    → IfErr r (λ fault. fault ≢ NoMemory → IsRefused session line fault)
refused_for session text line (Ok reply) is unknown number not_kept = tt
refused_for session text line (Err fault) is unknown number not_kept = λ other.
    subst (λ (l : List ℕ). IsRefused session l fault) is (refused_by session text (Err fault) fault refl unknown number not_kept other)

-- a second text is written after one that was written
pub puts_more : {E F G : Type 0} (observable : Type 0) (first second : List ℕ) (old mid new : SinkState) → PutsText {E = E} observable first old mid (Ok tt)
    → PutsText {E = F} observable second mid new (Ok tt) → PutsText {E = G} observable (first ++ second) old new (Ok tt)
puts_more observable first second old mid new one two = record {
  later = omega (arith, one.later, two.later);
  whole = λ t. two.whole t ∙ ap (λ (l : List ℕ). l ++ second) (one.whole t) ∙ append_assoc old.bytes first second;
  failed = tt;
  part = tt;
}

-- a text that was put, or failed, by its bytes
pub puts_whole : {E : Type 0} (observable : Type 0) (text bytes : List ℕ) (old new : SinkState) → PutsText {E = E} observable text old new (Ok tt) → text ≡ bytes → PutsWhole observable bytes old new
puts_whole observable text bytes old new put is = record {
  later = put.later;
  whole = λ t. put.whole t ∙ ap (λ (l : List ℕ). old.bytes ++ l) is;
  failed = tt;
  part = tt;
}

pub fails_within : {E : Type 0} (observable : Type 0) (text bytes : List ℕ) (old new : SinkState) (e : E) → PutsText {E = E} observable text old new (Err e) → text ≡ bytes → FailsWithin observable bytes old new
fails_within observable text bytes old new e put is = record {
  later = put.later;
  whole = tt;
  failed = put.failed;
  part = subst (λ (l : List ℕ). observable → (part : List ℕ) × IsPrefix part l × (new.bytes ≡ old.bytes ++ part)) is put.part;
}

-- no text is put without a call
pub puts_none : {E : Type 0} (observable : Type 0) (old : SinkState) → PutsText {E = E} observable [] old old (Ok tt)
puts_none observable old = record { later = omega arith; whole = λ t. sym (append-nil old.bytes); failed = tt; part = tt }

-- bytes that are no text have one that is not ASCII
pub not_text : (line : List ℕ) → ¬ IsUtf8 line → command_of line ≡ Err misread.UnknownWord
not_text line other = by (list_all is_seven_bit line) refl where
  by : (b : Bool) → list_all is_seven_bit line ≡ b → command_of line ≡ Err misread.UnknownWord
  by true all = absurd (other (IsUtf8-from_ascii line (ascii_of line all)))
  by false some = ap (λ (b : Bool). if b then read_by (word_of (word_in line)) (following line) else Err misread.UnknownWord) some

module _ {Images : Type 0} (size : Images → ℕ) (spelling : Images → MachineValue → List ℕ) (keeps : Images → List ℕ → MachineValue → Type 0) where
  -- a line is not obeyed
  refused_at : (lines before after : List (List ℕ)) (line : List ℕ) (old mid new : SessionValue Images) (replies : List ℕ) (script_outcome : ScriptOutcome DebugFault) (number : ℕ) (fault : DebugFault)
      → ObeysFirst (ObeysLine size spelling keeps) lines before (line ∷ after) (replied old []) (replied mid replies) → number ≡ length before + 1 → script_outcome ≡ Refused number fault
      → IsRefused mid line fault × (new ≡ mid) → Plays size spelling keeps lines old new replies script_outcome
  refused_at lines before after line old mid new replies script_outcome number fault so_far is ends refused =
      subst (Plays size spelling keeps lines old new replies) (sym ends) (
        before,
        line,
        after,
        subst (λ (s : SessionValue Images). ObeysFirst (ObeysLine size spelling keeps) lines before (line ∷ after) (replied old []) (replied s replies)) (sym refused.1) so_far,
        is,
        subst (λ (s : SessionValue Images). IsRefused s line fault) (sym refused.1) refused.0,
      )

  pub plays_stopped : (lines before after : List (List ℕ)) (line : List ℕ) (old mid new : SessionValue Images) (replies : List ℕ) (script_outcome : ScriptOutcome DebugFault) (number : ℕ) (fault : DebugFault)
      → ObeysFirst (ObeysLine size spelling keeps) lines before (line ∷ after) (replied old []) (replied mid replies) → number ≡ length before + 1
      → (fault ≡ NoMemory → script_outcome ≡ OutOfMemory) → (fault ≢ NoMemory → script_outcome ≡ Refused number fault)
      → (fault ≢ NoMemory → IsRefused mid line fault × (new ≡ mid)) → Plays size spelling keeps lines old new replies script_outcome
  plays_stopped lines before after line old mid new replies script_outcome number NoMemory so_far is memory ends refused =
      subst (Plays size spelling keeps lines old new replies) (sym (memory refl)) (mid, (before, line ∷ after, so_far))
  plays_stopped lines before after line old mid new replies script_outcome number UnknownWord so_far is memory ends refused =
      let other : UnknownWord ≢ NoMemory = λ e. cc in
      refused_at lines before after line old mid new replies script_outcome number UnknownWord so_far is (ends other) (refused other)
  plays_stopped lines before after line old mid new replies script_outcome number BadNumber so_far is memory ends refused =
      let other : BadNumber ≢ NoMemory = λ e. cc in
      refused_at lines before after line old mid new replies script_outcome number BadNumber so_far is (ends other) (refused other)
  plays_stopped lines before after line old mid new replies script_outcome number (NotKept oldest) so_far is memory ends refused =
      let other : NotKept oldest ≢ NoMemory = λ e. cc in
      refused_at lines before after line old mid new replies script_outcome number (NotKept oldest) so_far is (ends other) (refused other)
