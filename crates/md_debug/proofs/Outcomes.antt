-- A script has one outcome alone, where memory suffices.
use Rattle.std.proofs.Common.{◌≡◌, ◌≢◌, ℕ, List, [], ◌++◌, refl, sym, ap, ap₂, subst, ◌∙◌}
use Rattle.debug_text.proofs.Scripts.{alike_after, none_refused, one_refused}
use Rattle.debug_text.specs.declared.command.Command.{Command}
use Rattle.md_debug.specs.Scripts.{ObeysLine, Plays, RefusesFor, Replied, replied}
use Rattle.debug_text.specs.declared.outcome.ScriptOutcome.{ScriptOutcome}
use Rattle.debug_text.specs.declared.outcome.ScriptOutcome.TheVariants.{Obeyed, OutOfMemory, Refused}
use Rattle.md_debug.specs.Sessions.{Obeys, SessionValue, reply_to}
use Rattle.md_debug.specs.declared.fault.DebugFault.{DebugFault}
use Rattle.md_chips.specs.Machines.{MachineValue}
use Rattle.md_debug.proofs.Alike.{Alike, IsSpelledByStart, KeepOne, alike_self, not_refused, obeys_alike, one_fault, reply_alike, same_ok}

module _ {Images : Type 0} (size : Images → ℕ) (spelling : Images → MachineValue → List ℕ) (keeps : Images → List ℕ → MachineValue → Type 0)
    (spelled : IsSpelledByStart size spelling keeps) (keep : KeepOne size spelling keeps) where
  -- states that continue alike, after the same replies
  record AreAlike (a b : Replied Images) : Type 0 where
    session : Alike a.session b.session
    replies : a.replies ≡ b.replies

  turned : (a b : Replied Images) → AreAlike a b → AreAlike b a
  turned a b same = record {
    session = record { images = sym same.session.images; start = sym same.session.start; states = sym same.session.states; cycles = sym same.session.cycles; begun = sym same.session.begun };
    replies = sym same.replies;
  }

  follows : (line : List ℕ) (a b x y : Replied Images) → AreAlike a b → ObeysLine size spelling keeps line a x → ObeysLine size spelling keeps line b y → AreAlike x y
  follows line a b x y same one two =
      let which : one.command ≡ two.command = same_ok one.command two.command (sym one.asks ∙ two.asks) in
      let on : Obeys size spelling keeps b.session one.command y.session = subst (λ (c : Command). Obeys size spelling keeps b.session c y.session) (sym which) two.obeys in
      let next = obeys_alike size spelling keeps one.command a.session b.session x.session y.session spelled keep same.session one.obeys on in
      let reply : reply_to one.command x.session ≡ reply_to two.command y.session = reply_alike one.command x.session y.session next ∙ ap (λ (c : Command). reply_to c y.session) which in
      record { session = next; replies = one.replies ∙ ap₂ (λ (s t : List ℕ). s ++ t) same.replies reply ∙ sym two.replies }

  never : (line : List ℕ) (a b x : Replied Images) (fault : DebugFault) → AreAlike a b → ObeysLine size spelling keeps line a x → RefusesFor fault b line → ⊥
  never line a b x fault same obeyed refused = not_refused size spelling keeps line obeyed.command a.session b.session x.session fault same.session obeyed.asks obeyed.obeys refused

  same_fault : (line : List ℕ) (a b : Replied Images) (fault other : DebugFault) → AreAlike a b → RefusesFor fault a line → RefusesFor other b line → fault ≡ other
  same_fault line a b fault other same one two = one_fault line a.session b.session fault other same.session one two

  first_alike : (session : SessionValue Images) → AreAlike (replied session []) (replied session [])
  first_alike session = record { session = alike_self session; replies = refl }

  pub one_outcome : (lines : List (List ℕ)) (old x y : SessionValue Images) (first second : List ℕ) (script_outcome other : ScriptOutcome DebugFault)
      → Plays size spelling keeps lines old x first script_outcome → Plays size spelling keeps lines old y second other → script_outcome ≢ OutOfMemory → other ≢ OutOfMemory
      → (first ≡ second) × (script_outcome ≡ other)
  one_outcome lines old x y first second Obeyed Obeyed one two there there' =
      ((alike_after (ObeysLine size spelling keeps) RefusesFor AreAlike follows never lines (replied old []) (replied old []) (replied x first) (replied y second) (first_alike old) one two).replies, refl)
  one_outcome lines old x y first second Obeyed (Refused number fault) one two there there' =
      absurd (none_refused (ObeysLine size spelling keeps) RefusesFor AreAlike follows never lines (replied old []) (replied old []) (replied x first) (replied y second) number fault (first_alike old) one two)
  one_outcome lines old x y first second (Refused number fault) Obeyed one two there there' =
      absurd (none_refused (ObeysLine size spelling keeps) RefusesFor AreAlike follows never lines (replied old []) (replied old []) (replied y second) (replied x first) number fault (first_alike old) two one)
  one_outcome lines old x y first second (Refused number fault) (Refused number' fault') one two there there' =
      let same = one_refused (ObeysLine size spelling keeps) RefusesFor AreAlike follows never turned same_fault lines
      (replied old []) (replied old []) (replied x first) (replied y second) number number' fault fault' (first_alike old) one two in
      (same.0.replies, ap₂ Refused same.1.0 same.1.1)
  one_outcome lines old x y first second OutOfMemory other one two there there' = absurd (there refl)
  one_outcome lines old x y first second script_outcome OutOfMemory one two there there' = absurd (there' refl)
