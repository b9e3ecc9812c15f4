-- A journal and a file have one outcome alone.
use Rattle.std.proofs.Common.{◌≡◌, ◌∙◌, ◌≢◌, ◌⊎◌, ◌<◌, ℕ, Bool, List, Option, None, Some, ap, sym, subst, inl, inr, arith}
use Rattle.std.proofs.lemmas.Bool.{cases_order}
use Rattle.md_vgm.specs.Course.{Reaches, Ends, Goes, Refused, Verdict, fm_before, head_fault, psg_before, stamp, verdict_of}
use Rattle.md_vgm.specs.Outcomes.{Failed, IsMade, IsPlayed, Made, Outcome}
use Rattle.md_vgm.specs.Playing.{sound_file}
use Rattle.md_vgm.specs.declared.fault.VgmFault.{VgmFault}
use Rattle.md_vgm.specs.declared.fault.VgmFault.TheVariants.{Form}

pub made_once : (pal : Bool) (journal : List ℕ) (first second : Outcome) → IsMade pal journal first → IsMade pal journal second → first ≡ second
made_once pal journal (Made file) (Made other) is is' = ap Made (is.1 ∙ sym is'.1)
made_once pal journal (Made file) (Failed fault) is is' = absurd (omega (arith, is.0, is'.0))
made_once pal journal (Failed fault) (Made file) is is' = absurd (omega (arith, is.0, is'.0))
made_once pal journal (Failed fault) (Failed other) is is' = ap Failed (is.1 ∙ sym is'.1)

apart : (pal : Bool) (file : List ℕ) (m n : ℕ) → Reaches pal file m → Reaches pal file n → verdict_of pal file m ≢ Goes → verdict_of pal file n ≢ Goes
    → (m < n) ⊎ (n < m) → m ≡ n
apart pal file m n reaches reaches' stops stops' (inl below) = absurd (stops (reaches' m below))
apart pal file m n reaches reaches' stops stops' (inr above) = absurd (stops' (reaches n above))

-- a file has at most one command to which all before it continue and that does not continue itself
stops_once : (pal : Bool) (file : List ℕ) (m n : ℕ) → Reaches pal file m → Reaches pal file n → verdict_of pal file m ≢ Goes → verdict_of pal file n ≢ Goes → m ≡ n
stops_once pal file m n reaches reaches' stops stops' = elim (cases_order m n) [
  | inl same ↦ same
  | inr differ ↦ apart pal file m n reaches reaches' stops stops' differ
]

ends_stop : (v : Verdict) → v ≡ Ends → v ≢ Goes
ends_stop v is goes = cc

refused_stop : (v : Verdict) (fault : VgmFault) → v ≡ Refused fault → v ≢ Goes
refused_stop v fault is goes = cc

ends_or_refused : (v : Verdict) (fault : VgmFault) → v ≡ Ends → v ≡ Refused fault → ⊥
ends_or_refused v fault is other = cc

none_or_some : (o : Option ℕ) (place : ℕ) → o ≡ None → o ≡ Some place → ⊥
none_or_some o place is other = cc

one_place : (o : Option ℕ) (place other : ℕ) → o ≡ Some place → o ≡ Some other → place ≡ other
one_place o place other is is' = cc

one_fault : (v : Verdict) (fault other : VgmFault) → v ≡ Refused fault → v ≡ Refused other → fault ≡ other
one_fault v fault other is is' = cc

module _ (pal : Bool) (file : List ℕ) where
  abbrev Stops : VgmFault → Type 0
  Stops fault = (head_fault file ≡ None) × ((n : ℕ) × Reaches pal file n × (verdict_of pal file n ≡ Refused fault))

  abbrev Heads : VgmFault → Type 0
  Heads fault = (place : ℕ) × (head_fault file ≡ Some place) × (fault ≡ Form place)

  ends_alone : (sound : List ℕ) (fault : VgmFault) → IsPlayed pal file (Made sound) → Heads fault ⊎ Stops fault → ⊥
  ends_alone sound fault is (inl head) = none_or_some (head_fault file) head.0 is.0 head.1
  ends_alone sound fault (none, (m, reaches, ends, bytes)) (inr (other, (n, reaches', refused))) =
      let same : m ≡ n = stops_once pal file m n reaches reaches' (ends_stop _ ends) (refused_stop _ fault refused) in
      ends_or_refused (verdict_of pal file n) fault (subst (λ (k : ℕ). verdict_of pal file k ≡ Ends) same ends) refused

  fails_once : (fault other : VgmFault) → Heads fault ⊎ Stops fault → Heads other ⊎ Stops other → fault ≡ other
  fails_once fault other (inl head) (inl head') = head.2 ∙ ap Form (one_place (head_fault file) head.0 head'.0 head.1 head'.1) ∙ sym head'.2
  fails_once fault other (inl head) (inr stops) = absurd (none_or_some (head_fault file) head.0 stops.0 head.1)
  fails_once fault other (inr stops) (inl head) = absurd (none_or_some (head_fault file) head.0 stops.0 head.1)
  fails_once fault other (inr (none, (m, reaches, refused))) (inr (none', (n, reaches', refused'))) =
      let same : m ≡ n = stops_once pal file m n reaches reaches' (refused_stop _ fault refused) (refused_stop _ other refused') in
      one_fault (verdict_of pal file n) fault other (subst (λ (k : ℕ). verdict_of pal file k ≡ Refused fault) same refused) refused'

  sounds_once : (sound other : List ℕ) → IsPlayed pal file (Made sound) → IsPlayed pal file (Made other) → sound ≡ other
  sounds_once sound other (none, (m, reaches, ends, bytes)) (none', (n, reaches', ends', bytes')) =
      let same : m ≡ n = stops_once pal file m n reaches reaches' (ends_stop _ ends) (ends_stop _ ends') in
      bytes ∙ ap (λ (k : ℕ). sound_file pal (psg_before pal file k) (fm_before pal file k) (stamp pal file k)) same ∙ sym bytes'

  pub played_once : (first second : Outcome) → IsPlayed pal file first → IsPlayed pal file second → first ≡ second
  played_once (Made sound) (Made other) is is' = ap Made (sounds_once sound other is is')
  played_once (Made sound) (Failed fault) is is' = absurd (ends_alone sound fault is is')
  played_once (Failed fault) (Made sound) is is' = absurd (ends_alone sound fault is' is)
  played_once (Failed fault) (Failed other) is is' = ap Failed (fails_once fault other is is')
