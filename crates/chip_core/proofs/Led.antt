-- What lists of enabled events lead to: how many they are, what they enter, and what is kept.
use Rattle.std.proofs.Common.{◌≡◌, ℕ, ◌+◌, ◌-◌, ◌<◌, ◌≤◌, refl, sym, ◌∙◌, ap, subst, arith, List, [], ◌∷◌, ◌++◌, length, length-append, length-take, take, slice_index_or}
use Rattle.std.proofs.lemmas.List.{take_more}
use Rattle.md_word.specs.Clock.{cycle_limit}
use Rattle.chip_core.specs.declared.event.Event.{Event}
use Rattle.chip_core.specs.declared.event.Event.TheVariants.{Announce, Perform, Sample}
use Rattle.chip_core.specs.Chips.{Rules, Lawful}
use Rattle.chip_core.specs.Cores.{CoreValue, IsCore, machine_of, seen}
use Rattle.chip_core.specs.Events.{Seen, HasPlace, HasRoom, IsEnabled, after, Leads, Stands}
use Rattle.chip_core.specs.Limits.{events_within}
use Rattle.chip_core.specs.Machines.{IsQuiet, accessed}
use Rattle.chip_core.proofs.Keeps.{stands-leads}
use Rattle.chip_core.proofs.Lists.{valid-core, tidy-core}
use Rattle.chip_core.proofs.Works.{work-leads, work-within}

module _ {Chip Shared Pins : Type 0} (rules : Rules Chip Shared Pins) where
  -- one event more
  pub led-more : (t : ℕ) (s : Seen Chip Shared) (es : List Event) (z w : Seen Chip Shared) (e : Event) → Leads rules t s es z → IsEnabled rules z t e → w ≡ after rules z e → Leads rules t s (es ++ e ∷ []) w
  led-more t s [] z w e l en is = (subst (λ (x : Seen Chip Shared). IsEnabled rules x t e) l en, is ∙ ap (λ (x : Seen Chip Shared). after rules x e) l)
  led-more t s (d ∷ es) z w e l en is = (l.0, led-more t (after rules s d) es z w e l.1 en is)

  pub led-next : (t : ℕ) (s : Seen Chip Shared) (list : List Event) (n : ℕ) (z w : Seen Chip Shared) → n < length list → Leads rules t s (take n list) z
      → IsEnabled rules z t (slice_index_or list n (Announce 0)) → w ≡ after rules z (slice_index_or list n (Announce 0)) → Leads rules t s (take (n + 1) list) w
  led-next t s list n z w h l en is = subst (λ (es : List Event). Leads rules t s es w) (sym (take_more list n (Announce 0) h)) (led-more t s (take n list) z w (slice_index_or list n (Announce 0)) l en is)

  -- an event enters at most one access
  entered-one : (s : Seen Chip Shared) (e : Event) → length (after rules s e).journal ≤ length s.journal + 1
  entered-one s (Announce i) = omega arith
  entered-one s (Perform i) = omega (arith, length-append s.journal ((accessed rules s.machine i).entry ∷ []))
  entered-one s (Sample i) = omega arith

  led-entered_all : (t : ℕ) (s : Seen Chip Shared) (es : List Event) (z : Seen Chip Shared) → Leads rules t s es z → length z.journal ≤ length s.journal + length es
  led-entered_all t s [] z l = let e = ap (λ (x : Seen Chip Shared). length x.journal) l in omega arith
  led-entered_all t s (e ∷ es) z l =
      let rest = led-entered_all t (after rules s e) es z l.1 in
      let one = entered-one s e in
      omega arith

  pub led-entered : (t : ℕ) (s : Seen Chip Shared) (list : List Event) (n : ℕ) (z : Seen Chip Shared) → n ≤ length list → Leads rules t s (take n list) z → length z.journal ≤ length s.journal + n
  led-entered t s list n z h l =
      let all = led-entered_all t s (take n list) z l in
      let few = length-take n list in
      omega arith

  -- with a free place for each event, and with one for each access
  pub place-free : (entered room : ℕ) (e : Event) → entered < room → HasPlace entered room e
  place-free entered room (Announce i) h = tt
  place-free entered room (Perform i) h = h
  place-free entered room (Sample i) h = tt

  pub place-room : (t room : ℕ) (s : Seen Chip Shared) → HasRoom rules t s room → (e : Event) → IsEnabled rules s t e → HasPlace (length s.journal) room e
  place-room t room s has (Announce i) en = tt
  place-room t room s has (Perform i) en =
      let fits = has (Perform i ∷ []) (after rules s (Perform i)) (en, refl) in
      let one = length-append s.journal ((accessed rules s.machine i).entry ∷ []) in
      omega arith
  place-room t room s has (Sample i) en = tt

  pub room-after : (t room : ℕ) (s z : Seen Chip Shared) → HasRoom rules t s room → (e : Event) → IsEnabled rules s t e → z ≡ after rules s e → HasRoom rules t z room
  room-after t room s z has e en is es w l = has (e ∷ es) w (en, subst (λ (x : Seen Chip Shared). Leads rules t x es w) is l)

module _ {Chip Shared Pins : Type 0} (rules : Rules Chip Shared Pins) (chip_ok : Chip → Type 0) (shared_ok : Shared → Type 0) (law : Lawful rules chip_ok shared_ok)
    (v : CoreValue Chip Shared) (core : IsCore rules chip_ok shared_ok v) (t : ℕ) (small : t ≤ cycle_limit) (list : List Event) (n : ℕ) (h : n ≤ length list) (z : Seen Chip Shared)
    (led : Leads rules t (seen rules v) (take n list) z) where
  pub led-stands : (base : CoreValue Chip Shared) → IsCore rules chip_ok shared_ok base → Stands rules (seen rules base) t (seen rules v) → Stands rules (seen rules base) t z
  led-stands base base_core st = stands-leads rules chip_ok shared_ok law (seen rules base) (valid-core rules chip_ok shared_ok base base_core) t small (seen rules v) (tidy-core rules chip_ok shared_ok v core) (take n list) z led st

  pub led-few : (from : ℕ) → IsQuiet rules (machine_of rules v) from → n ≤ events_within rules (t - from)
  led-few from quiet =
      let done = work-leads rules chip_ok shared_ok law t small (seen rules v) (tidy-core rules chip_ok shared_ok v core) (take n list) z led in
      let most = work-within rules chip_ok shared_ok law t small (seen rules v) from quiet in
      let count = length-take n list in
      omega arith
