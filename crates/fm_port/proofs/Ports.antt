-- A port where writes come and go.
use Rattle.std.proofs.Common.{◌≡◌, ◌∙◌, ap, subst, sym, ◌+◌, ◌<◌, ◌≤◌, ℕ, Bool, not, List, length, lit≤, arith}
use Rattle.std.specs.Prelude.{All}
use Rattle.std.proofs.Math.Bridge.{le_prop}
use Rattle.std.proofs.lemmas.List.Elements.{All-filter}
use Rattle.md_word.specs.declared.key.Key.{Key}
use Rattle.sound_writes.specs.Order.{is_below}
use Rattle.sound_writes.proofs.Helds.{length-filter-most, length-held_with, All-held_with}
use Rattle.sound_writes.proofs.Orders.{IsInOrder-high, IsInOrder-held_with, IsInOrder-taken_below, IsInOrder-left_from}
use Rattle.fm_port.specs.declared.write.FmWrite.{FmWrite}
use Rattle.fm_port.specs.declared.timers.Timers.{Timers}
use Rattle.fm_port.specs.Stamp.{stamp_of}
use Rattle.fm_port.specs.Timers.{IsTimers, timed}
use Rattle.fm_port.specs.Port.{Port, IsPort, IsInOrder, first_write, second_write, reset_write, held_with, taken_below, left_from, written, reset, at_power_on}

-- a write is given by its parts, whatever shows that its port is in range
pub first_is : (key : Key) (register value : ℕ) (p : 0 ≤ 2)
    → record { key = key; port = 0; register = register; value = value; port_in_range = p } ≡ first_write key register value
first_is key register value p = λ i. record { key = key; port = 0; register = register; value = value; port_in_range = le_prop p (lit≤ tt) i }

pub second_is : (key : Key) (register value : ℕ) (p : 1 ≤ 2)
    → record { key = key; port = 1; register = register; value = value; port_in_range = p } ≡ second_write key register value
second_is key register value p = λ i. record { key = key; port = 1; register = register; value = value; port_in_range = le_prop p (lit≤ tt) i }

pub reset_is : (key : Key) (p : 2 ≤ 2) → record { key = key; port = 2; register = 0; value = 0; port_in_range = p } ≡ reset_write key
reset_is key p = λ i. record { key = key; port = 2; register = 0; value = 0; port_in_range = le_prop p (lit≤ tt) i }

-- ---- a port after a write and a reset

pub written-first : (key : Key) (value : ℕ) (p : Port) (t : Timers) (ws : List FmWrite) (w : FmWrite) → t ≡ timed key.cycle p.first value p.timers
    → ws ≡ held_with p.writes w → w ≡ first_write key p.first value
    → record { first = p.first; second = p.second; timers = t; writes = ws } ≡ written key 1 value p
unfolding written
written-first key value p t ws w e f g =
    λ i. record { first = p.first; second = p.second; timers = e i; writes = (f ∙ ap (held_with p.writes) g) i }

pub written-second : (key : Key) (value : ℕ) (p : Port) (ws : List FmWrite) (w : FmWrite) → ws ≡ held_with p.writes w
    → w ≡ second_write key p.second value
    → record { first = p.first; second = p.second; timers = p.timers; writes = ws } ≡ written key 3 value p
unfolding written
written-second key value p ws w f g =
    λ i. record { first = p.first; second = p.second; timers = p.timers; writes = (f ∙ ap (held_with p.writes) g) i }

pub reset-held : (key : Key) (p : Port) (t : Timers) (ws : List FmWrite) (w : FmWrite) → t ≡ at_power_on.timers → ws ≡ held_with p.writes w
    → w ≡ reset_write key
    → record { first = 0; second = 0; timers = t; writes = ws } ≡ reset key p
unfolding reset
reset-held key p t ws w e f g = λ i. record { first = 0; second = 0; timers = e i; writes = (f ∙ ap (held_with p.writes) g) i }

pub IsPort-held : (first second : ℕ) (t : Timers) (p : Port) (w : FmWrite) (ws : List FmWrite) → IsPort p → IsTimers t → w.key.chip < 2
    → ws ≡ held_with p.writes w → IsPort (record { first = first; second = second; timers = t; writes = ws })
IsPort-held first second t p w ws port timers chip e =
    let most : length (held_with p.writes w) ≤ 1024 = length-held_with p.writes w port.most in
    let chips : All (λ (v : FmWrite). v.key.chip < 2) (held_with p.writes w) = All-held_with (λ v. v.key.chip < 2) p.writes w port.chips chip in
    record {
      timers = timers;
      most = subst (λ (xs : List FmWrite). length xs ≤ 1024) (sym e) most;
      chips = subst (λ (xs : List FmWrite). All (λ (v : FmWrite). v.key.chip < 2) xs) (sym e) chips;
    }

pub IsPort-left : (p : Port) (cycle : ℕ) → IsPort p → IsPort (record p { writes = left_from cycle p.writes })
IsPort-left p cycle port =
    let q : FmWrite → Bool = λ w. not (is_below stamp_of cycle w) in
    record {
      timers = port.timers;
      most = length-filter-most q 1024 p.writes port.most;
      chips = All-filter q (λ w. w.key.chip < 2) p.writes port.chips;
    }

-- ---- the order of what is held, handed on and left

pub IsInOrder-same : (low high : ℕ) (old : Port) (p : Port) → p ≡ old → IsInOrder low high old.writes → IsInOrder low high p.writes
IsInOrder-same low high old p e o = subst (λ (q : Port). IsInOrder low high q.writes) (sym e) o

pub IsInOrder-unwritten : (low high : ℕ) (key : Key) (old p : Port) → p ≡ old → IsInOrder low (key.cycle + 1) old.writes → key.cycle < high
    → IsInOrder low high p.writes
IsInOrder-unwritten low high key old p e o h =
    IsInOrder-high stamp_of low (key.cycle + 1) high p.writes (omega (arith, h)) (IsInOrder-same low (key.cycle + 1) old p e o)

pub IsInOrder-held : (low high : ℕ) (old p : Port) (w : FmWrite) (ws : List FmWrite) → p ≡ old → ws ≡ held_with p.writes w
    → IsInOrder low (w.key.cycle + 1) old.writes → low ≤ w.key.cycle → w.key.cycle < high → IsInOrder low high ws
IsInOrder-held low high old p w ws e f o l h =
    subst (IsInOrder low high) (sym f) (IsInOrder-held_with stamp_of low high p.writes w (IsInOrder-same low (w.key.cycle + 1) old p e o) l h)

pub IsInOrder-taken : (low high cycle : ℕ) (old p : Port) (ws : List FmWrite) → p ≡ old → ws ≡ taken_below cycle p.writes
    → IsInOrder low high old.writes → IsInOrder low cycle ws
IsInOrder-taken low high cycle old p ws e f o =
    subst (IsInOrder low cycle) (sym f) (IsInOrder-taken_below stamp_of cycle low high p.writes (IsInOrder-same low high old p e o))

pub IsInOrder-left : (low high cycle : ℕ) (old p : Port) (ws : List FmWrite) → p ≡ old → ws ≡ left_from cycle p.writes
    → IsInOrder low high old.writes → IsInOrder cycle high ws
IsInOrder-left low high cycle old p ws e f o =
    subst (IsInOrder cycle high) (sym f) (IsInOrder-left_from stamp_of cycle low high p.writes (IsInOrder-same low high old p e o))
