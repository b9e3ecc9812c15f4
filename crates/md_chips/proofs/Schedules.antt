-- Lists of enabled events of the five chips end as the run, in one go and segment after segment.
use Rattle.std.proofs.Common.{◌≡◌, ◌∙◌, ℕ, ◌+◌, ◌-◌, ◌<◌, ◌≤◌, false, refl, sym, ap, subst, arith, lit<, le_trans, List, [], ◌∷◌, ◌++◌, length}
use Rattle.md_word.specs.Clock.{cycle_limit, last_cycle}
use Rattle.md_word.specs.Keys.{key_lt}
use Rattle.md_word.specs.Region.{frame_cycles}
use Rattle.md_word.specs.declared.event.Entry.{Entry}
use Rattle.md_word.specs.declared.key.Key.{Key}
use Rattle.bus_shared.specs.Board.{Board, IsBoard}
use Rattle.chip_core.specs.declared.event.Event.{Event}
use Rattle.chip_core.specs.Cores.{bound_in, seen}
use Rattle.chip_core.specs.Events.{IsTidy, Leads, Seen, Stands}
use Rattle.chip_core.specs.Limits.{events_within, moves_left}
use Rattle.chip_core.specs.Machines as machines
use Rattle.chip_core.specs.Machines.{AllBelow, IsValid, Machine, key_of, made, run}
use Rattle.chip_core.specs.Standing.{StandsFor}
use Rattle.chip_core.proofs.Keeps.{stands-leads, tidy-leads}
use Rattle.m68k_chip.specs.States.{next_of}
use Rattle.z80_chip.specs.States.{next_of as sub_next_of}
use Rattle.md_chips.specs.Console as consoles
use Rattle.md_chips.specs.Console.{Console, IsRunTo, journal, key_in, media_after, ran}
use Rattle.md_chips.specs.Cores.{core_of}
use Rattle.md_chips.specs.Laws.{lawful}
use Rattle.md_chips.specs.Lists.{AreSegments, Between, EachEndsAsRun, EndsAsRun, GoesAsRun, IsSegment, ListsEndAsRun, Segment, begun, following, drained}
use Rattle.md_chips.specs.Machines.{kept_in}
use Rattle.md_chips.specs.Media.{joined, no_media}
use Rattle.md_chips.specs.Refinement.{console_of}
use Rattle.md_chips.specs.Rules.{IsChip, five}
use Rattle.md_chips.specs.ValidParts.{HasValidParts}
use Rattle.md_chips.specs.declared.chips.Chip.{Chip}
use Rattle.md_chips.proofs.Assembled.{key-itself}
use Rattle.md_chips.proofs.Emptied.{console-emptied, emptied-key, emptied-ok, kept-emptied}
use Rattle.md_chips.proofs.Joined.{run-joined}
use Rattle.md_chips.proofs.Lifts.{Movers}
use Rattle.md_chips.proofs.Lists.{run-goes-on}
use Rattle.md_chips.proofs.Moves.{five-each, key-same}
use Rattle.md_chips.proofs.Segments.{batches-few, core-run, fm_batches-few, segment-run}
use Rattle.md_chips.proofs.ValidParts.{Stages, console_again, machine_in, valid_in}

-- what the laws of the scheduler say
pub record CoreLaws : Type 0 where
  pub mover : Movers
  pub valid : Stages
  pub made : (m : Machine Chip Board) (t n i : ℕ) → t ≤ cycle_limit → IsValid five IsChip IsBoard m → AllBelow five m t n → i < five.count
      → made five m i n ≤ moves_left five t m i
  pub first : (base : Seen Chip Board) (t : ℕ) → t ≤ cycle_limit → IsValid five IsChip IsBoard base.machine
      → StandsFor five base.machine base.bound t base.machine base.bound [] (λ i. 0)
  pub ended : (base s : Seen Chip Board) (t : ℕ) → t ≤ cycle_limit → IsValid five IsChip IsBoard base.machine → IsTidy five IsChip IsBoard s
      → Stands five base t s → machines.IsQuiet five s.machine t → machines.IsRunTo five base.machine t s.machine s.journal
  pub few : (s z : Seen Chip Board) (t from : ℕ) (list : List Event) → t ≤ cycle_limit → IsTidy five IsChip IsBoard s
      → machines.IsQuiet five s.machine from → Leads five t s list z → length list ≤ events_within five (t - from)

-- a core at the beginning of a segment: it keeps nothing, and no event is below the cycle
record IsFresh (at : ℕ) (s : Seen Chip Board) : Type 0 where
  tidy : IsTidy five IsChip IsBoard s
  quiet : machines.IsQuiet five s.machine at
  journal : s.journal ≡ []
  media : kept_in s.machine ≡ no_media

small : (to : ℕ) → to ≤ last_cycle → to ≤ cycle_limit
small to far = omega (arith, far)

-- ---- a list of enabled events from such a core

module _ (laws : CoreLaws) (at : ℕ) (s : Seen Chip Board) (fresh : IsFresh at s) (to : ℕ) (far : to ≤ cycle_limit) (list : List Event) (z : Seen Chip Board) (leads : Leads five to s list z) where
  valid : IsValid five IsChip IsBoard s.machine
  valid = fresh.tidy.valid

  after-tidy : IsTidy five IsChip IsBoard z
  after-tidy = tidy-leads five IsChip IsBoard lawful to far s fresh.tidy list z leads

  stands : Stands five s to z
  stands =
      let opens : Stands five s to s = (λ i. 0, subst (λ (l : List Entry). StandsFor five s.machine s.bound to s.machine s.bound l (λ i. 0)) (sym fresh.journal) (laws.first s to far valid)) in
      stands-leads five IsChip IsBoard lawful s valid to far s fresh.tidy list z leads opens

  core-came : machines.IsQuiet five z.machine to → machines.IsRunTo five s.machine to z.machine z.journal
  core-came quiet = laws.ended s z to far valid after-tidy stands quiet

  stages : (n : ℕ) → AllBelow five s.machine to n → IsValid five IsChip IsBoard (run five s.machine n)
  stages n below = laws.valid s.machine to n far valid below

  ends : EndsAsRun (console_of s.machine) at to list z
  ends = record {
    few = laws.few s z to at list far fresh.tidy fresh.quiet leads;
    goes_on = run-goes-on z after-tidy to;
    there = λ quiet. (media_after (console_of s.machine) (core-came quiet).moves, core-run s.machine z.machine to z.journal (core-came quiet) stages laws.mover after-tidy.valid);
  }

  -- and over a segment
  segment-came : to ≤ at + frame_cycles (console_of s.machine).pal → machines.IsQuiet five z.machine to
      → IsRunTo (console_of s.machine) to (console_of z.machine) z.journal (kept_in z.machine)
  segment-came near quiet =
      segment-run s.machine z.machine at to z.journal (core-came quiet) stages laws.mover after-tidy.valid
      (λ n below. le_trans (laws.made s.machine to n 3 far valid below (lit< tt)) (fm_batches-few (console_of s.machine).pal s.machine at to near fresh.quiet))
      (λ n below. le_trans (laws.made s.machine to n 4 far valid below (lit< tt)) (batches-few (console_of s.machine).pal s.machine at to near fresh.quiet))
      fresh.media valid fresh.quiet near

-- ---- the core that is drained

key-drained : (z : Seen Chip Board) (i : ℕ) → key_of five (drained z).machine i ≡ key_of five z.machine i
key-drained z i = emptied-key (z.machine.chip i)

tidy-drained : (z : Seen Chip Board) → IsTidy five IsChip IsBoard z → IsTidy five IsChip IsBoard (drained z)
tidy-drained z tidy = record {
  valid = record {
    shared = tidy.valid.shared;
    chip = λ i below. emptied-ok (z.machine.chip i) (tidy.valid.chip i below);
    number = λ i below. ap (λ (k : Key). k.chip) (key-drained z i) ∙ tidy.valid.number i below;
  };
  bound_number = tidy.bound_number;
  under = λ i below. ap (λ (k : Key). key_lt k (z.bound i)) (key-drained z i) ∙ tidy.under i below;
}

fresh-drained : (at : ℕ) (z : Seen Chip Board) → IsTidy five IsChip IsBoard z → machines.IsQuiet five z.machine at → IsFresh at (drained z)
fresh-drained at z tidy quiet = record {
  tidy = tidy-drained z tidy;
  quiet = λ i below. subst (λ (k : Key). at ≤ k.cycle) (sym (key-drained z i)) (quiet i below);
  journal = refl;
  media = kept-emptied z.machine;
}

-- ---- segment after segment

each-from : CoreLaws → (at : ℕ) (s : Seen Chip Board) → IsFresh at s → EachEndsAsRun (console_of s.machine) at s
each-from laws at s fresh = λ to list z far leads. ends laws at s fresh to (small to far) list z leads

segment-on : CoreLaws → (start : Console) (before : Between) (segment : Segment) → IsFresh before.at before.core → IsSegment before segment
    → IsRunTo start before.at (console_of before.core.machine) before.entries before.media
    → IsRunTo start segment.to (console_of (drained segment.core).machine) (before.entries ++ segment.core.journal) (joined before.media (kept_in segment.core.machine))
segment-on laws start before segment fresh is made =
    let far : segment.to ≤ cycle_limit = small segment.to is.far in
    let own : IsRunTo (console_of before.core.machine) segment.to (console_of segment.core.machine) segment.core.journal (kept_in segment.core.machine) =
    segment-came laws before.at before.core fresh segment.to far segment.events segment.core is.leads is.near is.ended in
    subst (λ (m : Console). IsRunTo start segment.to m (before.entries ++ segment.core.journal) (joined before.media (kept_in segment.core.machine)))
    (sym (console-emptied segment.core.machine))
    (run-joined start (console_of before.core.machine) (console_of segment.core.machine) before.at segment.to before.entries segment.core.journal before.media (kept_in segment.core.machine) is.later made own)

fresh-on : CoreLaws → (before : Between) (segment : Segment) → IsFresh before.at before.core → IsSegment before segment → IsFresh segment.to (drained segment.core)
fresh-on laws before segment fresh is =
    fresh-drained segment.to segment.core
    (after-tidy laws before.at before.core fresh segment.to (small segment.to is.far) segment.events segment.core is.leads) is.ended

segments-go : CoreLaws → (start : Console) (before there : Between) (list : List Segment) → IsFresh before.at before.core
    → IsRunTo start before.at (console_of before.core.machine) before.entries before.media → AreSegments before list there → GoesAsRun start there
segments-go laws start before there [] fresh made is =
    subst (λ (b : Between). GoesAsRun start b) (sym is) (record { made = made; each = each-from laws before.at before.core fresh })
segments-go laws start before there (segment ∷ later) fresh made are =
    segments-go laws start (following before segment) there later (fresh-on laws before segment fresh are.0) (segment-on laws start before segment fresh are.0 made) are.1

-- ---- the core of a machine

tidy-core : (m : Console) → HasValidParts m → IsTidy five IsChip IsBoard (seen five (core_of m))
unfolding next_of sub_next_of
tidy-core m has =
    let key : ℕ → Key = key_of five (machine_in m) in
    let bound : ℕ → Key = bound_in (core_of m).bounds in
    record {
      valid = valid_in m has;
      bound_number = five-each (λ i. (bound i).chip ≡ i) refl refl refl refl refl;
      under = five-each (λ i. key_lt (key i) (bound i) ≡ false) (key-itself (key 0)) (key-itself (key 1)) (key-itself (key 2)) (key-itself (key 3)) (key-itself (key 4));
    }

fresh-core : (at : ℕ) (m : Console) → HasValidParts m → consoles.IsQuiet at m → IsFresh at (seen five (core_of m))
fresh-core at m has quiet = record {
  tidy = tidy-core m has;
  quiet = λ i below.
      subst (λ (k : Key). at ≤ k.cycle) (sym (key-same (machine_in m) (valid_in m has) i below ∙ ap (λ (z : Console). key_in z i) (console_again m))) (quiet i below);
  journal = refl;
  media = refl;
}

nothing-made : (at : ℕ) (m : Console) → consoles.IsQuiet at m → IsRunTo m at m [] no_media
unfolding ran journal media_after
nothing-made at m quiet = record { moves = 0; below = λ k below. absurd (omega arith); quiet = quiet; console = refl; entered = refl; rendered_to = refl }

pub lists-end : CoreLaws → (at : ℕ) (m : Console) → HasValidParts m → consoles.IsQuiet at m → ListsEndAsRun at m
lists-end laws at m has quiet =
    let fresh : IsFresh at (seen five (core_of m)) = fresh-core at m has quiet in
    record {
      each = subst (λ (z : Console). EachEndsAsRun z at (seen five (core_of m))) (console_again m) (each-from laws at (seen five (core_of m)) fresh);
      segments = λ list there are.
          segments-go laws m (begun at m) there list fresh
          (subst (λ (z : Console). IsRunTo m at z [] no_media) (sym (console_again m)) (nothing-made at m quiet)) are;
    }
