-- The run that the machine made is the one of the definition, which continues from cycle to cycle.
use Rattle.std.proofs.Common.{◌≡◌, ℕ, ◌+◌, ◌-◌, ◌<◌, ◌≤◌, ◌⊎◌, inl, inr, true, false, List, ◌++◌, refl, sym, ap, ◌∙◌, subst, arith}
use Rattle.std.proofs.lemmas.Bool.{le-leb, lt-leb, leb-false, leb-true}
use Rattle.md_word.specs.Clock.{cycle_limit}
use Rattle.md_word.specs.declared.event.Entry.{Entry}
use Rattle.md_chips.specs.Console.{AllBelow, Console, IsRunTo, journal, key_in, mover, ran, media_after}
use Rattle.md_chips.specs.Media.{Media, joined}
use Rattle.md_chips.specs.Movers.{mover-lt}
use Rattle.md_chips.specs.Starts.{Start}
use Rattle.run_command.specs.Runs.{RunLaws, entries_from, is_quiet, media_from, moves_from, run_from}
use Rattle.run_command.proofs.Least.{least-below, least-found, least-is, least-le}

pub moves-found : (start : Start) (end : ℕ) {after : Console} {entries : List Entry} {sound : Media} → RunLaws start → end ≤ cycle_limit
    → (run : IsRunTo start.console end after entries sound) → moves_from start end ≡ run.moves
unfolding moves_from
moves-found start end {after} laws small run =
    let quiet : is_quiet end after ≡ true = le-leb end (key_in after (mover after)).cycle (run.quiet (mover after) (mover-lt after)) in
    least-is (λ n. is_quiet end (ran start.console n)) (end - start.at + 5) run.moves (laws.few_events end run.moves small run.below)
    (subst (λ (machine : Console). is_quiet end machine ≡ true) run.console quiet)
    (λ k below. lt-leb end (key_in (ran start.console k) (mover (ran start.console k))).cycle (run.below k below))

-- the machine, the entries, the frames and the samples are the definition's
pub record Found (start : Start) (end : ℕ) (after : Console) (entries : List Entry) (sound : Media) : Type 0 where
  pub console : after ≡ run_from start end
  pub entered : entries ≡ entries_from start end
  pub rendered_to : sound ≡ media_from start end

pub run-found : (start : Start) (end : ℕ) {after : Console} {entries : List Entry} {sound : Media} → RunLaws start → end ≤ cycle_limit
    → IsRunTo start.console end after entries sound → Found start end after entries sound
unfolding entries_from media_from
run-found start end laws small run =
    let moves : run.moves ≡ moves_from start end = sym (moves-found start end laws small run) in
    record {
      console = run.console ∙ ap (ran start.console) moves;
      entered = run.entered ∙ ap (journal start.console) moves;
      rendered_to = run.rendered_to ∙ ap (media_after start.console) moves;
    }

-- the run of the definition leaves no event below its end
all_early : (start : Start) (end : ℕ) → ((k : ℕ) → k ≤ end - start.at + 5 → is_quiet end (ran start.console k) ≡ false) → AllBelow start.console end (end - start.at + 6)
all_early start end none k below = leb-false end (key_in (ran start.console k) (mover (ran start.console k))).cycle (none k (omega arith))

complete_from : (start : Start) (end : ℕ) → RunLaws start → end ≤ cycle_limit
    → (is_quiet end (ran start.console (moves_from start end)) ≡ true) ⊎ ((k : ℕ) → k ≤ end - start.at + 5 → is_quiet end (ran start.console k) ≡ false)
    → is_quiet end (ran start.console (moves_from start end)) ≡ true
complete_from start end laws small (inl quiet) = quiet
complete_from start end laws small (inr none) = absurd (omega (arith, laws.few_events end (end - start.at + 6) small (all_early start end none)))

pub run-complete : (start : Start) (end : ℕ) → RunLaws start → end ≤ cycle_limit → is_quiet end (run_from start end) ≡ true
unfolding moves_from
run-complete start end laws small = complete_from start end laws small (least-found (λ n. is_quiet end (ran start.console n)) (end - start.at + 5))

-- and is a run to it
pub run-made : (start : Start) (end : ℕ) → RunLaws start → end ≤ cycle_limit
    → IsRunTo start.console end (run_from start end) (entries_from start end) (media_from start end)
unfolding entries_from media_from moves_from
run-made start end laws small =
    let quiet : is_quiet end (run_from start end) ≡ true = run-complete start end laws small in
    let late : end ≤ (key_in (run_from start end) (mover (run_from start end))).cycle = leb-true end (key_in (run_from start end) (mover (run_from start end))).cycle quiet in
    record {
      moves = moves_from start end;
      below = λ k below. leb-false end (key_in (ran start.console k) (mover (ran start.console k))).cycle
          (least-below (λ n. is_quiet end (ran start.console n)) (end - start.at + 5) k below);
      quiet = λ i below. omega (arith, late, laws.mover_first (run_from start end) i below);
      console = refl;
      entered = refl;
      rendered_to = refl;
    }

-- a run to a later cycle has no fewer moves
pub moves-later : (start : Start) (s t : ℕ) → RunLaws start → t ≤ cycle_limit → s ≤ t → moves_from start s ≤ moves_from start t
unfolding moves_from
moves-later start s t laws small within =
    let late : t ≤ (key_in (run_from start t) (mover (run_from start t))).cycle =
    leb-true t (key_in (run_from start t) (mover (run_from start t))).cycle (run-complete start t laws small) in
    least-le (λ n. is_quiet s (ran start.console n)) (s - start.at + 5) (moves_from start t)
    (le-leb s (key_in (run_from start t) (mover (run_from start t))).cycle (omega (arith, within, late)))

-- what a run to a later cycle has more
pub record Later (start : Start) (s t : ℕ) : Type 0 where
  pub entries : List Entry
  pub output : Media
  pub more_entries : entries_from start t ≡ entries_from start s ++ entries
  pub more_media : media_from start t ≡ joined (media_from start s) output
  pub run : IsRunTo (run_from start s) t (run_from start t) entries output

pub later_run : (start : Start) (s t : ℕ) → RunLaws start → t ≤ cycle_limit → s ≤ t → Later start s t
unfolding entries_from media_from
later_run start s t laws small within =
    let on : moves_from start s ≤ moves_from start t = moves-later start s t laws small within in
    let whole : IsRunTo start.console t (run_from start t) (entries_from start t) (media_from start t) = run-made start t laws small in
    let count : moves_from start t ≡ whole.moves = moves-found start t laws small whole in
    let between : moves_from start t ≡ moves_from start s + (moves_from start t - moves_from start s) = omega (arith, on) in
    record {
      entries = journal (run_from start s) (moves_from start t - moves_from start s);
      output = media_after (run_from start s) (moves_from start t - moves_from start s);
      more_entries = ap (journal start.console) between ∙ laws.entries_added (moves_from start s) (moves_from start t - moves_from start s);
      more_media = ap (media_after start.console) between ∙ laws.output_added (moves_from start s) (moves_from start t - moves_from start s);
      run = record {
        moves = moves_from start t - moves_from start s;
        below = λ k less. subst (λ (m : Console). (key_in m (mover m)).cycle < t) (laws.moves_added (moves_from start s) k)
            (whole.below (moves_from start s + k) (omega (arith, count, between, less)));
        quiet = whole.quiet;
        console = ap (ran start.console) between ∙ laws.moves_added (moves_from start s) (moves_from start t - moves_from start s);
        entered = refl;
        rendered_to = refl;
      };
    }
