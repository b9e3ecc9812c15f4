-- A run that came to its end ends well.
use Rattle.std.proofs.Common.{◌≡◌, ℕ, ◌≤◌, Bool, List, ◌++◌, refl, sym, ap, subst, ◌∙◌, arith}
use Rattle.md_word.specs.Clock.{cycle_limit}
use Rattle.md_word.specs.declared.event.Entry.{Entry}
use Rattle.md_chips.specs.Lists.{ListsEndAsRun}
use Rattle.md_chips.specs.Console.{Console, IsRunTo}
use Rattle.md_chips.specs.Machines.{MachineValue}
use Rattle.md_chips.specs.Media.{Media, joined}
use Rattle.md_machine.specs.Outputs.{frames_bytes, journal_bytes, sound_bytes}
use Rattle.md_chips.specs.Starts.{IsStart, Start}
use Rattle.md_chips.proofs.Kept.{cart-stays}
use Rattle.md_chips.proofs.Regions.{run_stays}
use Rattle.machine_laws.specs.Reached.{IsReached}
use Rattle.machine_laws.specs.Settling.{GoesOn}
use Rattle.save_state.specs.Ready.{IsReady}
use Rattle.save_state.specs.Versions.{IsState}
use Rattle.save_state.specs.States.{kept_bytes, settled_console, state_bytes}
use Rattle.run_command.specs.Courses.{CameTo}
use Rattle.run_command.specs.Counts.{frames_between}
use Rattle.run_command.specs.Limits.{IsEnd}
use Rattle.run_command.specs.Resuming.{GoesOnFrom, IsKept, RunsWell, StateLaws, saved_start}
use Rattle.run_command.specs.Runs.{RunLaws, entries_from, frames_to, halted_from, journal_to, media_from, moves_from, run_from, state_to}
use Rattle.run_command.proofs.Counts.{frames-left, pairs-counted}
use Rattle.run_command.proofs.LeastRuns.{Found, Later, later_run, run-found, run-made}
use Rattle.run_command.proofs.Segments.{frames_bytes-append, journal_bytes-append, paired, sound_bytes-append}

-- the bytes of the rest stand after those of the first part
rest-frames : (start : Start) (at end : ℕ) (output : Media) → RunLaws start → at ≤ cycle_limit → media_from start end ≡ joined (media_from start at) output
    → frames_to start end ≡ frames_to start at ++ frames_bytes (saved_start start at).console.pal output.frames
unfolding frames_to
rest-frames start at end output laws small more =
    let region : (run_from start at).pal ≡ start.console.pal =
    (run_stays start.console (run_from start at) at (entries_from start at) (media_from start at) (run-made start at laws small)).pal in
    ap (λ (m : Media). frames_bytes start.console.pal m.frames) more
    ∙ frames_bytes-append start.console.pal (media_from start at).frames output.frames
    ∙ ap (λ (pal : Bool). frames_bytes start.console.pal (media_from start at).frames ++ frames_bytes pal output.frames) (sym region)

rest-sound : (start : Start) (at end : ℕ) (output : Media) → IsStart start → RunLaws start → at ≤ cycle_limit → media_from start end ≡ joined (media_from start at) output
    → sound_bytes (media_from start end) ≡ sound_bytes (media_from start at) ++ sound_bytes output
rest-sound start at end output is laws small more =
    ap sound_bytes more ∙ sound_bytes-append (media_from start at) output (paired start at is laws small)

rest-journal : (start : Start) (at end : ℕ) (later : List Entry) → entries_from start end ≡ entries_from start at ++ later
    → journal_to start end ≡ journal_to start at ++ journal_bytes later
unfolding journal_to
rest-journal start at end later more = ap journal_bytes more ∙ journal_bytes-append (entries_from start at) later

-- the saved state continues as the run does
rest-goes-on : (start : Start) (at : ℕ) → IsStart start → RunLaws start → StateLaws → IsReached at (run_from start at) → GoesOnFrom start at
unfolding state_to
rest-goes-on start at is laws states reached = λ end after entries output within near run.
    let more : Later start at end = later_run start at end laws (omega (arith, near)) within in
    let on : GoesOn end (settled_console at (run_from start at)) (run_from start end) more.entries more.output =
    states.goes_on (run_from start at) (run_from start end) at end more.entries more.output reached.parts reached.start.quiet within (omega (arith, near)) more.run in
    let one : (on.after ≡ after) × (more.entries ≡ entries) × (more.output ≡ output) =
    states.one_run (settled_console at (run_from start at)) on.after after end more.entries entries more.output output on.run run in
    let made : entries_from start end ≡ entries_from start at ++ entries = more.more_entries ∙ ap (λ (l : List Entry). entries_from start at ++ l) one.1 in
    let rendered : media_from start end ≡ joined (media_from start at) output = more.more_media ∙ ap (joined (media_from start at)) one.2 in
    record {
      entries = made;
      media = rendered;
      frames = rest-frames start at end output laws (omega (arith, within, near)) rendered;
      sound = rest-sound start at end output is laws (omega (arith, within, near)) rendered;
      journal = rest-journal start at end entries made;
      state = sym (ap (kept_bytes end) on.same) ∙ ap (state_bytes end) one.0;
    }

-- what was saved is a state of the run
kept : (start : Start) (at : ℕ) (m : Console) → m ≡ run_from start at → IsState m.cart (state_bytes at m) (record { at = at; console = settled_console at m }) → IsKept start at
unfolding state_to
kept start at m same is =
    subst (λ (cart : List ℕ). IsState cart (state_bytes at (run_from start at)) (record { at = at; console = settled_console at (run_from start at) }))
    (cart-stays start.console (moves_from start at))
    (subst (λ (z : Console). IsState z.cart (state_bytes at z) (record { at = at; console = settled_console at z })) same is)

-- at the cycle to which it came
ends-here : (start : Start) (machine : MachineValue) (accesses finished : ℕ) → CameTo start machine accesses → finished ≡ frames_between start.console.pal start.at machine.at → StateLaws → ListsEndAsRun start.at start.console → IsEnd machine.at
    → (IsReady machine.at machine.console → IsState machine.console.cart (state_bytes machine.at machine.console) (record { at = machine.at; console = settled_console machine.at machine.console }))
    → RunsWell start machine.at start.at finished accesses machine.console.main.halted
unfolding halted_from
ends-here start machine accesses finished came observable states lists end saved =
    let small : machine.at ≤ cycle_limit = omega (arith, end.1) in
    let made : IsRunTo start.console machine.at (run_from start machine.at) (entries_from start machine.at) (media_from start machine.at) = run-made start machine.at came.laws small in
    let found : Found start machine.at machine.console (entries_from start machine.at) (media_from start machine.at) = run-found start machine.at came.laws small came.run in
    let reached : IsReached machine.at machine.console =
    states.reach start.console machine.console start.at machine.at (entries_from start machine.at) (media_from start machine.at) came.reached came.later small came.run in
    record {
      least = made;
      lists = lists;
      from = refl;
      frames = observable ∙ sym (came.laws.frames_counted (run_from start machine.at) machine.at (entries_from start machine.at) (media_from start machine.at) came.from made ∙ frames-left start.console.pal start.at machine.at);
      samples = sym (came.laws.levels_counted (run_from start machine.at) machine.at (entries_from start machine.at) (media_from start machine.at) came.from made ∙ pairs-counted start.at machine.at);
      accesses = came.counted;
      halted = ap (λ (m : Console). m.main.halted) found.console;
      heard = λ inputs same. came.heard inputs machine.console machine.at (entries_from start machine.at) (media_from start machine.at) same small came.run;
      kept = kept start machine.at machine.console found.console (saved (states.ready machine.at machine.console end.0 end.1 reached));
      rest = rest-goes-on start machine.at came.from came.laws states (subst (IsReached machine.at) found.console reached);
    }

pub ends-well : (start : Start) (end : ℕ) (machine : MachineValue) (accesses finished : ℕ) → machine.at ≡ end → CameTo start machine accesses → finished ≡ frames_between start.console.pal start.at end → StateLaws → ListsEndAsRun start.at start.console → IsEnd end
    → (IsReady machine.at machine.console → IsState machine.console.cart (state_bytes machine.at machine.console) (record { at = machine.at; console = settled_console machine.at machine.console }))
    → RunsWell start end start.at finished accesses machine.console.main.halted
ends-well start end machine accesses finished at came observable states lists ends saved =
    subst (λ (n : ℕ). RunsWell start n start.at finished accesses machine.console.main.halted) at
    (ends-here start machine accesses finished came (observable ∙ ap (frames_between start.console.pal start.at) (sym at)) states lists (subst IsEnd (sym at) ends) saved)
