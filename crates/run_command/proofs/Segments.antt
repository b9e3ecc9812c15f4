-- A segment after a run is a run, and what its outputs hold.
use Rattle.std.proofs.Common.{◌≡◌, ℕ, Bool, true, false, zero, suc, ◌+◌, ◌-◌, ◌*◌, ◌≤◌, List, [], ◌∷◌, ◌++◌, length, refl, sym, ap, ◌∙◌, subst, append_assoc, append-nil, arith}
use Rattle.std.specs.Prelude.{ℤ}
use Rattle.std.proofs.lemmas.Grind.{flat_map-append}
use Rattle.md_outer.specs.Outside.{IsPrefix}
use Rattle.md_files.specs.Journal.{entry_bytes}
use Rattle.md_files.specs.Wav.{wav_head}
use Rattle.md_word.specs.Clock.{cycle_limit}
use Rattle.md_word.specs.declared.event.Entry.{Entry}
use Rattle.md_chips.specs.Console.{AllBelow, Console, IsRunTo, journal, mover, ran, media_after}
use Rattle.md_chips.specs.Machines.{MachineValue}
use Rattle.md_machine.specs.Outputs.{frame_bytes, frame_length, frames_bytes, journal_bytes, mixed_bytes, sample_bytes, sound_bytes}
use Rattle.md_chips.specs.Media.{Media, joined, no_media}
use Rattle.md_chips.specs.Movers.{mover-lt}
use Rattle.md_chips.specs.Starts.{IsStart, Start, batches_below}
use Rattle.machine_laws.specs.Reached.{IsReached}
use Rattle.save_state.specs.States.{state_bytes}
use Rattle.run_command.specs.Courses.{CameTo}
use Rattle.run_command.specs.Heard.{HearsRuns}
use Rattle.run_command.specs.Counts.{pairs_between}
use Rattle.run_command.specs.Limits.{IsEnd}
use Rattle.run_command.specs.Outputs.{Pieces, lengthened, nothing}
use Rattle.run_command.specs.Runs.{RunLaws, entries_from, frames_to, journal_to, media_from, moves_from, pieces_of, pieces_until, run_from, sound_until, state_to}
use Rattle.run_command.proofs.Writes.{ArePrefixes}
use Rattle.run_command.proofs.LeastRuns.{Found, Later, later_run, moves-found, run-found, run-made}

-- where a level has its sums, the pairs of samples stand one after the other
mixed-append : (levels later : List ℤ) (sides later_sides : List (ℤ × ℤ)) → length sides ≡ length levels
    → mixed_bytes (levels ++ later) (sides ++ later_sides) ≡ mixed_bytes levels sides ++ mixed_bytes later later_sides
mixed-append [] later [] later_sides paired = refl
mixed-append [] later (sums ∷ sides) later_sides paired = absurd (omega (arith, paired))
mixed-append (level ∷ levels) later [] later_sides paired = absurd (omega (arith, paired))
mixed-append (level ∷ levels) later (sums ∷ sides) later_sides paired =
    ap (λ l. sample_bytes sums level ++ l) (mixed-append levels later sides later_sides (omega (arith, paired)))
    ∙ sym (append_assoc (sample_bytes sums level) (mixed_bytes levels sides) (mixed_bytes later later_sides))

pub sound_bytes-append : (first second : Media) → length first.sides ≡ length first.levels → sound_bytes (joined first second) ≡ sound_bytes first ++ sound_bytes second
unfolding sound_bytes
sound_bytes-append first second paired = mixed-append first.levels second.levels first.sides second.sides paired

-- the frames one after the other
pub frames_bytes-append : (pal : Bool) (first second : List (List ℕ)) → frames_bytes pal (first ++ second) ≡ frames_bytes pal first ++ frames_bytes pal second
unfolding frames_bytes
frames_bytes-append pal first second = flat_map-append (frame_bytes pal) first second

-- a frame of a segment, if there is one, has room
pub frame-room : (old new : Bool) (frames room : ℕ) → new ≡ old → frames ≤ 1 → frame_length old ≤ room → frame_length new * frames ≤ room
frame-room old new frames room same few fit = subst (λ (b : Bool). frame_length b * frames ≤ room) (sym same) (within old fit)
  where
    within : (b : Bool) → frame_length b ≤ room → frame_length b * frames ≤ room
    within false enough = omega (arith, few, enough)
    within true enough = omega (arith, few, enough)

-- the bytes of records one after the other
pub journal_bytes-append : (first second : List Entry) → journal_bytes (first ++ second) ≡ journal_bytes first ++ journal_bytes second
unfolding journal_bytes
journal_bytes-append first second = flat_map-append entry_bytes first second

-- the machine after a segment
pub record Segment (start : Start) (at to : ℕ) (after : MachineValue) : Type 0 where
  pub run : IsRunTo start.console to after.console (entries_from start to) (media_from start to)
  pub entries : entries_from start to ≡ entries_from start at ++ after.entries
  pub output : media_from start to ≡ joined (media_from start at) after.media

pub segment_made : (start : Start) (at to : ℕ) (before : Console) (after : MachineValue) → RunLaws start → to ≤ cycle_limit → at ≤ to
    → IsRunTo start.console at before (entries_from start at) (media_from start at) → IsRunTo before to after.console after.entries after.media
    → Segment start at to after
segment_made start at to before after laws small within first second =
    let whole : IsRunTo start.console to after.console (entries_from start at ++ after.entries) (joined (media_from start at) after.media) =
    laws.runs_joined before after.console at to (entries_from start at) after.entries (media_from start at) after.media within first second in
    let found : Found start to after.console (entries_from start at ++ after.entries) (joined (media_from start at) after.media) = run-found start to laws small whole in
    record {
      run = subst (λ (l : Media). IsRunTo start.console to after.console (entries_from start to) l) found.rendered_to
          (subst (λ (l : List Entry). IsRunTo start.console to after.console l (joined (media_from start at) after.media)) found.entered whole);
      entries = sym found.entered;
      output = sym found.rendered_to;
    }

-- a run has no more entries than cycles and chips
pub entries-fit : (start : Start) (at : ℕ) (after : Console) → RunLaws start → at ≤ cycle_limit → IsRunTo start.console at after (entries_from start at) (media_from start at)
    → length (entries_from start at) ≤ at - start.at + 5
entries-fit start at after laws small run =
    omega (arith, ap length run.entered, laws.few_entries run.moves, laws.few_events at run.moves small run.below)

-- at the start nothing was made
no-moves : (start : Start) → IsStart start → RunLaws start → start.at ≤ cycle_limit → moves_from start start.at ≡ 0
unfolding ran
no-moves start is laws small =
    let run : IsRunTo start.console start.at (run_from start start.at) (entries_from start start.at) (media_from start start.at) = run-made start start.at laws small in
    moves-found start start.at laws small run ∙ none run.moves run.below
  where
    none : (n : ℕ) → AllBelow start.console start.at n → n ≡ 0
    none zero below = refl
    none (suc n) below = absurd (omega (arith, below 0 (omega arith), is.quiet (mover start.console) (mover-lt start.console)))

pub no-entries : (start : Start) → IsStart start → RunLaws start → start.at ≤ cycle_limit → entries_from start start.at ≡ []
unfolding entries_from journal
no-entries start is laws small = ap (journal start.console) (no-moves start is laws small)

pub no-media : (start : Start) → IsStart start → RunLaws start → start.at ≤ cycle_limit → media_from start start.at ≡ no_media
unfolding media_from media_after
no-media start is laws small = ap (media_after start.console) (no-moves start is laws small)

-- each level has its sums
pub paired : (start : Start) (at : ℕ) → IsStart start → RunLaws start → at ≤ cycle_limit → length (media_from start at).sides ≡ length (media_from start at).levels
paired start at is laws small =
    let run : IsRunTo start.console at (run_from start at) (entries_from start at) (media_from start at) = run-made start at laws small in
    laws.sides_counted (run_from start at) at (entries_from start at) (media_from start at) is run
    ∙ sym (laws.levels_counted (run_from start at) at (entries_from start at) (media_from start at) is run)

-- what the outputs hold at a cycle is a prefix of what they hold later
sound-grows : (start : Start) (end s t : ℕ) → IsStart start → RunLaws start → t ≤ cycle_limit → s ≤ t → IsPrefix (sound_until start end s) (sound_until start end t)
unfolding sound_until
sound-grows start end s t is laws small within =
    let more : Later start s t = later_run start s t laws small within in (
      sound_bytes more.output,
      append_assoc (wav_head (length (media_from start end).levels) start.console.pal) (sound_bytes (media_from start s)) (sound_bytes more.output)
          ∙ ap (λ (l : List ℕ). wav_head (length (media_from start end).levels) start.console.pal ++ l) (sym (sound_bytes-append (media_from start s) more.output (paired start s is laws (omega (arith, small, within)))) ∙ ap sound_bytes (sym more.more_media)),
    )

frames-grow : (start : Start) (s t : ℕ) → RunLaws start → t ≤ cycle_limit → s ≤ t → IsPrefix (frames_to start s) (frames_to start t)
unfolding frames_to
frames-grow start s t laws small within =
    let more : Later start s t = later_run start s t laws small within in
    (frames_bytes start.console.pal more.output.frames, sym (frames_bytes-append start.console.pal (media_from start s).frames more.output.frames) ∙ ap (λ (m : Media). frames_bytes start.console.pal m.frames) (sym more.more_media))

journal-grows : (start : Start) (s t : ℕ) → RunLaws start → t ≤ cycle_limit → s ≤ t → IsPrefix (journal_to start s) (journal_to start t)
unfolding journal_to
journal-grows start s t laws small within =
    let more : Later start s t = later_run start s t laws small within in
    (journal_bytes more.entries, sym (journal_bytes-append (entries_from start s) more.entries) ∙ ap journal_bytes (sym more.more_entries))

pub pieces-front : (start : Start) (end s : ℕ) → IsStart start → RunLaws start → end ≤ cycle_limit → s ≤ end → ArePrefixes (pieces_until start end s) (pieces_of start end)
pieces-front start end s is laws small within = record {
  frames = frames-grow start s end laws small within;
  sound = sound-grows start end s end is laws small within;
  journal = journal-grows start s end laws small within;
  state = (state_to start end, refl);
}

-- a machine at its start, with nothing made
pub at-start : (start : Start) → IsStart start → RunLaws start → HearsRuns start → IsReached start.at start.console → start.at ≤ cycle_limit
    → CameTo start (record { at = start.at; console = start.console; entries = []; media = no_media }) 0
unfolding ran
at-start start is laws heard reached small = record {
  from = is;
  laws = laws;
  later = omega arith;
  run = subst (λ (m : Console). IsRunTo start.console start.at m (entries_from start start.at) (media_from start start.at))
      (ap (ran start.console) (no-moves start is laws small)) (run-made start start.at laws small);
  entries = refl;
  media = refl;
  counted = sym (ap length (no-entries start is laws small));
  heard = heard;
  reached = reached;
}

-- after a segment
pub segment-came : (start : Start) (at to accesses : ℕ) (after machine : MachineValue) → IsStart start → RunLaws start → HearsRuns start → IsReached start.at start.console → start.at ≤ to → Segment start at to after
    → machine ≡ record { at = to; console = after.console; entries = []; media = no_media } → accesses ≡ length (entries_from start to)
    → CameTo start machine accesses
segment-came start at to accesses after machine is laws heard reached later made same counted =
    subst (λ (m : MachineValue). CameTo start m accesses) (sym same)
    (record { from = is; laws = laws; later = later; run = made.run; entries = refl; media = refl; counted = counted; heard = heard; reached = reached })

-- the outputs after a segment
sound-next : (start : Start) (end at to : ℕ) (pairs : List ℕ) → sound_bytes (media_from start to) ≡ sound_bytes (media_from start at) ++ pairs
    → sound_until start end at ++ pairs ≡ sound_until start end to
unfolding sound_until
sound-next start end at to pairs is =
    append_assoc (wav_head (length (media_from start end).levels) start.console.pal) (sound_bytes (media_from start at)) pairs
    ∙ ap (λ (l : List ℕ). wav_head (length (media_from start end).levels) start.console.pal ++ l) (sym is)

frames-next : (start : Start) (at to : ℕ) (frames : List ℕ) → frames_bytes start.console.pal (media_from start to).frames ≡ frames_bytes start.console.pal (media_from start at).frames ++ frames
    → frames_to start at ++ frames ≡ frames_to start to
unfolding frames_to
frames-next start at to frames is = sym is

journal-next : (start : Start) (at to : ℕ) (records : List ℕ) → journal_bytes (entries_from start to) ≡ journal_bytes (entries_from start at) ++ records
    → journal_to start at ++ records ≡ journal_to start to
unfolding journal_to
journal-next start at to records is = sym is

pub pieces-next : (start : Start) (end at to : ℕ) (more : Pieces) → more.state ≡ [] → frames_bytes start.console.pal (media_from start to).frames ≡ frames_bytes start.console.pal (media_from start at).frames ++ more.frames
    → sound_bytes (media_from start to) ≡ sound_bytes (media_from start at) ++ more.sound → journal_bytes (entries_from start to) ≡ journal_bytes (entries_from start at) ++ more.journal
    → lengthened (pieces_until start end at) more ≡ pieces_until start end to
pieces-next start end at to more none frames sound journal = λ i. record {
  frames = frames-next start at to more.frames frames i;
  sound = sound-next start end at to more.sound sound i;
  journal = journal-next start at to more.journal journal i;
  state = none i;
}

-- the outputs before the first segment: the head, and nothing else
pub head-first : (start : Start) (end : ℕ) → IsStart start → RunLaws start → start.at ≤ cycle_limit → IsEnd end
    → wav_head (pairs_between start.at end) start.console.pal ≡ sound_until start end start.at
unfolding sound_until sound_bytes
head-first start end is laws small (some, near) =
    let counted : length (media_from start end).levels ≡ 16 * (batches_below end - batches_below start.at) =
    laws.levels_counted (run_from start end) end (entries_from start end) (media_from start end) is (run-made start end laws (omega (arith, near))) in
    let count : length (media_from start end).levels ≡ pairs_between start.at end = counted ∙ omega arith in
    ap (λ (n : ℕ). wav_head n start.console.pal) (sym count) ∙ sym (append-nil (wav_head (length (media_from start end).levels) start.console.pal))
    ∙ ap (λ (l : Media). wav_head (length (media_from start end).levels) start.console.pal ++ sound_bytes l) (sym (no-media start is laws small))

frames-first : (start : Start) → IsStart start → RunLaws start → start.at ≤ cycle_limit → frames_to start start.at ≡ []
unfolding frames_to frames_bytes
frames-first start is laws small = ap (λ (m : Media). frames_bytes start.console.pal m.frames) (no-media start is laws small)

journal-first : (start : Start) → IsStart start → RunLaws start → start.at ≤ cycle_limit → journal_to start start.at ≡ []
unfolding journal_to journal_bytes
journal-first start is laws small = ap journal_bytes (no-entries start is laws small)

pub pieces-first : (start : Start) (end : ℕ) (head : List ℕ) → IsStart start → RunLaws start → start.at ≤ cycle_limit → head ≡ sound_until start end start.at
    → record nothing { sound = head } ≡ pieces_until start end start.at
pieces-first start end head is laws small same =
    λ i. record { frames = sym (frames-first start is laws small) i; sound = same i; journal = sym (journal-first start is laws small) i; state = [] }

-- the state to which a run came
pub state-found : (start : Start) (machine : MachineValue) (accesses : ℕ) → CameTo start machine accesses → machine.at ≤ cycle_limit → state_bytes machine.at machine.console ≡ state_to start machine.at
unfolding state_to
state-found start machine accesses came small = ap (state_bytes machine.at) (run-found start machine.at came.laws small came.run).console
