use Rattle.std.proofs.Common.{◌≡◌, ℕ, ◌+◌, ◌-◌, ◌/◌, ◌≤◌, ◌*◌, Bool, List, [], ◌++◌, length, length-append, sym, ap, subst, ◌∙◌, arith}
use Rattle.md_chips.specs.Machines.{MachineValue}
use Rattle.std.specs.Prelude.{vec_capacity}
use Rattle.md_machine.specs.Outputs.{frame_length, frames_bytes, journal_bytes, sound_bytes}
use Rattle.md_chips.specs.Media.{Media, no_media}
use Rattle.md_chips.specs.Regions.{most_entries, most_pairs}
use Rattle.md_chips.specs.Starts.{Start}
use Rattle.run_command.specs.Courses.{CameFrom, cycle_of}
use Rattle.run_command.specs.Runs.{entries_from, media_from}
use Rattle.run_command.specs.Workers.{WentOn}
use Rattle.md_chips.proofs.Regions.{run_stays}
use Rattle.run_command.proofs.Segments.{Segment, segment-came, entries-fit, frame-room, frames_bytes-append, journal_bytes-append, paired, segment_made, sound_bytes-append}
use Rattle.run_command.proofs.segment.advance.Goals as goal

pub drain_frames-requires : goal.drain_frames-requires
drain_frames-requires g c =
    let went : WentOn c.args.course.now.machine c.args.to c.go_on.new.arg2 = c.requires.goes _ c.args.to _ c.go_on.ensures in
    let fit : frame_length c.go_on.new.arg2.console.pal * length c.go_on.new.arg2.media.frames ≤ vec_capacity c.args.course.now.frames =
    frame-room c.args.course.now.machine.console.pal c.go_on.new.arg2.console.pal (length c.go_on.new.arg2.media.frames) (vec_capacity c.args.course.now.frames)
    (run_stays c.args.course.now.machine.console c.go_on.new.arg2.console c.args.to c.go_on.new.arg2.entries c.go_on.new.arg2.media went.run).pal went.frames c.args.course.now.frames_fit in
    omega (arith, fit, c.clear.ensures.len, c.clear.ensures.capacity)

pub drain_pairs-requires : goal.drain_pairs-requires
drain_pairs-requires g c =
    let went : WentOn c.args.course.now.machine c.args.to c.go_on.new.arg2 = c.requires.goes _ c.args.to _ c.go_on.ensures in
    omega (
      arith,
      went.samples,
      c.clear-2.ensures.len,
      c.clear-2.ensures.capacity,
      c.args.course.now.pairs_fit,
      ap (λ (m : MachineValue). length m.media.levels) c.drain_frames.ensures.machine,
    )

pub drain_entries-requires : goal.drain_entries-requires
drain_entries-requires g c =
    let went : WentOn c.args.course.now.machine c.args.to c.go_on.new.arg2 = c.requires.goes _ c.args.to _ c.go_on.ensures in
    omega (
      arith,
      went.entries,
      c.clear-3.ensures.len,
      c.clear-3.ensures.capacity,
      c.args.course.now.records_fit,
      ap (λ (m : MachineValue). length m.entries) c.drain_pairs.ensures.machine,
      ap (λ (m : MachineValue). length m.entries) c.drain_frames.ensures.machine,
    )

pub overflow_add-course : goal.overflow_add-course
overflow_add-course g c =
    let start : Start = c.requires.underway.0 in
    let came : CameFrom start c.args.course.now = c.requires.underway.1 in
    let went : WentOn c.args.course.now.machine c.args.to c.go_on.new.arg2 = c.requires.goes _ c.args.to _ c.go_on.ensures in
    let few : length (entries_from start (cycle_of c.args.course.now)) ≤ cycle_of c.args.course.now - start.at + 5 =
    entries-fit start (cycle_of c.args.course.now) c.args.course.now.machine.console came.laws
    (omega (arith, c.requires.later, c.requires.far)) came.run in
    omega (
      arith,
      few,
      came.counted,
      c.requires.later,
      c.requires.far,
      c.len.ensures,
      c.drain_entries.ensures.length,
      c.clear-3.ensures.len,
      ap (λ (m : MachineValue). length m.entries) c.drain_pairs.ensures.machine,
      ap (λ (m : MachineValue). length m.entries) c.drain_frames.ensures.machine,
      went.entries,
    )

pub returns-clause-cycle : goal.returns-clause-cycle
returns-clause-cycle g c =
    let went : WentOn c.args.course.now.machine c.args.to c.go_on.new.arg2 = c.requires.goes _ c.args.to _ c.go_on.ensures in
    ap (λ (m : MachineValue). m.at) c.drain_entries.ensures.machine ∙ ap (λ (m : MachineValue). m.at) c.drain_pairs.ensures.machine
    ∙ ap (λ (m : MachineValue). m.at) c.drain_frames.ensures.machine ∙ went.at

pub returns-clause-underway : goal.returns-clause-underway
returns-clause-underway g c = λ start came.
    let went : WentOn c.args.course.now.machine c.args.to c.go_on.new.arg2 = c.requires.goes _ c.args.to _ c.go_on.ensures in
    let made : Segment start (cycle_of c.args.course.now) c.args.to c.go_on.new.arg2 =
    segment_made start (cycle_of c.args.course.now) c.args.to c.args.course.now.machine.console c.go_on.new.arg2 came.laws
    (omega (arith, c.requires.far)) (omega (arith, c.requires.later)) came.run went.run in
    let after : c.drain_entries.new.self ≡ record { at = c.args.to; console = c.go_on.new.arg2.console; entries = []; media = no_media } =
    c.drain_entries.ensures.machine ∙ ap (λ (m : MachineValue). record m { entries = [] })
    (c.drain_pairs.ensures.machine ∙ ap (λ (m : MachineValue). record m { media = record m.media { sides = []; levels = [] } }) c.drain_frames.ensures.machine)
    ∙ ap (λ (at : ℕ). record { at = at; console = c.go_on.new.arg2.console; entries = []; media = no_media }) went.at in
    let more : length (entries_from start c.args.to)
    ≡ length (entries_from start (cycle_of c.args.course.now)) + length c.go_on.new.arg2.entries =
    ap length made.entries ∙ length-append (entries_from start (cycle_of c.args.course.now)) c.go_on.new.arg2.entries in
    segment-came start (cycle_of c.args.course.now) c.args.to (c.args.course.now.accesses + c.len.result / 16) c.go_on.new.arg2 c.drain_entries.new.self
    came.from came.laws came.heard came.reached (omega (arith, came.later, c.requires.later)) made after
    (omega (
      arith,
      more,
      came.counted,
      c.len.ensures,
      c.drain_entries.ensures.length,
      c.clear-3.ensures.len,
      ap (λ (m : MachineValue). length m.entries) c.drain_pairs.ensures.machine,
      ap (λ (m : MachineValue). length m.entries) c.drain_frames.ensures.machine,
    ))

pub returns-clause-frames : goal.returns-clause-frames
returns-clause-frames g c = λ start came.
    let went : WentOn c.args.course.now.machine c.args.to c.go_on.new.arg2 = c.requires.goes _ c.args.to _ c.go_on.ensures in
    let made : Segment start (cycle_of c.args.course.now) c.args.to c.go_on.new.arg2 =
    segment_made start (cycle_of c.args.course.now) c.args.to c.args.course.now.machine.console c.go_on.new.arg2 came.laws
    (omega (arith, c.requires.far)) (omega (arith, c.requires.later)) came.run went.run in
    let piece : c.drain_frames.new.into.items ≡ frames_bytes c.go_on.new.arg2.console.pal c.go_on.new.arg2.media.frames =
    c.drain_frames.ensures.bytes ∙ ap (λ (l : List ℕ). l ++ frames_bytes c.go_on.new.arg2.console.pal c.go_on.new.arg2.media.frames) c.clear.ensures.items in
    let pal = start.console.pal in
    let region : c.go_on.new.arg2.console.pal ≡ pal = (run_stays start.console c.go_on.new.arg2.console c.args.to (entries_from start c.args.to) (media_from start c.args.to) made.run).pal in
    ap (λ (m : Media). frames_bytes pal m.frames) made.output
    ∙ frames_bytes-append pal (media_from start (cycle_of c.args.course.now)).frames c.go_on.new.arg2.media.frames
    ∙ ap (λ (l : List ℕ). frames_bytes pal (media_from start (cycle_of c.args.course.now)).frames ++ l)
    (ap (λ (b : Bool). frames_bytes b c.go_on.new.arg2.media.frames) (sym region) ∙ sym piece)

pub returns-clause-pairs : goal.returns-clause-pairs
unfolding sound_bytes
returns-clause-pairs g c = λ start came.
    let went : WentOn c.args.course.now.machine c.args.to c.go_on.new.arg2 = c.requires.goes _ c.args.to _ c.go_on.ensures in
    let made : Segment start (cycle_of c.args.course.now) c.args.to c.go_on.new.arg2 =
    segment_made start (cycle_of c.args.course.now) c.args.to c.args.course.now.machine.console c.go_on.new.arg2 came.laws
    (omega (arith, c.requires.far)) (omega (arith, c.requires.later)) came.run went.run in
    let piece : c.drain_pairs.new.into.items ≡ sound_bytes c.go_on.new.arg2.media =
    c.drain_pairs.ensures.bytes ∙ ap (λ (l : List ℕ). l ++ sound_bytes c.drain_frames.new.self.media) c.clear-2.ensures.items
    ∙ ap (λ (m : MachineValue). sound_bytes m.media) c.drain_frames.ensures.machine in
    ap sound_bytes made.output ∙ sound_bytes-append (media_from start (cycle_of c.args.course.now)) c.go_on.new.arg2.media
    (paired start (cycle_of c.args.course.now) came.from came.laws (omega (arith, c.requires.later, c.requires.far)))
    ∙ ap (λ (l : List ℕ). sound_bytes (media_from start (cycle_of c.args.course.now)) ++ l) (sym piece)

pub returns-clause-records : goal.returns-clause-records
returns-clause-records g c = λ start came.
    let went : WentOn c.args.course.now.machine c.args.to c.go_on.new.arg2 = c.requires.goes _ c.args.to _ c.go_on.ensures in
    let made : Segment start (cycle_of c.args.course.now) c.args.to c.go_on.new.arg2 =
    segment_made start (cycle_of c.args.course.now) c.args.to c.args.course.now.machine.console c.go_on.new.arg2 came.laws
    (omega (arith, c.requires.far)) (omega (arith, c.requires.later)) came.run went.run in
    let piece : c.drain_entries.new.into.items ≡ journal_bytes c.go_on.new.arg2.entries =
    c.drain_entries.ensures.bytes ∙ ap (λ (l : List ℕ). l ++ journal_bytes c.drain_pairs.new.self.entries) c.clear-3.ensures.items
    ∙ ap (λ (m : MachineValue). journal_bytes m.entries) c.drain_pairs.ensures.machine ∙ ap (λ (m : MachineValue). journal_bytes m.entries) c.drain_frames.ensures.machine in
    ap journal_bytes made.entries ∙ journal_bytes-append (entries_from start (cycle_of c.args.course.now)) c.go_on.new.arg2.entries
    ∙ ap (λ (l : List ℕ). journal_bytes (entries_from start (cycle_of c.args.course.now)) ++ l) (sym piece)

pub invariant_of-course : goal.invariant_of-course
invariant_of-course g c =
    let course = c.args.course.now in
    let went : WentOn course.machine c.args.to c.go_on.new.arg2 = c.requires.goes _ c.args.to _ c.go_on.ensures in
    let region : c.drain_entries.new.self.console.pal ≡ course.machine.console.pal =
    ap (λ (m : MachineValue). m.console.pal) c.drain_entries.ensures.machine ∙ ap (λ (m : MachineValue). m.console.pal) c.drain_pairs.ensures.machine
    ∙ ap (λ (m : MachineValue). m.console.pal) c.drain_frames.ensures.machine
    ∙ (run_stays course.machine.console c.go_on.new.arg2.console c.args.to c.go_on.new.arg2.entries c.go_on.new.arg2.media went.run).pal in
    record {
      frames_fit = subst (λ (b : Bool). frame_length b ≤ vec_capacity c.drain_frames.new.into) (sym region)
          (omega (arith, course.frames_fit, c.clear.ensures.capacity, c.drain_frames.ensures.room));
      pairs_fit = subst (λ (b : Bool). 4 * most_pairs b ≤ vec_capacity c.drain_pairs.new.into) (sym region)
          (omega (arith, course.pairs_fit, c.clear-2.ensures.capacity, c.drain_pairs.ensures.room));
      records_fit = subst (λ (b : Bool). 16 * most_entries b ≤ vec_capacity c.drain_entries.new.into) (sym region)
          (omega (arith, course.records_fit, c.clear-3.ensures.capacity, c.drain_entries.ensures.room));
    }
