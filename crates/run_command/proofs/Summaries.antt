-- What the digests of a run hold.
use Rattle.std.proofs.Common.{◌≡◌, ℕ, ◌≤◌, List, [], ◌++◌, sym, subst}
use Rattle.sha2.specs.Hashers.{Holds256}
use Rattle.sha2.specs.Sha256.{sha256}
use Rattle.md_word.specs.Clock.{cycle_limit}
use Rattle.md_word.specs.declared.event.Entry.{Entry}
use Rattle.md_chips.specs.Media.{Media}
use Rattle.md_machine.specs.Outputs.{frames_bytes, journal_bytes, sound_bytes}
use Rattle.md_chips.specs.Starts.{IsStart, Start}
use Rattle.run_command.specs.Demos.{HaveUntil, digests_from}
use Rattle.run_command.specs.Runs.{RunLaws, entries_from, media_from}
use Rattle.run_command.specs.declared.digests.Digests.{Digests}
use Rattle.run_command.specs.declared.hashers.Hashers.{Hashers}
use Rattle.run_command.proofs.Segments.{no-entries, no-media}

-- at the start nothing was made
pub have-none : (start : Start) (hashers : Hashers) → IsStart start → RunLaws start → start.at ≤ cycle_limit
    → Holds256 hashers.frames [] → Holds256 hashers.samples [] → Holds256 hashers.journal [] → HaveUntil start start.at hashers
unfolding frames_bytes sound_bytes journal_bytes
have-none start hashers is laws small frames samples journal = record {
  frames = subst (λ (m : Media). Holds256 hashers.frames (frames_bytes start.console.pal m.frames)) (sym (no-media start is laws small)) frames;
  samples = subst (λ (m : Media). Holds256 hashers.samples (sound_bytes m)) (sym (no-media start is laws small)) samples;
  journal = subst (λ (l : List Entry). Holds256 hashers.journal (journal_bytes l)) (sym (no-entries start is laws small)) journal;
}

-- after a segment
pub have-more : (start : Start) (at to : ℕ) (old new : Hashers) (frames samples journal : List ℕ) → HaveUntil start at old
    → ((bytes : List ℕ) → Holds256 old.frames bytes → Holds256 new.frames (bytes ++ frames))
    → ((bytes : List ℕ) → Holds256 old.samples bytes → Holds256 new.samples (bytes ++ samples))
    → ((bytes : List ℕ) → Holds256 old.journal bytes → Holds256 new.journal (bytes ++ journal))
    → frames_bytes start.console.pal (media_from start to).frames ≡ frames_bytes start.console.pal (media_from start at).frames ++ frames
    → sound_bytes (media_from start to) ≡ sound_bytes (media_from start at) ++ samples
    → journal_bytes (entries_from start to) ≡ journal_bytes (entries_from start at) ++ journal → HaveUntil start to new
have-more start at to old new frames samples journal have more_frames more_samples more_journal frames_are samples_are journal_is = record {
  frames = subst (λ (l : List ℕ). Holds256 new.frames l) (sym frames_are) (more_frames (frames_bytes start.console.pal (media_from start at).frames) have.frames);
  samples = subst (λ (l : List ℕ). Holds256 new.samples l) (sym samples_are) (more_samples (sound_bytes (media_from start at)) have.samples);
  journal = subst (λ (l : List ℕ). Holds256 new.journal l) (sym journal_is) (more_journal (journal_bytes (entries_from start at)) have.journal);
}

-- the digests at the end
pub digests-are : (start : Start) (end : ℕ) (digests : Digests) → digests.frames ≡ sha256 (frames_bytes start.console.pal (media_from start end).frames)
    → digests.samples ≡ sha256 (sound_bytes (media_from start end)) → digests.journal ≡ sha256 (journal_bytes (entries_from start end))
    → digests ≡ digests_from start end
unfolding digests_from
digests-are start end digests frames samples journal = λ i. record { frames = frames i; samples = samples i; journal = journal i }
