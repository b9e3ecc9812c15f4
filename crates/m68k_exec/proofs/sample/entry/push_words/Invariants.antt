use Rattle.std.proofs.Common.{◌≡◌, ◌+◌, ◌-◌, ◌*◌, ◌≤◌, length}
use Rattle.arrayvec.specs.ArrayVec.{array_vec_len}
use Rattle.m68k_access.specs.Clauses.{done_of, memory_of}
use Rattle.m68k_exec.specs.Sample.Entries.{pushed}
use Rattle.m68k_exec.proofs.sample.entry.push_words.Given as goal

-- what is left to push from here is what there was to push
abbrev pub invariant-words : goal.invariant-words
invariant-words l = record {
  left : pushed (length l.words - l.place) l.place l.words l.stack (memory_of l.context) (done_of l.progress) ≡ pushed (length l.words) 0 l.words l.stack (memory_of l.context) (done_of l.fn.progress);
  used : l.progress.used ≤ l.fn.progress.used + l.place;
  written : array_vec_len l.progress.writes ≤ array_vec_len l.fn.progress.writes + 2 * l.place;
}
