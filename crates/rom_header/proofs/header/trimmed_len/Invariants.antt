use Rattle.std.proofs.Common.{◌≡◌, ℕ, ◌<◌, ◌≤◌, true, List, length, get_or}
use Rattle.rom_header.specs.Header.{is_blank}
use Rattle.rom_header.proofs.header.trimmed_len.Given as goal

pub record Trims (field : List ℕ) (len : ℕ) : Type 0 where
  pub within : len ≤ length field
  pub blanks : (k : ℕ) → len ≤ k → k < length field → is_blank (get_or field k 0) ≡ true

abbrev pub invariant-blanks : goal.invariant-blanks
invariant-blanks l = Trims l.field l.len

abbrev pub decreases-blanks : goal.decreases-blanks
decreases-blanks l = l.len
