-- The time of a sample: it suffices for its accesses, and is short.
use Rattle.std.proofs.Common.{◌≡◌, ℕ, ◌+◌, ◌*◌, ◌≤◌, Ok, subst, sym}
use Rattle.md_word.specs.declared.regs.Regs.{Regs}
use Rattle.m68k_decode.specs.Bounds.{HasModes}
use Rattle.m68k_decode.proofs.DecodedModes.{decoded_modes}
use Rattle.m68k_time.proofs.Covers.{covers-modes}
use Rattle.m68k_time.proofs.Most.{few}
use Rattle.m68k_time.specs.Clocks.{clocks_of}
use Rattle.m68k_exec.specs.Sample.Bounds.{Fits}
use Rattle.m68k_exec.proofs.Bounds.CountsFew.{row_counted}
use Rattle.m68k_exec.proofs.Bounds.Spends.{names, spends}
use Rattle.m68k_access.specs.Memory.{Memory, instruction_words}
use Rattle.m68k_exec.specs.Sample.Samples.{Ended, sampled}

-- four clocks for each access, and four more
pub suffices : (cause : ℕ) (regs : Regs) (memory : Memory) (ended : Ended) → sampled cause regs memory ≡ Ok ended → 4 * ended.spent.accesses + 4 ≤ clocks_of ended.op ended.spent
suffices cause regs memory ended e =
    let modes : HasModes ended.op = subst HasModes (sym (names cause regs memory ended e)) (decoded_modes (instruction_words regs.pc memory)) in
    covers-modes ended.op ended.spent modes (spends cause regs memory ended e)

-- no sample is long
pub short : (cause : ℕ) (regs : Regs) (memory : Memory) (ended : Ended) → Fits memory → sampled cause regs memory ≡ Ok ended → clocks_of ended.op ended.spent ≤ 692
short cause regs memory ended fits e = few ended.op ended.spent (row_counted cause regs memory ended fits e)
