-- A word of a frame is pushed, and what is left after it.
use Rattle.std.proofs.Common.{◌≡◌, ℕ, suc, ◌+◌, ◌-◌, ◌%◌, ◌^◌, ◌<◌, List, Ok, refl, arith}
use Rattle.std.specs.Prelude.{slice_index}
use Rattle.md_word.specs.Answers.{Done}
use Rattle.m68k_access.specs.Actions.{go_on, write_word}
use Rattle.m68k_exec.specs.Sample.Entries.{places, pushed}
use Rattle.m68k_access.specs.Memory.{Memory}

pub push_step : (count k : ℕ) (words : List ℕ) (stack : ℕ) (memory : Memory) (done : Done) → k < count → pushed (count - k) k words stack memory done ≡ go_on (write_word ((stack + 2 ^ 32 - slice_index places k) % 2 ^ 32) (slice_index words k) memory done) (λ x after. pushed (count - (k + 1)) (k + 1) words stack memory after)
push_step count k words stack memory done h =
    let e : count - k ≡ suc (count - (k + 1)) = omega arith in rw e refl

pub push_end : (count k : ℕ) (words : List ℕ) (stack : ℕ) (memory : Memory) (done : Done) → count - k ≡ 0 → pushed (count - k) k words stack memory done ≡ Ok (tt, done)
push_end count k words stack memory done h = rw h refl
