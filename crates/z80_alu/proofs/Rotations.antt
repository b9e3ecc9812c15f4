-- A byte returns after eight rotates: shown by computing them for all bytes.
use Rattle.std.proofs.Common.{◌≡◌, ℕ, map, refl, arith}
use Rattle.md_word.proofs.Agree.{range, same_at}
use Rattle.md_word.specs.declared.task80.Task80.TheVariants as tasks
use Rattle.z80_alu.specs.Flags.{shown, reported}
use Rattle.z80_alu.specs.Laws.{RotatesBack, four_times}
use Rattle.z80_alu.specs.Shifts.{shifted}

back_left : (f : ℕ) → map (λ b. four_times tasks.Rlc (four_times tasks.Rlc b f) f) (range 256 0) ≡ map (λ b. b) (range 256 0)
unfolding range shifted shown reported
back_left f = refl

back_right : (f : ℕ) → map (λ b. four_times tasks.Rrc (four_times tasks.Rrc b f) f) (range 256 0) ≡ map (λ b. b) (range 256 0)
unfolding range shifted shown reported
back_right f = refl

pub rotated_back : RotatesBack
rotated_back b f below = (
  same_at (λ b. four_times tasks.Rlc (four_times tasks.Rlc b f) f) (λ b. b) 256 0 (back_left f) b (omega arith) (omega arith),
  same_at (λ b. four_times tasks.Rrc (four_times tasks.Rrc b f) f) (λ b. b) 256 0 (back_right f) b (omega arith) (omega arith),
)
