-- A batch on its way from sample to sample.
use Rattle.std.proofs.Common.{◌≡◌, ◌∙◌, ap, ℕ, ◌+◌, List, [], add-one, ℤ}
use Rattle.fm_port.specs.declared.write.FmWrite.{FmWrite}
use Rattle.fm_chip.specs.Synth.{Synth, sampled, sides}
use Rattle.fm_chip.specs.Batches.{Course, made_below, written_all, due, course_after, sample, after_batch}

pub course-first : (first : ℕ) (s : Synth) (ws rest : List FmWrite) → rest ≡ ws → record { chip = s; rest = rest } ≡ course_after first s ws 0
unfolding course_after
course-first first s ws rest e = λ i. record { chip = s; rest = e i }

pub course-more : (first : ℕ) (s : Synth) (ws : List FmWrite) (n : ℕ) (after : Synth) (c d : Course)
    → c ≡ course_after first s ws n → d ≡ due (first + n) c → after ≡ sampled (first + n) d.chip
    → record { chip = after; rest = d.rest } ≡ course_after first s ws (n + 1)
unfolding course_after
course-more first s ws n after c d e f g =
    rw add-one ((λ i. record { chip = g i; rest = d.rest })
    ∙ ap (λ (x : Course). record { chip = sampled (first + n) x.chip; rest = x.rest }) (f ∙ ap (due (first + n)) e))

pub sample-is : (first : ℕ) (s : Synth) (ws : List FmWrite) (n : ℕ) (c d : Course) (made : ℤ × ℤ)
    → c ≡ course_after first s ws n → d ≡ due (first + n) c → made ≡ sides (first + n) d.chip → made ≡ sample first s ws n
unfolding sample
sample-is first s ws n c d made e f g = g ∙ ap (λ (x : Course). sides (first + n) x.chip) (f ∙ ap (due (first + n)) e)

pub after_batch-is : (first : ℕ) (s : Synth) (ws : List FmWrite) (after : Synth) (c : Course)
    → c ≡ course_after first s ws 16 → after ≡ written_all c.rest c.chip → after ≡ after_batch first s ws
unfolding after_batch
after_batch-is first s ws after c e f = f ∙ ap (λ (x : Course). written_all x.rest x.chip) e

-- where there are no writes none is made
pub none-below : (cycle : ℕ) (s : Synth) (c : Course) (ws : List FmWrite) → c ≡ made_below cycle s ws → ws ≡ [] → c.rest ≡ []
none-below cycle s c ws e none = ap (λ (x : Course). x.rest) (e ∙ ap (made_below cycle s) none)
