-- A turn of MOVEM's loops, and what is left after it.
use Rattle.std.proofs.Common.{◌≡◌, ℕ, zero, suc, ◌+◌, ◌-◌, ◌*◌, ◌/◌, ◌%◌, ◌<◌, ◌==◌, Bool, true, false, List, ◌∷◌, if◌then◌else◌, Result, Ok, Err, refl, add-mul, arith}
use Rattle.std.specs.Int.RustNames.{count_ones}
use Rattle.std.specs.Int.Count.{ones_step}
use Rattle.md_word.specs.Fields.{register_of, with_register}
use Rattle.md_word.specs.Coding.{flag_number}
use Rattle.md_word.specs.Width.{extended, modulus_of}
use Rattle.md_word.specs.declared.regs.Regs.{Regs}
use Rattle.md_word.specs.declared.size.Size.{Size}
use Rattle.md_word.specs.Answers.{Done}
use Rattle.m68k_access.specs.Actions.{go_on, read, write}
use Rattle.m68k_access.specs.Memory.{Memory}
use Rattle.m68k_exec.specs.Rows.Movem.{Loaded, named, next_address, place_at, places, load_each, store_each}
use Rattle.m68k_exec.specs.Rows.Turns.{load_one, load_turn, store_one, store_turn}
use Rattle.m68k_exec.specs.declared.rows.movem.Order.{Order}
use Rattle.m68k_exec.specs.declared.rows.movem.Order.TheVariants.{Rising}
use Rattle.m68k_access.specs.declared.stop.Stop.{Stop}

-- of 16 turns one less is left
next-count : (n : ℕ) → n < 16 → 16 - n ≡ suc (16 - (n + 1))
next-count n h = omega arith

-- a known value after an action, handed on
handed-on : {A B C : Type 0} (w : Result (A × Done) Stop) (x : B) (f : B → Done → Result (C × Done) Stop) → go_on w (λ y after. f x after) ≡ go_on (go_on w (λ y after. Ok (x, after))) f
handed-on (Ok w) x f = refl
handed-on (Err stop) x f = refl

loaded-on : {C : Type 0} (w : Result (ℕ × Done) Stop) (next : ℕ) (change : ℕ → Regs) (f : Loaded → Done → Result (C × Done) Stop) → go_on w (λ value after. f (record { address = next; regs = change value }) after) ≡ go_on (go_on w (λ value after. Ok (record { address = next; regs = change value }, after))) f
loaded-on (Ok w) next change f = refl
loaded-on (Err stop) next change f = refl

store_each-turn : (order : Order) (size : Size) (n at : ℕ) (rest : List ℕ) (regs : Regs) (memory : Memory) (done : Done) (chosen : Bool) → store_each order size (if chosen then n ∷ rest else rest) at regs memory done ≡ go_on (store_turn order size chosen n at regs memory done) (λ next after. store_each order size rest next regs memory after)
unfolding store_one
store_each-turn order size n at rest regs memory done true =
    handed-on (write size (place_at order size at) (register_of regs (named order n) % modulus_of size) memory done) (next_address order size at) (λ next after. store_each order size rest next regs memory after)
store_each-turn order size n at rest regs memory done false = refl

pub store_step : (order : Order) (size : Size) (list n at : ℕ) (regs : Regs) (memory : Memory) (done : Done) → n < 16 → store_each order size (places (16 - n) list n) at regs memory done ≡ go_on (store_turn order size (list % 2 == 1) n at regs memory done) (λ next after. store_each order size (places (16 - (n + 1)) (list / 2) (n + 1)) next regs memory after)
store_step order size list n at regs memory done h =
    rw (next-count n h) (store_each-turn order size n at (places (16 - (n + 1)) (list / 2) (n + 1)) regs memory done (list % 2 == 1))

low-bit : (k : ℕ) → k < 2 → k ≡ flag_number (k == 1)
low-bit zero h = refl
low-bit (suc zero) h = refl
low-bit (suc (suc k)) h = absurd (omega arith)

-- the bits that are set: the lowest, and those of the rest
pub ones_turn : (list times : ℕ) → count_ones list * times ≡ flag_number (list % 2 == 1) * times + count_ones (list / 2) * times
ones_turn list times =
    let step = ones_step list in
    let low = low-bit (list % 2) (omega arith) in
    let sum : count_ones list ≡ flag_number (list % 2 == 1) + count_ones (list / 2) = cc in
    rw (sum, add-mul) refl

load_each-turn : (size : Size) (n at : ℕ) (rest : List ℕ) (regs : Regs) (memory : Memory) (done : Done) (chosen : Bool) → load_each size (if chosen then n ∷ rest else rest) at regs memory done ≡ go_on (load_turn size chosen n at regs memory done) (λ next after. load_each size rest next.address next.regs memory after)
unfolding load_one
load_each-turn size n at rest regs memory done true =
    loaded-on (read size at memory done) (next_address Rising size at) (λ value. with_register regs n (extended size value)) (λ next after. load_each size rest next.address next.regs memory after)
load_each-turn size n at rest regs memory done false = refl

pub load_step : (size : Size) (list n at : ℕ) (regs : Regs) (memory : Memory) (done : Done) → n < 16 → load_each size (places (16 - n) list n) at regs memory done ≡ go_on (load_turn size (list % 2 == 1) n at regs memory done) (λ next after. load_each size (places (16 - (n + 1)) (list / 2) (n + 1)) next.address next.regs memory after)
load_step size list n at regs memory done h =
    rw (next-count n h) (load_each-turn size n at (places (16 - (n + 1)) (list / 2) (n + 1)) regs memory done (list % 2 == 1))
