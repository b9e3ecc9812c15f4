-- MOVEM follows its footprint.
use Rattle.std.proofs.Common.{◌≡◌, ◌≢◌, ℕ, zero, suc, ◌+◌, ◌*◌, ◌/◌, ◌%◌, ◌^◌, ◌<◌, ◌≤◌, ◌==◌, ◌∙◌, Bool, true, false, List, [], ◌∷◌, ◌++◌, length, refl, ap, sym, subst, arith}
use Rattle.std.specs.Prelude.{count_ones, if◌then◌else◌}
use Rattle.std.proofs.lemmas.Bool.Decides.{nat_tests}
use Rattle.std.proofs.lemmas.Grind.{pow_more}
use Rattle.std.proofs.lemmas.Nat.{ones-le}
use Rattle.md_word.specs.Fields.{address_of}
use Rattle.md_word.specs.Coding.{flag_number}
use Rattle.md_word.specs.declared.mode.Mode.{Mode}
use Rattle.md_word.specs.declared.mode.Mode.TheVariants as modes
use Rattle.md_word.specs.declared.regs.Regs.{Regs}
use Rattle.md_word.specs.declared.size.Size.{Size}
use Rattle.md_word.specs.declared.size.Size.TheVariants.{Byte, Word, Long}
use Rattle.m68k_decode.specs.declared.op.Op.TheVariants as ops
use Rattle.m68k_ea.specs.Addresses.{effective_address}
use Rattle.m68k_ea.specs.Places.{is_misaligned}
use Rattle.m68k_exec.proofs.Turns.{ones_turn}
use Rattle.m68k_access.specs.Actions as actions
use Rattle.m68k_access.specs.Operands.{bytes_of}
use Rattle.m68k_exec.specs.Rows.Movem as movem
use Rattle.m68k_exec.specs.declared.rows.movem.Order.TheVariants.{Rising, Falling}
use Rattle.m68k_laws.proofs.Follows.{Follows, bind, give, last, same}
use Rattle.m68k_laws.proofs.Operands.{misplaced}
use Rattle.m68k_laws.proofs.Single.{read, split, write}
use Rattle.m68k_laws.specs.Accesses.{Kind, Read, Write, is_read, one}
use Rattle.m68k_laws.specs.Footprints.{above, ascending, below, descending, footprint, stores}

chosen_length : (test : Bool) (n : ℕ) (rest : List ℕ) → length (if test then n ∷ rest else rest) ≡ flag_number test + length rest
chosen_length true n rest = omega arith
chosen_length false n rest = omega arith

zero_below : (list : ℕ) → list < 2 ^ 0 → 0 ≡ count_ones list
zero_below list h = omega (arith, ones-le 0 list h)

halved : (count list : ℕ) → list < 2 ^ suc count → list / 2 < 2 ^ count
halved count list h =
    let one_more : suc count ≡ count + 1 = omega arith in
    let twice : 2 ^ suc count ≡ 2 ^ count * 2 = ap (λ k. 2 ^ k) one_more ∙ pow_more 2 count in
    omega (arith, twice, h)

places_counted : (count list n : ℕ) → list < 2 ^ count → length (movem.places count list n) ≡ count_ones list
places_counted zero list n h = zero_below list h
places_counted (suc count) list n h =
    let turn = ones_turn list 1 in
    let rest = places_counted count (list / 2) (n + 1) (halved count list h) in
    let here = chosen_length (list % 2 == 1) n (movem.places count (list / 2) (n + 1)) in
    omega (arith, turn, rest, here)

no_places : (test : Bool) (n : ℕ) (rest : List ℕ) (half : ℕ) → (if test then n ∷ rest else rest) ≡ [] → (rest ≡ [] → half ≡ 0) → (test ≡ false) × (half ≡ 0)
no_places true n rest half e h = absurd (cc)
no_places false n rest half e h = (refl, h e)

low_bit : (list : ℕ) → (list % 2 == 1) ≡ false → list / 2 ≡ 0 → list ≡ 0
low_bit list e f = grind (arith, nat_tests)

empty_list : (count list n : ℕ) → list < 2 ^ count → movem.places count list n ≡ [] → list ≡ 0
empty_list zero list n h e = omega arith
empty_list (suc count) list n h e =
    let found = no_places (list % 2 == 1) n (movem.places count (list / 2) (n + 1)) (list / 2) e (empty_list count (list / 2) (n + 1) (halved count list h)) in
    low_bit list found.0 found.1

step_is : (size : Size) → size ≢ Byte → movem.step_of size ≡ bytes_of size
step_is Byte h = absurd (h refl)
step_is Word h = refl
step_is Long h = refl

misaligned : (size : Size) (at : ℕ) → size ≢ Byte → actions.is_odd at ≡ true → is_misaligned size at ≡ true
misaligned Byte at h e = absurd (h refl)
misaligned Word at h e = e
misaligned Long at h e = e

odd_below : (at step : ℕ) → step % 2 ≡ 0 → step ≤ 4 → actions.is_odd at ≡ true → actions.is_odd (below at step) ≡ true
odd_below at step even few e = grind arith

below_odd : (size : Size) (at : ℕ) → size ≢ Byte → actions.is_odd at ≡ true → actions.is_odd (below at (bytes_of size)) ≡ true
below_odd Byte at h e = absurd (h refl)
below_odd Word at h e = odd_below at 2 refl (omega arith) e
below_odd Long at h e = odd_below at 4 refl (omega arith) e

rising : (size : Size) (places : List ℕ) (at : ℕ) (regs : Regs) → size ≢ Byte → Follows (ascending (length places) Write size at) (movem.store_each Rising size places at regs)
rising size [] at regs h = give at
rising size (place ∷ rest) at regs h =
    let next = rising size rest (movem.next_address Rising size at) regs h in
    bind (one Write size at) (ascending (length rest) Write size (above at (bytes_of size))) _ _ (write size at _) (λ written.
    same _ _ _ (ap (λ step. ascending (length rest) Write size (above at step)) (step_is size h)) next)

falling : (size : Size) (places : List ℕ) (at : ℕ) (regs : Regs) → size ≢ Byte → Follows (descending (length places) Write size at) (movem.store_each Falling size places at regs)
falling size [] at regs h = give at
falling size (place ∷ rest) at regs h =
    let next = falling size rest (movem.next_address Falling size at) regs h in
    same _ _ _ (ap (λ step. one Write size (below at step) ++ descending (length rest) Write size (below at step)) (step_is size h))
    (bind (one Write size (movem.next_address Falling size at)) (descending (length rest) Write size (movem.next_address Falling size at)) _ _ (write size _ _) (λ written. next))

loading : (size : Size) (places : List ℕ) (at : ℕ) (regs : Regs) → size ≢ Byte → Follows (ascending (length places) Read size at) (movem.load_each size places at regs)
loading size [] at regs h = give _
loading size (place ∷ rest) at regs h =
    bind (one Read size at) (ascending (length rest) Read size (above at (bytes_of size))) _ _ (read size at) (λ value.
    same _ _ _ (ap (λ step. ascending (length rest) Read size (above at step)) (step_is size h)) (loading size rest (movem.next_address Rising size at) _ h))

-- an odd address is an error at the first register, of which there is one
first_odd : {A : Type 0} (kind : Kind) (size : Size) (list at : ℕ) (places : List ℕ) → movem.places_in list ≡ places → list < 65536 → (list == 0) ≡ false → size ≢ Byte → actions.is_odd at ≡ true → Follows (ascending (length places) kind size at) (actions.odd {A = A} at (is_read kind))
first_odd kind size list at [] e below some h odd = absurd (let none : list ≡ 0 = empty_list 16 list 0 below e in grind (arith, nat_tests))
first_odd kind size list at (place ∷ rest) e below some h odd = misplaced kind size at (ascending (length rest) kind size (above at (bytes_of size))) (misaligned size at h odd)

first_odd_below : {A : Type 0} (size : Size) (list at : ℕ) (places : List ℕ) → movem.places_in list ≡ places → list < 65536 → (list == 0) ≡ false → size ≢ Byte → actions.is_odd at ≡ true → Follows (descending (length places) Write size at) (actions.odd {A = A} (below at (bytes_of size)) false)
first_odd_below size list at [] e few some h odd = absurd (let none : list ≡ 0 = empty_list 16 list 0 few e in grind (arith, nat_tests))
first_odd_below size list at (place ∷ rest) e few some h odd =
    misplaced Write size (below at (bytes_of size)) (descending (length rest) Write size (below at (bytes_of size))) (misaligned size (below at (bytes_of size)) h (below_odd size at h odd))

-- an empty list accesses nothing
none_counted : (list : ℕ) → (list == 0) ≡ true → count_ones list ≡ 0
none_counted list e =
    let none : list ≡ 0 = grind (arith, nat_tests) in
    let most = ones-le 0 list (omega (arith, none)) in
    omega (arith, most)

empty_ascending : (kind : Kind) (size : Size) (list at : ℕ) → (list == 0) ≡ true → [] ≡ ascending (count_ones list) kind size at
empty_ascending kind size list at e = rw (none_counted list e) refl

empty_descending : (kind : Kind) (size : Size) (list at : ℕ) → (list == 0) ≡ true → [] ≡ descending (count_ones list) kind size at
empty_descending kind size list at e = rw (none_counted list e) refl

store_rising : (size : Size) (list at : ℕ) (regs : Regs) → size ≢ Byte → list < 65536 → Follows (ascending (count_ones list) Write size at) (movem.store_list Rising size list at regs)
unfolding movem.store_list
store_rising size list at regs h few =
    split _ (list == 0) _ _
    (λ none. same _ _ _ (empty_ascending Write size list at none) (give at))
    (λ some. same _ _ _ (ap (λ count. ascending count Write size at) (places_counted 16 list 0 few))
    (split _ (actions.is_odd at) _ _ (λ odd. first_odd Write size list at _ refl few some h odd) (λ even. rising size (movem.places_in list) at regs h)))

store_falling : (size : Size) (list at : ℕ) (regs : Regs) → size ≢ Byte → list < 65536 → Follows (descending (count_ones list) Write size at) (movem.store_list Falling size list at regs)
unfolding movem.store_list
store_falling size list at regs h few =
    split _ (list == 0) _ _
    (λ none. same _ _ _ (empty_descending Write size list at none) (give at))
    (λ some. same _ _ _ (ap (λ count. descending count Write size at) (places_counted 16 list 0 few))
    (split _ (actions.is_odd at) _ _ (λ odd. subst (λ step. Follows (descending (length (movem.places_in list)) Write size at) (actions.odd {A = ℕ} (below at step) false)) (sym (step_is size h)) (first_odd_below size list at _ refl few some h odd)) (λ even. falling size (movem.places_in list) at regs h)))

load_list : (size : Size) (list at : ℕ) (regs : Regs) → size ≢ Byte → list < 65536 → Follows (ascending (count_ones list) Read size at) (movem.load_list size list at regs)
unfolding movem.load_list
load_list size list at regs h few =
    split _ (list == 0) _ _
    (λ none. same _ _ _ (empty_ascending Read size list at none) (give _))
    (λ some. same _ _ _ (ap (λ count. ascending count Read size at) (places_counted 16 list 0 few))
    (split _ (actions.is_odd at) _ _ (λ odd. first_odd Read size list at _ refl few some h odd) (λ even. loading size (movem.places_in list) at regs h)))

pub movem_to_memory : (size : Size) (list : ℕ) (mode : Mode) (start : ℕ) (regs : Regs) → size ≢ Byte → list < 65536 → Follows (stores size list mode (above start 4) regs) (movem.movem_to_memory size list mode start regs)
unfolding movem.movem_to_memory
movem_to_memory size list (modes.PreDec n) start regs h few = last _ _ _ (store_falling size list (address_of regs n) regs h few) (λ reached. give _)
movem_to_memory size list mode start regs h few =
    last _ _ _ (store_rising size list (effective_address mode size regs (above start 4)) regs h few) (λ reached. give _)

pub movem_to_registers : (size : Size) (list : ℕ) (mode : Mode) (start : ℕ) (regs : Regs) → size ≢ Byte → list < 65536 → Follows (footprint (ops.MovemToRegisters size list mode) start regs) (movem.movem_to_registers size list mode start regs)
unfolding movem.movem_to_registers
movem_to_registers size list mode start regs h few =
    last _ _ _ (load_list size list (effective_address mode size regs (above start 4)) regs h few) (λ reached. give _)
