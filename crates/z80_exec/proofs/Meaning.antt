-- What the definitions mean: R and the stack.
use Rattle.std.proofs.Common.{◌≡◌, ◌⊎◌, inl, inr, ℕ, ◌+◌, ◌/◌, ◌%◌, ◌^◌, ◌<◌, ◌∙◌, Bool, true, false, List, [], ◌∷◌, ◌++◌, length, Ok, refl, ap, slice_index, arith}
use Rattle.std.specs.Prelude.{◌≢◌, IsTrue, if◌then◌else◌, slice_set}
use Rattle.std.proofs.lemmas.Bool.Decides.{nat_tests}
use Rattle.std.proofs.Math.ListN.{length-set}
use Rattle.std.proofs.lemmas.List.{get_or-set_other, get_or-set_same}
use Rattle.md_word.specs.Answers.{Done}
use Rattle.z80_decode.specs.Fields.{word}
use Rattle.z80_decode.specs.declared.decoded80.Decoded80.{Decoded80}
use Rattle.z80_decode.specs.declared.interrupt_mode.InterruptMode.TheVariants.{Mode0, Mode1, Mode2}
use Rattle.z80_decode.specs.declared.interrupt_mode.InterruptMode.{InterruptMode}
use Rattle.z80_decode.specs.declared.op80.Op80.TheVariants as ops
use Rattle.z80_decode.specs.declared.op80.Op80.{Op80}
use Rattle.z80_exec.specs.Access.Actions as actions
use Rattle.z80_exec.specs.Access.Actions.{◌>>=◌}
use Rattle.z80_exec.specs.Access.Memory.{Memory, byte_at, is_ram, is_shared_read, is_shared_write, next, ram_after, ram_place, stored}
use Rattle.z80_exec.specs.Access.Operands as operands
use Rattle.z80_exec.specs.Access.Outcomes.{taken}
use Rattle.z80_exec.specs.Access.Parts as parts
use Rattle.z80_exec.specs.Access.Parts.{down}
use Rattle.z80_exec.specs.Laws.{PopsWhatWasPushed}
use Rattle.z80_parcel.proofs.Writes.{ram_fits}
use Rattle.z80_parcel.specs.Parcels.{ram_size}
use Rattle.z80_exec.specs.Rows.Calls as calls
use Rattle.z80_exec.specs.Rows.Control as control
use Rattle.z80_exec.specs.Sample.Entries as entries
use Rattle.z80_exec.specs.Sample.Samples.{fetched, is_prefix, rise_of, risen}
use Rattle.z80_exec.specs.declared.regs80.Regs80.{Regs80}

-- R
rise : Bool → ℕ
rise test = if test then 2 else 1

by_prefix : (test : Bool) → (rise test ≡ 1) ⊎ (rise test ≡ 2)
unfolding rise
by_prefix true = inr refl
by_prefix false = inl refl

rises : (op : Op80) (first : ℕ) → (rise_of op first ≡ 1) ⊎ (rise_of op first ≡ 2)
unfolding rise
rises (ops.LonePrefix index) first = inl refl
rises op first = by_prefix (is_prefix first)

low_by : (r by n : ℕ) → by ≡ n → risen r by % 0x80 ≡ (r + n) % 0x80
low_by r by n e = omega (arith, e)

pub low : (found : Decoded80) (first : ℕ) (regs : Regs80) → ((fetched found first regs).r % 0x80 ≡ (regs.r + 1) % 0x80) ⊎ ((fetched found first regs).r % 0x80 ≡ (regs.r + 2) % 0x80)
unfolding fetched
low found first regs = elim (rises found.op first) [ inl e ↦ inl (low_by regs.r (rise_of found.op first) 1 e) | inr e ↦ inr (low_by regs.r (rise_of found.op first) 2 e) ]

pub high : (found : Decoded80) (first : ℕ) (regs : Regs80) → (fetched found first regs).r / 0x80 ≡ regs.r / 0x80
unfolding fetched
high found first regs = omega arith

-- the stack
pub ram_write : (at value : ℕ) (memory : Memory) (before : Done) → IsTrue (is_ram at) → actions.write at value memory before ≡ Ok (tt, record before { writes = before.writes ++ (at, value) ∷ [] })
unfolding actions.write actions.with_byte
ram_write at value memory before h =
    let private : is_shared_write at ≡ false = grind (arith, nat_tests) in
    let here : is_ram at ≡ true = h in
    rw (private, here) refl

pub ram_read : (at : ℕ) (memory : Memory) (before : Done) → IsTrue (is_ram at) → actions.read at memory before ≡ Ok (slice_index (ram_after memory.ram before.writes) (ram_place at), before)
unfolding actions.read actions.byte_seen byte_at
ram_read at memory before h =
    let private : is_shared_read at ≡ false = grind (arith, nat_tests) in
    let here : is_ram at ≡ true = h in
    rw (private, here) refl

ram_then : (ram : List ℕ) (writes : List (ℕ × ℕ)) (at value : ℕ) → IsTrue (is_ram at) → ram_after ram (writes ++ (at, value) ∷ []) ≡ slice_set (ram_after ram writes) (ram_place at) value
ram_then ram [] at value h = let here : is_ram at ≡ true = h in rw here refl
ram_then ram (w ∷ ws) at value h = ram_then (stored ram w) ws at value h

-- the writes of a push, and the memory after them
abbrev one_of : ℕ → Regs80 → Done → Done
one_of value regs before = record before { writes = before.writes ++ (down regs.sp, parts.high value) ∷ [] }

abbrev two_of : ℕ → Regs80 → Done → Done
two_of value regs before =
    record before { writes = (before.writes ++ (down regs.sp, parts.high value) ∷ []) ++ (down (down regs.sp), parts.low value) ∷ [] }

pub pushed : (value : ℕ) (regs : Regs80) (memory : Memory) (before : Done) → IsTrue (is_ram (down regs.sp)) → IsTrue (is_ram (down (down regs.sp))) → operands.push value regs memory before ≡ Ok (record regs { sp = down (down regs.sp) }, two_of value regs before)
unfolding operands.push
pushed value regs memory before h k =
    rw (ram_write (down regs.sp) (parts.high value) memory before h, ram_write (down (down regs.sp)) (parts.low value) memory (one_of value regs before) k) refl

-- what is read at two places that were written one after the other
low_read : (ram : List ℕ) (upper lower high low : ℕ) → upper < length ram → lower < length ram → slice_index (slice_set (slice_set ram upper high) lower low) lower ≡ low
low_read ram upper lower high low h k =
    let long : length (slice_set ram upper high) ≡ length ram = length-set {A = ℕ} ram upper high in
    get_or-set_same (slice_set ram upper high) lower low 0 (omega (arith, k, long))

high_read : (ram : List ℕ) (upper lower high low : ℕ) → upper < length ram → upper ≢ lower → slice_index (slice_set (slice_set ram upper high) lower low) upper ≡ high
high_read ram upper lower high low h other =
    get_or-set_other (slice_set ram upper high) lower upper low 0 other ∙ get_or-set_same ram upper high 0 h

both : (value : ℕ) (regs : Regs80) (memory : Memory) (before : Done) → IsTrue (is_ram (down regs.sp)) → IsTrue (is_ram (down (down regs.sp))) → ram_after memory.ram (two_of value regs before).writes ≡ slice_set (slice_set (ram_after memory.ram before.writes) (ram_place (down regs.sp)) (parts.high value)) (ram_place (down (down regs.sp))) (parts.low value)
both value regs memory before h k =
    ram_then memory.ram (one_of value regs before).writes (down (down regs.sp)) (parts.low value) k
    ∙ ap (λ (ram : List ℕ). slice_set ram (ram_place (down (down regs.sp))) (parts.low value)) (ram_then memory.ram before.writes (down regs.sp) (parts.high value) h)

-- it is popped again
popped_again : (regs : Regs80) (at : ℕ) (memory : Memory) (done : Done) (low high : ℕ) → IsTrue (is_ram at) → IsTrue (is_ram (next at)) → slice_index (ram_after memory.ram done.writes) (ram_place at) ≡ low → slice_index (ram_after memory.ram done.writes) (ram_place (next at)) ≡ high → operands.pop (record regs { sp = at }) memory done ≡ Ok (record { value = word low high; regs = record regs { sp = (at + 2) % 0x1_0000 } }, done)
unfolding operands.pop actions.read_word
popped_again regs at memory done low high h k lower upper =
    rw (ram_read at memory done h, ram_read (next at) memory done k, lower, upper) refl

back : (value : ℕ) (regs other : Regs80) (memory : Memory) (before : Done) → value < 2 ^ 16 → regs.sp < 2 ^ 16 → IsTrue (is_ram (down regs.sp)) → IsTrue (is_ram (down (down regs.sp))) → length memory.ram ≡ ram_size → operands.pop (record other { sp = down (down regs.sp) }) memory (two_of value regs before) ≡ Ok (record { value = value; regs = record other { sp = regs.sp } }, two_of value regs before)
back value regs other memory before fits pointer h k long =
    let length_left : length (ram_after memory.ram before.writes) ≡ ram_size = ram_fits memory.ram before.writes ∙ long in
    let upper : next (down (down regs.sp)) ≡ down regs.sp = omega arith in
    let apart : ram_place (down regs.sp) ≢ ram_place (down (down regs.sp)) = omega arith in
    let memories = both value regs memory before h k in
    let low : slice_index (ram_after memory.ram (two_of value regs before).writes) (ram_place (down (down regs.sp))) ≡ parts.low value =
    rw memories (low_read (ram_after memory.ram before.writes) (ram_place (down regs.sp)) (ram_place (down (down regs.sp))) (parts.high value) (parts.low value) (omega (arith, length_left)) (omega (arith, length_left))) in
    let high : slice_index (ram_after memory.ram (two_of value regs before).writes) (ram_place (next (down (down regs.sp)))) ≡ parts.high value =
    rw (memories, upper) (high_read (ram_after memory.ram before.writes) (ram_place (down regs.sp)) (ram_place (down (down regs.sp))) (parts.high value) (parts.low value) (omega (arith, length_left)) apart) in
    let above : IsTrue (is_ram (next (down (down regs.sp)))) = rw upper h in
    let whole : word (parts.low value) (parts.high value) ≡ value = omega arith in
    let pointed : (down (down regs.sp) + 2) % 0x1_0000 ≡ regs.sp = omega arith in
    let last = popped_again other (down (down regs.sp)) memory (two_of value regs before) (parts.low value) (parts.high value) k above low high in
    rw last (rw (whole, pointed) refl)

pub again : PopsWhatWasPushed
again value regs memory before fits pointer h k long =
    rw (pushed value regs memory before h k) (back value regs regs memory before fits pointer h k long)

-- a call, and RET
pub called : (target : ℕ) (regs : Regs80) (memory : Memory) (before : Done) → regs.pc < 2 ^ 16 → regs.sp < 2 ^ 16 → IsTrue (is_ram (down regs.sp)) → IsTrue (is_ram (down (down regs.sp))) → length memory.ram ≡ ram_size → (calls.call target regs >>= (λ outcome. calls.return_from outcome.regs)) memory before ≡ Ok (taken regs, two_of regs.pc regs before)
unfolding calls.call calls.return_from
called target regs memory before fits pointer h k long =
    rw (pushed regs.pc regs memory before h k) (rw (back regs.pc regs (record regs { pc = target }) memory before fits pointer h k long) refl)

-- an interrupt, and RET
interrupted : (regs : Regs80) (memory : Memory) (before : Done) → entries.target_of regs.mode regs.i ≡ actions.give 0x38 → regs.pc < 2 ^ 16 → regs.sp < 2 ^ 16 → IsTrue (is_ram (down regs.sp)) → IsTrue (is_ram (down (down regs.sp))) → length memory.ram ≡ ram_size → (entries.enter regs >>= calls.return_from) memory before ≡ Ok (taken (control.disabled regs), two_of regs.pc regs before)
unfolding entries.enter calls.return_from control.disabled
interrupted regs memory before target fits pointer h k long =
    rw (pushed regs.pc (record regs { iff1 = false; iff2 = false }) memory before h k) (rw target (rw (back regs.pc regs (record regs { iff1 = false; iff2 = false; pc = 0x38 }) memory before fits pointer h k long) refl))

at_38 : (mode : InterruptMode) (page : ℕ) → (mode ≡ Mode0) ⊎ (mode ≡ Mode1) → entries.target_of mode page ≡ actions.give 0x38
unfolding entries.target_of
at_38 Mode0 page h = refl
at_38 Mode1 page h = refl
at_38 Mode2 page h = elim h [ inl e ↦ absurd (cc) | inr e ↦ absurd (cc) ]

pub came_back : (regs : Regs80) (memory : Memory) (before : Done) → (regs.mode ≡ Mode0) ⊎ (regs.mode ≡ Mode1) → regs.pc < 2 ^ 16 → regs.sp < 2 ^ 16 → IsTrue (is_ram (down regs.sp)) → IsTrue (is_ram (down (down regs.sp))) → length memory.ram ≡ ram_size → (entries.enter regs >>= calls.return_from) memory before ≡ Ok (taken (control.disabled regs), two_of regs.pc regs before)
came_back regs memory before which fits pointer h k long =
    interrupted regs memory before (at_38 regs.mode regs.i which) fits pointer h k long
