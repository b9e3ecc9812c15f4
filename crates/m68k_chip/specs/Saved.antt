-- The fields of a saved state that keep the 68000: their order, their sizes and their rules. Of a rule
-- on several fields the place is the last of them. This project's profile.
use Rattle.std.specs.Prelude.{ℕ, ◌+◌, ◌*◌, ◌%◌, ◌==◌, ◌&&◌, ◌||◌, Bool, true, not, nat_le, nat_lt, if◌then◌else◌, List, [], ◌∷◌, ◌++◌, drop, bit_and}
use Rattle.md_fields.specs.Distances.{is_after, is_soon}
use Rattle.md_fields.specs.Fields.{Field, byte, word, long, quad, words, block}
use Rattle.md_fields.specs.Padding.{are_zeros}
use Rattle.m68k_access.specs.Memory.{ram_size}
use Rattle.m68k_chip.specs.Events.{step}
use Rattle.m68k_chip.specs.Numbers.{Numbers68, state_from}
use Rattle.m68k_chip.specs.Resuming.{asks_more}

-- at an access the start is below `at`, else it is next
abbrev pub is_start : ℕ → Numbers68 → Bool
is_start at n = if n.stage == 1 then nat_lt n.start at else (n.start == n.next)

-- a flag, which is clear at an access
abbrev pub is_halted : Numbers68 → Bool
is_halted n = nat_le n.halted 1 && ((n.halted == 0) || not (n.stage == 1))

-- below `at`, and 0 where it is not halted
abbrev pub is_since : ℕ → Numbers68 → Bool
is_since at n = if n.halted == 1 then nat_lt n.since at else (n.since == 0)

-- at an access an instruction, an interrupt of level 4 or 6, or a trace; else 0
abbrev pub is_cause : Numbers68 → Bool
is_cause n = (n.cause == 0) || ((n.stage == 1) && ((n.cause == 4) || ((n.cause == 6) || (n.cause == 8))))

-- an access comes 28 cycles after the start, and 28 more for each answer; at other events there are none
abbrev pub follows : Numbers68 → Bool
follows n = if n.stage == 1 then is_after n.next n.start (step * (n.count + 1)) else (n.count == 0)

-- at most 31 answers; unused places are 0
abbrev pub are_answers : Numbers68 → Bool
are_answers n = nat_le n.count 31 && (follows n && are_zeros (drop n.count n.answers))

-- an even address of 24 bits
abbrev pub is_source : ℕ → Bool
is_source source = (source % 2 == 0) && nat_lt source 0x100_0000

-- where words of a transfer are left, at most 65,536, no sample is next; where none is left, no word is
-- next, and there is no source
abbrev pub are_words : Numbers68 → Bool
are_words n =
    if n.words == 0 then ((n.source == 0) && not (n.stage == 2))
    else ((nat_le n.words 0x1_0000 && not (n.stage == 0)) && is_source n.source)

-- 34 or 380 cycles, and 0 where no word is left
abbrev pub is_cost : Numbers68 → Bool
is_cost n = if n.words == 0 then n.cost == 0 else ((n.cost == 34) || (n.cost == 380))

-- the fields in their order, and their rules, up to work RAM
abbrev pub number_fields : ℕ → Numbers68 → List Field
number_fields at n =
    quad n.next (is_soon n.next at)
    ∷ byte n.stage (nat_le n.stage 2)
    ∷ quad n.start (is_start at n)
    ∷ long n.d0 true
    ∷ long n.d1 true
    ∷ long n.d2 true
    ∷ long n.d3 true
    ∷ long n.d4 true
    ∷ long n.d5 true
    ∷ long n.d6 true
    ∷ long n.d7 true
    ∷ long n.a0 true
    ∷ long n.a1 true
    ∷ long n.a2 true
    ∷ long n.a3 true
    ∷ long n.a4 true
    ∷ long n.a5 true
    ∷ long n.a6 true
    ∷ long n.usp true
    ∷ long n.ssp true
    ∷ long n.pc true
    ∷ word n.sr (bit_and n.sr 0xa71f == n.sr)
    ∷ byte n.stopped (nat_le n.stopped 1)
    ∷ byte n.halted (is_halted n)
    ∷ byte n.trace (nat_le n.trace 1)
    ∷ quad n.since (is_since at n)
    ∷ byte n.cause (is_cause n)
    ∷ byte n.count (are_answers n)
    ∷ words 32 n.answers true
    ∷ long n.source true
    ∷ long n.words (are_words n)
    ∷ word n.cost (is_cost n)
    ∷ []

-- all of them, by whether the rule of work RAM holds
abbrev pub fields_by : ℕ → Bool → Numbers68 → List Field
fields_by at holds n = number_fields at n ++ block ram_size n.ram holds ∷ []

-- what is in a saved state, by the cartridge's image and the cycle of the state
abbrev pub chip_fields : List ℕ → ℕ → Numbers68 → List Field
chip_fields cart at n = fields_by at (asks_more cart (state_from n)) n
