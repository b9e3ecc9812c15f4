-- The demonstration cartridge of a number. This project's profile.
use Rattle.std.specs.Prelude.{ℕ, ◌-◌, List, [], ◌∷◌, ◌++◌, length, replicate, codes}
use Rattle.std.specs.Int.{w16, w32, to_be_bytes}
use Rattle.std.specs.List.{flat_map}
use Rattle.rand_core.specs.Steps.{first_words}
use Rattle.rand_pcg.specs.Lcg.{Lcg, increment_of, started}
use Rattle.rand_pcg.specs.Pcg.{multiplier_64, pcg32}

-- a word in two bytes, the high one first
abbrev pub word : ℕ → List ℕ
word = to_be_bytes w16

-- a long in four bytes, the highest first
abbrev pub long : ℕ → List ℕ
long = to_be_bytes w32

-- bytes, and after them zeros up to a length
abbrev pub filled_to : ℕ → List ℕ → List ℕ
filled_to size bytes = bytes ++ replicate (size - length bytes) 0

-- the 64 vectors: the stack pointer, the program's start, and the handler for each exception
unfoldable pub vectors : List ℕ
vectors = flat_map long (0x00fff000 ∷ 0x00000200 ∷ replicate 62 0x00000280)

-- the program
unfoldable pub program : List ℕ
program =
    -- move #$2700,sr; lea $c00004,a0; lea $c00000,a1; lea $1000,a2
    0x46fc ∷ 0x2700 ∷ 0x41f9 ∷ 0x00c0 ∷ 0x0004 ∷ 0x43f9 ∷ 0x00c0 ∷ 0x0000 ∷ 0x45f9 ∷ 0x0000 ∷ 0x1000
    -- move.w #$8f02,(a0); move.w #$8174,(a0)
    ∷ 0x30bc ∷ 0x8f02 ∷ 0x30bc ∷ 0x8174
    -- move.l #$40000000,(a0); move.w #$7fff,d0; move.w (a2)+,(a1); dbra d0 to that
    ∷ 0x20bc ∷ 0x4000 ∷ 0x0000 ∷ 0x303c ∷ 0x7fff ∷ 0x329a ∷ 0x51c8 ∷ 0xfffc
    -- move.l #$c0000000,(a0); move.w #$003f,d0; move.w (a2)+,(a1); dbra d0 to that
    ∷ 0x20bc ∷ 0xc000 ∷ 0x0000 ∷ 0x303c ∷ 0x003f ∷ 0x329a ∷ 0x51c8 ∷ 0xfffc
    -- move.b (a2),$c00011; cmpa.l #$e0000,a2; bcs back; lea $1000,a2; bra back
    ∷ 0x13d2 ∷ 0x00c0 ∷ 0x0011 ∷ 0xb5fc ∷ 0x000e ∷ 0x0000 ∷ 0x65d2 ∷ 0x45f9 ∷ 0x0000 ∷ 0x1000 ∷ 0x60ca ∷ []

-- what is below 1000h: the vectors at 0, the console's magic at 100h, the program at 200h and the
-- handler, an `rte`, at 280h; all else is 00
unfoldable pub head : List ℕ
head =
    filled_to 0x1000
    (filled_to 0x280 (filled_to 0x200 (vectors ++ codes "SEGA") ++ flat_map word program) ++ flat_map word (0x4e73 ∷ []))

-- the generator of the cartridge's number: PCG's of that state, on its stream 0
abbrev pub generator : ℕ → Lcg
generator number = started 64 multiplier_64 number (increment_of 64 0)

-- what comes from 1000h on: the generator's first 261,120 words
unfoldable pub stream : ℕ → List ℕ
stream number = flat_map long (first_words pcg32 261120 (generator number))

-- the cartridge
unfoldable pub demo_cart : ℕ → List ℕ
demo_cart number = head ++ stream number
