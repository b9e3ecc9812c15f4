-- What holds of each demonstration cartridge.
use Rattle.std.proofs.Common.{◌≡◌, ℕ, zero, suc, ◌*◌, true, None, List, length, refl, ◌∙◌, length-append, arith}
use Rattle.std.specs.List.{flat_map}
use Rattle.rand_core.specs.Steps.{first_words}
use Rattle.rand_pcg.specs.Lcg.{Lcg}
use Rattle.rand_pcg.specs.Pcg.{pcg32}
use Rattle.rom_header.specs.Cartridge.{fault_of, has_magic, image}
use Rattle.md_demo.specs.Demo.{demo_cart, generator, head, long, program, stream, vectors}

-- a word has four bytes
length-words : (n : ℕ) (g : Lcg) → length (flat_map long (first_words pcg32 n g)) ≡ 4 * n
unfolding first_words
length-words zero g = refl
length-words (suc n) g =
    length-append (long (pcg32 g).0) _ ∙ (let more : length (flat_map long (first_words pcg32 n (pcg32 g).1)) ≡ 4 * n = length-words n (pcg32 g).1 in omega arith)

length-head : length head ≡ 4096
unfolding head program vectors
length-head = refl

-- it has 1 MiB
pub length-demo_cart : (number : ℕ) → length (demo_cart number) ≡ 1048576
unfolding demo_cart stream
length-demo_cart number = length-append head _ ∙ (rw (length-head, length-words 261120 (generator number)) refl)

-- the console's magic is at 100h
has_magic-demo_cart : (number : ℕ) → has_magic (demo_cart number) ≡ true
unfolding demo_cart head program vectors
has_magic-demo_cart number = refl

-- bytes with a length and a magic are accepted
fault_of-marked : (bytes : List ℕ) → length bytes ≡ 1048576 → has_magic bytes ≡ true → fault_of bytes ≡ None
fault_of-marked bytes size marked = rw (size, marked) refl

-- it is accepted as a cartridge
pub fault_of-demo_cart : (number : ℕ) → fault_of (demo_cart number) ≡ None
fault_of-demo_cart number = fault_of-marked _ (length-demo_cart number) (has_magic-demo_cart number)

-- it is its image
pub image-demo_cart : (number : ℕ) → image (demo_cart number) ≡ demo_cart number
image-demo_cart number = rw (length-demo_cart number) refl
