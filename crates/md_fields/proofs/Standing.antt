-- Fields that are in bytes spell them, and fields that are spelled are there.
use Rattle.std.proofs.Common.{set, ◌≡◌, ℕ, zero, suc, ◌+◌, ◌^◌, ◌<◌, ◌≤◌, List, [], ◌∷◌, ◌++◌, length, ◌*◌, ◌-◌, get_or, take, drop, refl, sym, ap, subst, ◌∙◌, append_assoc, arith, inl, inr}
use Rattle.std.specs.List.{flat_map, AllByRecursion}
use Rattle.std.proofs.Math.Seq.{take-append-add}
use Rattle.std.specs.Int.{Width, w16, w32, w64, byte_len, from_be_bytes, to_be_bytes}
use Rattle.std.proofs.lemmas.Bool.{cases_lt}
use Rattle.std.proofs.lemmas.List.{take_at, drop_at, take-append-drop, length-append, append-nil, length-take, length-drop, get_or-drop, get_or-take, get_or_past, get_or-set_same, get_or-set_other, drop_all, drop-drop, drop_more, drop-take, take-take}
use Rattle.std.proofs.lemmas.Nat.{be_bytes_2, be_bytes_4, be_bytes_8, from_be_bytes-to_be_bytes_2, from_be_bytes-to_be_bytes_4, from_be_bytes-to_be_bytes_8}
use Rattle.md_fields.specs.Fields.{Field, byte, word, long, quad, words, block, bytes_of, size_of, spelling, sizes, IsWithin, AreWithin, IsSized, AreSized}
use Rattle.md_fields.specs.Places.{IsBytes, number_at, WordsAt, IsAt, Stand}

-- what is left of bytes after an offset, and up to one, is bytes
pub IsBytes-drop : (n : ℕ) (bytes : List ℕ) → IsBytes bytes → IsBytes (drop n bytes)
IsBytes-drop n bytes h i = rw get_or-drop (h (n + i))

pub IsBytes-take : (n : ℕ) (bytes : List ℕ) → IsBytes bytes → IsBytes (take n bytes)
IsBytes-take n bytes h i =
    elim (cases_lt i n) [
      | inl lt ↦ rw (get_or-take n bytes i 0 lt) (h i)
      | inr le ↦ rw (get_or_past (take n bytes) i 0 (omega (arith, length-take n bytes))) (omega arith)
    ]

-- fields from an offset on begin within the bytes
pub within : (place : ℕ) (fs : List Field) (bytes : List ℕ) → Stand place fs bytes → place + sizes fs ≡ length bytes
unfolding Stand sizes
within place [] bytes e = omega (arith, e)
within place (f ∷ fs) bytes p = omega (arith, within (place + size_of f) fs bytes p.1)

word_part : (n place : ℕ) (bytes : List ℕ) → IsBytes bytes → place + 2 ≤ length bytes → n ≡ number_at w16 place bytes → to_be_bytes w16 n ≡ take 2 (drop place bytes)
unfolding number_at
word_part n place bytes fits room e = be_bytes_2 _ n (omega (arith, length-take 2 (drop place bytes), length-drop place bytes)) (IsBytes-take 2 _ (IsBytes-drop place bytes fits)) e

words_part : (ns : List ℕ) (place : ℕ) (bytes : List ℕ) → IsBytes bytes → place + 2 * length ns ≤ length bytes → WordsAt ns place bytes → flat_map (to_be_bytes w16) ns ≡ take (2 * length ns) (drop place bytes)
unfolding number_at
words_part [] place bytes fits room at = refl
words_part (n ∷ ns) place bytes fits room at =
    let first : to_be_bytes w16 n ≡ take 2 (drop place bytes) = word_part n place bytes fits (omega (arith, room)) (at 0 (omega arith) ∙ ap (λ (k : ℕ). number_at w16 k bytes) (omega arith)) in
    let next : WordsAt ns (place + 2) bytes = λ k lt. at (suc k) (omega (arith, lt)) ∙ ap (λ (i : ℕ). number_at w16 i bytes) (omega arith) in
    let others = words_part ns (place + 2) bytes fits (omega (arith, room)) next in
    let pair : length (take 2 (drop place bytes)) ≡ 2 = omega (arith, length-take 2 (drop place bytes), length-drop place bytes, room) in
    let parts : take 2 (drop place bytes) ++ take (2 * length ns) (drop 2 (drop place bytes)) ≡ take (2 + 2 * length ns) (drop place bytes) =
    sym (take-append-add (take 2 (drop place bytes)) (drop 2 (drop place bytes)) (2 * length ns)) ∙ ap (λ (k : ℕ). take (k + 2 * length ns) (take 2 (drop place bytes) ++ drop 2 (drop place bytes))) pair ∙ ap (take (2 + 2 * length ns)) (take-append-drop 2 (drop place bytes)) in
    ap (λ (l : List ℕ). l ++ flat_map (to_be_bytes w16) ns) first
    ∙ ap (λ (l : List ℕ). take 2 (drop place bytes) ++ l) (others ∙ ap (take (2 * length ns)) (sym (drop-drop 2 place bytes)))
    ∙ parts ∙ ap (λ (k : ℕ). take k (drop place bytes)) (omega arith)

-- words have two bytes each
pub words_size : (ns : List ℕ) → length (flat_map (to_be_bytes w16) ns) ≡ 2 * length ns
words_size [] = refl
words_size (n ∷ ns) = omega (arith, words_size ns)

words_stand : (ns front rest : List ℕ) → AllByRecursion (λ n. n < 2 ^ 16) ns → WordsAt ns (length front) (front ++ (flat_map (to_be_bytes w16) ns ++ rest))
unfolding number_at
words_stand [] front rest w k lt = absurd (omega (arith, lt))
words_stand (n ∷ ns) front rest w zero lt =
    sym (ap (λ (k : ℕ). number_at w16 k (front ++ (flat_map (to_be_bytes w16) (n ∷ ns) ++ rest))) (omega arith) ∙ ap (from_be_bytes w16) (ap (take 2) (drop_at front (to_be_bytes w16 n ++ (flat_map (to_be_bytes w16) ns ++ rest)) (length front) refl) ∙ take_at (to_be_bytes w16 n) (flat_map (to_be_bytes w16) ns ++ rest) 2 refl) ∙ from_be_bytes-to_be_bytes_2 n (w.0))
words_stand (n ∷ ns) front rest w (suc k) lt =
    let tail = words_stand ns (front ++ to_be_bytes w16 n) rest w.1 k (omega (arith, lt)) in
    let place : length (front ++ to_be_bytes w16 n) + 2 * k ≡ length front + 2 * suc k = omega (arith, length-append front (to_be_bytes w16 n)) in
    tail ∙ ap (λ (b : List ℕ). number_at w16 (length (front ++ to_be_bytes w16 n) + 2 * k) b) (append_assoc front (to_be_bytes w16 n) (flat_map (to_be_bytes w16) ns ++ rest)) ∙ ap (λ (i : ℕ). number_at w16 i (front ++ (flat_map (to_be_bytes w16) (n ∷ ns) ++ rest))) place

-- the bytes of a field at an offset
pub part : (f : Field) (place : ℕ) (bytes : List ℕ) → IsBytes bytes → place + size_of f ≤ length bytes → IsAt f place bytes → bytes_of f ≡ take (size_of f) (drop place bytes)
unfolding number_at
part (byte n holds) place bytes fits room e = rw (drop_more bytes place 0 (omega (arith, room)), e) refl
part (word n holds) place bytes fits room e = be_bytes_2 _ n (omega (arith, length-take 2 (drop place bytes), length-drop place bytes)) (IsBytes-take 2 _ (IsBytes-drop place bytes fits)) e
part (long n holds) place bytes fits room e = be_bytes_4 _ n (omega (arith, length-take 4 (drop place bytes), length-drop place bytes)) (IsBytes-take 4 _ (IsBytes-drop place bytes fits)) e
part (quad n holds) place bytes fits room e = be_bytes_8 _ n (omega (arith, length-take 8 (drop place bytes), length-drop place bytes)) (IsBytes-take 8 _ (IsBytes-drop place bytes fits)) e
part (words count ns holds) place bytes fits room e = words_part ns place bytes fits (omega (arith, room, e.0)) e.1 ∙ ap (λ (k : ℕ). take (2 * k) (drop place bytes)) e.0
part (block size b holds) place bytes fits room e = e

-- fields from an offset on spell what is left of the bytes from there
pub spelled_from : (place : ℕ) (fs : List Field) (bytes : List ℕ) → IsBytes bytes → Stand place fs bytes → spelling fs ≡ drop place bytes
unfolding Stand spelling
spelled_from place [] bytes fits e = sym (drop_all place bytes (omega (arith, e)))
spelled_from place (f ∷ fs) bytes fits p =
    let tail = spelled_from (place + size_of f) fs bytes fits p.1 in
    let room : place + size_of f ≤ length bytes = omega (arith, within (place + size_of f) fs bytes p.1) in
    rw (part f place bytes fits room p.0, tail, ← drop-drop (size_of f) place bytes) (take-append-drop (size_of f) (drop place bytes))

size_is : (f : Field) → IsWithin f → length (bytes_of f) ≡ size_of f
size_is (byte n holds) w = refl
size_is (word n holds) w = refl
size_is (long n holds) w = refl
size_is (quad n holds) w = refl
size_is (words count ns holds) w = words_size ns ∙ ap (λ (k : ℕ). 2 * k) w.0
size_is (block size b holds) w = w

-- a field that is spelled after a prefix is there
pub stands : (f : Field) (front rest : List ℕ) → IsWithin f → IsAt f (length front) (front ++ (bytes_of f ++ rest))
unfolding number_at
stands (byte n holds) front rest w = sym (ap (λ (l : List ℕ). get_or l 0 0) (drop_at front (n ∷ rest) (length front) refl)) ∙ get_or-drop (length front) (front ++ (n ∷ rest)) 0 0 ∙ ap (λ (k : ℕ). get_or (front ++ (n ∷ rest)) k 0) (omega arith)
stands (word n holds) front rest w = sym (ap (from_be_bytes w16) (ap (take 2) (drop_at front (to_be_bytes w16 n ++ rest) (length front) refl) ∙ take_at (to_be_bytes w16 n) rest 2 refl) ∙ from_be_bytes-to_be_bytes_2 n w)
stands (long n holds) front rest w = sym (ap (from_be_bytes w32) (ap (take 4) (drop_at front (to_be_bytes w32 n ++ rest) (length front) refl) ∙ take_at (to_be_bytes w32 n) rest 4 refl) ∙ from_be_bytes-to_be_bytes_4 n w)
stands (quad n holds) front rest w = sym (ap (from_be_bytes w64) (ap (take 8) (drop_at front (to_be_bytes w64 n ++ rest) (length front) refl) ∙ take_at (to_be_bytes w64 n) rest 8 refl) ∙ from_be_bytes-to_be_bytes_8 n w)
stands (words count ns holds) front rest w = (w.0, words_stand ns front rest w.1)
stands (block size b holds) front rest w = sym (ap (take size) (drop_at front (b ++ rest) (length front) refl) ∙ take_at b rest size w)

-- fields that fit their bytes are after any prefix in what they spell
pub stand_after : (front : List ℕ) (fs : List Field) → AreWithin fs → Stand (length front) fs (front ++ spelling fs)
unfolding Stand spelling AreWithin
stand_after front [] w = ap length (append-nil front)
stand_after front (f ∷ fs) w =
    let next : length (front ++ bytes_of f) ≡ length front + size_of f = omega (arith, length-append front (bytes_of f), size_is f w.0) in
    let tail = stand_after (front ++ bytes_of f) fs w.1 in
    let moved : Stand (length front + size_of f) fs ((front ++ bytes_of f) ++ spelling fs) = subst (λ (k : ℕ). Stand k fs ((front ++ bytes_of f) ++ spelling fs)) next tail in
    (stands f front (spelling fs) w.0, subst (λ (bytes : List ℕ). Stand (length front + size_of f) fs bytes) (append_assoc front (bytes_of f) (spelling fs)) moved)

-- fields that are in bytes spell them
pub spelled : (fs : List Field) (bytes : List ℕ) → IsBytes bytes → Stand 0 fs bytes → spelling fs ≡ bytes
spelled fs bytes fits p = spelled_from 0 fs bytes fits p

-- fields that spell bytes are in them
pub spelled_stand : (fs : List Field) (bytes : List ℕ) → AreWithin fs → spelling fs ≡ bytes → Stand 0 fs bytes
spelled_stand fs bytes w e = subst (λ (b : List ℕ). Stand 0 fs b) e (stand_after [] fs w)

-- what fields spell is as long as their sizes say, where the values fit
pub long_as : (fs : List Field) → AreWithin fs → length (spelling fs) ≡ sizes fs
unfolding spelling sizes AreWithin
long_as [] w = refl
long_as (f ∷ fs) w = omega (arith, length-append (bytes_of f) (spelling fs), size_is f w.0, long_as fs w.1)

sized_is : (f : Field) → IsSized f → length (bytes_of f) ≡ size_of f
sized_is (byte n holds) w = refl
sized_is (word n holds) w = refl
sized_is (long n holds) w = refl
sized_is (quad n holds) w = refl
sized_is (words count ns holds) w = words_size ns ∙ ap (λ (k : ℕ). 2 * k) w
sized_is (block size b holds) w = w

-- the same where no more than the lengths of lists and blocks is known
pub long_as_sized : (fs : List Field) → AreSized fs → length (spelling fs) ≡ sizes fs
unfolding spelling sizes AreSized
long_as_sized [] w = refl
long_as_sized (f ∷ fs) w = omega (arith, length-append (bytes_of f) (spelling fs), sized_is f w.0, long_as_sized fs w.1)

-- one more number of a list is as wanted once it is set
pub set_more : (value : ℕ → ℕ) (ns : List ℕ) (i n : ℕ) → i < length ns → ((k : ℕ) → k < i → get_or ns k 0 ≡ value k) → n ≡ value i → (k : ℕ) → k < i + 1 → get_or (set ns i n) k 0 ≡ value k
set_more value ns i n lt before at k below =
    elim (cases_lt k i) [
      | inl less ↦ get_or-set_other ns i k n 0 (λ e. omega (arith, e, less)) ∙ before k less
      | inr more ↦ (let same : k ≡ i = omega arith in rw same (get_or-set_same ns i n 0 lt ∙ at))
    ]

-- the number at a place of a part of the bytes is the one at the place in the whole
pub number_inside : (w : Width) (offset start size : ℕ) (bytes : List ℕ) → offset + byte_len w ≤ size → number_at w offset (take size (drop start bytes)) ≡ number_at w (start + offset) bytes
unfolding number_at
number_inside w offset start size bytes fits =
    let parts : size ≡ offset + (size - offset) = omega (arith, fits) in
    let inner : drop offset (take size (drop start bytes)) ≡ take (size - offset) (drop (start + offset) bytes) =
    ap (λ (j : ℕ). drop offset (take j (drop start bytes))) parts ∙ drop-take offset (size - offset) (drop start bytes) ∙ ap (take (size - offset)) (drop-drop offset start bytes) in
    ap (λ (l : List ℕ). from_be_bytes w (take (byte_len w) l)) inner ∙ ap (from_be_bytes w) (take-take (byte_len w) (size - offset) (drop (start + offset) bytes) (omega (arith, fits)))

-- the byte at a place of a part of the bytes is the one at the place in the whole
pub byte_inside : (offset start size : ℕ) (bytes : List ℕ) → offset < size → get_or (take size (drop start bytes)) offset 0 ≡ get_or bytes (start + offset) 0
byte_inside offset start size bytes below = get_or-take size (drop start bytes) offset 0 below ∙ get_or-drop start bytes offset 0
