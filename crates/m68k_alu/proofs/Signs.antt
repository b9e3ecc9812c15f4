-- A number doubled some times stays in its range exactly where its sign bit never changes on the
-- way.
use Rattle.std.proofs.Common.{◌≡◌, ℕ, zero, suc, ◌+◌, ◌-◌, ◌*◌, ◌%◌, ◌^◌, ◌<◌, ◌≤◌, Bool, false, nat_le, nat_lt, refl, sym, ap, ◌∙◌, arith}
use Rattle.std.proofs.lemmas.Bool.Decides.{nat_tests}
use Rattle.std.proofs.Math.Nat.{add-mul, mod-eq_of_lt, mul-add, mul-add-mod_self_left, mul-le-mul_left, mul-suc, two-pow-succ}
use Rattle.std.proofs.Math.Pow.{pow_mono}
use Rattle.std.proofs.lemmas.Nat.{mul-le}
use Rattle.md_word.specs.Width.{half_of, modulus_of}
use Rattle.md_word.specs.declared.size.Size.{Size}
use Rattle.md_word.specs.declared.size.Size.TheVariants.{Byte, Word, Long}
use Rattle.m68k_alu.specs.Shifts.{SignStays}

smaller_shift : (t k c : ℕ) → k ≤ c → t * 2 ^ k ≤ t * 2 ^ c
smaller_shift t k c h = mul-le-mul_left t (pow_mono {i = k} {j = c} h)

shifted_once_more : (t n : ℕ) → t * 2 ^ suc n ≡ t * 2 ^ n + t * 2 ^ n
shifted_once_more t n = ap (λ x. t * x) (two-pow-succ n) ∙ mul-add t (2 ^ n) (2 ^ n)

-- a number that is v below a multiple of m
mod_below : (m p v n : ℕ) → 0 < v → v ≤ m → n + v ≡ m * suc p → n % m ≡ m - v
mod_below m p v n some most e =
    let more : m * suc p ≡ m * p + m = mul-suc m p in
    let n_is : n ≡ m * p + (m - v) = omega arith in
    let less : m - v < m = omega arith in
    rw n_is (mul-add-mod_self_left m p (m - v) ∙ mod-eq_of_lt less)

complement_times : (m t p : ℕ) → t < m → 0 < (m - t) * suc p → (m - t) * suc p ≤ m → t * suc p % m ≡ m - (m - t) * suc p
complement_times m t p h some most =
    let whole : t + (m - t) ≡ m = omega arith in
    let e : t * suc p + (m - t) * suc p ≡ m * suc p = sym (add-mul t (m - t) (suc p)) ∙ ap (λ x. x * suc p) whole in
    mod_below m p ((m - t) * suc p) (t * suc p) some most e

complement_some : (m t k : ℕ) → t < m → 0 < (m - t) * 2 ^ k
complement_some m t k h = let most : (m - t) * 2 ^ 0 ≤ (m - t) * 2 ^ k = smaller_shift (m - t) 0 k (omega arith) in omega arith

complement_shifted : (m t k : ℕ) → t < m → (m - t) * 2 ^ k ≤ m → t * 2 ^ k % m ≡ m - (m - t) * 2 ^ k
complement_shifted m t k h most =
    let some : 1 ≤ 2 ^ k = pow_mono {i = 0} {j = k} (omega arith) in
    let power : 2 ^ k ≡ suc (2 ^ k - 1) = omega arith in
    let positive : 0 < (m - t) * 2 ^ k = complement_some m t k h in
    let positive_too : 0 < (m - t) * suc (2 ^ k - 1) = rw (← power) positive in
    let most_too : (m - t) * suc (2 ^ k - 1) ≤ m = rw (← power) most in
    rw power (complement_times m t (2 ^ k - 1) h positive_too most_too)

kept_positive : (h m t c : ℕ) → h + h ≡ m → t < h → t * 2 ^ c < h → (k : ℕ) → k ≤ c → nat_le h (t * 2 ^ k % m) ≡ nat_le h t
kept_positive h m t c e l s k q =
    let less : t * 2 ^ k ≤ t * 2 ^ c = smaller_shift t k c q in
    let same : t * 2 ^ k % m ≡ t * 2 ^ k = mod-eq_of_lt (omega arith) in
    rw same (grind (arith, nat_tests))

kept_negative : (h m t c : ℕ) → h + h ≡ m → h ≤ t → t < m → (m - t) * 2 ^ c ≤ h → (k : ℕ) → k ≤ c → nat_le h (t * 2 ^ k % m) ≡ nat_le h t
kept_negative h m t c e l u s k q =
    let less : (m - t) * 2 ^ k ≤ (m - t) * 2 ^ c = smaller_shift (m - t) k c q in
    let same : t * 2 ^ k % m ≡ m - (m - t) * 2 ^ k = complement_shifted m t k u (omega arith) in
    rw same (grind (arith, nat_tests))

needed_positive : (h m t c : ℕ) → h + h ≡ m → t < h → ((k : ℕ) → k ≤ c → nat_le h (t * 2 ^ k % m) ≡ nat_le h t) → t * 2 ^ c < h
needed_positive h m t zero e l stays = omega arith
needed_positive h m t (suc c) e l stays =
    let before : t * 2 ^ c < h = needed_positive h m t c e l (λ k q. stays k (omega arith)) in
    let twice = shifted_once_more t c in
    let same : t * 2 ^ suc c % m ≡ t * 2 ^ suc c = mod-eq_of_lt (omega arith) in
    let sign : nat_le h (t * 2 ^ suc c) ≡ nat_le h t = rw same at (stays (suc c) (omega arith)) in
    grind (arith, nat_tests)

needed_negative : (h m t c : ℕ) → h + h ≡ m → h ≤ t → t < m → ((k : ℕ) → k ≤ c → nat_le h (t * 2 ^ k % m) ≡ nat_le h t) → (m - t) * 2 ^ c ≤ h
needed_negative h m t zero e l u stays = omega arith
needed_negative h m t (suc c) e l u stays =
    let before : (m - t) * 2 ^ c ≤ h = needed_negative h m t c e l u (λ k q. stays k (omega arith)) in
    let twice = shifted_once_more (m - t) c in
    let same : t * 2 ^ suc c % m ≡ m - (m - t) * 2 ^ suc c = complement_shifted m t (suc c) u (omega arith) in
    let sign : nat_le h (m - (m - t) * 2 ^ suc c) ≡ nat_le h t = rw same at (stays (suc c) (omega arith)) in
    grind (arith, nat_tests)

twice_half : (size : Size) → half_of size + half_of size ≡ modulus_of size
twice_half Byte = refl
twice_half Word = refl
twice_half Long = refl

pub positive_sign : (size : Size) (c t : ℕ) (v : Bool) → t < half_of size → v ≡ nat_le (half_of size) (t * 2 ^ c) → (v ≡ false → SignStays size c t) × (SignStays size c t → v ≡ false)
positive_sign size c t v l e = (
  λ f. kept_positive (half_of size) (modulus_of size) t c (twice_half size) l (grind (arith, nat_tests)),
  λ stays. let less = needed_positive (half_of size) (modulus_of size) t c (twice_half size) l stays in grind (arith, nat_tests),
)

pub negative_sign : (size : Size) (c t : ℕ) (v : Bool) → half_of size ≤ t → t < modulus_of size → v ≡ nat_lt (half_of size) ((modulus_of size - t) * 2 ^ c) → (v ≡ false → SignStays size c t) × (SignStays size c t → v ≡ false)
negative_sign size c t v l u e = (
  λ f. kept_negative (half_of size) (modulus_of size) t c (twice_half size) l u (grind (arith, nat_tests)),
  λ stays. let less = needed_negative (half_of size) (modulus_of size) t c (twice_half size) l u stays in grind (arith, nat_tests),
)

-- what the code's wide shift gives
pub wide_shift : (t c : ℕ) → t ≤ 0xffff_ffff → c < 64 → t * 2 ^ c % 340282366920938463463374607431768211456 ≡ t * 2 ^ c
wide_shift t c h k =
    let power : 2 ^ c ≤ 2 ^ 63 = pow_mono {i = c} {j = 63} (omega arith) in
    let most : t * 2 ^ c ≤ 0xffff_ffff * 2 ^ 63 = mul-le t (2 ^ c) 0xffff_ffff (2 ^ 63) h power in
    mod-eq_of_lt (omega arith)
