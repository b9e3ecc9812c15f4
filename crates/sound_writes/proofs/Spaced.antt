-- Keys looked at one by one are those that a port holds.
use Rattle.std.proofs.Common.{◌≡◌, ℕ, zero, suc, ◌+◌, ◌<◌, ◌^◌, Bool, true, false, cond, eqb, List, [], ◌∷◌, refl, ap, ◌∙◌, arith}
use Rattle.std.specs.Prelude.{◌&&◌, ◌||◌, nat_le, nat_lt, max}
use Rattle.std.specs.List.{list_all}
use Rattle.std.proofs.lemmas.Bool.{and_parts, le-ltb, ltb-true}
use Rattle.md_word.specs.Clock.{main_gap, sub_gap}
use Rattle.md_word.specs.declared.key.Key.{Key}
use Rattle.sound_writes.specs.declared.earliest.Earliest.{Earliest}
use Rattle.sound_writes.specs.Keys.{all_fit, after, are_kept, are_spaced, following_batch, fits, is_following, is_kept, last_batch, later}

-- the same over the parts of the keys
main_main : (at main c d : ℕ) → at < 2 ^ 64 → (nat_le main c && nat_lt c at) ≡ true
    → (nat_le (later c main_gap) d && nat_lt d at) ≡ ((nat_le main d && nat_lt d at) && ((nat_lt c d || (eqb c d && false)) && nat_le (c + main_gap) d))
main_main at main c d few fit = grind (arith, few, fit)

main_sub : (at main sub c d : ℕ) → at < 2 ^ 64 → (nat_le main c && nat_lt c at) ≡ true
    → (nat_le (max sub c) d && nat_lt d at) ≡ ((nat_le sub d && nat_lt d at) && ((nat_lt c d || (eqb c d && true)) && true))
main_sub at main sub c d few fit = grind (arith, few, fit)

sub_main : (at main sub c d : ℕ) → at < 2 ^ 64 → (nat_le sub c && nat_lt c at) ≡ true
    → (nat_le (max main (later c 1)) d && nat_lt d at) ≡ ((nat_le main d && nat_lt d at) && ((nat_lt c d || (eqb c d && false)) && true))
sub_main at main sub c d few fit = grind (arith, few, fit)

sub_sub : (at sub c d : ℕ) → at < 2 ^ 64 → (nat_le sub c && nat_lt c at) ≡ true
    → (nat_le (later c sub_gap) d && nat_lt d at) ≡ ((nat_le sub d && nat_lt d at) && ((nat_lt c d || (eqb c d && false)) && nat_le (c + sub_gap) d))
sub_sub at sub c d few fit = grind (arith, few, fit)

-- there is no third processor
no_third : (n : ℕ) (a b c : Bool) → (nat_lt (suc (suc n)) 2 && a) ≡ ((nat_lt (suc (suc n)) 2 && b) && c)
no_third n a b c = let none : nat_lt (suc (suc n)) 2 ≡ false = le-ltb (suc (suc n)) 2 (omega arith) in rw none refl

fits_by : (at main sub c d n m : ℕ) → at < 2 ^ 64 → fits at (record { main = main; sub = sub }) (record { cycle = c; chip = n }) ≡ true
    → fits at (after (record { cycle = c; chip = n }) (record { main = main; sub = sub })) (record { cycle = d; chip = m })
    ≡ (fits at (record { main = main; sub = sub }) (record { cycle = d; chip = m }) && is_following (record { cycle = c; chip = n }) (record { cycle = d; chip = m }))
fits_by at main sub c d zero zero few fit = main_main at main c d few fit
fits_by at main sub c d zero (suc zero) few fit = main_sub at main sub c d few fit
fits_by at main sub c d zero (suc (suc m)) few fit = no_third m _ _ _
fits_by at main sub c d (suc zero) zero few fit = sub_main at main sub c d few fit
fits_by at main sub c d (suc zero) (suc zero) few fit = sub_sub at sub c d few fit
fits_by at main sub c d (suc zero) (suc (suc m)) few fit = no_third m _ _ _
fits_by at main sub c d (suc (suc n)) m few fit = absurd (let below = ltb-true (suc (suc n)) 2 (and_parts _ _ fit).0 in omega (arith, below))

fits_after : (at : ℕ) (e : Earliest) (key next : Key) → at < 2 ^ 64 → fits at e key ≡ true → fits at (after key e) next ≡ (fits at e next && is_following key next)
fits_after at e key next few fit = fits_by at e.main e.sub key.cycle next.cycle key.chip next.chip few fit

all_both : (p q : Key → Bool) (keys : List Key) → list_all (λ k. p k && q k) keys ≡ (list_all p keys && list_all q keys)
all_both p q [] = refl
all_both p q (k ∷ ks) = grind (arith, all_both p q ks)

all_same : (p q : Key → Bool) (keys : List Key) → ((k : Key) → p k ≡ q k) → list_all p keys ≡ list_all q keys
all_same p q [] h = refl
all_same p q (k ∷ ks) h = grind (arith, all_same p q ks h, h k)

and_swap : (a b c : Bool) → ((a && b) && c) ≡ (a && (b && c))
and_swap true b c = refl
and_swap false b c = refl

next_fits : (at : ℕ) (few : at < 2 ^ 64) (e : Earliest) (key : Key) (rest : List Key) (fit : Bool) → fits at e key ≡ fit
    → all_fit at (after key e) rest ≡ (list_all (fits at (after key e)) rest && are_spaced rest)
    → (fit && all_fit at (after key e) rest) ≡ ((fit && list_all (fits at e) rest) && (list_all (is_following key) rest && are_spaced rest))
next_fits at few e key rest false is h = refl
next_fits at few e key rest true is h =
    h ∙ ap (λ (b : Bool). b && are_spaced rest)
    (all_same (fits at (after key e)) (λ k. fits at e k && is_following key k) rest (λ k. fits_after at e key k few is)
    ∙ all_both (fits at e) (is_following key) rest)
    ∙ and_swap (list_all (fits at e) rest) (list_all (is_following key) rest) (are_spaced rest)

all_fit_is : (at : ℕ) → at < 2 ^ 64 → (e : Earliest) (keys : List Key) → all_fit at e keys ≡ (list_all (fits at e) keys && are_spaced keys)
unfolding all_fit
all_fit_is at few e [] = refl
all_fit_is at few e (key ∷ rest) = next_fits at few e key rest (fits at e key) refl (all_fit_is at few (after key e) rest)

same_from : (b : Bool) (n : ℕ) → cond b n n ≡ n
same_from true n = refl
same_from false n = refl

first_fits : (at : ℕ) (key : Key) → fits at (following_batch at) key ≡ is_kept at key
first_fits at key = rw (same_from _ (last_batch at)) refl

-- from where no write was looked at
pub all_kept : (at : ℕ) (keys : List Key) → at < 2 ^ 64 → all_fit at (following_batch at) keys ≡ are_kept at keys
all_kept at keys few =
    all_fit_is at few (following_batch at) keys
    ∙ ap (λ (b : Bool). b && are_spaced keys) (all_same (fits at (following_batch at)) (is_kept at) keys (first_fits at))
