-- Places that were written.
use Rattle.std.proofs.Common.{◌≡◌, ℕ, zero, suc, ◌+◌, ◌-◌, ◌<◌, ◌≤◌, Bool, true, false, ◌||◌, nat_lt, List, length, get_or, replicate, refl, arith, subst, sym}
use Rattle.std.proofs.lemmas.Bool.Decides.{nat_tests}
use Rattle.std.proofs.lemmas.List.{get_or-replicate, get_or_past, length-replicate}
use Rattle.md_asm.specs.Places.{WrittenPlaces, any_written}

-- one place less is left
pub any_step : (written : WrittenPlaces) (place left : ℕ) → 0 < left
    → any_written written place left ≡ (written place || any_written written (place + 1) (left - 1))
any_step written place zero some = absurd (omega arith)
any_step written place (suc left) some = let e : suc left - 1 ≡ left = omega arith in rw e refl

pub any_on : (written : WrittenPlaces) (place left : ℕ) → 0 < left → written place ≡ false
    → any_written written (place + 1) (left - 1) ≡ any_written written place left
any_on written place left some is = rw (any_step written place left some, is) refl

-- none is written from a place on
pub none_above : (written : WrittenPlaces) (limit : ℕ) → ((k : ℕ) → limit ≤ k → written k ≡ false) → (left place : ℕ) → limit ≤ place
    → any_written written place left ≡ false
none_above written limit none zero place h = refl
none_above written limit none (suc left) place h =
    let here = none place h in
    let more = none_above written limit none left (place + 1) (omega arith) in
    rw (here, more) refl

-- what is read at a place
pub mark_at : (marks : List Bool) (at : ℕ) (r : Bool) → at < length marks → r ≡ get_or marks at r → r ≡ false → get_or marks at false ≡ false
mark_at marks at r within is off = sym (subst (λ (b : Bool). b ≡ get_or marks at b) off is)

-- no place of so many is marked
pub none_marked : (count k : ℕ) → get_or (replicate count false) k false ≡ false
none_marked count k = cases (nat_lt k count) refl
  where
    cases : (b : Bool) → nat_lt k count ≡ b → get_or (replicate count false) k false ≡ false
    cases true is = let within : k < count = grind (arith, nat_tests) in get_or-replicate count k false false within
    cases false is = let past : length (replicate count false) ≤ k = grind (arith, nat_tests, length-replicate count false) in get_or_past (replicate count false) k false past
