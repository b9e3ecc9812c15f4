-- A number that is so much above another.
use Rattle.std.proofs.Common.{◌≡◌, ℕ, ◌+◌, ◌-◌, true, arith}
use Rattle.std.proofs.lemmas.Bool.{and_from, and_parts, eq-eqb, eqb-true, le-leb, leb-true}
use Rattle.md_fields.specs.Distances.{is_after}

pub after_is : (later earlier distance : ℕ) → is_after later earlier distance ≡ true → later ≡ earlier + distance
after_is later earlier distance e =
    let p = and_parts _ _ e in
    let le = leb-true earlier later p.0 in
    let same = eqb-true (later - earlier) distance p.1 in
    omega (arith, le, same)

pub is_after_by : (later earlier distance : ℕ) → later ≡ earlier + distance → is_after later earlier distance ≡ true
is_after_by later earlier distance e = and_from _ _ (le-leb earlier later (omega (arith, e))) (eq-eqb (later - earlier) distance (omega (arith, e)))
