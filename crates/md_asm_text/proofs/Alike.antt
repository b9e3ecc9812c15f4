-- Tokens that are alike are the same.
use Rattle.std.proofs.Common.{◌≡◌, true, List, [], ◌∷◌, refl, ap}
use Rattle.std.proofs.lemmas.Bool.{and_parts, eq-eqb, eqb-true}
use Rattle.std.proofs.lemmas.Slice.Eq.{bytes_eq-Decides}
use Rattle.md_asm_text.specs.Alike.{alike, all_alike}
use Rattle.md_asm_text.specs.Tokens.{Token, Word, Number, Name, Mark}

alike_is : (p q : Token) → alike p q ≡ true → p ≡ q
alike_is (Word a) (Word b) h = ap Word ((bytes_eq-Decides a b).0 h)
alike_is (Word a) (Number b) h = cc
alike_is (Word a) (Name b) h = cc
alike_is (Word a) (Mark b) h = cc
alike_is (Number a) (Word b) h = cc
alike_is (Number a) (Number b) h = ap Number (eqb-true a b h)
alike_is (Number a) (Name b) h = cc
alike_is (Number a) (Mark b) h = cc
alike_is (Name a) (Word b) h = cc
alike_is (Name a) (Number b) h = cc
alike_is (Name a) (Name b) h = ap Name ((bytes_eq-Decides a b).0 h)
alike_is (Name a) (Mark b) h = cc
alike_is (Mark a) (Word b) h = cc
alike_is (Mark a) (Number b) h = cc
alike_is (Mark a) (Name b) h = cc
alike_is (Mark a) (Mark b) h = ap Mark (eqb-true a b h)

alike_self : (p : Token) → alike p p ≡ true
alike_self (Word a) = (bytes_eq-Decides a a).1 refl
alike_self (Number a) = eq-eqb a a refl
alike_self (Name a) = (bytes_eq-Decides a a).1 refl
alike_self (Mark a) = eq-eqb a a refl

pub all_alike_is : (ps qs : List Token) → all_alike ps qs ≡ true → ps ≡ qs
unfolding all_alike
all_alike_is [] [] h = refl
all_alike_is [] (q ∷ qs) h = cc
all_alike_is (p ∷ ps) [] h = cc
all_alike_is (p ∷ ps) (q ∷ qs) h =
    let parts = and_parts (alike p q) (all_alike ps qs) h in
    let first = alike_is p q parts.0 in
    let rest = all_alike_is ps qs parts.1 in
    cc

pub all_alike_self : (ps : List Token) → all_alike ps ps ≡ true
unfolding all_alike
all_alike_self [] = refl
all_alike_self (p ∷ ps) = rw (alike_self p, all_alike_self ps) refl
