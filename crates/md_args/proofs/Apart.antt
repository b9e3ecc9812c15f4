-- Names of which no two are the same.
use Rattle.std.proofs.Common.{◌≡◌, Bool, true, List, [], ◌∷◌, ◌++◌, Option}
use Rattle.std.specs.List.{list_all}
use Rattle.std.proofs.lemmas.Bool.{and_parts}
use Rattle.clap.specs.Walk.{Text}
use Rattle.md_args.specs.Commands.{are_names, differ}

among : {X : Type 0} (test : X → Bool) (before after : List X) (one : X) → list_all test (before ++ one ∷ after) ≡ true → test one ≡ true
among test [] after one all = (and_parts _ _ all).0
among test (x ∷ before) after one all = among test before after one (and_parts _ _ all).1

following : (before names : List (Option Text)) → are_names (before ++ names) ≡ true → are_names names ≡ true
following [] names are = are
following (name ∷ before) names are = following before names (and_parts _ _ are).1

-- two of the names differ
pub apart : (before between after : List (Option Text)) (name other : Option Text) → are_names (before ++ name ∷ (between ++ other ∷ after)) ≡ true
    → differ name other ≡ true
apart before between after name other are =
    let here = (and_parts _ _ (following before (name ∷ (between ++ other ∷ after)) are)).0 in
    among (differ name) between after other (and_parts _ _ here).1
