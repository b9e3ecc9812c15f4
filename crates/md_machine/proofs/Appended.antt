-- A list whose items were turned into bytes one after another.
use Rattle.std.proofs.Common.{◌≡◌, ℕ, ◌+◌, ◌<◌, List, ◌++◌, take, get_or, length, sym, ap, ◌∙◌}
use Rattle.std.proofs.lemmas.List.{flat_map_more, take_more}
use Rattle.std.specs.List.{flat_map}

pub appended : {X : Type 0} (f : X → List ℕ) (bs old next : List ℕ) (xs : List X) (i : ℕ) (d : X) → i < length xs
    → old ≡ bs ++ flat_map f (take i xs) → next ≡ old ++ f (get_or xs i d) → next ≡ bs ++ flat_map f (take (i + 1) xs)
appended f bs old next xs i d below was is =
    is ∙ ap (λ l. l ++ f (get_or xs i d)) was ∙ flat_map_more f bs (take i xs) (get_or xs i d)
    ∙ ap (λ l. bs ++ flat_map f l) (sym (take_more xs i d below))
