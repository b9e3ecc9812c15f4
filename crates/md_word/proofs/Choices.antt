-- What follows of either side of a choice.
use Rattle.std.proofs.Common.{◌≡◌, Bool, true, false, refl}
use Rattle.std.specs.Prelude.{if◌then◌else◌}

pub split : {A : Type 0} (P : Type 0) (test : Bool) (x y z : A) → (if test then x else y) ≡ z → (test ≡ true → x ≡ z → P) → (test ≡ false → y ≡ z → P) → P
split P true x y z e h k = h refl e
split P false x y z e h k = k refl e
