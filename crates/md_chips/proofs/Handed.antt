-- What was handed over is there.
use Rattle.std.proofs.Common.{◌≡◌, Option, Some, None, IsSome, refl}
use Rattle.std.specs.Prelude.{option_map}

pub some_by : {A B : Type 0} (f : A → B) (o : Option A) (b : B) → option_map f o ≡ Some b → IsSome o
some_by f None b e = cc
some_by f (Some a) b e = refl
