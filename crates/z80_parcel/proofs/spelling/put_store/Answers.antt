use Rattle.std.proofs.Common.{◌≡◌, ◌++◌, true, List, [], ℕ, length, Option, None, append-nil, sym, ap, ◌∙◌, arith}
use Rattle.std.specs.Prelude.{option_map}
use Rattle.md_fields.specs.Fields.{spelling}
use Rattle.md_word.specs.declared.sub_bus.Parcel.{Parcel}
use Rattle.z80_parcel.specs.Parcels.{store_of}
use Rattle.z80_parcel.specs.Spelling.{store_fields}
use Rattle.z80_parcel.proofs.spelling.put_store.Goals as goal

nothing : (parcel : Option Parcel) → parcel ≡ None → spelling (store_fields true (option_map store_of parcel)) ≡ []
unfolding spelling
nothing parcel e = ap (λ (p : Option Parcel). spelling (store_fields true (option_map store_of p))) e

pub returns-in_default-clause-bytes : goal.returns-in_default-clause-bytes
returns-in_default-clause-bytes c = sym (ap (λ (l : List ℕ). c.args.into.now.items ++ l) (nothing c.args.parcel.now c.in_default.is) ∙ append-nil c.args.into.now.items)

pub returns-in_default-clause-length : goal.returns-in_default-clause-length
returns-in_default-clause-length c = omega (arith, ap length (nothing c.args.parcel.now c.in_default.is))
