-- What writes leave.
use Rattle.std.specs.Prelude.{ℕ, ◌≡◌, ◌+◌, ◌*◌, ◌%◌, ◌<◌, List, [], ◌∷◌, length, fold}
use Rattle.z80_parcel.specs.Parcels.{bank_after, banks, ram_after, shifted}

-- nine writes to the bank register set it whole, A15 first, whatever it was
abbrev pub NineWritesSetTheBank : Type 0
NineWritesSetTheBank = (bank v15 v16 v17 v18 v19 v20 v21 v22 v23 : ℕ) → bank < banks
    → fold shifted bank (v15 ∷ v16 ∷ v17 ∷ v18 ∷ v19 ∷ v20 ∷ v21 ∷ v22 ∷ v23 ∷ [])
    ≡ v15 % 2 + 2 * (v16 % 2) + 4 * (v17 % 2) + 8 * (v18 % 2) + 16 * (v19 % 2) + 32 * (v20 % 2) + 64 * (v21 % 2) + 128 * (v22 % 2) + 256 * (v23 % 2)

-- writes leave a bank register of nine bits, and as much RAM
pub record WritesFit : Type 0 where
  pub bank : (bank : ℕ) (writes : List (ℕ × ℕ)) → bank < banks → bank_after bank writes < banks
  pub ram : (ram : List ℕ) (writes : List (ℕ × ℕ)) → length (ram_after ram writes) ≡ length ram
