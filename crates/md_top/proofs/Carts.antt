-- Why a cartridge is not accepted.
use Rattle.std.proofs.Common.{◌≡◌, ◌⊎◌, inl, inr, ◌≤◌, ℕ, List, length, Option, Some}
use Rattle.std.specs.Prelude.{IsSomeAnd}
use Rattle.rom_header.specs.Cartridge.{fault_of}
use Rattle.rom_header.specs.declared.cart.CartFault.{CartFault}
use Rattle.rom_header.specs.declared.cart.CartFault.TheVariants.{Short, Long, NoMark, NoMemory}
use Rattle.md_outer.specs.Outside.{DepotState}
use Rattle.md_top.specs.Inputs.{CartCause, cart_limit, refusal_of}
use Rattle.md_top.proofs.Right.{long_is_long}

-- the file holds bytes that are within the limit and no cartridge
held : (file : Option (List ℕ)) (bytes : List ℕ) (fault : CartFault) → file ≡ Some bytes → length bytes ≤ cart_limit → fault_of bytes ≡ Some fault
    → IsSomeAnd file (λ bytes. (length bytes ≤ cart_limit) × (fault_of bytes ≡ Some fault))
held file bytes fault is within why = rw is (within, why)

pub refusal_cause : (observable : Type 0) (rom : List ℕ) (old new : DepotState) (bytes : List ℕ) (fault : CartFault)
    → (observable → old.files rom ≡ Some bytes) → length bytes ≤ cart_limit → (fault_of bytes ≡ Some fault) ⊎ (fault ≡ NoMemory)
    → CartCause observable rom old new (refusal_of fault)
refusal_cause observable rom old new bytes Short is within (inl why) = λ t. held (old.files rom) bytes Short (is t) within why
refusal_cause observable rom old new bytes Long is within (inl why) = absurd (long_is_long bytes within why)
refusal_cause observable rom old new bytes NoMark is within (inl why) = λ t. held (old.files rom) bytes NoMark (is t) within why
refusal_cause observable rom old new bytes NoMemory is within why = tt
refusal_cause observable rom old new bytes Short is within (inr same) = absurd (cc)
refusal_cause observable rom old new bytes Long is within (inr same) = absurd (cc)
refusal_cause observable rom old new bytes NoMark is within (inr same) = absurd (cc)
