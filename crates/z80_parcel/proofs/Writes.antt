-- What writes leave.
use Rattle.std.proofs.Common.{◌≡◌, ℕ, ◌+◌, ◌*◌, ◌/◌, ◌%◌, ◌<◌, ◌∙◌, Bool, true, false, List, [], ◌∷◌, length, refl, arith}
use Rattle.std.specs.Prelude.{if◌then◌else◌, slice_set}
use Rattle.std.proofs.Math.ListN.{length-set}
use Rattle.z80_parcel.specs.Laws.{NineWritesSetTheBank, WritesFit}
use Rattle.z80_parcel.specs.Parcels.{bank_after, banked, banks, is_bank, is_ram, ram_after, shifted, stored}

shifted_fits : (bank value : ℕ) → bank < banks → shifted bank value < banks
shifted_fits bank value h = omega arith

banked_by : (test : Bool) (bank value : ℕ) → bank < banks → (if test then shifted bank value else bank) < banks
banked_by true bank value h = shifted_fits bank value h
banked_by false bank value h = h

-- one write
pub banked_fits : (bank : ℕ) (write : ℕ × ℕ) → bank < banks → banked bank write < banks
banked_fits bank write h = banked_by (is_bank write.0) bank write.1 h

stored_by : (test : Bool) (ram : List ℕ) (place value : ℕ) → length (if test then slice_set ram place value else ram) ≡ length ram
stored_by true ram place value = length-set {A = ℕ} ram place value
stored_by false ram place value = refl

pub stored_fits : (ram : List ℕ) (write : ℕ × ℕ) → length (stored ram write) ≡ length ram
stored_fits ram write = stored_by (is_ram write.0) ram _ write.1

-- a list of writes
pub bank_fits : (bank : ℕ) (writes : List (ℕ × ℕ)) → bank < banks → bank_after bank writes < banks
bank_fits bank [] h = h
bank_fits bank (w ∷ ws) h = bank_fits (banked bank w) ws (banked_fits bank w h)

pub ram_fits : (ram : List ℕ) (writes : List (ℕ × ℕ)) → length (ram_after ram writes) ≡ length ram
ram_fits ram [] = refl
ram_fits ram (w ∷ ws) = ram_fits (stored ram w) ws ∙ stored_fits ram w

pub fit : WritesFit
fit = record { bank = bank_fits; ram = ram_fits }

-- three writes at a time
three : (bank a b c : ℕ) → shifted (shifted (shifted bank a) b) c ≡ bank / 8 + 64 * (a % 2) + 128 * (b % 2) + 256 * (c % 2)
three bank a b c = omega arith

pub nine : NineWritesSetTheBank
nine bank a b c d e f g h i less =
    let one = three bank a b c in
    let two = three (shifted (shifted (shifted bank a) b) c) d e f in
    let last = three (shifted (shifted (shifted (shifted (shifted (shifted bank a) b) c) d) e) f) g h i in
    omega (arith, one, two, last)
