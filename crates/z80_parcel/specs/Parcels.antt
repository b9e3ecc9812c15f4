-- The Z80's RAM and its bank register.
-- Genesis Technical Overview, the memory map of the Z80; the repeats of RAM are this project's
-- profile.
use Rattle.std.specs.Prelude.{ℕ, ◌≡◌, ◌+◌, ◌*◌, ◌/◌, ◌%◌, ◌<◌, Bool, ◌&&◌, nat_lt, nat_le, if◌then◌else◌, List, length, replicate, slice_set, fold}
use Rattle.md_word.specs.declared.sub_bus.Parcel.{Parcel}

-- RAM, and the bank register: bits 23 to 15 of the 68000's address that the window shows
pub record Store : Type 0 where
  pub ram : List ℕ
  pub bank : ℕ

-- a parcel, without where its RAM lies in memory
abbrev pub store_of : Parcel → Store
store_of parcel = record { ram = parcel.ram.value; bank = parcel.bank }

-- how many bytes RAM has
abbrev pub ram_size : ℕ
ram_size = 0x2000

-- how many values the bank register has, of nine bits
abbrev pub banks : ℕ
banks = 512

-- 8 KiB of RAM, and a bank register of nine bits
pub record IsStore (store : Store) : Type 0 where
  pub ram : length store.ram ≡ ram_size
  pub bank : store.bank < banks

-- at power-on
abbrev pub first : Store
first = record { ram = replicate ram_size 0; bank = 0 }

-- RAM, of 8 KiB, is repeated below 4000h
abbrev pub is_ram : ℕ → Bool
is_ram at = nat_lt at 0x4000

-- the bank register
abbrev pub is_bank : ℕ → Bool
is_bank at = nat_le 0x6000 at && nat_le at 0x60ff

-- the byte of RAM that an address names
abbrev pub ram_place : ℕ → ℕ
ram_place at = at % ram_size

-- RAM after one write, which is lost outside RAM
abbrev pub stored : List ℕ → ℕ × ℕ → List ℕ
stored ram written = if is_ram written.0 then slice_set ram (ram_place written.0) written.1 else ram

-- RAM after a list of writes, the oldest first
abbrev pub ram_after : List ℕ → List (ℕ × ℕ) → List ℕ
ram_after ram writes = fold stored ram writes

-- the bank register has nine bits, of which bit 0 is A15: a write shifts its bit 0 in as A23, and
-- moves the others down
abbrev pub shifted : ℕ → ℕ → ℕ
shifted bank value = bank / 2 + value % 2 * 0x100

-- the bank register after one write, which counts at 6000h to 60FFh
abbrev pub banked : ℕ → ℕ × ℕ → ℕ
banked bank written = if is_bank written.0 then shifted bank written.1 else bank

-- the bank register after a list of writes, the oldest first
abbrev pub bank_after : ℕ → List (ℕ × ℕ) → ℕ
bank_after bank writes = fold banked bank writes

-- both after a list of writes
abbrev pub written : List (ℕ × ℕ) → Store → Store
written writes store = record { ram = ram_after store.ram writes; bank = bank_after store.bank writes }
