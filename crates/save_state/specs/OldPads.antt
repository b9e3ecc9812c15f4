-- What older versions of a saved state ask of the words of the pads, where the newest allows more: their
-- pads had eight buttons. This project's profile.
use Rattle.std.specs.Prelude.{◌≡◌, ℕ, ◌+◌, ◌^◌, nat_lt, Bool, true, false, List}
use Rattle.std.specs.Int.{w16}
use Rattle.md_fields.specs.Places.{number_at}
use Rattle.md_pads.specs.Recording.{Recorded}
use Rattle.md_chips.specs.Machines.{MachineValue}
use Rattle.save_state.specs.Faults.{FailsAt, IsMachineOf}
use Rattle.save_state.specs.Joining.{Either, IsLeast}
use Rattle.save_state.specs.Layout.{board_part}
use Rattle.save_state.specs.declared.version.Version.{Version}
use Rattle.save_state.specs.declared.version.Version.TheVariants.{First, Second, Third}

-- where the words of pad 1 and of pad 2 are in the form that is written
abbrev pub pads1_place : ℕ
pads1_place = board_part.place + 14

abbrev pub pads2_place : ℕ
pads2_place = board_part.place + 16

-- whether a word has buttons of a version's pad alone; what the newest asks is a rule of the board
abbrev pub has_buttons : Version → ℕ → Bool
has_buttons First word = nat_lt word (2 ^ 8)
has_buttons Second word = nat_lt word (2 ^ 8)
has_buttons Third word = true

-- the word at an offset has others
abbrev pub HasOthers : Version → ℕ → List ℕ → Type 0
HasOthers version place bytes = has_buttons version (number_at w16 place bytes) ≡ false

-- neither word has others
abbrev pub HasPads : Version → List ℕ → Type 0
HasPads version bytes = ¬ HasOthers version pads1_place bytes × ¬ HasOthers version pads2_place bytes

-- a field at this offset breaks its rule, or that of the version
abbrev pub FailsUnder : Version → List ℕ → List ℕ → ℕ → Type 0
FailsUnder version cart bytes =
    Either (Either (FailsAt cart bytes) (λ p. (p ≡ pads1_place) × HasOthers version pads1_place bytes))
    (λ p. (p ≡ pads2_place) × HasOthers version pads2_place bytes)

-- the first offset at which one does
abbrev pub IsFirstFault : Version → List ℕ → List ℕ → ℕ → Type 0
IsFirstFault version cart bytes place = IsLeast (FailsUnder version cart bytes) place

-- the parts after the digest keep this machine by the version's rules
abbrev pub IsMachineUnder : Version → List ℕ → Recorded → List ℕ → MachineValue → Type 0
IsMachineUnder version cart recording bytes m =
    (IsMachineOf cart recording bytes m × ¬ HasOthers version pads1_place bytes) × ¬ HasOthers version pads2_place bytes
