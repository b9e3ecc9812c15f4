-- What holds of each state of the 68000, and which answers fit.
use Rattle.std.specs.Prelude.{◌≡◌, ◌⊎◌, ℕ, ◌+◌, ◌*◌, ◌%◌, ◌^◌, ◌<◌, ◌≤◌, List, [], length, take, slice_index, None, IfSome, Err}
use Rattle.md_word.specs.declared.main_bus.Answer68.{Answer68}
use Rattle.md_word.specs.declared.main_bus.Request68.{Request68}
use Rattle.md_word.specs.declared.main_bus.Request68.TheVariants.{Read8, Read16, Write8, Write16, Ack, Word as TransferWord}
use Rattle.md_word.specs.declared.main_bus.Transfer.{Transfer}
use Rattle.rom_header.specs.Cartridge.{IsImage}
use Rattle.m68k_exec.specs.Sample.Bounds.{IsStatus}
use Rattle.m68k_access.specs.Memory.{ram_size}
use Rattle.m68k_access.specs.declared.stop.Stop.TheVariants.{Ask}
use Rattle.m68k_chip.specs.Events.{carried_out, step}
use Rattle.m68k_chip.specs.States.{State68, none_left}
use Rattle.m68k_chip.specs.declared.stage.Stage.{Stage}
use Rattle.m68k_chip.specs.declared.stage.Stage.TheVariants.{Sample, Access, Word}

-- a 68000 with the cartridge that it runs
pub record Chip68Value : Type 0 where
  -- the cartridge's image
  pub cart : List ℕ
  pub state : State68

-- the value that an access can answer: a byte, a word, and nothing to a write or an acknowledge
abbrev pub FitsValue : Request68 → ℕ → Type 0
FitsValue (Read8 at) value = value < 0x100
FitsValue (Read16 at) value = value < 0x1_0000
FitsValue (Write8 at written) value = value ≡ 0
FitsValue (Write16 at written) value = value ≡ 0
FitsValue (Ack level) value = value ≡ 0
FitsValue (TransferWord word) value = value ≡ 0

-- the cycles that a word of a transfer costs: 380 while the display is drawn, else 34
abbrev pub IsWordCost : ℕ → Type 0
IsWordCost cost = (cost ≡ 34) ⊎ (cost ≡ 380)

-- a transfer of which words are left
pub record IsStarted (transfer : Transfer) : Type 0 where
  pub some : 1 ≤ transfer.words
  pub most : transfer.words ≤ 65536
  pub even : transfer.source % 2 ≡ 0
  pub on_bus : transfer.source < 2 ^ 24
  pub cost : IsWordCost transfer.cost

-- no transfer, or one of which words are left
abbrev pub IsTransfer : Transfer → Type 0
IsTransfer transfer = (transfer ≡ none_left) ⊎ IsStarted transfer

-- a transferred word is answered with the cost of the next; other accesses may start a transfer
abbrev pub FitsCost : Request68 → ℕ → Type 0
FitsCost (TransferWord word) cost = IsWordCost cost
FitsCost request cost = Unit {0}

-- an answer that the board can give to a request
pub record Fits (request : Request68) (answer : Answer68) : Type 0 where
  pub value : FitsValue request answer.value
  pub transfer : IfSome answer.transfer IsStarted
  pub cost : FitsCost request answer.cost

-- what is carried out waits with these answers for this request
abbrev pub Asks : List ℕ → State68 → ℕ → List ℕ → Request68 → Type 0
Asks cart state cause answers request = carried_out cart state cause answers ≡ Err (Ask request)

-- an instruction, an interrupt of level 4 or 6, or a trace
abbrev pub IsKnownCause : ℕ → Type 0
IsKnownCause cause = (cause ≡ 0) ⊎ (cause ≡ 4) ⊎ (cause ≡ 6) ⊎ (cause ≡ 8)

-- each answer so far fits the request that it answered
abbrev pub AreFit : List ℕ → State68 → ℕ → List ℕ → Type 0
AreFit cart state cause answers =
    (k : ℕ) → k < length answers → (request : Request68) × Asks cart state cause (take k answers) request × FitsValue request (slice_index answers k)

-- at an access: its place, and that it is the one which is asked for
pub record IsAsking (cart : List ℕ) (state : State68) : Type 0 where
  pub place : state.next ≡ state.start + step * (length state.answers + 1)
  pub cause : IsKnownCause state.cause
  pub running : state.halted ≡ None
  pub request : Request68
  pub asked : Asks cart state state.cause state.answers request
  pub fit : AreFit cart state state.cause state.answers

-- outside of instructions nothing is carried out
pub record IsBetween (state : State68) : Type 0 where
  pub start : state.start ≡ state.next
  pub cause : state.cause ≡ 0
  pub answers : state.answers ≡ []

-- what holds at each stage: no words of a transfer are left at a sample, some at a word of it
abbrev pub IsAt : Stage → List ℕ → State68 → Type 0
IsAt Sample cart state = IsBetween state × (state.transfer ≡ none_left)
IsAt Access cart state = IsAsking cart state
IsAt Word cart state = IsBetween state × (1 ≤ state.transfer.words)

-- what holds of each chip
pub record IsChip68 (value : Chip68Value) : Type 0 where
  pub image : IsImage value.cart
  pub ram : length value.state.ram ≡ ram_size
  pub status : IsStatus value.state.regs.sr
  pub transfer : IsTransfer value.state.transfer
  pub halted : IfSome value.state.halted (λ since. since < value.state.next)
  pub stands : IsAt value.state.stage value.cart value.state
