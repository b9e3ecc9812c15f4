-- What a conversion of a file results in, and what the files hold then.
use Rattle.std.specs.Prelude.{◌≡◌, ◌⊎◌, ℕ, ◌<◌, ◌≤◌, nat_lt, if◌then◌else◌, Bool, List, length, Option, None, Some, IsSomeAnd}
use Rattle.md_outer.specs.Outside.{DepotState, Files, IsPrefix, Rose, with_file}
use Rattle.md_vgm.specs.Outcomes as outcomes
use Rattle.md_vgm.specs.Outcomes.{IsMade, IsPlayed, Outcome}
use Rattle.md_vgm.specs.Playable.{IsPlayable}
use Rattle.md_args.specs.Words.{Conversion}
use Rattle.md_args.specs.declared.convert_words.Product.{Product}
use Rattle.md_args.specs.declared.convert_words.Product.TheVariants.{Vgm, Sound}
use Rattle.file_commands.specs.declared.converted.Converted.{Converted}
use Rattle.file_commands.specs.declared.converted.Converted.TheVariants.{Made, Unread, TooLong, Refused, Unwritten, NoMemory}

-- the greatest length of an input
abbrev pub limit : ℕ
limit = 67108864

-- what bytes result in: a journal by the file of its sound writes, a VGM file by its sound
abbrev pub completes_with : Product → Bool → List ℕ → Outcome → Type 0
completes_with Vgm pal bytes outcome = IsMade pal bytes outcome
completes_with Sound pal bytes outcome = IsPlayed pal bytes outcome

abbrev pub IsOutcome : Conversion → List ℕ → Outcome → Type 0
IsOutcome conversion bytes outcome = completes_with conversion.product conversion.pal bytes outcome

-- what is made of a journal is not refused for its form, nor since its writes are too dense
abbrev pub plays : Product → Bool → List ℕ → Type 0
plays Vgm pal made = IsPlayable pal made
plays Sound pal made = Unit {0}

abbrev pub IsPlayableIn : Conversion → List ℕ → Type 0
IsPlayableIn conversion made = plays conversion.product conversion.pal made

-- an input that is held, within its limit, results in this
abbrev pub IsFound : Conversion → Option (List ℕ) → Outcome → Type 0
IsFound conversion input outcome = IsSomeAnd input (λ bytes. (length bytes ≤ limit) × IsOutcome conversion bytes outcome)

-- the bytes that are made of an input
abbrev pub IsMadeOf : Conversion → Option (List ℕ) → List ℕ → Type 0
IsMadeOf conversion input made = IsFound conversion input (outcomes.Made made) × IsPlayableIn conversion made

-- The cause of each outcome. What a file holds is spoken of where the depot's files are observable.
abbrev pub HasCause : Type 0 → Conversion → DepotState → DepotState → Converted → Type 0
HasCause observable conversion old new (Made size) =
    observable → (made : List ℕ) × IsMadeOf conversion (old.files conversion.input) made × (size ≡ length made)
HasCause observable conversion old new Unread = Rose old.read_faults new.read_faults ⊎ (observable × (old.files conversion.input ≡ None))
HasCause observable conversion old new TooLong = observable → IsSomeAnd (old.files conversion.input) (λ bytes. limit < length bytes)
HasCause observable conversion old new (Refused fault) = observable → IsFound conversion (old.files conversion.input) (outcomes.Failed fault)
HasCause observable conversion old new Unwritten =
    Rose old.write_faults new.write_faults × (observable → (made : List ℕ) × IsMadeOf conversion (old.files conversion.input) made)
HasCause observable conversion old new NoMemory = Unit {0}

-- What the files hold then. The output holds what was made, where it was written; a part of it, or what it held, where a
-- write failed. All others hold what they held.
abbrev pub LeavesFiles : Conversion → Files → Files → Converted → Type 0
LeavesFiles conversion old new (Made size) =
    (made : List ℕ) × IsMadeOf conversion (old conversion.input) made × (size ≡ length made) × (new ≡ with_file old conversion.output made)
LeavesFiles conversion old new Unwritten =
    (new ≡ old)
    ⊎ ((made : List ℕ) × (part : List ℕ) × IsMadeOf conversion (old conversion.input) made × IsPrefix part made
    × (new ≡ with_file old conversion.output part))
LeavesFiles conversion old new Unread = new ≡ old
LeavesFiles conversion old new TooLong = new ≡ old
LeavesFiles conversion old new (Refused fault) = new ≡ old
LeavesFiles conversion old new NoMemory = new ≡ old

-- The outcome without a fault and with enough memory, by the outcome of the input.
abbrev pub made_completion : Outcome → Converted
made_completion (outcomes.Made made) = Made (length made)
made_completion (outcomes.Failed fault) = Refused fault

abbrev pub right_completion : Option (List ℕ) → Outcome → Converted
right_completion None outcome = Unread
right_completion (Some bytes) outcome = if nat_lt limit (length bytes) then TooLong else made_completion outcome
