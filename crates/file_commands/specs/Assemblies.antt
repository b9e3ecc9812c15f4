-- What the assembling of a file results in, and what the files hold then.
use Rattle.std.specs.Prelude.{◌≡◌, ◌⊎◌, ℕ, ◌<◌, ◌≤◌, nat_lt, if◌then◌else◌, List, [], length, Option, None, Some, IsSomeAnd}
use Rattle.md_outer.specs.Outside.{DepotState, Files, IsPrefix, Rose, with_file}
use Rattle.md_asm.specs.Assembly as assembly
use Rattle.md_asm.specs.Assembly.{AssemblyOutcome}
use Rattle.md_asm.specs.declared.placed.Placed.{Placed}
use Rattle.asm_laws.specs.Lines.{SaysLines}
use Rattle.asm_laws.specs.Faults.{IsFaulty}
use Rattle.asm_laws.specs.Fitting.{FitsLines}
use Rattle.asm_laws.specs.Sources.{KeepsInstruction}
use Rattle.md_args.specs.Words.{Assembling}
use Rattle.file_commands.specs.Lists.{list_of}
use Rattle.file_commands.specs.declared.completion.Completion.{Completion}
use Rattle.file_commands.specs.declared.completion.Completion.TheVariants.{Made, Unread, TooLong, Refused, Unwritten, Unlisted, NoMemory}

-- the greatest length of a source
abbrev pub limit : ℕ
limit = assembly.source_limit

-- a source that is held, within its limit, is assembled to this
abbrev pub IsFound : Option (List ℕ) → AssemblyOutcome → Type 0
IsFound source outcome = IsSomeAnd source (λ bytes. (length bytes ≤ limit) × (assembly.assembly bytes ≡ outcome))

-- a source that is held is assembled to this, and if it is one instruction's, that is there
abbrev pub KeepsSource : Option (List ℕ) → AssemblyOutcome → Type 0
KeepsSource source outcome = IsSomeAnd source (λ bytes. KeepsInstruction bytes outcome)

-- a source that is held, within its limit, is refused: it is no instruction's, and its line is at fault
abbrev pub IsAtFault : Option (List ℕ) → ℕ → ℕ → Type 0
IsAtFault source line kind =
    IsFound source (assembly.Failed line kind) × KeepsSource source (assembly.Failed line kind) × IsSomeAnd source (λ bytes. IsFaulty bytes line kind)

-- The cause of each outcome. What a file holds is spoken of where the depot's files are observable.
abbrev pub HasCause : Type 0 → Assembling → DepotState → DepotState → Completion → Type 0
HasCause observable words old new (Made size) =
    observable → (image : List ℕ) × (lines : List Placed) × IsFound (old.files words.source) (assembly.Done image lines) × (size ≡ length image)
HasCause observable words old new Unread = Rose old.read_faults new.read_faults ⊎ (observable × (old.files words.source ≡ None))
HasCause observable words old new TooLong = observable → IsSomeAnd (old.files words.source) (λ bytes. limit < length bytes)
HasCause observable words old new (Refused line kind) = observable → IsAtFault (old.files words.source) line kind
HasCause observable words old new Unwritten =
    Rose old.write_faults new.write_faults
    × (observable → (image : List ℕ) × (lines : List Placed) × IsFound (old.files words.source) (assembly.Done image lines))
HasCause observable words old new Unlisted =
    Rose old.write_faults new.write_faults
    × (observable → (image : List ℕ) × (lines : List Placed) × IsFound (old.files words.source) (assembly.Done image lines))
HasCause observable words old new NoMemory = Unit {0}

-- the files with this list, if one is asked for
abbrev pub with_list : Option (List ℕ) → Files → List ℕ → Files
with_list None files list = files
with_list (Some name) files list = with_file files name list

-- the files with an image and a list in those that are named
abbrev pub with_both : Assembling → Files → List ℕ → List ℕ → Files
with_both words files image list = with_list words.list (with_file files words.output image) list

-- a part of the image was written, and of the list, which may not have been begun
abbrev pub HoldsParts : Assembling → Files → Files → List ℕ → List ℕ → Type 0
HoldsParts words old new image list =
    ((part : List ℕ) × IsPrefix part image × (new ≡ with_file old words.output part))
    ⊎ ((part : List ℕ) × (listed : List ℕ) × IsPrefix part image × IsPrefix listed list × (new ≡ with_both words old part listed))

-- the source is assembled, and so much of it was written, or nothing was
abbrev pub LeavesParts : Assembling → Files → Files → Type 0
LeavesParts words old new =
    (new ≡ old)
    ⊎ ((image : List ℕ) × (lines : List Placed) × IsFound (old words.source) (assembly.Done image lines) × HoldsParts words old new image (list_of image lines))

-- out of memory: no file changed, or the source is assembled, and the output is empty, with the list's file as it was
abbrev pub LeavesEmpty : Assembling → Files → Files → Type 0
LeavesEmpty words old new =
    (new ≡ old)
    ⊎ ((image : List ℕ) × (lines : List Placed) × IsFound (old words.source) (assembly.Done image lines) × (new ≡ with_file old words.output []))

-- an image says the lines of a source that is held, whose numbers are in their ranges, and if it is one instruction's, that
-- is in it
abbrev pub SaysSource : Option (List ℕ) → List ℕ → List Placed → Type 0
SaysSource source image lines = IsSomeAnd source (λ bytes. SaysLines bytes image lines) × IsSomeAnd source FitsLines × KeepsSource source (assembly.Done image lines)

-- What the files hold then. Where they were written, the outputs hold the image, which says the lines of its source, and
-- its list. Where a write failed, they hold parts of them, or what they held; where memory ran out, what they held, or
-- nothing. All others hold what they held.
abbrev pub LeavesFiles : Assembling → Files → Files → Completion → Type 0
LeavesFiles words old new (Made size) =
    (image : List ℕ) × (lines : List Placed) × IsFound (old words.source) (assembly.Done image lines) × (size ≡ length image)
    × (new ≡ with_both words old image (list_of image lines)) × SaysSource (old words.source) image lines
LeavesFiles words old new Unwritten = LeavesParts words old new
LeavesFiles words old new Unlisted = LeavesParts words old new
LeavesFiles words old new NoMemory = LeavesEmpty words old new
LeavesFiles words old new Unread = new ≡ old
LeavesFiles words old new TooLong = new ≡ old
LeavesFiles words old new (Refused line kind) = new ≡ old

-- The outcome without a fault and with enough memory, by what the source is assembled to.
abbrev pub made_completion : AssemblyOutcome → Completion
made_completion (assembly.Done image lines) = Made (length image)
made_completion (assembly.Failed line kind) = Refused line kind

abbrev pub right_completion : Option (List ℕ) → Completion
right_completion None = Unread
right_completion (Some bytes) = if nat_lt limit (length bytes) then TooLong else made_completion (assembly.assembly bytes)

-- why writing an image of this length and its list results in this
abbrev pub WriteCause : ℕ → DepotState → DepotState → Completion → Type 0
WriteCause size old new (Made written) = written ≡ size
WriteCause size old new Unwritten = Rose old.write_faults new.write_faults
WriteCause size old new Unlisted = Rose old.write_faults new.write_faults
WriteCause size old new NoMemory = Unit {0}
WriteCause size old new Unread = ⊥
WriteCause size old new TooLong = ⊥
WriteCause size old new (Refused line kind) = ⊥

-- what the files hold then
abbrev pub WritesFiles : Assembling → Files → Files → List ℕ → List ℕ → Completion → Type 0
WritesFiles words old new image list (Made written) = new ≡ with_both words old image list
WritesFiles words old new image list NoMemory = (new ≡ old) ⊎ (new ≡ with_file old words.output [])
WritesFiles words old new image list completion = (new ≡ old) ⊎ HoldsParts words old new image list
