-- What is put of an outcome.
use Rattle.std.specs.Prelude.{ℕ, List, [], ◌++◌, codes, decimal, Option, Some, None, unwrap_or}
use Rattle.hex.specs.Hex.{encode_lower}
use Rattle.md_args.specs.Files.{input_of, output_of}
use Rattle.md_args.specs.Words.{Command, end_of}
use Rattle.md_top.specs.Assemblies.{source_line}
use Rattle.md_top.specs.Conversions.{fault_line}
use Rattle.run_command.specs.Counts.{pairs_between}
use Rattle.md_top.specs.Debuggings.{script_line}
use Rattle.md_top.specs.Rollings.{inputs_line, rolled_lines}
use Rattle.run_command.specs.declared.digests.Digests.{Digests}
use Rattle.md_top.specs.declared.command_outcome.CommandOutcome.{CommandOutcome}
use Rattle.md_top.specs.declared.command_outcome.CommandOutcome.TheVariants.{Behind, Converted, DemoDone, Done, InputRefused, LineRefused, Memory, NoMark, OtherCart, Played, ReadFault, RecordingInvalid, ReplyFault, RolledBack, ScriptMemory, ScriptRefused, Short, Shown, SourceRefused, StateInvalid, TooFar, TooLong, WriteFault}

-- a line of a word and a number
abbrev pub number_line : List ℕ → ℕ → List ℕ
number_line word number = word ++ decimal number ++ codes "\n"

-- a line of two words, each with a number
abbrev pub numbers_line : List ℕ → ℕ → List ℕ → ℕ → List ℕ
numbers_line word number second other = (word ++ decimal number) ++ number_line second other

-- the line of a saved state of another cartridge: the digest that it keeps, and that of the cartridge
-- that is named, in hexadecimal
abbrev pub carts_line : List ℕ → List ℕ → List ℕ
carts_line kept given =
    (codes "refused: state of another cartridge " ++ encode_lower kept ++ codes " ") ++ (encode_lower given ++ codes "\n")

-- the line of a 68000 that is halted: the start of the instruction or exception that halted it
abbrev pub halted_line : Option ℕ → List ℕ
halted_line None = []
halted_line (Some since) = number_line (codes "halted at ") since

-- how far a run went, and how much it made
abbrev pub counts_of : ℕ → ℕ → ℕ → ℕ → List ℕ
counts_of from end frames accesses =
    (numbers_line (codes "cycles ") from (codes " to ") end ++ number_line (codes "frames ") frames)
    ++ (number_line (codes "samples ") (pairs_between from end) ++ number_line (codes "accesses ") accesses)

-- what a run from a cycle to another puts that ends well
abbrev pub lines_of : ℕ → ℕ → ℕ → ℕ → Option ℕ → List ℕ
lines_of from end frames accesses halted = counts_of from end frames accesses ++ halted_line halted

-- the line of a digest, in hexadecimal
abbrev pub digest_line : List ℕ → List ℕ → List ℕ
digest_line word digest = word ++ encode_lower digest ++ codes "\n"

-- the lines of the digests of a run's outputs
abbrev pub digest_lines : Digests → List ℕ
digest_lines digests =
    (digest_line (codes "frames sha256 ") digests.frames ++ digest_line (codes "samples sha256 ") digests.samples)
    ++ digest_line (codes "journal sha256 ") digests.journal

-- the line of a file: a word, its name, and what is said of it
abbrev pub file_line : List ℕ → Option (List ℕ) → List ℕ → List ℕ
file_line word name end = word ++ unwrap_or name [] ++ end

-- what is put: the output, or the one line of a refusal; in a session after the replies, which were put before
abbrev pub text_of : Option Command → CommandOutcome → List ℕ
text_of (Some command) (Shown lines) = lines
text_of (Some command) (Done from frames accesses halted) = lines_of from (end_of command) frames accesses halted
text_of (Some command) (DemoDone summary) = lines_of 0 (end_of command) summary.frames summary.accesses summary.halted ++ digest_lines summary.digests
text_of (Some command) (Converted size) = number_line (codes "bytes ") size
text_of (Some command) Played = []
text_of (Some command) (RolledBack rolled) = rolled_lines rolled
text_of (Some command) (ReadFault which) = file_line (codes "fault: reading ") (input_of command which) (codes "\n")
text_of (Some command) (WriteFault which) = file_line (codes "fault: writing ") (output_of command which) (codes "\n")
text_of (Some command) Short = codes "refused: cartridge: short\n"
text_of (Some command) NoMark = codes "refused: cartridge: no mark\n"
text_of (Some command) (RecordingInvalid place) = number_line (codes "refused: recording at ") place
text_of (Some command) (StateInvalid place) = number_line (codes "refused: state at ") place
text_of (Some command) (OtherCart kept given) = carts_line kept given
text_of (Some command) (Behind from) = numbers_line (codes "refused: cycle ") (end_of command) (codes " is not above ") from
text_of (Some command) ScriptMemory = codes "refused: memory\n"
text_of (Some command) TooFar = codes "refused: cycle " ++ decimal (end_of command) ++ codes " is too far\n"
text_of (Some command) ReplyFault = []
text_of (Some command) (TooLong which) = file_line (codes "refused: ") (input_of command which) (codes " is too long\n")
text_of (Some command) (ScriptRefused line fault) = script_line line fault
text_of (Some command) (SourceRefused line kind) = source_line line kind
text_of (Some command) (InputRefused fault) = fault_line fault
text_of (Some command) (LineRefused line fault) = inputs_line line fault
text_of command Memory = codes "refused: memory\n"
text_of command command_outcome = codes "refused: usage\n"
