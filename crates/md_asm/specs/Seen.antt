-- What the code keeps, as the definitions have it.
use Rattle.std.specs.Prelude.{ℕ, ◌≡◌, false, List, map, Option, Some, None, slice_index_or}
use Rattle.md_asm.specs.SeenCodes.{names_seen}
use Rattle.md_asm.specs.Assembly.{AssemblyOutcome, Failed, number_of}
use Rattle.md_asm.specs.Places.{WrittenPlaces}
use Rattle.md_asm.specs.Rounds.{Faulty, Filled, Hit, On, Onto, Outcome, Patched, Refused, Round, Slot, Step, Stop}
use Rattle.md_asm.specs.declared.assembled.Assembled.{Assembled}
use Rattle.md_asm.specs.declared.cells.Cells.{Cells}
use Rattle.md_asm.specs.declared.entry.Entry.{Entry}
use Rattle.md_asm.specs.declared.fault.AsmFault.{AsmFault}
use Rattle.md_asm.specs.declared.fault.AsmFault.TheVariants as faults
use Rattle.md_asm.specs.declared.kind.Kind.{Kind}
use Rattle.md_asm.specs.declared.pass.Pass.{Pass}
use Rattle.md_asm.specs.declared.placed.Placed.{Placed}

abbrev pub cells_seen : Cells → WrittenPlaces
cells_seen cells place = slice_index_or cells.marks.items place false

abbrev pub slot_seen : Entry → Slot
slot_seen entry = record {
  line = entry.line;
  place = entry.place;
  address = entry.address;
  long = entry.long;
  sub = entry.z80;
  body = entry.body;
  text = entry.text.now;
}

abbrev pub round_seen : Pass → Round
round_seen pass = record {
  place = pass.place;
  processor = pass.processor;
  names = names_seen pass.names;
  written = cells_seen pass.cells;
  slots = map slot_seen pass.entries.items;
  end = pass.end;
}

-- a line was read, or why not
abbrev pub step_seen : Option Kind → Pass → Step
step_seen None pass = On (round_seen pass)
step_seen (Some kind) pass = Stop kind

-- a line's bytes were written to a memory, or why not
abbrev pub patched_seen : Option Kind → List ℕ → Patched
patched_seen None memory = Onto memory
patched_seen (Some kind) memory = Hit kind

-- the image that was made
abbrev pub image_seen : Assembled → List ℕ
image_seen assembled = assembled.image.items

-- where its instructions are
abbrev pub lines_seen : Assembled → List Placed
lines_seen assembled = assembled.lines.items

-- a fault is the definition's, or out of memory
abbrev pub IsFault : AsmFault → AssemblyOutcome → Type 0
IsFault (faults.Line line kind) outcome = outcome ≡ Failed line kind
IsFault faults.NoMemory outcome = Unit {0}

-- round one refuses a line, or it is out of memory
abbrev pub IsRefused : AsmFault → Outcome → Type 0
IsRefused (faults.Line line kind) outcome = (own : Kind) × (outcome ≡ Refused line own) × (kind ≡ number_of own)
IsRefused faults.NoMemory outcome = Unit {0}

-- round two does
abbrev pub IsFaulty : AsmFault → Filled → Type 0
IsFaulty (faults.Line line kind) outcome = (own : Kind) × (outcome ≡ Faulty line own) × (kind ≡ number_of own)
IsFaulty faults.NoMemory outcome = Unit {0}
