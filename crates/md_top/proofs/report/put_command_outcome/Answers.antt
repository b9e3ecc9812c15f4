use Rattle.std.proofs.Common.{inl, inr, refl}
use Rattle.md_top.proofs.report.put_command_outcome.Goals as goal

pub returns-in-Shown : goal.returns-in-Shown
returns-in-Shown g c = rw c.in-Shown.is (rw c.bytes.ensures at c.put.ensures)

pub returns-in-Played : goal.returns-in-Played
returns-in-Played g c = elim c.in-Played.is [
  | inl is ↦ rw is (refl, refl)
  | inr is ↦ rw is (refl, refl)
]

pub returns-in-Behind : goal.returns-in-Behind
returns-in-Behind g c = rw c.in-Behind.is (rw c.end-in-Behind.ensures at c.put_numbers.ensures)

pub returns-in-Usage : goal.returns-in-Usage
returns-in-Usage g c = rw c.in-Usage.is c.put-in-Usage.ensures

pub returns-in-ReadFault : goal.returns-in-ReadFault
returns-in-ReadFault g c = rw c.in-ReadFault.is (rw c.input.ensures at c.put_file.ensures)

pub returns-in-WriteFault : goal.returns-in-WriteFault
returns-in-WriteFault g c = rw c.in-WriteFault.is (rw c.output.ensures at c.put_file-in-WriteFault.ensures)

pub returns-in-Short : goal.returns-in-Short
returns-in-Short g c = rw c.in-Short.is c.put-in-Short.ensures

pub returns-in-NoMark : goal.returns-in-NoMark
returns-in-NoMark g c = rw c.in-NoMark.is c.put-in-NoMark.ensures

pub returns-in-RecordingInvalid : goal.returns-in-RecordingInvalid
returns-in-RecordingInvalid g c = rw c.in-RecordingInvalid.is c.put_number-in-RecordingInvalid.ensures

pub returns-in-StateInvalid : goal.returns-in-StateInvalid
returns-in-StateInvalid g c = rw c.in-StateInvalid.is c.put_number-in-StateInvalid.ensures

pub returns-in-TooLong : goal.returns-in-TooLong
returns-in-TooLong g c = rw c.in-TooLong.is (rw c.input-in-TooLong.ensures at c.put_file-in-TooLong.ensures)

pub returns-in-ScriptRefused : goal.returns-in-ScriptRefused
returns-in-ScriptRefused g c = rw c.in-ScriptRefused.is c.put_script_line.ensures

pub returns-in-SourceRefused : goal.returns-in-SourceRefused
returns-in-SourceRefused g c = rw c.in-SourceRefused.is c.put_source_line.ensures

pub returns-in-InputRefused : goal.returns-in-InputRefused
returns-in-InputRefused g c = rw c.in-InputRefused.is c.put_input_fault.ensures

pub returns-in-LineRefused : goal.returns-in-LineRefused
returns-in-LineRefused g c = rw c.in-LineRefused.is c.put_inputs_line.ensures
