use Rattle.m68k_access.specs.Outcomes.{outcome_of}
use Rattle.m68k_exec.proofs.Private.{number-ends, register-ends}
use Rattle.m68k_exec.proofs.sample.private.groups.shift.Goals as goal

pub returns-in-ShiftByNumber : goal.returns-in-ShiftByNumber
returns-in-ShiftByNumber c =
    rw c.in-ShiftByNumber.is (number-ends c.in-ShiftByNumber.task c.in-ShiftByNumber.size c.in-ShiftByNumber.count c.in-ShiftByNumber.number c.args.start c.args.clocks c.from.result c.args.regs.now
    (outcome_of c.shift_by_number-outcome.result c.shift_by_number-outcome.new.regs) c.shift_by_number-outcome.ensures c.from.ensures (rw c.in-ShiftByNumber.is at c.requires.clocks))

pub returns-in-ShiftByRegister : goal.returns-in-ShiftByRegister
returns-in-ShiftByRegister c =
    rw c.in-ShiftByRegister.is (register-ends c.in-ShiftByRegister.task c.in-ShiftByRegister.size c.in-ShiftByRegister.first c.in-ShiftByRegister.second c.args.start c.args.clocks c.from-in-ShiftByRegister.result c.args.regs.now
    (outcome_of c.shift_by_register-outcome.result c.shift_by_register-outcome.new.regs) c.shift_by_register-outcome.ensures c.from-in-ShiftByRegister.ensures (rw c.in-ShiftByRegister.is at c.requires.clocks))
