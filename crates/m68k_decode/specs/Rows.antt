-- The instructions of the MC68000.
-- M68000 Programmer's Reference Manual, section 4.
use Rattle.md_word.specs.declared.task.Task.{Task}
use Rattle.md_word.specs.declared.size.Size.{Size}

-- an instruction, without its operands
pub data Row : Type 0 where
  Immediate : Task → Row
  CompareImmediate : Row
  ImmediateToCcr : Task → Row
  ImmediateToSr : Task → Row
  BitByRegister : Task → Row
  BitByNumber : Task → Row
  MovepToRegister : Row
  MovepToMemory : Row
  Move : Size → Row
  Movea : Size → Row
  Unary : Task → Row
  MoveFromSr : Row
  MoveToCcr : Row
  MoveToSr : Row
  Nbcd : Row
  Swap : Row
  Ext : Row
  Pea : Row
  MovemToMemory : Row
  MovemToRegisters : Row
  Tst : Row
  Tas : Row
  Illegal : Row
  Trap : Row
  Link : Row
  Unlk : Row
  MoveToUsp : Row
  MoveFromUsp : Row
  Reset : Row
  Nop : Row
  Stop : Row
  Rte : Row
  Rts : Row
  Trapv : Row
  Rtr : Row
  Jsr : Row
  Jmp : Row
  Lea : Row
  Chk : Row
  Quick : Task → Row
  Scc : Row
  Dbcc : Row
  Bra : Row
  Bsr : Row
  Bcc : Row
  Moveq : Row
  Divu : Row
  Divs : Row
  Decimal : Task → Row
  Extended : Task → Row
  ToRegister : Task → Row
  ToMemory : Task → Row
  ToAddress : Task → Row
  Cmp : Row
  Cmpa : Row
  Eor : Row
  Cmpm : Row
  Mulu : Row
  Muls : Row
  ExgData : Row
  ExgAddress : Row
  ExgMixed : Row
  ShiftByNumber : Row
  ShiftByRegister : Row
  ShiftMemory : Row
