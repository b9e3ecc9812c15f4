use Rattle.md_top.proofs.debugging.put_fault.Goals as goal

pub returns-in-UnknownWord : goal.returns-in-UnknownWord
returns-in-UnknownWord g c = rw c.in-UnknownWord.is c.put.ensures

pub returns-in-BadNumber : goal.returns-in-BadNumber
returns-in-BadNumber g c = rw c.in-BadNumber.is c.put-in-BadNumber.ensures

pub returns-in-NotKept : goal.returns-in-NotKept
returns-in-NotKept g c = rw c.in-NotKept.is c.put_number.ensures

pub returns-in-NoMemory : goal.returns-in-NoMemory
returns-in-NoMemory g c = rw c.in-NoMemory.is c.put-in-NoMemory.ensures
