use Rattle.md_top.proofs.converting.put_input_fault.Goals as goal

pub returns-in-Form : goal.returns-in-Form
returns-in-Form g c = rw c.in-Form.is c.put_number.ensures

pub returns-in-Dense : goal.returns-in-Dense
returns-in-Dense g c = rw c.in-Dense.is c.put_number-in-Dense.ensures

pub returns-in-Long : goal.returns-in-Long
returns-in-Long g c = rw c.in-Long.is c.put_number-in-Long.ensures

pub returns-in-NoMemory : goal.returns-in-NoMemory
returns-in-NoMemory g c = rw c.in-NoMemory.is c.put.ensures
