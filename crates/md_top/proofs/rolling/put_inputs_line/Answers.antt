use Rattle.md_top.proofs.rolling.put_inputs_line.Goals as goal

pub returns : goal.returns
returns g c = rw (c.format.ensures.text, c.fault_text.ensures) at (rw c.as_bytes.ensures.value at c.put_three.ensures)
