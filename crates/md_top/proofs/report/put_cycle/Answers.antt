use Rattle.md_top.proofs.report.put_cycle.Goals as goal

pub returns : goal.returns
returns g c = rw c.format.ensures.text at (rw c.as_bytes.ensures.value at c.put_three.ensures)
