use Rattle.md_top.proofs.assembling.put_source_line.Goals as goal

pub returns : goal.returns
returns g c = rw (c.format.ensures.text, c.kind_text.ensures) at (rw c.as_bytes.ensures.value at c.put_three.ensures)
