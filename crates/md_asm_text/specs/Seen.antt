-- A line of the code, as the definition has it.
use Rattle.std.specs.Prelude.{option_map}
use Rattle.md_asm_text.specs.Lines as lines
use Rattle.md_asm_text.specs.declared.line.Line.{Line}

abbrev pub line_seen : Line → lines.Line
line_seen line = record { label = option_map (λ name. name.now) line.label; text = line.text.now; body = line.body }
